use denote.Exit.{yes}
use denote.Param.{param}
use denote.Param.Send.{arg_send, param_send}
use Rattle.std.proofs.Common.{length, refl, arith}
use Rattle.reference.proofs.FirstIntervals.{nothing_run}
use Rattle.bound_workers.proofs.Sending.{work_send}
use Rattle.run.proofs.Hired.{enough}
use Rattle.run.proofs.running.run_by_crew.Goals as goal

pub returns-in_err-crew-clause-in_order : goal.returns-in_err-crew-clause-in_order
returns-in_err-crew-clause-in_order g c =
    nothing_run c.args.context.now.machine.now c.args.context.now.program.now c.args.schedule.now.lists c.requires.empty c.requires.starts.0 c.requires.starts.1

pub run_beside_them-requires-clause-can : goal.run_beside_them-requires-clause-can
run_beside_them-requires-clause-can g c κs within = record {
  is_machine = c.requires.machine;
  first = c.args.simulation;
  there = refl;
  starts = c.requires.starts;
  some = c.requires.workers.0;
  few = c.requires.workers.1;
  enough = enough c.args.context.now.workers c.args.context.now.machine.now.cores c.args.context.now.machine.now.domains.count c.max-most.result c.min.result (length c.in_ok-crew.crew.posts.items) c.max-most.ensures c.min.ensures
      (omega (arith, c.in_ok-crew.ensures.count, c.from-hired.ensures));
  empty = c.requires.empty;
  cores_known = c.requires.cores_known;
  recording_is = c.requires.recording;
}

pub hire-requires-send-J : goal.hire-requires-send-J
hire-requires-send-J g c κs within = param_send 0 _ (arg_send _ yes _ (work_send _ (param 0 g.row.R) (param 1 g.row.G) c.type_bounds.sync-R c.type_bounds.sync-G))
