use Rattle.std.proofs.Common.{◌≡◌, ◌++◌, List, sym, subst}
use Rattle.std.specs.Prelude.{IfOk}
use Rattle.elf_load.specs.MemoryImage.{MemoryImage}
use Rattle.replay.specs.Replay.{Replays}
use Rattle.run.specs.Simulation.{IsAtStart}
use Rattle.replay.specs.declared.replay_fail.ReplayFail.TheVariants as fail
use Rattle.replay.proofs.HandedOn.{replay_failed}
use Rattle.trace.specs.Trace.{IsTraceOf, Step}
use Rattle.trace.specs.TracedRun.{as_run}
use Rattle.trace.proofs.tracing.trace.Goals as goal

pub returns-in_err-program-clause-gives : goal.returns-in_err-program-clause-gives
returns-in_err-program-clause-gives g c =
    replay_failed c.args.machine.now c.args.image.now c.args.schedule.now.lists fail.NoMemory c.from_residual.result c.from_residual.ensures.1 tt

pub returns-in_err-traced-clause-gives : goal.returns-in_err-traced-clause-gives
returns-in_err-traced-clause-gives g c =
    replay_failed c.args.machine.now c.args.image.now c.args.schedule.now.lists fail.NoMemory c.from_residual-in_err-traced.result c.from_residual-in_err-traced.ensures.1 tt

pub trace_on-requires-clause-starts : goal.trace_on-requires-clause-starts
trace_on-requires-clause-starts g c =
    subst (λ (i : MemoryImage). IsAtStart c.args.machine.now i (as_run c.args.machine.now c.in_ok-traced.traced)) (sym c.in_ok-program.ensures) c.in_ok-traced.ensures

pub returns-clause-gives : goal.returns-clause-gives
returns-clause-gives g c =
    subst (λ (i : MemoryImage). Replays c.args.machine.now i c.args.schedule.now.lists c.trace_on.result) c.in_ok-program.ensures c.trace_on.ensures.gives

pub returns-clause-told : goal.returns-clause-told
returns-clause-told g c =
    subst
    (λ (i : MemoryImage).
    IfOk c.trace_on.result (λ _. (steps : List Step) × IsTraceOf c.args.machine.now i c.args.schedule.now.lists steps × (g.T.Tracer.steps c.trace_on.new.tracer ≡ g.T.Tracer.steps c.args.tracer.now ++ steps)))
    c.in_ok-program.ensures c.trace_on.ensures.told
