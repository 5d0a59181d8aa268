-- What workers are asked for may go to a thread.
use denote.Exit.{yes}
use denote.Param.{param}
use denote.Param.Send.{arg_send, param_send}
use Rattle.bound_workers.proofs.Sending.{work_send}
use Rattle.run.proofs.running.go.Goals as goal

pub end_all-requires-send-J : goal.end_all-requires-send-J
end_all-requires-send-J g c κs within = param_send 0 _ (arg_send _ yes _ (work_send _ (param 0 g.row.R) (param 1 g.row.G) c.type_bounds.sync-R c.type_bounds.sync-G))
