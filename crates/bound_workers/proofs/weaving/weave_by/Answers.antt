-- What a worker is asked for carries shares.
use denote.Exit.{yes}
use denote.Param.{param}
use denote.Param.Send.{arg_send, param_send}
use Rattle.bound_workers.proofs.OfOneKind.{carries_shares}
use Rattle.bound_workers.proofs.Sending.{work_send}
use Rattle.bound_workers.proofs.weaving.weave_by.Goals as goal

pub weave_by_jobs-requires-clause-carries : goal.weave_by_jobs-requires-clause-carries
weave_by_jobs-requires-clause-carries g c κs within = carries_shares

pub weave_by_jobs-requires-send-J : goal.weave_by_jobs-requires-send-J
weave_by_jobs-requires-send-J g c κs within = param_send 2 _ (arg_send _ yes _ (work_send _ (param 0 g.row.R) (param 1 g.row.G) c.type_bounds.sync-R c.type_bounds.sync-G))
