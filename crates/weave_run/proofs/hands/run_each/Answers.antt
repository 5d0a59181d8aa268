-- A worker's share may go to a thread of its own.
use denote.Exit.{yes}
use denote.Param.{param}
use denote.Param.Send.{arg_send, param_send}
use Rattle.weave_run.proofs.Sending.{share_send}
use Rattle.weave_run.proofs.hands.run_each.Goals as goal

pub for_each_mut-requires-send-T : goal.for_each_mut-requires-send-T
for_each_mut-requires-send-T g c κs within = param_send 1 _ (arg_send _ yes _ (share_send (param 1 g.row.C) g.C.Component c.type_bounds.send-C _ (param 2 g.row.G) c.type_bounds.sync-G))
