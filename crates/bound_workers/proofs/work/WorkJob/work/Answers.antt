use Rattle.std.proofs.Common.{refl, subst}
use Rattle.noc_mesh.specs.NetTiming.{net_time}
use Rattle.parts_table.specs.Access.{TableState}
use Rattle.bound_workers.specs.Team.{HasWorked}
use Rattle.bound_workers.proofs.OfOneKind.{cores_done}
use Rattle.bound_workers.proofs.work.WorkJob.work.Goals as goal

pub returns-in-Cores : goal.returns-in-Cores
returns-in-Cores g c =
    let s = c.in-Cores.share in
    cores_done s _ c.args.self c.in-Cores.is refl (subst (λ (t : TableState). HasWorked (λ e. net_time s.net.now.path e) s.program.now s.end t s.team c.work.new.team) c.deref.ensures c.work.ensures)
