-- What workers are asked for, and what may come of it.
use Rattle.std.specs.Prelude.{◌≡◌, ⊤}
use Rattle.std.specs.Arc.{arc_value}
use Rattle.component.specs.ComponentStep.{comp_step}
use Rattle.component.specs.Greatest.{comp_greatest}
use Rattle.component.specs.Serving.{comp_latency, comp_serves}
use Rattle.noc_mesh.specs.NetTiming.{net_time}
use Rattle.weave_run.specs.Shares.{CanRunShare, HasRunShare}
use Rattle.bound_workers.specs.Orderings.{HasOrdered}
use Rattle.bound_workers.specs.Team.{CanWork, HasWorked}
use Rattle.bound_workers.specs.declared.share.Share.{Share}
use Rattle.bound_workers.specs.declared.work.Work.{Work}
use Rattle.bound_workers.specs.declared.work.Work.TheVariants.{Cores, Domains, Order}

-- the worker's cores can run to the end of the interval
abbrev pub CanShare : {R G : Type 0} → Share R G → Type 0
CanShare s = CanWork (arc_value s.table) s.memory.now s.end s.team

-- and they have, at the same table
pub record HasShared {R G : Type 0} (before after : Share R G) : Type 0 where
  pub same : arc_value after.table ≡ arc_value before.table
  pub worked : HasWorked (λ e. net_time before.net.now.path e) before.program.now before.end (arc_value before.table) before.team after.team

abbrev pub CanDo : {R G : Type 0} → Work R G → Type 0
CanDo (Cores s) = CanShare s
CanDo (Order o) = ⊤
CanDo (Domains d) = CanRunShare comp_serves comp_latency comp_step comp_greatest d

abbrev pub HasDone : {R G : Type 0} → Work R G → Work R G → Type 0
HasDone (Cores s) (Cores t) = HasShared s t
HasDone (Cores s) (Order o) = ⊥
HasDone (Cores s) (Domains d) = ⊥
HasDone (Order o) (Cores s) = ⊥
HasDone (Order o) (Order p) = HasOrdered o p
HasDone (Order o) (Domains d) = ⊥
HasDone (Domains d) (Cores s) = ⊥
HasDone (Domains d) (Order o) = ⊥
HasDone (Domains d) (Domains e) = HasRunShare comp_step d e

-- it is of the one kind, or of the other
abbrev pub AreCores : {R G : Type 0} → Work R G → Type 0
AreCores (Cores s) = ⊤
AreCores (Order o) = ⊥
AreCores (Domains d) = ⊥

abbrev pub IsOrder : {R G : Type 0} → Work R G → Type 0
IsOrder (Cores s) = ⊥
IsOrder (Order o) = ⊤
IsOrder (Domains d) = ⊥
