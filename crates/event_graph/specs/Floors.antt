-- What the expansion of an access takes components to be: which serve an event, and with which floor.
use Rattle.std.specs.Prelude.{◌+◌, ℕ, Bool, true, false, ◌&&◌, nat_lt, nat_le, if◌then◌else◌, Option, None, Some}
use Rattle.component.specs.declared.kind.Kind.{Kind}
use Rattle.component.specs.declared.kind.Kind.TheVariants.{Lookup, Remote, Fill, Read, Write, Hop, RowRead}
use Rattle.machine_desc.specs.declared.machine.L2.{L2}
use Rattle.machine_desc.specs.declared.machine.Controllers.{Controllers}
use Rattle.event_graph.specs.Timing.{look_up_time}

-- whether a component is a bank, or a controller
abbrev pub is_bank : L2 → (component : ℕ) → Bool
is_bank l2 component = nat_lt component l2.banks

abbrev pub is_controller : L2 → Controllers → (component : ℕ) → Bool
is_controller l2 controllers component = nat_le l2.banks component && nat_lt component (l2.banks + controllers.count)

-- the floor with which a component serves a kind, if it is there and serves it
abbrev pub plain_floor : L2 → Controllers → (component : ℕ) → Kind → Option ℕ
plain_floor l2 controllers component Lookup = (if is_bank l2 component then Some (look_up_time l2 false) else None)
plain_floor l2 controllers component Remote = (if is_bank l2 component then Some (look_up_time l2 true) else None)
plain_floor l2 controllers component Fill = (if is_bank l2 component then Some l2.fill else None)
plain_floor l2 controllers component Read = (if is_controller l2 controllers component then Some controllers.read else None)
plain_floor l2 controllers component Write = (if is_controller l2 controllers component then Some controllers.write else None)
plain_floor l2 controllers component Hop = None
plain_floor l2 controllers component (RowRead bank row) = None
