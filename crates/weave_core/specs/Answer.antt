-- What a domain answers, by its first ready place and its first stub.
use Rattle.std.specs.Prelude.{◌≡◌, ◌≤◌, ◌-◌, ℕ, cond, min, nat_lt, List, Option, Some, None, slice_get}
use Rattle.std.specs.List.{slice_index_or}
use Rattle.zs_num.specs.declared.time.Key.{Key}
use Rattle.zs_num.specs.declared.time.Word.TheVariants.{Bound}
use Rattle.event_graph.specs.declared.event.Event.{Event}
use Rattle.weave_core.specs.declared.incoming.Stub.{Stub}
use Rattle.weave_core.specs.declared.next.Next.{Next}
use Rattle.weave_core.specs.declared.next.Next.TheVariants.{Done, Fire, Blocked}
use Rattle.weave_core.specs.Layout.{no_event}

abbrev pub no_stub : Stub
no_stub = record { number = 0; child = 0; delay = 0; latency = 0; word = Bound 0 }

-- the event's start and number
abbrev pub numbered_key : List Event → Key → Key
numbered_key here key = record { start = key.start; number = (slice_index_or here key.number no_event).number }

abbrev pub fire_of : List Event → Key → Next
fire_of here key = Fire (numbered_key here key)

abbrev pub blocked_by : List Stub → Key → Next
blocked_by stubs key = Blocked (slice_index_or stubs key.number no_stub).number (key.start - (slice_index_or stubs key.number no_stub).delay)

abbrev pub answer_of : List Event → List Stub → Option Key → Option Key → Next
answer_of here stubs None None = Done
answer_of here stubs (Some key) None = fire_of here key
answer_of here stubs None (Some stub) = blocked_by stubs stub
answer_of here stubs (Some key) (Some stub) = cond (nat_lt key.start stub.start) (fire_of here key) (blocked_by stubs stub)

-- the lesser of their starts
abbrev pub lesser_start : Option Key → Option Key → Option ℕ
lesser_start None None = None
lesser_start (Some key) None = Some key.start
lesser_start None (Some stub) = Some stub.start
lesser_start (Some key) (Some stub) = Some (min key.start stub.start)

-- the stub is there, and its arrival is no earlier than its delay
pub record IsBlocking (stubs : List Stub) (key : Key) : Type 0 where
  pub stub : Stub
  pub there : slice_get stubs key.number ≡ Some stub
  pub delay : stub.delay ≤ key.start
