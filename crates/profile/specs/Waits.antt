-- How long each event of an interval waited, and for which access: the weave serves the events of an interval when all its
-- accesses were made, and an event waits for the access that made it.
use Rattle.std.specs.Prelude.{ℕ, ◌==◌, List, [], ◌∷◌, ◌++◌, if◌then◌else◌, Option, Some, None}
use Rattle.std.specs.List.{find}
use Rattle.zs_num.specs.declared.entry.Entry.{Entry}
use Rattle.zs_num.specs.Request.{line_of}
use Rattle.event_graph.specs.declared.event.Event.{Event}
use Rattle.event_graph.specs.declared.fired.Fired.{Fired}
use Rattle.stats.specs.Counted.{is_hit, wait_of}
use Rattle.profile.specs.declared.contribution.Maker.{Maker}

-- an event that this component served waited so many cycles, for this access
pub record Wait : Type 0 where
  pub maker : Maker
  pub component : ℕ
  pub cycles : ℕ

-- the access, where it makes events: a hit makes none
abbrev pub makers_of : (pc : ℕ) → Entry → List Maker
makers_of pc e = if is_hit e.outcome then [] else record { core = e.core; pc = pc; line = line_of e.request } ∷ []

-- the first access of a core among these
abbrev pub first_of : (core : ℕ) → List Maker → Option Maker
first_of core makers = find (λ m. m.core == core) makers

-- all but that one
abbrev pub without_first : (core : ℕ) → List Maker → List Maker
without_first core [] = []
without_first core (m ∷ makers) = if m.core == core then makers else m ∷ without_first core makers

-- the wait of an event for this access, if there is one
abbrev pub wait_for : Option Maker → Event → Fired → List Wait
wait_for None e f = []
wait_for (Some m) e f = record { maker = m; component = e.component; cycles = wait_of e f } ∷ []

-- The waits of an interval's events, which these accesses made that are in order of each core. The events of a core are
-- those of its accesses in order, and the last one of each access is critical.
abbrev pub event_waits : List Maker → List (Event × Fired) → List Wait
event_waits makers [] = []
event_waits makers ((e, f) ∷ events) =
    wait_for (first_of e.core makers) e f ++ event_waits (if e.critical then without_first e.core makers else makers) events
