-- The accesses of an interval in another order, in which each core has its own as before.
use Rattle.std.specs.Prelude.{◌≡◌, ◌==◌, ◌<◌, ℕ, List}
use Rattle.std.specs.List.{Contains, filter}
use Rattle.zs_num.specs.declared.entry.Entry.{Entry}
use Rattle.event_graph.specs.declared.event.Event.{Event}
use Rattle.event_graph.specs.Renumbering.{AreRenumbered}

abbrev pub accesses_of : (core : ℕ) → List Entry → List Entry
accesses_of core entries = filter (λ e. e.core == core) entries

abbrev pub HaveTheSameByCore : (entries others : List Entry) → Type 0
HaveTheSameByCore entries others = (core : ℕ) → accesses_of core others ≡ accesses_of core entries

-- The events are the same under other numbers, which put the events of each core in the same order.
pub record AreRenumberedByCore (to : ℕ → ℕ) (events others : List Event) : Type 0 where
  pub renumbered : AreRenumbered to events others
  pub rises : (d e : Event) → Contains events d → Contains events e → d.core ≡ e.core → d.number < e.number → to d.number < to e.number
