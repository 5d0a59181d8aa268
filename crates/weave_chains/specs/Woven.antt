-- What the weave of an interval gives.
use Rattle.std.specs.Prelude.{◌≡◌, ℕ, List, length, map}
use Rattle.std.specs.List.{range_with_len}
use Rattle.component.specs.declared.kind.Kind.{Kind}
use Rattle.zs_num.specs.declared.entry.Entry.{Entry}
use Rattle.event_graph.specs.declared.piece.Piece.{Piece}
use Rattle.event_graph.specs.EventGraph.{all_events}
use Rattle.event_graph.specs.MadeOfPieces.{with_events}
use Rattle.event_graph.specs.OneListWeave.{comps_after, fired_of, woven}
use Rattle.event_graph.specs.OrderByCore.{HaveTheSameByCore}
use Rattle.feedback.specs.FeedbackDelay.{feedback_delays}
use Rattle.stats.specs.Counts.{Interval, comp_count_in}
use Rattle.weave_chains.specs.declared.weave.Woven.{Woven}

module _ {C : Type 0} (stepped : C → Kind → ℕ → C × ℕ) (pieces : Entry → List Piece) where
  -- the interval with these accesses, whose events the one-list weave fires from these components on
  abbrev pub interval_of : List Entry → List C → (cores : ℕ) → Interval
  interval_of entries comps cores = record {
    entries = entries;
    events = all_events pieces entries;
    fired = map fired_of (woven stepped (all_events pieces entries) comps);
    delays = feedback_delays (all_events pieces entries) (map fired_of (woven stepped (all_events pieces entries) comps)) cores;
  }

  -- what that weave gives
  pub record IsWoven (entries : List Entry) (comps : List C) (cores : ℕ) (w : Woven) (after : List C) : Type 0 where
    pub delays : w.delays ≡ (interval_of entries comps cores).delays
    pub counts : w.counts.items ≡ map (comp_count_in (interval_of entries comps cores)) (range_with_len 0 (length comps))
    pub events : w.events ≡ length (all_events pieces entries)
    pub comps_are : after ≡ comps_after stepped (all_events pieces entries) comps

-- the accesses that make events, among these that stand in another order: each core has its own in the same order
abbrev pub AreOrdered : (pieces : Entry → List Piece) → (entries others : List Entry) → Type 0
AreOrdered pieces entries others = HaveTheSameByCore entries (with_events pieces others)
