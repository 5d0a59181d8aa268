-- So many events have fired.
use Rattle.std.proofs.Common.{◌≡◌, ◌-◌, ◌≤◌, List, length}
use Rattle.event_graph.specs.EventGraph.{all_events}
use Rattle.weave_chains.specs.Listed.{one_after_other}
use Rattle.weave_chains.specs.NextEvents.{AreAhead}
use Rattle.weave_chains.specs.Rounds.{IsWeaving}
use Rattle.weave_chains.specs.States.{states}
use Rattle.weave_chains.specs.Tallies.{AreSmall, HaveFired}
use Rattle.weave_chains.proofs.firing.fire_all.Given as goal

abbrev pub invariant-loop-served : goal.invariant-loop-served
invariant-loop-served g l = record {
  within : l.events ≤ length (all_events (g.X.Expand.pieces l.expand) (one_after_other (g.A.Accesses.lists l.accesses)));
  count : length l.chains ≡ length l.fn.chains;
  comps : length l.comps ≡ length l.fn.comps;
  tallies : length l.tallies ≡ length l.fn.tallies;
  ahead : AreAhead (g.X.Expand.pieces l.expand) (g.A.Accesses.lists l.accesses) l.chains;
  small : AreSmall l.events l.tallies;
  fired : (first : List g.row.C.Denot) → IsWeaving g.C.Component.serves g.C.Component.floor g.C.Component.stepped g.C.Component.greatest (g.X.Expand.pieces l.expand) (g.A.Accesses.lists l.accesses) first 0 l.fn.chains l.fn.ready.keys l.fn.comps
      → HaveFired g.C.Component.stepped (g.X.Expand.pieces l.expand) (one_after_other (g.A.Accesses.lists l.accesses)) first l.events (states (g.A.Accesses.lists l.accesses) l.chains) l.ready.keys l.comps l.tallies;
}

abbrev pub decreases-loop-served : goal.decreases-loop-served
decreases-loop-served g l = length (all_events (g.X.Expand.pieces l.expand) (one_after_other (g.A.Accesses.lists l.accesses))) - l.events
