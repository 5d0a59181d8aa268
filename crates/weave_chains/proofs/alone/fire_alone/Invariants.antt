-- Access by access.
use Rattle.std.proofs.Common.{◌≡◌, ◌-◌, List, length}
use Rattle.weave_chains.specs.Alone.{IsAlone, standing}
use Rattle.weave_chains.proofs.alone.fire_alone.Given as goal

abbrev pub invariant-loop-access : goal.invariant-loop-access
invariant-loop-access g l = record {
  fired : (first : List g.row.C.Denot)
      → IsAlone g.C.Component.serves g.C.Component.floor g.C.Component.stepped g.C.Component.greatest (g.X.Expand.pieces l.expand) (g.A.Accesses.lists l.accesses) first 0 (standing (g.A.Accesses.lists l.accesses) l.fn.chain.access 0 l.fn.chain.ended l.fn.chain.last) l.fn.comps l.fn.tallies
      → IsAlone g.C.Component.serves g.C.Component.floor g.C.Component.stepped g.C.Component.greatest (g.X.Expand.pieces l.expand) (g.A.Accesses.lists l.accesses) first l.events (standing (g.A.Accesses.lists l.accesses) l.access 0 l.chain.ended l.last) l.comps l.tallies;
  end : l.chain.end ≡ l.fn.chain.end;
  place : l.chain.place ≡ l.fn.chain.place;
  tallies : length l.tallies ≡ length l.fn.tallies;
}

abbrev pub decreases-loop-access : goal.decreases-loop-access
decreases-loop-access g l = l.end - l.access
