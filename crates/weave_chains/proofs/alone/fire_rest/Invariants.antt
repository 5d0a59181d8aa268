-- So many events of the access have fired.
use Rattle.std.proofs.Common.{◌≡◌, ◌+◌, ◌-◌, ℕ, List, length}
use Rattle.weave_chains.specs.Alone.{IsAlone, standing}
use Rattle.weave_chains.proofs.alone.fire_rest.Given as goal

abbrev pub invariant-loop-place : goal.invariant-loop-place
invariant-loop-place g l = record {
  fired : (first : List g.row.C.Denot) (n : ℕ)
      → IsAlone g.C.Component.serves g.C.Component.floor g.C.Component.stepped g.C.Component.greatest (g.X.Expand.pieces l.expand) (g.A.Accesses.lists l.accesses) first n (standing (g.A.Accesses.lists l.accesses) l.access 3 l.fn.ended l.last) l.fn.comps l.fn.tallies
      → IsAlone g.C.Component.serves g.C.Component.floor g.C.Component.stepped g.C.Component.greatest (g.X.Expand.pieces l.expand) (g.A.Accesses.lists l.accesses) first (n + (l.place - 3)) (standing (g.A.Accesses.lists l.accesses) l.access l.place l.ended l.last) l.comps l.tallies;
  tallies : length l.tallies ≡ length l.fn.tallies;
}
