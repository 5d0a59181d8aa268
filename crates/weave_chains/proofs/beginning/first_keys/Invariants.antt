-- The first chains are looked up, and have their keys.
use Rattle.std.proofs.Common.{◌≡◌, ◌<◌, ℕ, Some, length, slice_get}
use Rattle.weave_chains.specs.declared.chain.Chain.{Chain}
use Rattle.weave_chains.specs.Listed.{list_of, one_after_other}
use Rattle.weave_chains.specs.NextEvents.{AreOfLists, IsAhead}
use Rattle.weave_chains.specs.States.{states}
use Rattle.weave_chains.proofs.FirstKeys.{HaveKeys}
use Rattle.weave_chains.proofs.beginning.first_keys.Given as goal

abbrev pub invariant-loop-core : goal.invariant-loop-core
invariant-loop-core g l = record {
  keys : HaveKeys (g.X.Expand.pieces l.expand) (one_after_other (g.A.Accesses.lists l.accesses)) (states (g.A.Accesses.lists l.accesses) l.fn.chains) l.core l.ready.keys;
  room : l.ready.room ≡ l.fn.ready.room;
  same : states (g.A.Accesses.lists l.accesses) l.chains ≡ states (g.A.Accesses.lists l.accesses) l.fn.chains;
  count : length l.chains ≡ length l.fn.chains;
  of : AreOfLists (g.A.Accesses.lists l.accesses) l.chains;
  ahead : (core : ℕ) (c : Chain) → core < l.core → slice_get l.chains core ≡ Some c → IsAhead (g.X.Expand.pieces l.expand) (list_of (g.A.Accesses.lists l.accesses) core) c;
}
