-- The crossings so far.
use Rattle.weave_core.specs.Beginning.{AddsWaits, AreStubsUpto}
use Rattle.weave_core.proofs.prepare.stubs_of.Given as goal

abbrev pub invariant-loop-number : goal.invariant-loop-number
invariant-loop-number l = record {
  stubs : AreStubsUpto l.events l.here l.crossings l.domain l.stubs.items l.number;
  waits : AddsWaits l.fn.waits l.waits l.stubs.items;
}
