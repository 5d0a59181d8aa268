-- So many firings of the weave are done: it has these components, the times of the events that fired are told, and the
-- queue has the key of each core's first unfired event.
use Rattle.std.proofs.Common.{◌≡◌, ◌≤◌, length}
use Rattle.event_graph.specs.OneListWeave.{after_firings}
use Rattle.weave_seq.specs.ByCore.{AreFirstKeys}
use Rattle.weave_seq.proofs.CoreFiring.{AreTold}
use Rattle.weave_seq.proofs.by_core.fire_by_core.Given as goal

abbrev pub invariant-loop : goal.invariant-loop
invariant-loop g l = record {
  comps : l.comps ≡ (after_firings g.C.Component.stepped l.events l.fn.comps l.counter).comps;
  told : AreTold (after_firings g.C.Component.stepped l.events l.fn.comps l.counter).fired l.times;
  size : length l.times ≡ length l.events;
  keys : AreFirstKeys l.events (after_firings g.C.Component.stepped l.events l.fn.comps l.counter).fired l.ready.list;
  room : length l.ready.list ≤ l.ready.room;
}
