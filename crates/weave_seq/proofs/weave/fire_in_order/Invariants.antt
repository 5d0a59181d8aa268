-- After so many firings the program knows what the weave has.
use Rattle.std.proofs.Common.{◌≡◌}
use Rattle.event_graph.specs.OneListWeave.{after_firings, finish_in}
use Rattle.weave_seq.specs.Known.{known_to_all}
use Rattle.weave_seq.proofs.weave.fire_in_order.Given as goal

abbrev pub invariant-loop : goal.invariant-loop
invariant-loop g l = record {
  state : l.state ≡ known_to_all (finish_in (after_firings g.C.Component.stepped l.events l.fn.comps l.counter).fired) l.events;
  comps : l.comps ≡ (after_firings g.C.Component.stepped l.events l.fn.comps l.counter).comps;
}
