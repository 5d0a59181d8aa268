-- Each is a law of events, of their expansion, or of the weave.
use Rattle.std.proofs.Common.{arith}
use Rattle.weave_chains.proofs.laws.rounds_rest_on_these.Goals as goal

pub returns : goal.returns
returns g c = λ x. record {
  placed = λ entries. record {
    numbered = c.events_are_placed.ensures.numbered x entries;
    there = c.events_are_placed.ensures.there x entries;
    next = c.events_are_placed.ensures.next x entries;
    each = c.events_are_placed.ensures.each x entries;
    parents = c.events_are_placed.ensures.parents x entries;
    last = c.events_are_placed.ensures.last x entries;
    ends = c.events_are_placed.ensures.ends x entries;
  };
  parents = λ e. g.met.X.Expand.parents_come_before x e;
  short = λ e k p at. omega (arith, (g.met.X.Expand.ends_with_access x e).each k p at, g.met.X.Expand.time_small x e);
  once = c.each_event_fires_once.ensures;
  sorted = c.events_fire_in_order.ensures;
  prefix = c.firings_are_of_the_first_events.ensures;
  next = c.each_firing_is_of_the_next_event.ensures;
  order = c.events_of_a_core_fire_in_order.ensures.next x;
  starts = c.starts_so_far_stay_small.ensures;
}
