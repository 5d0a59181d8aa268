-- The events so far are linked, what waits for no parent is ready, and there is room for all.
use Rattle.std.proofs.Common.{◌≡◌, ◌≤◌, [], length, map, take, vec_capacity}
use Rattle.event_graph.specs.OneListWeave.{finish_in}
use Rattle.weave_seq.specs.declared.children.ParentSlot.TheVariants.{First, Second}
use Rattle.weave_seq.specs.Chains.{AreChains, parents_in}
use Rattle.weave_seq.specs.Known.{known_time, known_waits}
use Rattle.weave_seq.specs.SoFar.{AreSameKeys, ready_keys}
use Rattle.weave_seq.proofs.begin.begin.Given as goal

abbrev pub invariant-loop-event : goal.invariant-loop-event
invariant-loop-event l = record {
  first_slot : l.first.slot ≡ First;
  second_slot : l.second.slot ≡ Second;
  first : AreChains (parents_in l.first.slot l.events) l.first.last.items l.first.before.items l.event-index;
  second : AreChains (parents_in l.second.slot l.events) l.second.last.items l.second.before.items l.event-index;
  times : l.times.items ≡ map (known_time (finish_in []) (finish_in []) (finish_in [])) (take l.event-index l.events);
  waits : l.waits.items ≡ map (known_waits (finish_in []) (finish_in []) (finish_in [])) (take l.event-index l.events);
  times_size : length l.times.items ≡ l.event-index;
  waits_size : length l.waits.items ≡ l.event-index;
  keys : AreSameKeys (ready_keys 0 l.times.items l.waits.items) l.ready.list;
  room : length l.events ≤ l.ready.room;
  first_room : length l.events ≤ vec_capacity l.first.before;
  second_room : length l.events ≤ vec_capacity l.second.before;
  times_room : length l.events ≤ vec_capacity l.times;
  waits_room : length l.events ≤ vec_capacity l.waits;
}
