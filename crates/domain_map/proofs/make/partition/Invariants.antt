-- What the events so far make.
use Rattle.std.proofs.Common.{◌≡◌, ◌<◌, ℕ, length, take}
use Rattle.domain_map.specs.Domains.{crossings_into_all, events_in}
use Rattle.domain_map.specs.Inside.{list_at, lists_of}
use Rattle.domain_map.proofs.make.partition.Given as goal

abbrev pub invariant-loop-event : goal.invariant-loop-event
invariant-loop-event l = record {
  count : length (lists_of l.lists.items) ≡ l.count;
  each : (domain : ℕ) → domain < l.count → list_at (lists_of l.lists.items) domain ≡ events_in l.places.items (take l.event-index l.events) domain;
  crossings : l.crossings.items ≡ crossings_into_all l.places.items l.events (take l.event-index l.events);
}
