-- The components so far.
use Rattle.std.proofs.Common.{◌≡◌, ◌≤◌}
use Rattle.weave_core.specs.Beginning.{AreOwnPlaces}
use Rattle.weave_core.specs.Layout.{place_in}
use Rattle.weave_core.proofs.prepare.own_places_of.Given as goal

abbrev pub invariant-loop-place : goal.invariant-loop-place
invariant-loop-place l = record {
  own_places : AreOwnPlaces l.places l.domain l.own_places.items l.place-index;
  count : l.count ≡ place_in l.places l.domain l.place-index;
  few : l.count ≤ l.place-index;
}
