-- A component more.
use Rattle.std.proofs.Common.{◌+◌, ◌<◌, length, get_or, ap, ◌∙◌, arith}
use Rattle.std.proofs.lemmas.Option.{slice_get-get_or}
use Rattle.weave_core.proofs.OwnPlaces.{next_own_place, same_place, other_place}
use Rattle.weave_core.proofs.prepare.own_places_of.Goals.{then-place-domain, else-place-domain}
use Rattle.weave_core.proofs.prepare.own_places_of.Goals as goal

pub loop-place-preserved : goal.loop-place-preserved
loop-place-preserved c =
    let below : c.loop-place.place-index < length c.args.places.now = omega (arith, c.loop-place-test.true) in
    elim c.if-place-domain.branch [
      | then-place-domain w ↦ record {
        own_places = next_own_place c.args.places.now c.args.domain c.loop-place.own_places.items c.push.new.self.items c.loop-place.place-index c.loop-place.count c.loop-place.invariant.own_places c.loop-place.invariant.count c.in_ok-push.ensures.items;
        count =
            w.count-is
            ∙ (ap (λ n. n + 1) c.loop-place.invariant.count
            ∙ same_place c.args.places.now c.args.domain c.loop-place.place-index (get_or c.args.places.now c.loop-place.place-index 0) (slice_get-get_or c.args.places.now c.loop-place.place-index 0 below) w.if-place-domain.true);
        few = omega (arith, w.count-is, c.loop-place.invariant.few);
      }
      | else-place-domain w ↦ record {
        own_places = next_own_place c.args.places.now c.args.domain c.loop-place.own_places.items c.push.new.self.items c.loop-place.place-index c.loop-place.count c.loop-place.invariant.own_places c.loop-place.invariant.count c.in_ok-push.ensures.items;
        count =
            w.count-is
            ∙ (c.loop-place.invariant.count
            ∙ other_place c.args.places.now c.args.domain c.loop-place.place-index (get_or c.args.places.now c.loop-place.place-index 0) (slice_get-get_or c.args.places.now c.loop-place.place-index 0 below) w.if-place-domain.false);
        few = omega (arith, w.count-is, c.loop-place.invariant.few);
      }
    ]
