-- Event by event, from the fourth one on.
use Rattle.std.proofs.Common.{◌≡◌, ◌+◌, ◌-◌, ◌<◌, ◌∙◌, Some, arith, refl, subst, sym}
use Rattle.std.specs.Prelude.{slice_get, slice_set}
use Rattle.zs_num.specs.declared.entry.Entry.{Entry}
use Rattle.weave_chains.specs.declared.chain.Ended.{Ended}
use Rattle.weave_chains.specs.Alone.{IsAlone, standing}
use Rattle.weave_chains.specs.Listed.{number_before, one_after_other}
use Rattle.weave_chains.proofs.Listed.{in_all}
use Rattle.weave_chains.proofs.OneCore as A
use Rattle.weave_chains.proofs.alone.fire_rest.Goals as goal

pub loop-place-init : goal.loop-place-init
loop-place-init g c =
    let lists = g.A.Accesses.lists c.args.accesses.now in
    let pieces = g.X.Expand.pieces c.args.expand.now in
    record {
      fired = λ first n a. subst (λ m. IsAlone g.C.Component.serves g.C.Component.floor g.C.Component.stepped g.C.Component.greatest pieces lists first m (standing lists c.args.access 3 c.args.ended.now c.args.last) c.args.comps.now c.args.tallies.now) (omega arith) a;
      tallies = refl;
    }

pub fire_one-done-requires-clause-come : goal.fire_one-done-requires-clause-come
fire_one-done-requires-clause-come g c κs within =
    let z = c.requires.come in
    (z.0, z.1 + (c.loop-place.place - 3), c.loop-place.invariant.fired z.0 z.1 z.2)

pub bounds-ended-from : goal.bounds-ended-from
bounds-ended-from g c =
    let lists = g.A.Accesses.lists c.args.accesses.now in
    let pieces = g.X.Expand.pieces c.args.expand.now in
    let e : Entry = c.args.entry.now in
    let in_lists : slice_get (one_after_other lists) (number_before lists 0 + c.args.access) ≡ Some e = in_all lists 0 c.args.access e c.requires.there in
    let few = c.requires.chained.few (number_before lists 0 + c.args.access) e in_lists in
    omega (arith, c.from.ensures, c.loop-place-test.true, c.requires.count, few)

pub loop-place-preserved : goal.loop-place-preserved
loop-place-preserved g c =
    let lists = g.A.Accesses.lists c.args.accesses.now in
    let pieces = g.X.Expand.pieces c.args.expand.now in
    let place = c.loop-place.place in
    let more : place + 1 < c.args.count = omega (arith, c.loop-place-test.true, c.requires.more) in
    let done : Ended = c.fire_one-done.result in
    record {
      fired = λ first n a.
          let one = c.fire_one-done.ensures.fired first (n + (place - 3)) (c.loop-place.invariant.fired first n a) in
          let sums : n + (place - 3) + 1 ≡ n + (place + 1 - 3) = omega (arith, c.loop-place.auto.place) in
          subst (λ k. IsAlone g.C.Component.serves g.C.Component.floor g.C.Component.stepped g.C.Component.greatest pieces lists first (n + (place + 1 - 3)) (standing lists c.args.access (place + 1) (slice_set c.loop-place.ended k done) c.args.last) c.fire_one-done.new.comps c.fire_one-done.new.tallies) (sym c.from.ensures)
          (subst (λ m. IsAlone g.C.Component.serves g.C.Component.floor g.C.Component.stepped g.C.Component.greatest pieces lists first m (standing lists c.args.access (place + 1) (slice_set c.loop-place.ended place done) c.args.last) c.fire_one-done.new.comps c.fire_one-done.new.tallies) sums
          (subst (λ s. IsAlone g.C.Component.serves g.C.Component.floor g.C.Component.stepped g.C.Component.greatest pieces lists first (n + (place - 3) + 1) s c.fire_one-done.new.comps c.fire_one-done.new.tallies)
          (A.amid lists c.args.access place c.args.count c.loop-place.ended c.args.last done more) one));
      tallies = c.fire_one-done.ensures.tallies ∙ c.loop-place.invariant.tallies;
    }

pub fire_one-requires-clause-come : goal.fire_one-requires-clause-come
fire_one-requires-clause-come g c κs within =
    let lists = g.A.Accesses.lists c.args.accesses.now in
    let pieces = g.X.Expand.pieces c.args.expand.now in
    let z = c.requires.come in
    let at : c.loop-place.place ≡ c.args.count - 1 = omega (arith, c.loop-place-test.false, c.loop-place.auto.place-end, c.requires.more) in
    (z.0, z.1 + (c.loop-place.place - 3), subst (λ k. IsAlone g.C.Component.serves g.C.Component.floor g.C.Component.stepped g.C.Component.greatest pieces lists z.0 (z.1 + (c.loop-place.place - 3)) (standing lists c.args.access k c.loop-place.ended c.args.last) c.loop-place.comps c.loop-place.tallies) at (c.loop-place.invariant.fired z.0 z.1 z.2))

pub returns-clause-fired : goal.returns-clause-fired
returns-clause-fired g c = λ first n a.
    let lists = g.A.Accesses.lists c.args.accesses.now in
    let pieces = g.X.Expand.pieces c.args.expand.now in
    let at : c.loop-place.place ≡ c.args.count - 1 = omega (arith, c.loop-place-test.false, c.loop-place.auto.place-end, c.requires.more) in
    let all : c.args.count - 1 + 1 ≡ c.args.count = omega (arith, c.requires.more) in
    let sums : n + (c.loop-place.place - 3) + 1 ≡ n + (c.args.count - 3) = omega (arith, at, all, c.requires.more) in
    let was = subst (λ k. IsAlone g.C.Component.serves g.C.Component.floor g.C.Component.stepped g.C.Component.greatest pieces lists first (n + (c.loop-place.place - 3)) (standing lists c.args.access k c.loop-place.ended c.args.last) c.loop-place.comps c.loop-place.tallies) at (c.loop-place.invariant.fired first n a) in
    subst (λ m. IsAlone g.C.Component.serves g.C.Component.floor g.C.Component.stepped g.C.Component.greatest pieces lists first m (standing lists (c.args.access + 1) 0 c.loop-place.ended (Some c.fire_one.result)) c.fire_one.new.comps c.fire_one.new.tallies) sums
    (subst (λ s. IsAlone g.C.Component.serves g.C.Component.floor g.C.Component.stepped g.C.Component.greatest pieces lists first (n + (c.loop-place.place - 3) + 1) s c.fire_one.new.comps c.fire_one.new.tallies)
    (A.at_last lists c.args.access (c.args.count - 1) c.args.count c.loop-place.ended c.args.last c.fire_one.result all)
    (c.fire_one.ensures.fired first (n + (c.loop-place.place - 3)) was))
