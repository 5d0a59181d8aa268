-- Event by event.
use Rattle.std.proofs.Common.{◌≡◌, ◌+◌, ◌-◌, ◌<◌, ℕ, Some, arith, subst}
use Rattle.std.specs.Prelude.{slice_get, slice_set}
use Rattle.zs_num.specs.declared.entry.Entry.{Entry}
use Rattle.weave_chains.specs.Alone.{IsAlone, standing}
use Rattle.weave_chains.specs.Listed.{number_before, one_after_other}
use Rattle.weave_chains.proofs.Listed.{in_all}
use Rattle.weave_chains.proofs.OneCore as A
use Rattle.weave_chains.proofs.alone.fire_access.Goals as goal

pub fire_one-first-requires-clause-place : goal.fire_one-first-requires-clause-place
fire_one-first-requires-clause-place g c κs within =
    let lists = g.A.Accesses.lists c.args.accesses.now in
    let pieces = g.X.Expand.pieces c.args.expand.now in
    let e : Entry = c.access-entry.result in
    let in_lists : slice_get (one_after_other lists) (number_before lists 0 + c.args.access) ≡ Some e = in_all lists 0 c.args.access e c.access-entry.ensures in
    let some = c.requires.chained.some (number_before lists 0 + c.args.access) e in_lists in
    let count : ℕ = c.count-count.result in
    omega (arith, c.count-count.ensures, some)

pub fire_one-second-requires-clause-place : goal.fire_one-second-requires-clause-place
fire_one-second-requires-clause-place g c κs within =
    let lists = g.A.Accesses.lists c.args.accesses.now in
    let pieces = g.X.Expand.pieces c.args.expand.now in
    let e : Entry = c.access-entry.result in
    let in_lists : slice_get (one_after_other lists) (number_before lists 0 + c.args.access) ≡ Some e = in_all lists 0 c.args.access e c.access-entry.ensures in
    let some = c.requires.chained.some (number_before lists 0 + c.args.access) e in_lists in
    let count : ℕ = c.count-count.result in
    omega (arith, c.count-count.ensures, some, c.if-count-eq1.false)

pub fire_one-second-requires-clause-come : goal.fire_one-second-requires-clause-come
fire_one-second-requires-clause-come g c κs within =
    let lists = g.A.Accesses.lists c.args.accesses.now in
    let pieces = g.X.Expand.pieces c.args.expand.now in
    let e : Entry = c.access-entry.result in
    let in_lists : slice_get (one_after_other lists) (number_before lists 0 + c.args.access) ≡ Some e = in_all lists 0 c.args.access e c.access-entry.ensures in
    let some = c.requires.chained.some (number_before lists 0 + c.args.access) e in_lists in
    let count : ℕ = c.count-count.result in
    let more_1 : 1 < count = omega (arith, c.count-count.ensures, some, c.if-count-eq1.false) in
    let z = c.requires.come in (
      z.0,
      z.1 + 1,
      (subst (λ s. IsAlone g.C.Component.serves g.C.Component.floor g.C.Component.stepped g.C.Component.greatest pieces lists z.0 (z.1 + 1) s c.fire_one-first.new.comps c.fire_one-first.new.tallies)
          (A.amid lists c.args.access 0 count c.args.ended.now c.args.last c.fire_one-first.result more_1)
          (c.fire_one-first.ensures.fired z.0 (z.1) z.2)),
    )

pub fire_one-third-requires-clause-place : goal.fire_one-third-requires-clause-place
fire_one-third-requires-clause-place g c κs within =
    let lists = g.A.Accesses.lists c.args.accesses.now in
    let pieces = g.X.Expand.pieces c.args.expand.now in
    let e : Entry = c.access-entry.result in
    let in_lists : slice_get (one_after_other lists) (number_before lists 0 + c.args.access) ≡ Some e = in_all lists 0 c.args.access e c.access-entry.ensures in
    let some = c.requires.chained.some (number_before lists 0 + c.args.access) e in_lists in
    let count : ℕ = c.count-count.result in
    omega (arith, c.count-count.ensures, some, c.if-count-eq1.false, c.if-count-eq2.false)

pub fire_one-third-requires-clause-come : goal.fire_one-third-requires-clause-come
fire_one-third-requires-clause-come g c κs within =
    let lists = g.A.Accesses.lists c.args.accesses.now in
    let pieces = g.X.Expand.pieces c.args.expand.now in
    let e : Entry = c.access-entry.result in
    let in_lists : slice_get (one_after_other lists) (number_before lists 0 + c.args.access) ≡ Some e = in_all lists 0 c.args.access e c.access-entry.ensures in
    let some = c.requires.chained.some (number_before lists 0 + c.args.access) e in_lists in
    let count : ℕ = c.count-count.result in
    let more_1 : 1 < count = omega (arith, c.count-count.ensures, some, c.if-count-eq1.false) in
    let more_2 : 2 < count = omega (arith, c.count-count.ensures, some, c.if-count-eq1.false, c.if-count-eq2.false) in
    let z = c.requires.come in (
      z.0,
      z.1 + 1 + 1,
      (subst (λ s. IsAlone g.C.Component.serves g.C.Component.floor g.C.Component.stepped g.C.Component.greatest pieces lists z.0 (z.1 + 1 + 1) s c.fire_one-second.new.comps c.fire_one-second.new.tallies)
          (A.amid lists c.args.access 1 count (slice_set c.args.ended.now 0 c.fire_one-first.result) c.args.last c.fire_one-second.result more_2)
          (c.fire_one-second.ensures.fired z.0 (z.1 + 1) (subst (λ s. IsAlone g.C.Component.serves g.C.Component.floor g.C.Component.stepped g.C.Component.greatest pieces lists z.0 (z.1 + 1) s c.fire_one-first.new.comps c.fire_one-first.new.tallies)
          (A.amid lists c.args.access 0 count c.args.ended.now c.args.last c.fire_one-first.result more_1)
          (c.fire_one-first.ensures.fired z.0 (z.1) z.2)))),
    )

pub fire_rest-done-requires-clause-more : goal.fire_rest-done-requires-clause-more
fire_rest-done-requires-clause-more g c κs within =
    let lists = g.A.Accesses.lists c.args.accesses.now in
    let pieces = g.X.Expand.pieces c.args.expand.now in
    let e : Entry = c.access-entry.result in
    let in_lists : slice_get (one_after_other lists) (number_before lists 0 + c.args.access) ≡ Some e = in_all lists 0 c.args.access e c.access-entry.ensures in
    let some = c.requires.chained.some (number_before lists 0 + c.args.access) e in_lists in
    let count : ℕ = c.count-count.result in
    omega (arith, c.count-count.ensures, some, c.if-count-eq1.false, c.if-count-eq2.false, c.if-count-eq3.false)

pub fire_rest-done-requires-clause-come : goal.fire_rest-done-requires-clause-come
fire_rest-done-requires-clause-come g c κs within =
    let lists = g.A.Accesses.lists c.args.accesses.now in
    let pieces = g.X.Expand.pieces c.args.expand.now in
    let e : Entry = c.access-entry.result in
    let in_lists : slice_get (one_after_other lists) (number_before lists 0 + c.args.access) ≡ Some e = in_all lists 0 c.args.access e c.access-entry.ensures in
    let some = c.requires.chained.some (number_before lists 0 + c.args.access) e in_lists in
    let count : ℕ = c.count-count.result in
    let more_1 : 1 < count = omega (arith, c.count-count.ensures, some, c.if-count-eq1.false) in
    let more_2 : 2 < count = omega (arith, c.count-count.ensures, some, c.if-count-eq1.false, c.if-count-eq2.false) in
    let more_3 : 3 < count = omega (arith, c.count-count.ensures, some, c.if-count-eq1.false, c.if-count-eq2.false, c.if-count-eq3.false) in
    let z = c.requires.come in (
      z.0,
      z.1 + 1 + 1 + 1,
      (subst (λ s. IsAlone g.C.Component.serves g.C.Component.floor g.C.Component.stepped g.C.Component.greatest pieces lists z.0 (z.1 + 1 + 1 + 1) s c.fire_one-third.new.comps c.fire_one-third.new.tallies)
          (A.amid lists c.args.access 2 count (slice_set (slice_set c.args.ended.now 0 c.fire_one-first.result) 1 c.fire_one-second.result) c.args.last c.fire_one-third.result more_3)
          (c.fire_one-third.ensures.fired z.0 (z.1 + 1 + 1) (subst (λ s. IsAlone g.C.Component.serves g.C.Component.floor g.C.Component.stepped g.C.Component.greatest pieces lists z.0 (z.1 + 1 + 1) s c.fire_one-second.new.comps c.fire_one-second.new.tallies)
          (A.amid lists c.args.access 1 count (slice_set c.args.ended.now 0 c.fire_one-first.result) c.args.last c.fire_one-second.result more_2)
          (c.fire_one-second.ensures.fired z.0 (z.1 + 1) (subst (λ s. IsAlone g.C.Component.serves g.C.Component.floor g.C.Component.stepped g.C.Component.greatest pieces lists z.0 (z.1 + 1) s c.fire_one-first.new.comps c.fire_one-first.new.tallies)
          (A.amid lists c.args.access 0 count c.args.ended.now c.args.last c.fire_one-first.result more_1)
          (c.fire_one-first.ensures.fired z.0 (z.1) z.2)))))),
    )

pub returns-then-count-eq1-clause-fired : goal.returns-then-count-eq1-clause-fired
returns-then-count-eq1-clause-fired g c = λ first n a.
    let lists = g.A.Accesses.lists c.args.accesses.now in
    let pieces = g.X.Expand.pieces c.args.expand.now in
    let e : Entry = c.access-entry.result in
    let in_lists : slice_get (one_after_other lists) (number_before lists 0 + c.args.access) ≡ Some e = in_all lists 0 c.args.access e c.access-entry.ensures in
    let some = c.requires.chained.some (number_before lists 0 + c.args.access) e in_lists in
    let count : ℕ = c.count-count.result in
    let all : 0 + 1 ≡ count = omega (arith, c.if-count-eq1.true) in
    let sums : n + 1 ≡ n + 1 = omega arith in
    subst (λ m. IsAlone g.C.Component.serves g.C.Component.floor g.C.Component.stepped g.C.Component.greatest pieces lists first m (standing lists (c.args.access + 1) 0 c.args.ended.now (Some c.fire_one-first.result)) c.fire_one-first.new.comps c.fire_one-first.new.tallies) sums
    (subst (λ s. IsAlone g.C.Component.serves g.C.Component.floor g.C.Component.stepped g.C.Component.greatest pieces lists first (n + 1) s c.fire_one-first.new.comps c.fire_one-first.new.tallies)
    (A.at_last lists c.args.access 0 count c.args.ended.now c.args.last c.fire_one-first.result all)
    (c.fire_one-first.ensures.fired first (n) a))

pub returns-then-count-eq2-clause-fired : goal.returns-then-count-eq2-clause-fired
returns-then-count-eq2-clause-fired g c = λ first n a.
    let lists = g.A.Accesses.lists c.args.accesses.now in
    let pieces = g.X.Expand.pieces c.args.expand.now in
    let e : Entry = c.access-entry.result in
    let in_lists : slice_get (one_after_other lists) (number_before lists 0 + c.args.access) ≡ Some e = in_all lists 0 c.args.access e c.access-entry.ensures in
    let some = c.requires.chained.some (number_before lists 0 + c.args.access) e in_lists in
    let count : ℕ = c.count-count.result in
    let more_1 : 1 < count = omega (arith, c.count-count.ensures, some, c.if-count-eq1.false) in
    let all : 1 + 1 ≡ count = omega (arith, c.if-count-eq2.true) in
    let sums : n + 1 + 1 ≡ n + 2 = omega arith in
    subst (λ m. IsAlone g.C.Component.serves g.C.Component.floor g.C.Component.stepped g.C.Component.greatest pieces lists first m (standing lists (c.args.access + 1) 0 (slice_set c.args.ended.now 0 c.fire_one-first.result) (Some c.fire_one-second.result)) c.fire_one-second.new.comps c.fire_one-second.new.tallies) sums
    (subst (λ s. IsAlone g.C.Component.serves g.C.Component.floor g.C.Component.stepped g.C.Component.greatest pieces lists first (n + 1 + 1) s c.fire_one-second.new.comps c.fire_one-second.new.tallies)
    (A.at_last lists c.args.access 1 count (slice_set c.args.ended.now 0 c.fire_one-first.result) c.args.last c.fire_one-second.result all)
    (c.fire_one-second.ensures.fired first (n + 1) (subst (λ s. IsAlone g.C.Component.serves g.C.Component.floor g.C.Component.stepped g.C.Component.greatest pieces lists first (n + 1) s c.fire_one-first.new.comps c.fire_one-first.new.tallies)
    (A.amid lists c.args.access 0 count c.args.ended.now c.args.last c.fire_one-first.result more_1)
    (c.fire_one-first.ensures.fired first (n) a))))

pub returns-then-count-eq3-clause-fired : goal.returns-then-count-eq3-clause-fired
returns-then-count-eq3-clause-fired g c = λ first n a.
    let lists = g.A.Accesses.lists c.args.accesses.now in
    let pieces = g.X.Expand.pieces c.args.expand.now in
    let e : Entry = c.access-entry.result in
    let in_lists : slice_get (one_after_other lists) (number_before lists 0 + c.args.access) ≡ Some e = in_all lists 0 c.args.access e c.access-entry.ensures in
    let some = c.requires.chained.some (number_before lists 0 + c.args.access) e in_lists in
    let count : ℕ = c.count-count.result in
    let more_1 : 1 < count = omega (arith, c.count-count.ensures, some, c.if-count-eq1.false) in
    let more_2 : 2 < count = omega (arith, c.count-count.ensures, some, c.if-count-eq1.false, c.if-count-eq2.false) in
    let all : 2 + 1 ≡ count = omega (arith, c.if-count-eq3.true) in
    let sums : n + 1 + 1 + 1 ≡ n + 3 = omega arith in
    subst (λ m. IsAlone g.C.Component.serves g.C.Component.floor g.C.Component.stepped g.C.Component.greatest pieces lists first m (standing lists (c.args.access + 1) 0 (slice_set (slice_set c.args.ended.now 0 c.fire_one-first.result) 1 c.fire_one-second.result) (Some c.fire_one-third.result)) c.fire_one-third.new.comps c.fire_one-third.new.tallies) sums
    (subst (λ s. IsAlone g.C.Component.serves g.C.Component.floor g.C.Component.stepped g.C.Component.greatest pieces lists first (n + 1 + 1 + 1) s c.fire_one-third.new.comps c.fire_one-third.new.tallies)
    (A.at_last lists c.args.access 2 count (slice_set (slice_set c.args.ended.now 0 c.fire_one-first.result) 1 c.fire_one-second.result) c.args.last c.fire_one-third.result all)
    (c.fire_one-third.ensures.fired first (n + 1 + 1) (subst (λ s. IsAlone g.C.Component.serves g.C.Component.floor g.C.Component.stepped g.C.Component.greatest pieces lists first (n + 1 + 1) s c.fire_one-second.new.comps c.fire_one-second.new.tallies)
    (A.amid lists c.args.access 1 count (slice_set c.args.ended.now 0 c.fire_one-first.result) c.args.last c.fire_one-second.result more_2)
    (c.fire_one-second.ensures.fired first (n + 1) (subst (λ s. IsAlone g.C.Component.serves g.C.Component.floor g.C.Component.stepped g.C.Component.greatest pieces lists first (n + 1) s c.fire_one-first.new.comps c.fire_one-first.new.tallies)
    (A.amid lists c.args.access 0 count c.args.ended.now c.args.last c.fire_one-first.result more_1)
    (c.fire_one-first.ensures.fired first (n) a))))))

pub returns-clause-fired : goal.returns-clause-fired
returns-clause-fired g c = λ first n a.
    let lists = g.A.Accesses.lists c.args.accesses.now in
    let pieces = g.X.Expand.pieces c.args.expand.now in
    let e : Entry = c.access-entry.result in
    let in_lists : slice_get (one_after_other lists) (number_before lists 0 + c.args.access) ≡ Some e = in_all lists 0 c.args.access e c.access-entry.ensures in
    let some = c.requires.chained.some (number_before lists 0 + c.args.access) e in_lists in
    let count : ℕ = c.count-count.result in
    let more_1 : 1 < count = omega (arith, c.count-count.ensures, some, c.if-count-eq1.false) in
    let more_2 : 2 < count = omega (arith, c.count-count.ensures, some, c.if-count-eq1.false, c.if-count-eq2.false) in
    let more_3 : 3 < count = omega (arith, c.count-count.ensures, some, c.if-count-eq1.false, c.if-count-eq2.false, c.if-count-eq3.false) in
    let sums : n + 1 + 1 + 1 + (count - 3) ≡ n + count = omega (arith, more_3) in
    subst (λ m. IsAlone g.C.Component.serves g.C.Component.floor g.C.Component.stepped g.C.Component.greatest pieces lists first m (standing lists (c.args.access + 1) 0 c.fire_rest-done.new.ended (Some c.fire_rest-done.result)) c.fire_rest-done.new.comps c.fire_rest-done.new.tallies) sums
    (c.fire_rest-done.ensures.fired first (n + 1 + 1 + 1) (subst (λ s. IsAlone g.C.Component.serves g.C.Component.floor g.C.Component.stepped g.C.Component.greatest pieces lists first (n + 1 + 1 + 1) s c.fire_one-third.new.comps c.fire_one-third.new.tallies)
    (A.amid lists c.args.access 2 count (slice_set (slice_set c.args.ended.now 0 c.fire_one-first.result) 1 c.fire_one-second.result) c.args.last c.fire_one-third.result more_3)
    (c.fire_one-third.ensures.fired first (n + 1 + 1) (subst (λ s. IsAlone g.C.Component.serves g.C.Component.floor g.C.Component.stepped g.C.Component.greatest pieces lists first (n + 1 + 1) s c.fire_one-second.new.comps c.fire_one-second.new.tallies)
    (A.amid lists c.args.access 1 count (slice_set c.args.ended.now 0 c.fire_one-first.result) c.args.last c.fire_one-second.result more_2)
    (c.fire_one-second.ensures.fired first (n + 1) (subst (λ s. IsAlone g.C.Component.serves g.C.Component.floor g.C.Component.stepped g.C.Component.greatest pieces lists first (n + 1) s c.fire_one-first.new.comps c.fire_one-first.new.tallies)
    (A.amid lists c.args.access 0 count c.args.ended.now c.args.last c.fire_one-first.result more_1)
    (c.fire_one-first.ensures.fired first (n) a)))))))
