use Rattle.std.proofs.Common.{◌≡◌, ℕ, ◌<◌, List, true, false, length, not, refl, sym, ◌∙◌, subst, arith, tests}
use Rattle.std.specs.Prelude.{nat_eq}
use Rattle.cache_set.proofs.Rows.{value_at}
use Rattle.cache_set.proofs.SetsInArrays.{all_past}
use Rattle.cache_set.proofs.Pieces.{within_pieces}
use Rattle.cache_set.specs.Places.{IsNext}
use Rattle.cache_set.proofs.tags.Tags.enter.Goals as goal

pub next_age-age-requires-clause-past : goal.next_age-age-requires-clause-past
next_age-age-requires-clause-past c = all_past c.requires.are.aged

live_of : (age : ℕ) → not (nat_eq age 0) ≡ true → 0 < age
live_of age is = grind (arith, tests)

free_of : (age : ℕ) → not (nat_eq age 0) ≡ false → age ≡ 0
free_of age is = grind (arith, tests)

pub returns-clause-entered : goal.returns-clause-entered
returns-clause-entered c =
    let sets = c.args.self.now.sets in
    let ways = c.args.self.now.ways in
    let anew = c.next_age-age.new.ages.items in
    let p = c.next_from-place.result in
    let below : p < length anew
    = omega (arith, c.next_from-place.ensures.to, within_pieces sets ways c.set_number-set.result c.set_number-set.ensures.within, c.next_age-age.ensures.all) in
    let is = value_at anew p c.index.result.now below c.index.ensures in
    rw c.next_age-age.ensures.tick
    (record {
      put = record {
        anew = anew;
        order = c.next_age-age.ensures.order;
        long = c.next_age-age.ensures.all;
        later = c.next_age-age.ensures.later;
        early = c.next_age-age.ensures.early;
        next = subst (λ (n : ℕ). IsNext ways anew n p) c.set_number-set.ensures.value
            (subst (λ (ages : List ℕ). IsNext ways ages c.set_number-set.result p) c.deref.ensures.value c.next_from-place.ensures);
        ages_are = refl;
        tags_are = refl;
      };
      live_was = λ live. subst (λ (age : ℕ). 0 < age) (sym is) (live_of c.index.result.now live);
      free_was = λ free. is ∙ free_of c.index.result.now free;
    })
