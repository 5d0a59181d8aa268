use Rattle.std.proofs.Common.{◌≡◌, ◌<◌, ◌+◌, ◌∙◌, ℕ, Bool, List, Option, None, option_map, length, get_or, drop, sym, ap}
use Rattle.std.specs.List.{position}
use Rattle.std.specs.Option.{option_or}
use Rattle.std.proofs.lemmas.List.{drop_more, take_rest}
use Rattle.elf_load.specs.Checks.{first_pair, overlaps}
use Rattle.elf_load.proofs.checks.overlap_refusal.Goals as goal

-- where the element at a place is the first of no pair, the first pair begins behind it
behind_one : {X : Type 0} (test : X → X → Bool) (xs : List X) (i : ℕ) (d : X)
    → i < length xs → position (test (get_or xs i d)) (drop (i + 1) xs) ≡ None
    → first_pair test i (drop i xs) ≡ first_pair test (i + 1) (drop (i + 1) xs)
behind_one test xs i d there none =
    ap (first_pair test i) (drop_more xs i d there)
    ∙ ap (λ (o : Option ℕ). option_or (option_map (λ k. (i, i + 1 + k)) o) (first_pair test (i + 1) (drop (i + 1) xs))) none

pub loop-first-preserved : goal.loop-first-preserved
loop-first-preserved c =
    let headers = c.args.headers.now in
    let first = c.loop-first.first in
    let none = ap (position _) (sym (take_rest headers (first + 1))) ∙ sym c.in_default.ensures.value in
    sym (behind_one overlaps headers first _ c.loop-first-test.true none) ∙ c.loop-first.invariant
