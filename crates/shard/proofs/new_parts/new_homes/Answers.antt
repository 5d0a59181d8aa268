use Rattle.std.proofs.Common.{ℕ, ◌∷◌, [], ◌++◌, List, map, sym, ap, ◌∙◌, arith}
use Rattle.std.specs.List.{range_with_len}
use Rattle.std.proofs.lemmas.List.FromFn.{map-range_with_len_more}
use Rattle.home.specs.HomeState.{HomeState}
use Rattle.shard.specs.NewParts.{home_of_bank}
use Rattle.shard.proofs.new_parts.new_homes.Goals as goal

pub loop-number-preserved : goal.loop-number-preserved
loop-number-preserved c =
    let machine = c.args.machine.now in
    let image = c.args.image.now in
    let n = c.loop-number.number in
    let one = c.in_ok-new_home.field-0 in
    c.in_ok-push.ensures.items
    ∙ ap (λ (homes : List HomeState). homes ++ one ∷ []) c.loop-number.invariant
    ∙ ap (λ (home : HomeState). map (λ number. home_of_bank machine number image) (range_with_len 0 n) ++ home ∷ []) c.in_ok-new_home.ensures
    ∙ sym (map-range_with_len_more (λ (number : ℕ). home_of_bank machine number image) 0 n n (omega arith))
