use Rattle.std.proofs.Common.{ℕ, ◌∷◌, [], ◌++◌, List, map, sym, ap, ◌∙◌, arith}
use Rattle.std.specs.List.{range_with_len}
use Rattle.std.proofs.lemmas.List.{map-append}
use Rattle.std.proofs.lemmas.List.FromFn.{map-range_with_len_more}
use Rattle.bound_core.specs.TimedCore.{TimedCore, first_core}
use Rattle.bound_core.specs.NumberedCores.{NumberedCore, timed_of}
use Rattle.run.proofs.Cores.{range_more}
use Rattle.run.proofs.simulation.first_cores.Goals as goal

pub loop-number-preserved : goal.loop-number-preserved
loop-number-preserved c =
    let machine = c.args.machine.now in
    let image = c.args.image.now in
    let was = c.loop-number.cores.items in
    let n = c.loop-number.number in
    let one = c.in_ok-new.field-0 in
    let items = c.in_ok-push.ensures.items in
    record {
      timed = ap timed_of items ∙ map-append (λ (x : NumberedCore). x.timed) was (one ∷ [])
          ∙ ap (λ (cs : List TimedCore). cs ++ one.timed ∷ []) c.loop-number.invariant.timed
          ∙ ap (λ (t : TimedCore). map (first_core machine image) (range_with_len 0 n) ++ t ∷ []) c.in_ok-new.ensures.timed
          ∙ sym (map-range_with_len_more (first_core machine image) 0 n n (omega arith));
      numbered = ap (map (λ (x : NumberedCore). x.number)) items ∙ map-append (λ (x : NumberedCore). x.number) was (one ∷ [])
          ∙ ap (λ (ns : List ℕ). ns ++ one.number ∷ []) c.loop-number.invariant.numbered
          ∙ ap (λ (number : ℕ). range_with_len 0 n ++ number ∷ []) c.in_ok-new.ensures.number
          ∙ sym (range_more 0 n n (omega arith));
    }
