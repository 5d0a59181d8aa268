use Rattle.std.proofs.Common.{◌≡◌, ℕ, List, ◌∷◌, [], length, All, sym, ap, subst, ◌∙◌, arith}
use Rattle.std.specs.Prelude.{Some, slice_get}
use Rattle.std.proofs.lemmas.List.{length-append}
use Rattle.std.proofs.lemmas.List.Elements.{All-push}
use Rattle.machine_desc.specs.InstructionCaches.{has_l1i}
use Rattle.bound_core.specs.NumberedCores.{NumberedCore}
use Rattle.bound_phase.specs.Bounds.{IsBeforeInterval}
use Rattle.table_tests.proofs.FirstCores.{each_pushed, starts_first}
use Rattle.table_tests.proofs.first_interval.first_cores.Goals as goal

pub loop-number-preserved : goal.loop-number-preserved
loop-number-preserved c =
    let machine = c.args.machine.now in
    let was : List NumberedCore = c.loop-number.cores.items in
    let one : NumberedCore = c.in_ok-new.field-0 in
    let made = c.in_ok-new.ensures in
    let items = c.in_ok-push.ensures.items in
    let before = c.loop-number.invariant in
    record {
      count = omega (arith, ap length items, length-append was (one ∷ []), before.count);
      numbers = subst (λ (cores : List NumberedCore). (number : ℕ) (x : NumberedCore) → slice_get cores number ≡ Some x → x.number ≡ number) (sym items)
          (each_pushed (λ i x. x.number ≡ i) was one before.numbers (made.number ∙ sym before.count));
      at_start = subst (All (IsBeforeInterval machine machine.interval)) (sym items)
          (All-push (IsBeforeInterval machine machine.interval) was one before.at_start (starts_first machine c.args.image.now c.loop-number.number one made.timed made.base made.size));
      fetching = subst (All (λ (x : NumberedCore). x.timed.core.fetching ≡ has_l1i machine)) (sym items) (All-push (λ (x : NumberedCore). x.timed.core.fetching ≡ has_l1i machine) was one before.fetching made.fetching);
    }
