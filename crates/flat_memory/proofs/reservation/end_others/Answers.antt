use Rattle.std.proofs.Common.{◌≡◌, ◌<◌, ◌==◌, ◌∙◌, None, ap, arith, get_or, inl, inr, length, set}
use Rattle.std.proofs.lemmas.Bool.{cases_eq}
use Rattle.std.proofs.lemmas.List.{get_or-set_same, get_or-set_other}
use Rattle.flat_memory.specs.FlatMemory.{unless_written}
use Rattle.flat_memory.proofs.AfterWrite.{after_write_is}
use Rattle.flat_memory.proofs.reservation.end_others.Goals as goal

pub returns : goal.returns
returns c =
    after_write_is c.args.core c.args.addr c.args.reservations.now c.loop-number.reservations c.loop-number.auto.reservations
    (λ i h. c.loop-number.invariant.done i (omega (arith, h, c.loop-number-test.false, c.loop-number.auto.number-end)))

pub loop-number-preserved : goal.loop-number-preserved
loop-number-preserved c =
    let n = c.loop-number.number in
    let left = c.loop-number.reservations in
    let so_far = c.loop-number.invariant in
    let within : n < length left = omega arith in
    record {
      done = λ i below.
          elim (cases_eq i n) as (λ _. get_or (set left n c.still.result) i None ≡ unless_written (i == c.args.core) c.args.addr (get_or c.args.reservations.now i None)) [
            | inl e ↦ rw e (get_or-set_same left n c.still.result None within
                ∙ (rw c.from.ensures at c.still.ensures ∙ ap (unless_written (n == c.args.core) c.args.addr) (so_far.rest n (omega arith))))
            | inr e ↦ get_or-set_other left n i c.still.result None e ∙ so_far.done i (omega (arith, below, e))
          ];
      rest = λ i above. get_or-set_other left n i c.still.result None (λ e. absurd (omega (arith, e, above))) ∙ so_far.rest i (omega (arith, above));
    }
