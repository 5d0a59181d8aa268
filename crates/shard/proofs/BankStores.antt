-- A store writes where the line stands.
use Rattle.std.proofs.Common.{◌≡◌, ℕ, ◌&&◌, Bool, not, List, set, Option, Some, None, refl, sym, ap, ◌∙◌}
use Rattle.std.specs.Option.{option_map_or}
use Rattle.std.specs.Prelude.{IsSome}
use Rattle.zs_num.specs.Request.{line_at}
use Rattle.zs_num.specs.declared.request.Request.TheVariants.{Store}
use Rattle.flat_memory.specs.FlatMemory.{after_write, with_number}
use Rattle.home.specs.HomeState.{HomeState, is_marked_by_others}
use Rattle.l1_cache.specs.L1State.{Copy, L1State, answered_in, copy_at, place_in_line, written_in}
use Rattle.shard.specs.BankSteps.{bank_with}
use Rattle.shard.specs.Coherence.{is_alone}
use Rattle.shard.specs.Marks.{bytes_after, marks_after}
use Rattle.shard.specs.SharedStep.{answered, bytes_of, copy_of, l1_of, own_letter, with_l1}
use Rattle.shard.proofs.BankSteps.{answered_by}

wrote_as : (l1 : L1State) (addr width value : ℕ) (free : Bool) (o : Option Copy) → copy_at l1 (line_at addr) ≡ o → IsSome o
    → written_in addr width value free l1 ≡ answered_in (line_at addr) (with_number (bytes_of (copy_at l1 (line_at addr))) (place_in_line addr) width value) free l1
unfolding written_in
wrote_as l1 addr width value free None e there = absurd cc
wrote_as l1 addr width value free (Some copy) e there =
    ap (λ (o : Option Copy). option_map_or (λ copy. answered_in (line_at addr) (with_number copy.bytes (place_in_line addr) width value) free l1) o l1) e
    ∙ sym (ap (λ (o : Option Copy). answered_in (line_at addr) (with_number (bytes_of o) (place_in_line addr) width value) free l1) e)

pub stored_by : (home now other : HomeState) (l1s s : List L1State) (core addr width value : ℕ) (free : Bool) → bank_with other s ≡ with_l1 core (written_in addr width value free) (bank_with other l1s)
    → now ≡ record home { marks = after_write core addr home.marks }
    → free ≡ (is_alone (own_letter (bank_with home l1s) core (line_at addr)) && not (is_marked_by_others now.marks core (line_at addr)))
    → IsSome (copy_of (bank_with home l1s) core (line_at addr)) → bank_with now s ≡ answered core (Store width addr value) (bank_with home l1s)
unfolding marks_after bytes_after
stored_by home now other l1s s core addr width value free is ended right there =
    let l1 = l1_of (bank_with home l1s) core in
    answered_by home now other l1s s core (Store width addr value) (with_number (bytes_of (copy_at l1 (line_at addr))) (place_in_line addr) width value) free
    (is ∙ ap (λ (x : L1State). bank_with other (set l1s core x)) (wrote_as l1 addr width value free (copy_at l1 (line_at addr)) refl there)) ended refl right there
