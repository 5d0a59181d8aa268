-- A load that an L1 can't serve alone is of a line that it doesn't have. It leaves a line with its own bytes.
use Rattle.std.proofs.Common.{◌≡◌, ℕ, ◌&&◌, Bool, false, not, List, set, Option, Some, None, is_some, refl, sym, ap, ◌∙◌}
use Rattle.std.specs.Option.{option_map_or}
use Rattle.std.specs.Prelude.{IsSome}
use Rattle.zs_num.specs.Request.{line_at, line_of}
use Rattle.zs_num.specs.declared.request.Request.{Request}
use Rattle.zs_num.specs.declared.request.Request.TheVariants.{Load}
use Rattle.cache_set.specs.declared.letter.Letter.TheVariants.{I}
use Rattle.flat_memory.specs.FlatMemory.{number_in}
use Rattle.home.specs.HomeState.{HomeState, is_marked_by_others}
use Rattle.l1_cache.specs.L1State.{Copy, L1State, answered_in, copy_at, is_private, letter_of, number_of, set_free_in}
use Rattle.shard.specs.BankSteps.{bank_with}
use Rattle.shard.specs.Coherence.{is_alone}
use Rattle.shard.specs.Marks.{bytes_after, marks_after}
use Rattle.shard.specs.SharedStep.{answered, bytes_of, copy_of, l1_of, own_letter, with_l1}
use Rattle.shard.proofs.BankSteps.{answered_by}

none_has : (o : Option Copy) → is_some o ≡ false → I ≡ letter_of o
none_has None none = refl
none_has (Some copy) none = absurd cc

pub load_absent : (l1 : L1State) (request : Request) (addr width : ℕ) → request ≡ Load width addr → is_private l1 request ≡ false → I ≡ letter_of (copy_at l1 (line_of request))
unfolding is_private
load_absent l1 request addr width is shared =
    none_has (copy_at l1 (line_at addr)) (sym (ap (is_private l1) is) ∙ shared) ∙ sym (ap (λ (r : Request). letter_of (copy_at l1 (line_of r))) is)

-- what a line that is there has
pub number_there : (o : Option Copy) (place width : ℕ) → IsSome o → number_of o place width ≡ number_in (bytes_of o) place width
number_there None place width there = absurd cc
number_there (Some copy) place width there = refl

freed_as : (l1 : L1State) (line : ℕ) (free : Bool) (o : Option Copy) → copy_at l1 line ≡ o → IsSome o → set_free_in line free l1 ≡ answered_in line (bytes_of (copy_at l1 line)) free l1
unfolding set_free_in
freed_as l1 line free None e there = absurd cc
freed_as l1 line free (Some copy) e there =
    ap (λ (o : Option Copy). option_map_or (λ copy. answered_in line copy.bytes free l1) o l1) e ∙ sym (ap (λ (o : Option Copy). answered_in line (bytes_of o) free l1) e)

pub loaded_by : (home other : HomeState) (l1s s : List L1State) (core addr width : ℕ) (free : Bool) → bank_with other s ≡ with_l1 core (set_free_in (line_at addr) free) (bank_with other l1s)
    → free ≡ (is_alone (own_letter (bank_with home l1s) core (line_at addr)) && not (is_marked_by_others home.marks core (line_at addr)))
    → IsSome (copy_of (bank_with home l1s) core (line_at addr)) → bank_with home s ≡ answered core (Load width addr) (bank_with home l1s)
unfolding marks_after bytes_after
loaded_by home other l1s s core addr width free is right there =
    let l1 = l1_of (bank_with home l1s) core in
    answered_by home home other l1s s core (Load width addr) (bytes_of (copy_at l1 (line_at addr))) free
    (is ∙ ap (λ (x : L1State). bank_with other (set l1s core x)) (freed_as l1 (line_at addr) free (copy_at l1 (line_at addr)) refl there)) refl refl right there
