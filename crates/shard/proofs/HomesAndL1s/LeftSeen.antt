-- The other cores give a line up that one core writes: what is seen of it.
use Rattle.std.proofs.Common.{◌≡◌, ◌≢◌, ℕ, ◌%◌, ◌<◌, true, List, length, get_or, refl, sym, ap, ◌∙◌, inl, inr}
use Rattle.std.specs.Prelude.{nat_eq}
use Rattle.std.specs.Set.{is_member}
use Rattle.std.proofs.lemmas.Bool.{cases_Bool}
use Rattle.cache_set.specs.Ways.{without}
use Rattle.shard.specs.Coherence.{letter_in, other_after, others_changed, with_letter}
use Rattle.home.specs.HomeState.{HomeState, row_of}
use Rattle.l1_cache.specs.L1State.{L1State, copies_at, given_up_in, no_l1}
use Rattle.cache_set.specs.Lines.{in_set_of}
use Rattle.shard.specs.PartsLaws.{AreParts, IsOwn}
use Rattle.shard.specs.Seen.{caches_seen, sets_seen}
use Rattle.shard.specs.SharedStep.{Bank, given_up_by, l1_of, others_of}
use Rattle.shard.proofs.HomesAndL1s.Fit.{AreFit, fit_home}
use Rattle.shard.proofs.HomesAndL1s.FitOf.{fit_of}
use Rattle.shard.proofs.HomesAndL1s.FoldAt.{fold_named, fold_unnamed, not_own}
use Rattle.shard.proofs.HomesAndL1s.FoldIsMap.{fold_long, given_up_l1s, no_given_up, one_after_the_other}
use Rattle.shard.proofs.HomesAndL1s.LettersSeen.{letter_kept}
use Rattle.shard.proofs.HomesAndL1s.ListsSeen.{seen_without, sets_changed}
use Rattle.shard.proofs.HomesAndL1s.OthersSeen.{KeepsRest, bank_of_parts, others_seen}
use Rattle.shard.proofs.HomesAndL1s.RecalledSeen.{absent, again, given_up_absent, given_up_home}
use Rattle.shard.proofs.HomesAndL1s.Untouched.{member_without}

pub given_up_keeps : (line : ℕ) → KeepsRest (given_up_in line)
unfolding given_up_in
given_up_keeps line = record { shards = λ l1. refl; ways = λ l1. refl; l1i_ways = λ l1. refl; l1i = λ l1. refl }

module _ (p : Bank) (are : AreParts p) (core line : ℕ) (own : IsOwn p line) where
  abbrev pub others : List ℕ
  others = others_of core (row_of p.home line)

  abbrev pub left : List L1State
  left = one_after_the_other no_l1 (given_up_in line) (no_given_up line) others p.l1s

  pub left_own : get_or left core no_l1 ≡ l1_of p core
  left_own = fold_unnamed no_l1 (given_up_in line) (no_given_up line) others p.l1s core (not_own core (row_of p.home line).sharers)

  pub left_at : (k : ℕ) → k ≢ core → get_or left k no_l1 ≡ given_up_in line (l1_of p k)
  left_at k apart =
      elim (cases_Bool (is_member nat_eq others k)) as (λ _. get_or left k no_l1 ≡ given_up_in line (l1_of p k)) [
        | inl t ↦ fold_named no_l1 (given_up_in line) (no_given_up line) others p.l1s k t (again p are line own k)
        | inr t ↦
            fold_unnamed no_l1 (given_up_in line) (no_given_up line) others p.l1s k t
            ∙ sym (given_up_absent line (l1_of p k) (absent p are line own k (sym (member_without core k (row_of p.home line).sharers (λ e. apart (sym e))) ∙ t)))
      ]

  -- the core's own L1 stays, whatever the home
  pub left_core : (q : Bank) → q.l1s ≡ p.l1s → l1_of (given_up_by line others q) core ≡ l1_of p core
  left_core q same =
      ap (λ (l1s : List L1State). get_or l1s core no_l1) (given_up_l1s line others q)
      ∙ (ap (λ (l1s : List L1State). get_or (one_after_the_other no_l1 (given_up_in line) (no_given_up line) others l1s) core no_l1) same
      ∙ left_own)

  module _ (home : HomeState) (count : home.shards ≡ p.home.shards) (number : home.number ≡ p.home.number) where
    fit : AreFit (bank_of_parts home p.l1s)
    fit = fit_home p home (fit_of p are) count number

    own_here : IsOwn (bank_of_parts home p.l1s) line
    own_here = ap (λ (z : ℕ). line % z) count ∙ (own ∙ sym number)

    each : (k : ℕ) → k < length p.l1s → k ≢ core
        → sets_seen home (given_up_in line (l1_of p k)) ≡ in_set_of home.shards line (λ copies. with_letter line (other_after true (letter_in line copies)) copies) (sets_seen home (l1_of p k))
    unfolding given_up_in
    each k within apart =
        sets_changed (bank_of_parts home p.l1s) fit k line within own_here (without line) (λ copies. with_letter line (other_after true (letter_in line copies)) copies)
        (seen_without letter_kept line (copies_at (l1_of p k) line))

    pub left_seen : caches_seen (given_up_by line others (bank_of_parts home p.l1s)) ≡ others_changed (other_after true) core line (caches_seen (bank_of_parts home p.l1s))
    unfolding caches_seen
    left_seen =
        let after : Bank = given_up_by line others (bank_of_parts home p.l1s) in
        ap (λ (h : HomeState). caches_seen (bank_of_parts h after.l1s)) (given_up_home line others (bank_of_parts home p.l1s))
        ∙ (ap (λ (l1s : List L1State). caches_seen (bank_of_parts home l1s)) (given_up_l1s line others (bank_of_parts home p.l1s))
        ∙ others_seen home p.l1s left core line (given_up_in line) (given_up_keeps line) (fold_long no_l1 (given_up_in line) (no_given_up line) others p.l1s) left_own left_at (other_after true) each)
