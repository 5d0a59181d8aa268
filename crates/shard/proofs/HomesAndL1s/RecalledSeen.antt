-- The sharers of a line give it up: no L1 that is seen has it any more.
use Rattle.std.proofs.Common.{◌≡◌, ℕ, ◌/◌, ◌%◌, ◌<◌, ◌≤◌, Bool, true, false, cond, List, [], ◌∷◌, length, get_or, map, Option, Some, None, refl, sym, ap, ◌∙◌, subst, arith, inl, inr}
use Rattle.std.specs.List.{IsDistinct}
use Rattle.std.specs.Map.{keys_of}
use Rattle.std.specs.Prelude.{IsTrue, nat_eq}
use Rattle.std.specs.Set.{is_member}
use Rattle.std.proofs.lemmas.Bool.{cases_eq, cases_lt, eq-eqb, ne_eqb}
use Rattle.std.proofs.lemmas.List.{get_or_past, length-map}
use Rattle.cache_set.specs.Ways.{kept_of, without}
use Rattle.shard.specs.Coherence.{is_valid}
use Rattle.home.specs.HomeState.{row_of, with_bytes_at}
use Rattle.l1_cache.specs.L1State.{Copy, L1State, copies_at, copy_at, given_up_in, letter_of, no_l1}
use Rattle.shard.specs.PartsLaws.{AreParts, IsOwn}
use Rattle.shard.specs.Seen.{caches_seen, letters_in, sets_seen}
use Rattle.shard.specs.SharedStep.{Bank, collected, copy_of, given_up_by, l1_of, with_l1}
use Rattle.shard.proofs.CoherentLines.{kept_without_same, set_same}
use Rattle.shard.proofs.HomesAndL1s.FitOf.{fit_of}
use Rattle.shard.proofs.HomesAndL1s.FoldIsMap.{fold_is_map, given_up_l1s, no_given_up}
use Rattle.shard.proofs.HomesAndL1s.LettersSeen.{copies_seen, copy_valid}
use Rattle.shard.proofs.HomesAndL1s.RowsSeen.{in_set_same}

pub without_absent : {X : Type 0} (line : ℕ) (s : List (ℕ × X)) → kept_of line s ≡ None → without line s ≡ s
without_absent line [] none = refl
without_absent {X} line (e ∷ s) none =
    elim (cases_eq line e.0) as (λ _. cond (nat_eq line e.0) s (e ∷ without line s) ≡ e ∷ s) [
      | inl same ↦ let bad : Some e.1 ≡ None = rw (eq-eqb line e.0 same) at none in absurd cc
      | inr apart ↦
          let rest : kept_of line s ≡ None = rw (ne_eqb line e.0 apart) at none in
          ap (λ (b : Bool). cond b s (e ∷ without line s)) (ne_eqb line e.0 apart) ∙ ap (λ (es : List (ℕ × X)). e ∷ es) (without_absent line s rest)
    ]

pub keys_seen : (s : List (ℕ × Copy)) → keys_of (letters_in s) ≡ keys_of s
keys_seen [] = refl
keys_seen (e ∷ s) = ap (λ (ks : List ℕ). e.0 ∷ ks) (keys_seen s)

-- an L1 that does not have the line
pub given_up_absent : (line : ℕ) (l1 : L1State) → copy_at l1 line ≡ None → given_up_in line l1 ≡ l1
unfolding given_up_in copy_at
given_up_absent line l1 none =
    ap (λ (sets : List (List (ℕ × Copy))). record l1 { sets = sets }) (in_set_same l1.shards line (without line) l1.sets (without_absent line (copies_at l1 line) none))

-- a line that was given up is there no more
pub given_up_gone : (line : ℕ) (l1 : L1State) → 1 ≤ length l1.sets → IsDistinct nat_eq (keys_of (copies_at l1 line)) → copy_at (given_up_in line l1) line ≡ None
unfolding given_up_in copy_at
given_up_gone line l1 some distinct =
    ap (kept_of line) (set_same l1.shards line (without line) l1.sets some) ∙ kept_without_same line (copies_at l1 line) distinct

pub invalid : (o : Option Copy) → ((copy : Copy) → o ≡ Some copy → is_valid copy.letter ≡ true) → is_valid (letter_of o) ≡ false → o ≡ None
invalid None valid h = refl
invalid (Some copy) valid h = let bad : true ≡ false = sym (valid copy refl) ∙ h in absurd cc

-- only bytes of the home change
pub given_up_home : (line : ℕ) (cores : List ℕ) (p : Bank) → (given_up_by line cores p).home ≡ record p.home { bytes = (given_up_by line cores p).home.bytes }
unfolding with_bytes_at
given_up_home line [] p = refl
given_up_home line (core ∷ cores) p = given_up_home line cores (with_l1 core (given_up_in line) (collected line core p))

module _ (p : Bank) (are : AreParts p) (line : ℕ) (own : IsOwn p line) where
  many_cores : (k : ℕ) → k < length p.l1s → k < length (caches_seen p).l1
  unfolding caches_seen
  many_cores k within = omega (arith, within, length-map p.l1s (sets_seen p.home))

  pub distinct_at : (k : ℕ) → k < length p.l1s → IsDistinct nat_eq (keys_of (copies_at (l1_of p k) line))
  distinct_at k within =
      let c = caches_seen p in
      let sets = get_or c.l1 k [] in
      let many : k < length c.l1 = many_cores k within in
      let place : line / p.home.shards % length sets < length sets = let l = are.room.l1_sets k many in omega arith in
      subst (λ (ks : List ℕ). IsDistinct nat_eq ks) (ap (λ s. keys_of s) (copies_seen p (fit_of p are) k line own) ∙ keys_seen (copies_at (l1_of p k) line))
      (are.coherent.sets.l1 k [] many (line / p.home.shards % length sets) [] place).distinct

  pub again : (k : ℕ) → given_up_in line (given_up_in line (l1_of p k)) ≡ given_up_in line (l1_of p k)
  again k =
      elim (cases_lt k (length p.l1s)) as (λ _. given_up_in line (given_up_in line (l1_of p k)) ≡ given_up_in line (l1_of p k)) [
        | inl l ↦ given_up_absent line (given_up_in line (l1_of p k)) (given_up_gone line (l1_of p k) (omega (arith, ((fit_of p are).each k l).room)) (distinct_at k l))
        | inr past ↦ subst (λ (l1 : L1State). given_up_in line (given_up_in line l1) ≡ given_up_in line l1) (sym (get_or_past p.l1s k no_l1 past)) (ap (given_up_in line) (no_given_up line))
      ]

  -- a core that is not named does not have it
  pub absent : (k : ℕ) → is_member nat_eq (row_of p.home line).sharers k ≡ false → copy_of p k line ≡ None
  absent k none =
      invalid (copy_of p k line) (λ copy e. valid (copy_valid p are k line copy own e)) (sym (are.holds k line own) ∙ none) where
        valid : {b : Bool} → IsTrue b → b ≡ true
        valid {b = true} h = refl
        valid {b = false} h = absurd cc

  others : (k : ℕ) → is_member nat_eq (row_of p.home line).sharers k ≡ false → given_up_in line (l1_of p k) ≡ l1_of p k
  others k none = given_up_absent line (l1_of p k) (absent k none)

  -- all of them, and no other
  pub given_up_is_map : (given_up_by line (row_of p.home line).sharers p).l1s ≡ map (given_up_in line) p.l1s
  given_up_is_map =
      given_up_l1s line (row_of p.home line).sharers p ∙ fold_is_map no_l1 (given_up_in line) (no_given_up line) (row_of p.home line).sharers p.l1s again others
