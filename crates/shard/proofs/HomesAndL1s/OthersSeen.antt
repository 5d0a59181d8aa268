-- All L1s but the core's own do a step on one line: what is seen of it.
use Rattle.std.proofs.Common.{◌≡◌, ◌≢◌, ℕ, ◌<◌, Bool, true, false, cond, List, [], length, get_or, map, refl, sym, ap, ◌∙◌, subst, arith, inl, inr}
use Rattle.std.specs.List.{enumerate_from}
use Rattle.std.specs.Prelude.{nat_eq, nat_lt}
use Rattle.std.proofs.lemmas.Bool.{cases_eq, eq-eqb, ne_eqb}
use Rattle.std.proofs.lemmas.List.{ext_get_or, get_or-map, length-map}
use Rattle.std.proofs.lemmas.List.FromFn.{length-enumerate_from}
use Rattle.cache_set.specs.declared.letter.Letter.{Letter}
use Rattle.shard.specs.Coherence.{letter_in, others_changed, with_letter}
use Rattle.home.specs.HomeState.{HomeState}
use Rattle.l1_cache.specs.L1State.{L1State, no_l1}
use Rattle.cache_set.specs.Lines.{in_set_of}
use Rattle.shard.specs.Seen.{caches_seen, instructions_seen, part_of, sets_seen}
use Rattle.shard.specs.SharedStep.{Bank}
use Rattle.shard.proofs.CoherentLists.{numbered_at}
use Rattle.shard.proofs.HomesAndL1s.ListsSeen.{parts_seen}
use Rattle.shard.proofs.HomesAndL1s.OtherBank.{map_as}
use Rattle.shard.proofs.HomesAndL1s.PartOf.{part_sets}

-- a step of an L1 that changes its copies alone
pub record KeepsRest (f : L1State → L1State) : Type 0 where
  pub shards : (l1 : L1State) → (f l1).shards ≡ l1.shards
  pub ways : (l1 : L1State) → (f l1).ways ≡ l1.ways
  pub l1i_ways : (l1 : L1State) → (f l1).l1i_ways ≡ l1.l1i_ways
  pub l1i : (l1 : L1State) → (f l1).l1i ≡ l1.l1i

abbrev pub bank_of_parts : HomeState → List L1State → Bank
bank_of_parts home l1s = record { home = home; l1s = l1s }

module _ (home : HomeState) (l1s after : List L1State) (core line : ℕ) (f : L1State → L1State) (keeps : KeepsRest f) (long : length after ≡ length l1s)
    (own_at : get_or after core no_l1 ≡ get_or l1s core no_l1) (others_at : (k : ℕ) → k ≢ core → get_or after k no_l1 ≡ f (get_or l1s k no_l1)) where
  rest_same : {Y : Type 0} (q : L1State → Y) → ((l1 : L1State) → q (f l1) ≡ q l1) → (k : ℕ) → q (get_or after k no_l1) ≡ q (get_or l1s k no_l1)
  rest_same {Y = Y} q same k =
      elim (cases_eq k core) as (λ _. q (get_or after k no_l1) ≡ q (get_or l1s k no_l1)) [
        | inl e ↦ subst (λ (j : ℕ). q (get_or after j no_l1) ≡ q (get_or l1s j no_l1)) (sym e) (ap q own_at)
        | inr e ↦ ap q (others_at k e) ∙ same (get_or l1s k no_l1)
      ]

  abbrev i : L1State → List (List (ℕ × Unit {0}))
  i x = (part_of home.shards home.number x).l1i

  i_same : (l1 : L1State) → i (f l1) ≡ i l1
  i_same l1 =
      ap (λ (z : ℕ). part_sets z home.shards home.number (f l1).l1i) (keeps.shards l1) ∙ ap (part_sets l1.shards home.shards home.number) (keeps.l1i l1)

  fetched : instructions_seen home after ≡ instructions_seen home l1s
  fetched =
      ap (λ (z : ℕ). cond (nat_lt 0 z) (map i after) []) (rest_same (λ x. length x.l1i) (λ l1. ap (λ s. length s) (keeps.l1i l1)) 0)
      ∙ ap (λ m. cond (nat_lt 0 (length (get_or l1s 0 no_l1).l1i)) m []) (map_as no_l1 i after l1s long (rest_same i i_same))

  module _ (change : Letter → Letter) where
    abbrev h : List (List (ℕ × Letter)) → List (List (ℕ × Letter))
    h sets = in_set_of home.shards line (λ copies. with_letter line (change (letter_in line copies)) copies) sets

    abbrev g : ℕ × List (List (ℕ × Letter)) → List (List (ℕ × Letter))
    g at = cond (nat_eq at.0 core) at.1 (h at.1)

    nothing : (b : Bool) → cond b [] (h []) ≡ []
    nothing true = refl
    nothing false = refl

    module _ (each : (k : ℕ) → k < length l1s → k ≢ core → sets_seen home (f (get_or l1s k no_l1)) ≡ h (sets_seen home (get_or l1s k no_l1))) where
      place : (k : ℕ) → k < length l1s → sets_seen home (get_or after k no_l1) ≡ g (k, sets_seen home (get_or l1s k no_l1))
      place k within =
          elim (cases_eq k core) as (λ _. sets_seen home (get_or after k no_l1) ≡ g (k, sets_seen home (get_or l1s k no_l1))) [
            | inl e ↦
                subst (λ (j : ℕ). sets_seen home (get_or after j no_l1) ≡ sets_seen home (get_or l1s j no_l1)) (sym e) (ap (sets_seen home) own_at)
                ∙ sym (ap (λ (b : Bool). cond b (sets_seen home (get_or l1s k no_l1)) (h (sets_seen home (get_or l1s k no_l1)))) (eq-eqb k core e))
            | inr e ↦
                ap (sets_seen home) (others_at k e)
                ∙ (each k within e
                ∙ sym (ap (λ (b : Bool). cond b (sets_seen home (get_or l1s k no_l1)) (h (sets_seen home (get_or l1s k no_l1)))) (ne_eqb k core e)))
          ]

      all : map (sets_seen home) after ≡ map g (enumerate_from 0 (map (sets_seen home) l1s))
      all =
          let s : L1State → List (List (ℕ × Letter)) = sets_seen home in
          let seen : List (List (List (ℕ × Letter))) = map s l1s in
          ext_get_or [] (map s after) (map g (enumerate_from 0 seen))
          (length-map after s ∙ (long ∙ sym (length-map (enumerate_from 0 seen) g ∙ (length-enumerate_from 0 seen ∙ length-map l1s s))))
          (λ k inside. let within : k < length l1s = omega (arith, inside, length-map after s, long) in
          get_or-map s after k no_l1 [] (omega (arith, within, long))
          ∙ (place k within
          ∙ (ap (λ (x : List (List (ℕ × Letter))). g (k, x)) (sym (get_or-map s l1s k no_l1 [] within))
          ∙ sym (numbered_at g seen k (nothing (nat_eq k core))))))

      pub others_seen : caches_seen (bank_of_parts home after) ≡ others_changed change core line (caches_seen (bank_of_parts home l1s))
      unfolding caches_seen others_changed
      others_seen =
          parts_seen home after (get_or l1s 0 no_l1).ways (get_or l1s 0 no_l1).l1i_ways (map g (enumerate_from 0 (map (sets_seen home) l1s))) (instructions_seen home l1s)
          (rest_same (λ x. x.ways) keeps.ways 0) (rest_same (λ x. x.l1i_ways) keeps.l1i_ways 0) all fetched
