-- What an L1 has of one shard's lines: an L1 that has the sets of all shards, or those of that shard alone.
use Rattle.std.proofs.Common.{◌≡◌, ◌≢◌, ℕ, ◌+◌, ◌*◌, ◌/◌, ◌%◌, ◌<◌, ◌⊎◌, List, [], ◌∷◌, length, get_or, map, refl, sym, ap, ◌∙◌, subst, arith, inl, inr}
use Rattle.std.specs.List.{range_with_len}
use Rattle.std.proofs.Math.ListN as listn
use Rattle.std.proofs.Math.Nat.{div-add-mod, mod-eq_of_lt, mul-div_cancel}
use Rattle.std.proofs.lemmas.Bool.{cases_lt}
use Rattle.std.proofs.lemmas.List.FromFn.{get_or-map-range_with_len, length-map-range_with_len}
use Rattle.std.proofs.lemmas.List.{ext_get_or, length-set}
use Rattle.std.proofs.lemmas.Nat.{div-mul-add, mod-mul-add}
use Rattle.cache_set.specs.Lines.{in_set_of, set_number, set_of}
use Rattle.shard.specs.Seen.{sets_of_shard}
use Rattle.shard.proofs.CoherentLines.{set_other}
use Rattle.shard.proofs.HomesAndL1s.PartReads.{part_reads, part_set}
use Rattle.shard.proofs.StandsForSets.{same_rest}

pub map_same : {X Y : Type 0} (f g : X → Y) (l : List X) → ((x : X) → f x ≡ g x) → map f l ≡ map g l
map_same f g [] same = refl
map_same f g (x ∷ l) same = ap (λ y. y ∷ map f l) (same x) ∙ ap (λ ys. g x ∷ ys) (map_same f g l same)

module _ {X : Type 0} where
  -- the sets of one shard, of so many, as Seen has them
  abbrev pub part_sets : (d n b : ℕ) → List (List X) → List (List X)
  part_sets d n b sets = map (λ k. set_of d (k * n + b) sets) (range_with_len 0 (sets_of_shard n (length sets) d))

  pub no_sets : (sets : List (List X)) → length sets ≡ 0 → sets ≡ []
  no_sets [] e = refl
  no_sets (s ∷ sets) e = absurd (omega arith)

  module _ (n b : ℕ) (some : 0 < n) (below : b < n) where
    -- ---- whole sets
    module _ (sets : List (List X)) (fits : length sets * 1 % n ≡ 0) where
      pub count_is : length sets ≡ n * (length sets * 1 / n)
      count_is = omega (arith, div-add-mod (length sets * 1) n)

      some_part : 0 < length sets → 0 < length sets * 1 / n
      some_part l =
          elim (cases_lt 0 (length sets * 1 / n)) as (λ _. 0 < length sets * 1 / n) [
            | inl h ↦ h
            | inr none ↦
                let zero_part : length sets * 1 / n ≡ 0 = omega arith in
                let long : length sets ≡ 0 = count_is ∙ (ap (λ (z : ℕ). n * z) zero_part ∙ omega arith) in
                absurd (omega arith)
          ]

      pub whole_reads : (line : ℕ) → line % n ≡ b → set_of n line (part_sets 1 n b sets) ≡ set_of 1 line sets
      whole_reads line own =
          elim (cases_lt 0 (length sets)) as (λ _. set_of n line (part_sets 1 n b sets) ≡ set_of 1 line sets) [
            | inl l ↦ part_reads n (length sets * 1 / n) b some (some_part l) below sets count_is line own
            | inr none ↦
                let nothing : List (List X) = [] in
                subst (λ (s : List (List X)). set_of n line (part_sets 1 n b s) ≡ set_of 1 line s) (sym (no_sets sets (omega arith)))
                (listn.get_or-map (λ (k : ℕ). set_of 1 (k * n + b) nothing) (range_with_len 0 (0 * 1 / n)) (line / n % length (part_sets 1 n b nothing)) 0)
          ]

      pub whole_set : (change : List X → List X) (line : ℕ) → line % n ≡ b → 0 < length sets → part_sets 1 n b (in_set_of 1 line change sets) ≡ in_set_of n line change (part_sets 1 n b sets)
      whole_set change line own l =
          ap (λ (z : ℕ). map (λ k. set_of 1 (k * n + b) (in_set_of 1 line change sets)) (range_with_len 0 (z * 1 / n))) (length-set sets (set_number 1 line sets) (change (set_of 1 line sets)))
          ∙ part_set n (length sets * 1 / n) b some (some_part l) below sets count_is change line own

      -- a line of another shard
      pub whole_apart : (change : List X → List X) (line : ℕ) → line % n ≢ b → part_sets 1 n b (in_set_of 1 line change sets) ≡ part_sets 1 n b sets
      whole_apart change line apart =
          ap (λ (z : ℕ). map (λ k. set_of 1 (k * n + b) (in_set_of 1 line change sets)) (range_with_len 0 (z * 1 / n))) (length-set sets (set_number 1 line sets) (change (set_of 1 line sets)))
          ∙ map_same (λ k. set_of 1 (k * n + b) (in_set_of 1 line change sets)) (λ k. set_of 1 (k * n + b) sets) (range_with_len 0 (length sets * 1 / n))
          (λ k. set_other 1 (k * n + b) line change sets
          (λ same. apart (sym (same_rest n (length sets * 1 / n) (length sets) some count_is (k * n + b) line same) ∙ mod-mul-add k n b below)))

    -- ---- the sets of that shard alone
    pub part_same : (sets : List (List X)) → part_sets n n b sets ≡ sets
    part_same sets =
        let count : length sets * n / n ≡ length sets = mul-div_cancel (length sets) some in
        let long : length (part_sets n n b sets) ≡ length sets = length-map-range_with_len (λ k. set_of n (k * n + b) sets) 0 (length sets * n / n) ∙ count in
        ext_get_or [] (part_sets n n b sets) sets long
        (λ i within. let inside : i < length sets = omega (arith, long) in
        get_or-map-range_with_len (λ k. set_of n (k * n + b) sets) 0 (length sets * n / n) i i [] (omega (arith, count)) (omega arith)
        ∙ ap (λ (j : ℕ). get_or sets j []) (ap (λ (q : ℕ). q % length sets) (div-mul-add i n b below) ∙ mod-eq_of_lt inside))

    -- ---- either
    module _ (d : ℕ) (sets : List (List X)) (either : (d ≡ 1) ⊎ (d ≡ n)) (fits : length sets * d % n ≡ 0) where
      pub seen_reads : (line : ℕ) → line % n ≡ b → set_of n line (part_sets d n b sets) ≡ set_of d line sets
      seen_reads line own =
          elim either as (λ _. set_of n line (part_sets d n b sets) ≡ set_of d line sets) [
            | inl e ↦
                subst (λ (z : ℕ). set_of n line (part_sets z n b sets) ≡ set_of z line sets) (sym e)
                (whole_reads sets (subst (λ (z : ℕ). length sets * z % n ≡ 0) e fits) line own)
            | inr e ↦ subst (λ (z : ℕ). set_of n line (part_sets z n b sets) ≡ set_of z line sets) (sym e) (ap (set_of n line) (part_same sets))
          ]

      pub seen_set : (change : List X → List X) (line : ℕ) → line % n ≡ b → 0 < length sets → part_sets d n b (in_set_of d line change sets) ≡ in_set_of n line change (part_sets d n b sets)
      seen_set change line own some_here =
          elim either as (λ _. part_sets d n b (in_set_of d line change sets) ≡ in_set_of n line change (part_sets d n b sets)) [
            | inl e ↦
                subst (λ (z : ℕ). part_sets z n b (in_set_of z line change sets) ≡ in_set_of n line change (part_sets z n b sets)) (sym e)
                (whole_set sets (subst (λ (z : ℕ). length sets * z % n ≡ 0) e fits) change line own some_here)
            | inr e ↦
                subst (λ (z : ℕ). part_sets z n b (in_set_of z line change sets) ≡ in_set_of n line change (part_sets z n b sets)) (sym e)
                (part_same (in_set_of n line change sets) ∙ sym (ap (in_set_of n line change) (part_same sets)))
          ]
