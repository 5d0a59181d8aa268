-- What an L1 has of one shard's lines.
use Rattle.std.proofs.Common.{◌≡◌, ℕ, ◌+◌, ◌*◌, ◌/◌, ◌%◌, ◌<◌, ◌≤◌, List, [], length, get_or, map, sym, ap, ◌∙◌, subst, arith, set, inl, inr, mul-pos}
use Rattle.std.specs.List.{range_with_len}
use Rattle.std.proofs.Math.Nat.{mod-eq_of_lt, mod-mod}
use Rattle.std.proofs.lemmas.List.FromFn.{get_or-map-range_with_len, length-map-range_with_len}
use Rattle.std.proofs.lemmas.Nat.{div-mul-add, mod-mul-add}
use Rattle.std.proofs.lemmas.Bool.{cases_eq}
use Rattle.std.proofs.lemmas.List.{ext_get_or, get_or-set_other, get_or-set_same, length-set}
use Rattle.cache_set.specs.Lines.{in_set_of, set_number, set_of}
use Rattle.shard.proofs.CoherentLines.{set_other, set_same_at}
use Rattle.shard.proofs.StandsForSets.{same_part, same_whole}

module _ {X : Type 0} (n k b : ℕ) (some : 0 < n) (sets_some : 0 < k) (below : b < n) (sets : List (List X)) (count : length sets ≡ n * k) where
  abbrev pub taken : List (List X)
  taken = map (λ j. set_of 1 (j * n + b) sets) (range_with_len 0 k)

  pub part_reads : (line : ℕ) → line % n ≡ b → set_of n line taken ≡ set_of 1 line sets
  part_reads line own =
      let i : ℕ = line / n % k in
      let within : i < k = omega arith in
      let many : length taken ≡ k = length-map-range_with_len (λ j. set_of 1 (j * n + b) sets) 0 k in
      let rest : (i * n + b) % n ≡ line % n = mod-mul-add i n b below ∙ sym own in
      let number : (i * n + b) / n % k ≡ line / n % k = ap (λ (q : ℕ). q % k) (div-mul-add i n b below) ∙ mod-mod (line / n) k in
      let same : (i * n + b) / 1 % length sets ≡ line / 1 % length sets
      = subst (λ (l : ℕ). (i * n + b) / 1 % l ≡ line / 1 % l) (sym count) (same_whole n k some sets_some (i * n + b) line rest number) in
      ap (λ (l : ℕ). get_or taken (line / n % l) []) many
      ∙ (get_or-map-range_with_len (λ j. set_of 1 (j * n + b) sets) 0 k i i [] within (omega arith)
      ∙ ap (λ (j : ℕ). get_or sets j []) same)

module _ {X : Type 0} (n k b : ℕ) (some : 0 < n) (sets_some : 0 < k) (below : b < n) (sets : List (List X)) (count : length sets ≡ n * k)
    (change : List X → List X) (line : ℕ) (own : line % n ≡ b) where
  abbrev pub j : ℕ
  j = line / n % k

  abbrev pub part : List (List X)
  part = taken n k b some sets_some below sets count

  some_sets : 1 ≤ length sets
  some_sets = omega (arith, count, mul-pos some sets_some)

  pub changed_count : length (in_set_of 1 line change sets) ≡ n * k
  changed_count = length-set sets (set_number 1 line sets) (change (set_of 1 line sets)) ∙ count

  -- the set of a place among all sets is that of the line exactly where the place is the line's
  at_line : (i : ℕ) → i < k → i ≡ j → (i * n + b) / 1 % length sets ≡ line / 1 % length sets
  at_line i within e =
      let rest : (i * n + b) % n ≡ line % n = mod-mul-add i n b below ∙ sym own in
      let number : (i * n + b) / n % k ≡ line / n % k = ap (λ (q : ℕ). q % k) (div-mul-add i n b below ∙ e) ∙ mod-mod (line / n) k in
      subst (λ (l : ℕ). (i * n + b) / 1 % l ≡ line / 1 % l) (sym count) (same_whole n k some sets_some (i * n + b) line rest number)

  line_at : (i : ℕ) → i < k → (i * n + b) / 1 % length sets ≡ line / 1 % length sets → i ≡ j
  line_at i within e =
      let number : (i * n + b) / n % k ≡ line / n % k
      = same_part n k some sets_some (i * n + b) line (subst (λ (l : ℕ). (i * n + b) / 1 % l ≡ line / 1 % l) count e) in
      sym (mod-eq_of_lt within) ∙ (sym (ap (λ (q : ℕ). q % k) (div-mul-add i n b below)) ∙ number)

  each : (i : ℕ) → i < k → set_of 1 (i * n + b) (in_set_of 1 line change sets) ≡ get_or (set part j (change (set_of 1 line sets))) i []
  each i within =
      let here : get_or part i [] ≡ set_of 1 (i * n + b) sets = get_or-map-range_with_len (λ m. set_of 1 (m * n + b) sets) 0 k i i [] within (omega arith) in
      let long : length part ≡ k = length-map-range_with_len (λ m. set_of 1 (m * n + b) sets) 0 k in
      elim (cases_eq i j) as (λ _. set_of 1 (i * n + b) (in_set_of 1 line change sets) ≡ get_or (set part j (change (set_of 1 line sets))) i []) [
        | inl e ↦
            set_same_at 1 (i * n + b) line change sets some_sets (at_line i within e)
            ∙ sym (ap (λ (m : ℕ). get_or (set part j (change (set_of 1 line sets))) m []) e ∙ get_or-set_same part j (change (set_of 1 line sets)) [] (omega (arith, long, e)))
        | inr apart ↦
            set_other 1 (i * n + b) line change sets (λ e. apart (line_at i within e))
            ∙ sym (get_or-set_other part j i (change (set_of 1 line sets)) [] apart ∙ here)
      ]

  -- a change of the line's set, seen in its shard's part
  pub part_set : taken n k b some sets_some below (in_set_of 1 line change sets) changed_count ≡ in_set_of n line change part
  part_set =
      let long : length part ≡ k = length-map-range_with_len (λ m. set_of 1 (m * n + b) sets) 0 k in
      let reads : set_of n line part ≡ set_of 1 line sets = part_reads n k b some sets_some below sets count line own in
      let now : in_set_of n line change part ≡ set part j (change (set_of 1 line sets))
      = ap (λ (l : ℕ). set part (line / n % l) (change (set_of n line part))) long ∙ ap (λ (v : List X). set part j (change v)) reads in
      let after : List (List X) = taken n k b some sets_some below (in_set_of 1 line change sets) changed_count in
      let count_after : length after ≡ k = length-map-range_with_len (λ m. set_of 1 (m * n + b) (in_set_of 1 line change sets)) 0 k in
      ext_get_or [] after (set part j (change (set_of 1 line sets))) (omega (arith, count_after, long, length-set part j (change (set_of 1 line sets))))
      (λ i within. get_or-map-range_with_len (λ m. set_of 1 (m * n + b) (in_set_of 1 line change sets)) 0 k i i [] (omega (arith, count_after)) (omega arith)
      ∙ each i (omega (arith, count_after)))
      ∙ sym now
