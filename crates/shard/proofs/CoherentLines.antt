-- What is kept of a line in its set after a change for that line or another.
use Rattle.std.proofs.Common.{◌≡◌, ◌≢◌, ℕ, zero, suc, ◌-◌, ◌<◌, ◌≤◌, true, false, cond, eqb, List, [], ◌∷◌, length, get_or, set, take, Option, Some, None, refl, sym, ap, ◌∙◌, subst, arith, inl, inr}
use Rattle.std.specs.List.{IsDistinct}
use Rattle.std.specs.Map.{keys_of}
use Rattle.std.specs.Option.{option_map_or}
use Rattle.std.specs.Prelude.{nat_eq, slice_get}
use Rattle.std.proofs.lemmas.Bool.{cases_eq, eq-eqb, ne_eqb}
use Rattle.std.proofs.lemmas.List.{get_or-set_same, get_or-set_other, length-set}
use Rattle.std.proofs.lemmas.Map.Keys.{IsDistinct-head, IsDistinct-tail}
use Rattle.cache_set.proofs.Sets.{Lacks, lacks-others}
use Rattle.cache_set.specs.Ways.{kept_of, without, used, filled, changed, victim_of}
use Rattle.cache_set.specs.Lines.{set_of, in_set_of, set_number}
use Rattle.shard.proofs.CoherentLists.{set_read}

-- ---- all sets, of which the one of a line changes
module _ {Y : Type 0} where
  pub set_same_at : (shards line other : ℕ) (change : List Y → List Y) (sets : List (List Y)) → 1 ≤ length sets → set_number shards line sets ≡ set_number shards other sets
      → set_of shards line (in_set_of shards other change sets) ≡ change (set_of shards other sets)
  set_same_at shards line other change sets some e =
      let k : ℕ = set_number shards other sets in
      let within : k < length sets = omega arith in
      rw (length-set sets k (change (get_or sets k [])), e, get_or-set_same sets k (change (get_or sets k [])) [] within) refl

  pub set_same : (shards line : ℕ) (change : List Y → List Y) (sets : List (List Y)) → 1 ≤ length sets → set_of shards line (in_set_of shards line change sets) ≡ change (set_of shards line sets)
  set_same shards line change sets some = set_same_at shards line line change sets some refl

  pub set_other : (shards line other : ℕ) (change : List Y → List Y) (sets : List (List Y)) → set_number shards line sets ≢ set_number shards other sets
      → set_of shards line (in_set_of shards other change sets) ≡ set_of shards line sets
  set_other shards line other change sets h =
      rw (length-set sets (set_number shards other sets) (change (set_of shards other sets)), get_or-set_other sets (set_number shards other sets) (set_number shards line sets) (change (set_of shards other sets)) [] h) refl

module _ {X : Type 0} where
  -- ---- one set
  lacks_none : (line : ℕ) (s : List (ℕ × X)) → Lacks line (keys_of s) → kept_of line s ≡ None
  lacks_none line [] h = refl
  lacks_none line (e ∷ s) h = rw (h.0) (lacks_none line s h.1)

  pub kept_without_same : (line : ℕ) (s : List (ℕ × X)) → IsDistinct nat_eq (keys_of s) → kept_of line (without line s) ≡ None
  kept_without_same line s h = lacks_none line (without line s) (lacks-others line s h)

  pub kept_without_other : (line v : ℕ) (s : List (ℕ × X)) → line ≢ v → kept_of line (without v s) ≡ kept_of line s
  kept_without_other line v [] h = refl
  kept_without_other line v (e ∷ s) h =
      elim (cases_eq v e.0) as (λ _. kept_of line (cond (eqb v e.0) s (e ∷ without v s)) ≡ kept_of line (e ∷ s)) [
        | inl same ↦ rw (eq-eqb v e.0 same, ne_eqb line e.0 (λ k. h (k ∙ sym same))) refl
        | inr apart ↦ rw (ne_eqb v e.0 apart) (ap (λ (o : Option X). cond (eqb line e.0) (Some e.1) o) (kept_without_other line v s h))
      ]

  pub kept_changed_same : (line : ℕ) (v : X) (s : List (ℕ × X)) → kept_of line (changed line v s) ≡ option_map_or (λ _. Some v) (kept_of line s) None
  kept_changed_same line v [] = refl
  kept_changed_same line v (e ∷ s) =
      elim (cases_eq line e.0) as (λ _. kept_of line (cond (eqb line e.0) ((e.0, v) ∷ s) (e ∷ changed line v s)) ≡ option_map_or (λ _. Some v) (cond (eqb line e.0) (Some e.1) (kept_of line s)) None) [
        | inl same ↦ rw (eq-eqb line e.0 same) (rw (eq-eqb line e.0 same) refl)
        | inr apart ↦ rw (ne_eqb line e.0 apart) (rw (ne_eqb line e.0 apart) (kept_changed_same line v s))
      ]

  pub kept_changed_other : (line other : ℕ) (v : X) (s : List (ℕ × X)) → line ≢ other → kept_of line (changed other v s) ≡ kept_of line s
  kept_changed_other line other v [] h = refl
  kept_changed_other line other v (e ∷ s) h =
      elim (cases_eq other e.0) as (λ _. kept_of line (cond (eqb other e.0) ((e.0, v) ∷ s) (e ∷ changed other v s)) ≡ kept_of line (e ∷ s)) [
        | inl same ↦ rw (eq-eqb other e.0 same, ne_eqb line e.0 (λ k. h (k ∙ sym same))) refl
        | inr apart ↦ rw (ne_eqb other e.0 apart) (ap (λ (o : Option X). cond (eqb line e.0) (Some e.1) o) (kept_changed_other line other v s h))
      ]

  pub kept_front_same : (line : ℕ) (v : X) (s : List (ℕ × X)) → kept_of line ((line, v) ∷ s) ≡ Some v
  kept_front_same line v s = rw (eq-eqb line line refl) refl

  pub kept_front_other : (line other : ℕ) (v : X) (s : List (ℕ × X)) → line ≢ other → kept_of line ((other, v) ∷ s) ≡ kept_of line s
  kept_front_other line other v s h = rw (ne_eqb line other h) refl

  used_as : (line other : ℕ) (s : List (ℕ × X)) (o : Option X) → kept_of other s ≡ o → kept_of line (option_map_or (λ kept. (other, kept) ∷ without other s) o s) ≡ kept_of line s
  used_as line other s None e = refl
  used_as line other s (Some v) e =
      elim (cases_eq line other) as (λ _. kept_of line ((other, v) ∷ without other s) ≡ kept_of line s) [
        | inl same ↦ rw (eq-eqb line other same, same, e) refl
        | inr apart ↦ kept_front_other line other v (without other s) apart ∙ kept_without_other line other s apart
      ]

  pub kept_used : (line other : ℕ) (s : List (ℕ × X)) → kept_of line (used other s) ≡ kept_of line s
  kept_used line other s = used_as line other s (kept_of other s) refl

  -- ---- a line that comes in, and the one that leaves for it
  pub kept_filled_same : (ways line : ℕ) (v : X) (s : List (ℕ × X)) → 1 ≤ ways → kept_of line (filled ways line v s) ≡ Some v
  kept_filled_same zero line v s h = absurd (omega arith)
  kept_filled_same (suc n) line v s h = kept_front_same line v (take n s)

  take_all : (n : ℕ) (s : List (ℕ × X)) → slice_get s n ≡ None → take n s ≡ s
  take_all zero [] h = refl
  take_all zero (e ∷ s) h = absurd cc
  take_all (suc n) [] h = refl
  take_all (suc n) (e ∷ s) h = ap (λ (es : List (ℕ × X)). e ∷ es) (take_all n s h)

  lacks_at : (line n : ℕ) (s : List (ℕ × X)) (w : ℕ × X) → Lacks line (keys_of s) → slice_get s n ≡ Some w → line ≢ w.0
  lacks_at line n [] w h e = absurd cc
  lacks_at line zero (x ∷ s) w h e = λ same.
      let is : x ≡ w = cc in
      let there : eqb line x.0 ≡ true = eq-eqb line x.0 (same ∙ ap (λ (p : ℕ × X). p.0) (sym is)) in
      let bad : true ≡ false = sym there ∙ h.0 in
      cc
  lacks_at line (suc n) (x ∷ s) w h e = lacks_at line n s w h.1 e

  -- without the last line of as many as fit and one more
  kept_take_same : (n : ℕ) (s : List (ℕ × X)) (w : ℕ × X) → IsDistinct nat_eq (keys_of s) → slice_get s n ≡ Some w → kept_of w.0 (take n s) ≡ None
  kept_take_same n [] w h e = absurd cc
  kept_take_same zero (x ∷ s) w h e = refl
  kept_take_same (suc n) (x ∷ s) w h e =
      let apart : w.0 ≢ x.0 = λ same. lacks_at x.0 n s w (IsDistinct-head nat_eq x.0 (keys_of s) h) e (sym same) in
      rw (ne_eqb w.0 x.0 apart) (kept_take_same n s w (IsDistinct-tail nat_eq x.0 (keys_of s) h) e)

  kept_take_other : (line n : ℕ) (s : List (ℕ × X)) (w : ℕ × X) → slice_get s n ≡ Some w → length s ≤ suc n → line ≢ w.0 → kept_of line (take n s) ≡ kept_of line s
  kept_take_other line n [] w e l h = absurd cc
  kept_take_other line zero (x ∷ []) w e l h =
      let is : x ≡ w = cc in
      rw (ne_eqb line x.0 (λ same. h (same ∙ ap (λ (p : ℕ × X). p.0) is))) refl
  kept_take_other line zero (x ∷ (y ∷ s)) w e l h = absurd (omega arith)
  kept_take_other line (suc n) (x ∷ s) w e l h =
      ap (λ (o : Option X). cond (eqb line x.0) (Some x.1) o) (kept_take_other line n s w e (omega arith) h)

  -- where no line is evicted, the others are kept
  pub kept_filled_room : (ways line other : ℕ) (v : X) (s : List (ℕ × X)) → 1 ≤ ways → victim_of ways s ≡ None → line ≢ other → kept_of line (filled ways other v s) ≡ kept_of line s
  kept_filled_room zero line other v s w none h = absurd (omega arith)
  kept_filled_room (suc n) line other v s w none h =
      let at : slice_get s n ≡ None = subst (λ (k : ℕ). slice_get s k ≡ None) (omega arith) none in
      kept_front_other line other v (take n s) h ∙ ap (λ (es : List (ℕ × X)). kept_of line es) (take_all n s at)

  -- and where one leaves, all but that one
  pub kept_filled_other : (ways line other : ℕ) (v : X) (s : List (ℕ × X)) (victim : ℕ × X) → 1 ≤ ways → length s ≤ ways → victim_of ways s ≡ Some victim → line ≢ other → line ≢ victim.0
      → kept_of line (filled ways other v s) ≡ kept_of line s
  kept_filled_other zero line other v s victim w l is h k = absurd (omega arith)
  kept_filled_other (suc n) line other v s victim w l is h k =
      let at : slice_get s n ≡ Some victim = subst (λ (k : ℕ). slice_get s k ≡ Some victim) (omega arith) is in
      kept_front_other line other v (take n s) h ∙ kept_take_other line n s victim at l k

  pub kept_filled_victim : (ways other : ℕ) (v : X) (s : List (ℕ × X)) (victim : ℕ × X) → 1 ≤ ways → IsDistinct nat_eq (keys_of s) → victim_of ways s ≡ Some victim → victim.0 ≢ other
      → kept_of victim.0 (filled ways other v s) ≡ None
  kept_filled_victim zero other v s victim w d is h = absurd (omega arith)
  kept_filled_victim (suc n) other v s victim w d is h =
      let at : slice_get s n ≡ Some victim = subst (λ (k : ℕ). slice_get s k ≡ Some victim) (omega arith) is in
      kept_front_other victim.0 other v (take n s) h ∙ kept_take_same n s victim d at

  -- a line that would leave is there
  kept_at : (n : ℕ) (s : List (ℕ × X)) (w : ℕ × X) → IsDistinct nat_eq (keys_of s) → slice_get s n ≡ Some w → kept_of w.0 s ≡ Some w.1
  kept_at n [] w h e = absurd cc
  kept_at zero (x ∷ s) w h e =
      let is : x ≡ w = cc in
      subst (λ (p : ℕ × X). kept_of p.0 (x ∷ s) ≡ Some p.1) is (rw (eq-eqb x.0 x.0 refl) refl)
  kept_at (suc n) (x ∷ s) w h e =
      let apart : w.0 ≢ x.0 = λ same. lacks_at x.0 n s w (IsDistinct-head nat_eq x.0 (keys_of s) h) e (sym same) in
      rw (ne_eqb w.0 x.0 apart) (kept_at n s w (IsDistinct-tail nat_eq x.0 (keys_of s) h) e)

  pub kept_victim : (ways : ℕ) (s : List (ℕ × X)) (victim : ℕ × X) → IsDistinct nat_eq (keys_of s) → victim_of ways s ≡ Some victim → kept_of victim.0 s ≡ Some victim.1
  kept_victim ways s victim h e = kept_at (ways - 1) s victim h e

  -- ---- all sets, of which the one of a line changes
  -- what is kept of a line that the change does not concern
  pub kept_elsewhere : (shards line other : ℕ) (change : List (ℕ × X) → List (ℕ × X)) (sets : List (List (ℕ × X))) → kept_of line (change (set_of shards other sets)) ≡ kept_of line (set_of shards other sets)
      → kept_of line (set_of shards line (in_set_of shards other change sets)) ≡ kept_of line (set_of shards line sets)
  kept_elsewhere shards line other change sets h =
      let k : ℕ = set_number shards other sets in
      let after : List (ℕ × X) = change (get_or sets k []) in
      let at : (n : ℕ) → kept_of line (get_or (set sets k after) n []) ≡ kept_of line (get_or sets n [])
      = λ n. set_read (λ s. kept_of line s ≡ kept_of line (get_or sets n [])) sets k after n (λ e. rw e h) refl in
      rw (length-set sets k after) (at (set_number shards line sets))
