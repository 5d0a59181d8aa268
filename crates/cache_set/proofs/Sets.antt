-- What the words on ways leave: no line twice, and no more lines than ways.
use Rattle.std.proofs.Common.{◌≡◌, ℕ, zero, suc, ◌+◌, ◌≤◌, Bool, true, false, cond, List, [], ◌∷◌, length, take, Option, Some, None, refl, arith}
use Rattle.std.specs.List.{AllByRecursion, IsDistinct}
use Rattle.std.specs.Map.{keys_of, lookup}
use Rattle.std.specs.Option.{option_map_or}
use Rattle.std.specs.Prelude.{nat_eq, IsSome}
use Rattle.std.proofs.lemmas.Map.{NonePasses, none_passes_from_lookup, keys-set_value, length-set_value}
use Rattle.std.proofs.lemmas.Map.Keys.{IsDistinct-head, IsDistinct-tail, IsDistinct-cons}
use Rattle.std.proofs.lemmas.Bool.{eqb-true}
use Rattle.std.proofs.lemmas.List.{length-take}
use Rattle.cache_set.specs.Ways.{kept_of, without, used, filled, changed}
use Rattle.cache_set.specs.WaySets.{IsWaySet}

-- no key is this line
abbrev pub Lacks : ℕ → List ℕ → Type 0
Lacks line keys = AllByRecursion (λ y. nat_eq line y ≡ false) keys

module _ {X : Type 0} where
  pub lacks_from_none : (line : ℕ) (es : List (ℕ × X)) → NonePasses (nat_eq line) es → Lacks line (keys_of es)
  lacks_from_none line [] h = tt
  lacks_from_none line (e ∷ es) h = (h.0, lacks_from_none line es h.1)

  pub lacks-absent : (line : ℕ) (es : List (ℕ × X)) → lookup (nat_eq line) es ≡ None → Lacks line (keys_of es)
  lacks-absent line es h = lacks_from_none line es (none_passes_from_lookup (nat_eq line) es h)

  -- a key that is absent stays so
  pub lacks-without : (line other : ℕ) (es : List (ℕ × X)) → Lacks other (keys_of es) → Lacks other (keys_of (without line es))
  lacks-without line other [] h = tt
  lacks-without line other (e ∷ es) h =
      elim (nat_eq line e.0) as (λ b. Lacks other (keys_of (cond b es (e ∷ without line es))))
      [ true ↦ h.1 | false ↦ (h.0, lacks-without line other es h.1) ]

  pub lacks-take : (n other : ℕ) (es : List (ℕ × X)) → Lacks other (keys_of es) → Lacks other (keys_of (take n es))
  lacks-take zero other es h = tt
  lacks-take (suc n) other [] h = tt
  lacks-take (suc n) other (e ∷ es) h = (h.0, lacks-take n other es h.1)

  pub distinct-without : (line : ℕ) (es : List (ℕ × X)) → IsDistinct nat_eq (keys_of es) → IsDistinct nat_eq (keys_of (without line es))
  distinct-without line [] h = h
  distinct-without line (e ∷ es) h =
      let tail : IsDistinct nat_eq (keys_of es) = IsDistinct-tail nat_eq e.0 (keys_of es) h in
      elim (nat_eq line e.0) as (λ b. IsDistinct nat_eq (keys_of (cond b es (e ∷ without line es)))) [
        | true ↦ tail
        | false ↦ IsDistinct-cons nat_eq e.0 (keys_of (without line es)) (lacks-without line e.0 es (IsDistinct-head nat_eq e.0 (keys_of es) h)) (distinct-without line es tail)
      ]

  distinct-take : (n : ℕ) (es : List (ℕ × X)) → IsDistinct nat_eq (keys_of es) → IsDistinct nat_eq (keys_of (take n es))
  unfolding IsDistinct
  distinct-take zero es h = tt
  distinct-take (suc n) [] h = tt
  distinct-take (suc n) (e ∷ es) h =
      (lacks-take n e.0 es h.0, distinct-take n es h.1)

  lacks_same : (line : ℕ) (e : ℕ × X) (es : List (ℕ × X)) → nat_eq line e.0 ≡ true → Lacks e.0 (keys_of es) → Lacks line (keys_of es)
  lacks_same line e es h = rw (← eqb-true line e.0 h) (λ k. k)

  -- a line is not among the others
  pub lacks-others : (line : ℕ) (es : List (ℕ × X)) → IsDistinct nat_eq (keys_of es) → Lacks line (keys_of (without line es))
  lacks-others line [] h = tt
  lacks-others line (e ∷ es) h =
      let head : Lacks e.0 (keys_of es) = IsDistinct-head nat_eq e.0 (keys_of es) h in
      let tail : IsDistinct nat_eq (keys_of es) = IsDistinct-tail nat_eq e.0 (keys_of es) h in
      let step : (b : Bool) → nat_eq line e.0 ≡ b → Lacks line (keys_of (cond b es (e ∷ without line es)))
      = λ b. elim b as (λ b. nat_eq line e.0 ≡ b → Lacks line (keys_of (cond b es (e ∷ without line es)))) [
        | true ↦ λ (k : nat_eq line e.0 ≡ true). lacks_same line e es k head
        | false ↦ λ (k : nat_eq line e.0 ≡ false). (k, lacks-others line es tail)
      ] in
      step (nat_eq line e.0) refl

  pub length-without : (line : ℕ) (es : List (ℕ × X)) → length (without line es) ≤ length es
  length-without line [] = omega arith
  length-without line (e ∷ es) =
      elim (nat_eq line e.0) as (λ b. length (cond b es (e ∷ without line es)) ≤ length (e ∷ es))
      [ true ↦ omega arith | false ↦ omega (arith, length-without line es) ]

  -- one that is there leaves one fewer
  pub length-without_some : (line : ℕ) (es : List (ℕ × X)) → IsSome (lookup (nat_eq line) es) → length (without line es) + 1 ≡ length es
  length-without_some line [] h = cc
  length-without_some line (e ∷ es) h =
      elim (nat_eq line e.0) as (λ b. IsSome (cond b (Some e.1) (lookup (nat_eq line) es)) → length (cond b es (e ∷ without line es)) + 1 ≡ length (e ∷ es))
      [ true ↦ λ k. omega arith | false ↦ λ k. omega (arith, length-without_some line es k) ] h

-- ---- sets
set-shorter : (ways : ℕ) (list others : List (ℕ × ℕ)) → IsWaySet (record { ways = ways; list = list }) → IsDistinct nat_eq (keys_of others) → length others ≤ ways → IsWaySet (record { ways = ways; list = others })
set-shorter ways list others s d l = record { distinct = d; within = l; ways = s.ways }

pub set-without : (ways line : ℕ) (list : List (ℕ × ℕ)) → IsWaySet (record { ways = ways; list = list }) → IsWaySet (record { ways = ways; list = without line list })
set-without ways line list s =
    set-shorter ways list (without line list) s (distinct-without line list s.distinct) (omega (arith, length-without line list, s.within))

used_case : (ways line : ℕ) (list : List (ℕ × ℕ)) (o : Option ℕ) → IsWaySet (record { ways = ways; list = list }) → kept_of line list ≡ o → IsWaySet (record { ways = ways; list = option_map_or (λ kept. (line, kept) ∷ without line list) o list })
used_case ways line list None s h = s
used_case ways line list (Some kept) s h =
    set-shorter ways list ((line, kept) ∷ without line list) s
    (IsDistinct-cons nat_eq line (keys_of (without line list)) (lacks-others line list s.distinct) (distinct-without line list s.distinct))
    (omega (arith, length-without_some line list (rw h refl), s.within))

pub set-used : (ways line : ℕ) (list : List (ℕ × ℕ)) → IsWaySet (record { ways = ways; list = list }) → IsWaySet (record { ways = ways; list = used line list })
set-used ways line list s = used_case ways line list (kept_of line list) s refl

pub set-changed : (ways line kept : ℕ) (list : List (ℕ × ℕ)) → IsWaySet (record { ways = ways; list = list }) → IsWaySet (record { ways = ways; list = changed line kept list })
set-changed ways line kept list s =
    set-shorter ways list (changed line kept list) s (rw (keys-set_value (nat_eq line) list kept) s.distinct) (omega (arith, length-set_value (nat_eq line) list kept, s.within))

pub set-filled : (ways line kept : ℕ) (list : List (ℕ × ℕ)) → IsWaySet (record { ways = ways; list = list }) → kept_of line list ≡ None → IsWaySet (record { ways = ways; list = filled ways line kept list })
set-filled ways line kept list s h =
    set-shorter ways list (filled ways line kept list) s
    (distinct-take ways ((line, kept) ∷ list) (IsDistinct-cons nat_eq line (keys_of list) (lacks-absent line list h) s.distinct))
    (omega (arith, length-take ways ((line, kept) ∷ list)))
