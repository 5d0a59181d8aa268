-- Numbers that are among some.
use Rattle.std.proofs.Common.{◌≡◌, ◌≢◌, ℕ, ◌<◌, ◌⊎◌, Bool, true, false, cond, List, [], ◌∷◌, ◌++◌, All, refl, sym, ◌∙◌, ap, subst, arith, inl, inr}
use Rattle.std.specs.Prelude.{◌||◌, IsTrue, nat_eq}
use Rattle.std.specs.Set.{is_member}
use Rattle.std.proofs.lemmas.Bool.{cases_Bool, cases_eq, eq-eqb, ne_eqb}
use Rattle.std.proofs.lemmas.List.Elements.{All-head, All-tail}
use Rattle.parts_table.specs.Places.{is_in}

first_in : (x : ℕ) (xs : List ℕ) (k : ℕ) → k ≡ x → is_in (x ∷ xs) k
first_in x xs k is = rw (eq-eqb k x is) refl

rest_in : (x : ℕ) (xs : List ℕ) (k : ℕ) → is_in xs k → is_in (x ∷ xs) k
rest_in x xs k has = elim (cases_eq k x) as (λ _. is_in (x ∷ xs) k) [
  | inl is ↦ first_in x xs k is
  | inr other ↦ rw (ne_eqb k x other) has
]

pub in_first : (x : ℕ) (xs : List ℕ) (k : ℕ) → k ≡ x → is_in (x ∷ xs) k
in_first = first_in

pub in_rest : (x : ℕ) (xs : List ℕ) (k : ℕ) → is_in xs k → is_in (x ∷ xs) k
in_rest = rest_in

pub in_cons : (x : ℕ) (xs : List ℕ) (k : ℕ) → is_in (x ∷ xs) k → (k ≡ x) ⊎ is_in xs k
in_cons x xs k has = elim (cases_eq k x) as (λ _. (k ≡ x) ⊎ is_in xs k) [
  | inl is ↦ inl is
  | inr other ↦ inr (rw (ne_eqb k x other) at has)
]

pub in_none : (k : ℕ) → is_in [] k → ⊥
in_none k has = let bad : false ≡ true = has in cc

pub in_one : (x k : ℕ) → is_in (x ∷ []) k → k ≡ x
in_one x k has = elim (in_cons x [] k has) as (λ _. k ≡ x) [ inl is ↦ is | inr bad ↦ absurd (in_none k bad) ]

pub in_either : (xs ys : List ℕ) (k : ℕ) → is_in (xs ++ ys) k → is_in xs k ⊎ is_in ys k
in_either [] ys k has = inr has
in_either (x ∷ xs) ys k has = elim (in_cons x (xs ++ ys) k has) as (λ _. is_in (x ∷ xs) k ⊎ is_in ys k) [
  | inl is ↦ inl (in_first x xs k is)
  | inr rest ↦ elim (in_either xs ys k rest) as (λ _. is_in (x ∷ xs) k ⊎ is_in ys k) [ inl one ↦ inl (in_rest x xs k one) | inr two ↦ inr two ]
]

pub in_left : (xs ys : List ℕ) (k : ℕ) → is_in xs k → is_in (xs ++ ys) k
in_left [] ys k has = absurd (in_none k has)
in_left (x ∷ xs) ys k has = elim (in_cons x xs k has) as (λ _. is_in (x ∷ (xs ++ ys)) k) [
  | inl is ↦ in_first x (xs ++ ys) k is
  | inr rest ↦ in_rest x (xs ++ ys) k (in_left xs ys k rest)
]

pub in_right : (xs ys : List ℕ) (k : ℕ) → is_in ys k → is_in (xs ++ ys) k
in_right [] ys k has = has
in_right (x ∷ xs) ys k has = in_rest x (xs ++ ys) k (in_right xs ys k has)

pub not_in : (xs : List ℕ) (k : ℕ) → (is_in xs k → ⊥) → is_member nat_eq xs k ≡ false
not_in xs k none = elim (cases_Bool (is_member nat_eq xs k)) as (λ _. is_member nat_eq xs k ≡ false) [
  | inl is ↦ absurd (none is)
  | inr is ↦ is
]

pub all_in : (P : ℕ → Type 0) (xs : List ℕ) → All P xs → (k : ℕ) → is_in xs k → P k
all_in P [] all k has = absurd (in_none k has)
all_in P (x ∷ xs) all k has = elim (in_cons x xs k has) as (λ _. P k) [
  | inl is ↦ subst P (sym is) (All-head P x xs all)
  | inr rest ↦ all_in P xs (All-tail P x xs all) k rest
]
