-- Lists with one more, and with one replaced; members by their places.
use Rattle.std.proofs.Common.{◌≡◌, ◌+◌, ◌==◌, ℕ, zero, suc, List, [], ◌∷◌, ◌++◌, map, take, Option, Some, None, refl, ap, sym, ◌∙◌, append-nil}
use Rattle.std.specs.Prelude.{slice_get, slice_set}
use Rattle.std.specs.List.{Contains}
use Rattle.std.specs.Option.{option_map}
use Rattle.std.proofs.lemmas.Bool.{eq-eqb, ne_eqb}
use Rattle.std.proofs.lemmas.List.{take_more}
use Rattle.std.proofs.lemmas.List.Elements.{filter-append}
use Rattle.std.proofs.lemmas.Option.{get_or_from_slice_get, slice_get-get_or, slice_get-map, slice_get_within}
use Rattle.component.specs.declared.comp.Comp.{Comp}
use Rattle.component.specs.declared.kind.Kind.{Kind}
use Rattle.event_graph.specs.OneListWeave.{FiredEvent}
use Rattle.event_graph.specs.ServedEvents.{after_serving, of_component}

pub get_set : {A : Type 0} (xs : List A) (i : ℕ) (x y : A) → slice_get xs i ≡ Some x → slice_get (slice_set xs i y) i ≡ Some y
get_set [] i x y is = cc
get_set (z ∷ zs) zero x y is = refl
get_set (z ∷ zs) (suc i) x y is = get_set zs i x y is

pub get_set_other : {A : Type 0} (xs : List A) (i j : ℕ) (y : A) → (i ≡ j → ⊥) → slice_get (slice_set xs i y) j ≡ slice_get xs j
get_set_other [] i j y other = refl
get_set_other (z ∷ zs) zero zero y other = absurd (other refl)
get_set_other (z ∷ zs) zero (suc j) y other = refl
get_set_other (z ∷ zs) (suc i) zero y other = refl
get_set_other (z ∷ zs) (suc i) (suc j) y other = get_set_other zs i j y (λ same. other (ap suc same))

pub take_on : {A : Type 0} (xs : List A) (k : ℕ) (x : A) → slice_get xs k ≡ Some x → take (k + 1) xs ≡ take k xs ++ x ∷ []
take_on xs k x is =
    let within = slice_get_within xs k x is in
    take_more xs k x within ∙ ap (λ y. take k xs ++ y ∷ []) (get_or_from_slice_get xs k x x is)

pub after_one_more : (step : Comp → Kind → ℕ → Comp × ℕ) (c : Comp) (xs : List FiredEvent) (y : FiredEvent) → after_serving step c (xs ++ y ∷ []) ≡ (step (after_serving step c xs) y.event.kind y.start).0
after_one_more step c [] y = refl
after_one_more step c (x ∷ xs) y = after_one_more step (step c x.event.kind x.start).0 xs y

pub own_more : (number : ℕ) (xs : List FiredEvent) (y : FiredEvent) → y.event.component ≡ number → of_component number (xs ++ y ∷ []) ≡ of_component number xs ++ y ∷ []
own_more number xs y own =
    filter-append (λ z. z.event.component == number) xs (y ∷ [])
    ∙ ap (λ zs. of_component number xs ++ zs) (rw (eq-eqb y.event.component number own) refl)

pub other_more : (number : ℕ) (xs : List FiredEvent) (y : FiredEvent) → (y.event.component ≡ number → ⊥) → of_component number (xs ++ y ∷ []) ≡ of_component number xs
other_more number xs y other =
    filter-append (λ z. z.event.component == number) xs (y ∷ [])
    ∙ (ap (λ zs. of_component number xs ++ zs) (rw (ne_eqb y.event.component number other) refl) ∙ append-nil (of_component number xs))

-- ---- members and places

pub at_place : {A : Type 0} (xs : List A) (x : A) → (among : Contains xs x) → slice_get xs among.0 ≡ Some x
at_place xs x among = slice_get-get_or xs among.0 x among.1 ∙ ap Some among.2

pub among_them : {A : Type 0} (xs : List A) (k : ℕ) (x : A) → slice_get xs k ≡ Some x → Contains xs x
among_them xs k x is = (k, slice_get_within xs k x is, get_or_from_slice_get xs k x x is)

pub mapped : {A B : Type 0} (f : A → B) (xs : List A) (i : ℕ) (y : B) → slice_get (map f xs) i ≡ Some y → (x : A) × (slice_get xs i ≡ Some x) × (f x ≡ y)
mapped {A = A} f xs i y is = found (slice_get xs i) refl (sym (slice_get-map f xs i) ∙ is)
  where
    found : (o : Option A) → slice_get xs i ≡ o → option_map f o ≡ Some y → (x : A) × (slice_get xs i ≡ Some x) × (f x ≡ y)
    found None at is = cc
    found (Some x) at is = (x, at, cc)

pub among_mapped : {A B : Type 0} (f : A → B) (xs : List A) (x : A) → Contains xs x → Contains (map f xs) (f x)
among_mapped f xs x among = among_them (map f xs) among.0 (f x) (slice_get-map f xs among.0 ∙ ap (option_map f) (at_place xs x among))
