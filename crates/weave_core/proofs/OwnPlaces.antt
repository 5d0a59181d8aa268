-- The components of a domain, by their places among them.
use Rattle.std.proofs.Common.{◌≡◌, ◌+◌, ◌<◌, ℕ, zero, suc, Bool, true, false, cond, eqb, List, [], ◌∷◌, ◌++◌, length, map, take, get_or, Some, slice_get, sym, ◌∙◌, ap, subst, refl, inl, inr, arith}
use Rattle.std.proofs.lemmas.Bool.{cases_lt}
use Rattle.std.proofs.lemmas.List.{length_push}
use Rattle.std.proofs.lemmas.Option.{same_Some, none-some}
use Rattle.std.specs.List.{filter, enumerate_from}
use Rattle.weave_core.specs.Beginning.{AreOwnPlaces}
use Rattle.weave_core.specs.DomainCalls.{comps_in}
use Rattle.weave_core.specs.Layout.{place_in}
use Rattle.weave_core.proofs.Lists.{last_at}
use Rattle.weave_core.proofs.Words.{apart_eq, is_eq}

pub get_push : {X : Type 0} (xs : List X) (y : X) (i : ℕ) → i < length xs → slice_get (xs ++ y ∷ []) i ≡ slice_get xs i
get_push [] y i l = absurd (omega arith)
get_push (z ∷ xs) y zero l = refl
get_push (z ∷ xs) y (suc i) l = get_push xs y i (omega arith)

-- a place more
pub next_own_place : (places : List ℕ) (domain : ℕ) (own_places longer : List ℕ) (upto count : ℕ) → AreOwnPlaces places domain own_places upto → count ≡ place_in places domain upto → longer ≡ own_places ++ count ∷ []
    → AreOwnPlaces places domain longer (upto + 1)
next_own_place places domain own_places longer upto count are is more =
    subst (λ (xs : List ℕ). AreOwnPlaces places domain xs (upto + 1)) (sym more)
    (record {
      size = length_push own_places count ∙ ap (λ n. n + 1) are.size;
      each = λ component below.
          elim (cases_lt component upto) [
            | inl l ↦ get_push own_places count component (omega (arith, l, are.size)) ∙ are.each component l
            | inr m ↦
                let same : component ≡ length own_places = omega (arith, m, below, are.size) in
                let same_upto : upto ≡ component = omega (arith, m, below) in
                ap (slice_get (own_places ++ count ∷ [])) same ∙ (last_at own_places count ∙ ap (λ n. Some n) (is ∙ ap (place_in places domain) same_upto))
          ];
    })

-- the place after a component of the domain, and after another
count_at : (places : List ℕ) (domain i d : ℕ) → slice_get places i ≡ Some d → place_in places domain (suc i) ≡ place_in places domain i + cond {A = ℕ} (eqb d domain) 1 0
count_at [] domain i d h = absurd (none-some d h)
count_at (x ∷ places) domain zero d h =
    let same : x ≡ d = same_Some x d h in
    by_test (eqb x domain) (eqb d domain) (ap (λ n. eqb n domain) same)
  where
    by_test : (t u : Bool) → t ≡ u → length (cond t (x ∷ []) []) ≡ 0 + cond {A = ℕ} u 1 0
    by_test true true e = refl
    by_test false false e = refl
    by_test true false e = absurd (cc)
    by_test false true e = absurd (cc)
count_at (x ∷ places) domain (suc i) d h = by_test (count_at places domain i d h) (eqb x domain)
  where
    by_test : place_in places domain (suc i) ≡ place_in places domain i + cond {A = ℕ} (eqb d domain) 1 0 → (t : Bool)
        → length (cond t (x ∷ filter (λ n. eqb n domain) (take (suc i) places)) (filter (λ n. eqb n domain) (take (suc i) places)))
        ≡ length (cond t (x ∷ filter (λ n. eqb n domain) (take i places)) (filter (λ n. eqb n domain) (take i places))) + cond {A = ℕ} (eqb d domain) 1 0
    by_test rest true = omega (arith, rest)
    by_test rest false = rest

pub same_place : (places : List ℕ) (domain i d : ℕ) → slice_get places i ≡ Some d → d ≡ domain → place_in places domain i + 1 ≡ place_in places domain (i + 1)
same_place places domain i d h e =
    let one : cond {A = ℕ} (eqb d domain) 1 0 ≡ 1 = ap (λ (t : Bool). cond {A = ℕ} t 1 0) (is_eq d domain e) in
    let next : suc i ≡ i + 1 = omega arith in
    omega (arith, count_at places domain i d h, one, ap (place_in places domain) next)

pub other_place : (places : List ℕ) (domain i d : ℕ) → slice_get places i ≡ Some d → (d ≡ domain → ⊥) → place_in places domain i ≡ place_in places domain (i + 1)
other_place places domain i d h e =
    let none : cond {A = ℕ} (eqb d domain) 1 0 ≡ 0 = ap (λ (t : Bool). cond {A = ℕ} t 1 0) (apart_eq d domain e) in
    let next : suc i ≡ i + 1 = omega arith in
    omega (arith, count_at places domain i d h, none, ap (place_in places domain) next)

-- The component of a number among those of its domain.
module _ {C : Type 0} (full : List ℕ) (domain : ℕ) where
  test : ℕ × C → Bool
  test at = eqb (get_or full at.0 0) domain

  spot_from : (n : ℕ) (places : List ℕ) (comps : List C) (i d : ℕ) (c : C) → ((j m : ℕ) → m ≡ n + j → j < length places → get_or full m 0 ≡ get_or places j 0)
      → slice_get places i ≡ Some d → d ≡ domain → slice_get comps i ≡ Some c
      → slice_get (map (λ (at : ℕ × C). at.1) (filter (λ (at : ℕ × C). eqb (get_or full at.0 0) domain) (enumerate_from n comps))) (place_in places domain i) ≡ Some c
  spot_from n [] comps i d c same h e k = absurd (none-some d h)
  spot_from n (x ∷ places) [] i d c same h e k = absurd (none-some c k)
  spot_from n (x ∷ places) (y ∷ comps) zero d c same h e k =
      let first : get_or full n 0 ≡ domain = same 0 n (omega arith) (omega arith) ∙ (same_Some x d h ∙ e) in
      ap (λ (t : Bool). slice_get (map (λ (at : ℕ × C). at.1) (cond t ((n, y) ∷ filter (λ (at : ℕ × C). eqb (get_or full at.0 0) domain) (enumerate_from (n + 1) comps)) (filter (λ (at : ℕ × C). eqb (get_or full at.0 0) domain) (enumerate_from (n + 1) comps)))) 0)
      (is_eq (get_or full n 0) domain first) ∙ k
  spot_from n (x ∷ places) (y ∷ comps) (suc i) d c same h e k =
      by_test (spot_from (n + 1) places comps i d c (λ j m q l. same (suc j) m (omega (arith, q)) (omega (arith, l))) h e k) (eqb x domain) (eqb (get_or full n 0) domain)
      (ap (λ z. eqb z domain) (same 0 n (omega arith) (omega arith)))
    where
      by_test : slice_get (map (λ (at : ℕ × C). at.1) (filter (λ (at : ℕ × C). eqb (get_or full at.0 0) domain) (enumerate_from (n + 1) comps))) (place_in places domain i) ≡ Some c
          → (t u : Bool) → u ≡ t
          → slice_get (map (λ (at : ℕ × C). at.1) (cond u ((n, y) ∷ filter (λ (at : ℕ × C). eqb (get_or full at.0 0) domain) (enumerate_from (n + 1) comps)) (filter (λ (at : ℕ × C). eqb (get_or full at.0 0) domain) (enumerate_from (n + 1) comps))))
          (length (cond t (x ∷ filter (λ z. eqb z domain) (take i places)) (filter (λ z. eqb z domain) (take i places)))) ≡ Some c
      by_test rest true true e = rest
      by_test rest false false e = rest
      by_test rest true false e = absurd (cc)
      by_test rest false true e = absurd (cc)

pub spot_there : {C : Type 0} (places : List ℕ) (domain : ℕ) (comps : List C) (i d : ℕ) (c : C) → slice_get places i ≡ Some d → d ≡ domain → slice_get comps i ≡ Some c
    → slice_get (comps_in places domain comps) (place_in places domain i) ≡ Some c
spot_there {C} places domain comps i d c h e k = spot_from {C = C} places domain 0 places comps i d c (λ j m q l. let same : m ≡ j = omega (arith, q) in ap (λ n. get_or places n 0) same) h e k
