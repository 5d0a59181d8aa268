-- One core more or fewer in a set, and the set's cores in order.
use Rattle.std.proofs.Common.{◌≡◌, ◌≢◌, ℕ, zero, suc, ◌+◌, ◌*◌, ◌/◌, ◌%◌, ◌<◌, ◌≤◌, ◌^◌, Bool, true, false, cond, not, ◌&&◌, ◌||◌, eqb, List, [], ◌∷◌, length, get_or, set, Some, refl, sym, ap, ap₂, ◌∙◌, subst, arith, inl, inr, w64, bit_or, max}
use Rattle.std.specs.Int.{bit_at, trailing_zeros}
use Rattle.std.specs.List.{filter, list_any, range_with_len, slice_get}
use Rattle.std.specs.Prelude.{nat_eq, ◌⊎◌}
use Rattle.std.specs.Set.{is_member}
use Rattle.std.proofs.lemmas.Bool.{eq-eqb, ne_eqb, cases_eq, cases_lt, and_parts, not-true, false_from_ne_true}
use Rattle.std.proofs.lemmas.List.{get_or-replicate, get_or-set_same, get_or-set_other, get_or_past}
use Rattle.std.proofs.lemmas.List.Elements.{filter_agree}
use Rattle.std.proofs.lemmas.List.Folds.{list_any_at, list_any_none}
use Rattle.std.proofs.lemmas.List.FromFn.{length-range_with_len, get_or-range_with_len}
use Rattle.std.proofs.lemmas.Nat.Bits.{bit_at-zero, bit_at-lt, bit_at_or, bit_at_ones, bit_at-trailing_zeros}
use Rattle.lanes.specs.Masks.{has_bit, has_some_bit}
use Rattle.mesi_dir.specs.CoreSets.{has_core, cores_in, with_core, without_core, HasNone, HasOtherCore}

same_parts : (a b : ℕ) → a / 64 ≡ b / 64 → a % 64 ≡ b % 64 → a ≡ b
same_parts a b q r = omega arith

-- the word of a core is replaced by one that has other bits at other places alone
other_core : (words : List ℕ) (core c v : ℕ) → core / 64 < length words → ((i : ℕ) → i < 64 → i ≢ core % 64 → bit_at v i ≡ bit_at (get_or words (core / 64) 0) i) → core ≢ c → has_core (set words (core / 64) v) c ≡ has_core words c
unfolding has_bit
other_core words core c v within others apart =
    elim (cases_eq (c / 64) (core / 64)) as (λ _. eqb (bit_at (get_or (set words (core / 64) v) (c / 64) 0) (c % 64)) 1 ≡ eqb (bit_at (get_or words (c / 64) 0) (c % 64)) 1) [
      | inl e ↦
          let place : c % 64 ≢ core % 64 = λ k. apart (same_parts core c (sym e) (sym k)) in
          rw (e, get_or-set_same words (core / 64) v 0 within, others (c % 64) (omega arith) place) refl
      | inr e ↦ rw (get_or-set_other words (core / 64) (c / 64) v 0 e) refl
    ]

this_core : (words : List ℕ) (core v : ℕ) → core / 64 < length words → has_core (set words (core / 64) v) core ≡ eqb (bit_at v (core % 64)) 1
unfolding has_bit
this_core words core v within = rw (get_or-set_same words (core / 64) v 0 within) refl

pub core_added : (words : List ℕ) (core v : ℕ) → core / 64 < length words → bit_at v (core % 64) ≡ 1 → ((i : ℕ) → i ≢ core % 64 → bit_at v i ≡ bit_at (get_or words (core / 64) 0) i) → (c : ℕ) → has_core (set words (core / 64) v) c ≡ (nat_eq core c || has_core words c)
core_added words core v within here others c =
    elim (cases_eq core c) as (λ _. has_core (set words (core / 64) v) c ≡ (nat_eq core c || has_core words c)) [
      | inl e ↦ rw (eq-eqb core c e, ← e, this_core words core v within, here) refl
      | inr e ↦ rw (ne_eqb core c e) (other_core words core c v within (λ i _ k. others i k) e)
    ]

pub core_removed : (words : List ℕ) (core v : ℕ) → core / 64 < length words → bit_at v (core % 64) ≡ 0 → ((i : ℕ) → i < 64 → i ≢ core % 64 → bit_at v i ≡ bit_at (get_or words (core / 64) 0) i) → (c : ℕ) → has_core (set words (core / 64) v) c ≡ (not (nat_eq core c) && has_core words c)
core_removed words core v within here others c =
    elim (cases_eq core c) as (λ _. has_core (set words (core / 64) v) c ≡ (not (nat_eq core c) && has_core words c)) [
      | inl e ↦ rw (eq-eqb core c e, ← e, this_core words core v within, here) refl
      | inr e ↦ rw (ne_eqb core c e) (other_core words core c v within others e)
    ]

-- ---- the cores in order
filtered_out : (p : ℕ → Bool) (a n c : ℕ) → c < a → is_member nat_eq (filter p (range_with_len a n)) c ≡ false
filtered_out p a zero c h = refl
filtered_out p a (suc n) c h =
    elim (p a) as (λ b. is_member nat_eq (cond b (a ∷ filter p (range_with_len (a + 1) n)) (filter p (range_with_len (a + 1) n))) c ≡ false) [
      | true ↦ rw (ne_eqb c a (λ e. omega arith)) (filtered_out p (a + 1) n c (omega arith))
      | false ↦ filtered_out p (a + 1) n c (omega arith)
    ]

filtered_past : (p : ℕ → Bool) (a n c : ℕ) → a + n ≤ c → is_member nat_eq (filter p (range_with_len a n)) c ≡ false
filtered_past p a zero c h = refl
filtered_past p a (suc n) c h =
    elim (p a) as (λ b. is_member nat_eq (cond b (a ∷ filter p (range_with_len (a + 1) n)) (filter p (range_with_len (a + 1) n))) c ≡ false) [
      | true ↦ rw (ne_eqb c a (λ e. omega arith)) (filtered_past p (a + 1) n c (omega arith))
      | false ↦ filtered_past p (a + 1) n c (omega arith)
    ]

filtered_here : (p : ℕ → Bool) (a n : ℕ) (b : Bool) → p a ≡ b → is_member nat_eq (cond b (a ∷ filter p (range_with_len (a + 1) n)) (filter p (range_with_len (a + 1) n))) a ≡ b
filtered_here p a n true h = rw (eq-eqb a a refl) refl
filtered_here p a n false h = filtered_out p (a + 1) n a (omega arith)

filtered_in : (p : ℕ → Bool) (a n c : ℕ) → a ≤ c → c < a + n → is_member nat_eq (filter p (range_with_len a n)) c ≡ p c
filtered_in p a zero c low high = absurd (omega arith)
filtered_in p a (suc n) c low high =
    elim (cases_eq a c) as (λ _. is_member nat_eq (cond (p a) (a ∷ filter p (range_with_len (a + 1) n)) (filter p (range_with_len (a + 1) n))) c ≡ p c) [
      | inl e ↦ subst (λ (x : ℕ). is_member nat_eq (cond (p a) (a ∷ filter p (range_with_len (a + 1) n)) (filter p (range_with_len (a + 1) n))) x ≡ p x) e (filtered_here p a n (p a) refl)
      | inr e ↦ elim (p a) as (λ b. is_member nat_eq (cond b (a ∷ filter p (range_with_len (a + 1) n)) (filter p (range_with_len (a + 1) n))) c ≡ p c) [
        | true ↦ rw (ne_eqb c a (λ k. e (sym k))) (filtered_in p (a + 1) n c (omega arith) (omega arith))
        | false ↦ filtered_in p (a + 1) n c (omega arith) (omega arith)
      ]
    ]

core_past : (words : List ℕ) (c : ℕ) → 64 * length words ≤ c → has_core words c ≡ false
unfolding has_bit
core_past words c h = rw (get_or_past words (c / 64) 0 (omega arith), bit_at-zero (c % 64)) refl

pub is_member-cores_in : (words : List ℕ) (c : ℕ) → is_member nat_eq (cores_in words) c ≡ has_core words c
unfolding cores_in
is_member-cores_in words c =
    elim (cases_lt c (64 * length words)) as (λ _. is_member nat_eq (filter (has_core words) (range_with_len 0 (64 * length words))) c ≡ has_core words c) [
      | inl h ↦ filtered_in (has_core words) 0 (64 * length words) c (omega arith) (omega arith)
      | inr h ↦ filtered_past (has_core words) 0 (64 * length words) c (omega arith) ∙ sym (core_past words c h)
    ]

filtered_none : (p : ℕ → Bool) → ((c : ℕ) → p c ≡ false) → (a n : ℕ) → filter p (range_with_len a n) ≡ []
filtered_none p h a zero = refl
filtered_none p h a (suc n) = rw (h a) (filtered_none p h (a + 1) n)

pub cores_in-none : (words : List ℕ) → HasNone words → cores_in words ≡ []
unfolding cores_in
cores_in-none words h = filtered_none (has_core words) h 0 (64 * length words)

a_member : (list : List ℕ) → ((c : ℕ) → is_member nat_eq list c ≡ false) ⊎ ((c : ℕ) × (is_member nat_eq list c ≡ true))
a_member [] = inl (λ c. refl)
a_member (x ∷ list) = inr (x, rw (eq-eqb x x refl) refl)

-- a set that is not empty has a core
pub some_core : (words : List ℕ) → (HasNone words → ⊥) → (c : ℕ) × (has_core words c ≡ true)
some_core words h =
    elim (a_member (cores_in words)) as (λ _. (c : ℕ) × (has_core words c ≡ true)) [
      | inl none ↦ absurd (h (λ c. sym (is_member-cores_in words c) ∙ none c))
      | inr some ↦ (some.0, sym (is_member-cores_in words some.0) ∙ some.1)
    ]

-- ---- a set is empty where no bit of the mask is 1
no_more : (n : ℕ) → 0 + n ≡ n
no_more n = omega arith

mask_from_some : (words : List ℕ) (c : ℕ) → c < 256 → has_bit words c ≡ true → has_some_bit words ≡ true
unfolding has_some_bit
mask_from_some words c l h =
    list_any_at (has_bit words) (range_with_len 0 256) c 0 (omega (arith, length-range_with_len 0 256)) (ap (has_bit words) (get_or-range_with_len 0 256 c 0 l ∙ no_more c) ∙ h)

not_both : (b : Bool) → b ≡ true → b ≡ false → ⊥
not_both b t f = cc

pub none_from_mask : (words : List ℕ) → length words ≡ 4 → has_some_bit words ≡ false → HasNone words
unfolding has_some_bit
none_from_mask words four h c =
    elim (cases_lt c 256) as (λ _. has_bit words c ≡ false) [
      | inl l ↦ false_from_ne_true (has_bit words c) (λ t. not_both (has_some_bit words) (mask_from_some words c l t) h)
      | inr l ↦ core_past words c (omega arith)
    ]

pub mask_from_none : (words : List ℕ) → HasNone words → has_some_bit words ≡ false
unfolding has_some_bit
mask_from_none words h = list_any_none (has_bit words) (range_with_len 0 256) (λ i d l. h (get_or (range_with_len 0 256) i d))

zeros_have_none-at : (k i : ℕ) → eqb (bit_at (get_or (0 ∷ 0 ∷ 0 ∷ 0 ∷ []) k 0) i) 1 ≡ false
zeros_have_none-at k i =
    let zeros : List ℕ = 0 ∷ 0 ∷ 0 ∷ 0 ∷ [] in
    let zero_there : get_or zeros k 0 ≡ 0 = elim (cases_lt k 4) as (λ _. get_or zeros k 0 ≡ 0) [
      | inl l ↦ get_or-replicate 4 k 0 0 l
      | inr l ↦ get_or_past zeros k 0 l
    ] in
    rw (zero_there, bit_at-zero i) refl

pub zeros_have_none : HasNone (0 ∷ 0 ∷ 0 ∷ 0 ∷ [])
unfolding has_bit
zeros_have_none c = zeros_have_none-at (c / 64) (c % 64)

-- ---- another core
all_have : (c : ℕ) → c < 256 → has_core (18446744073709551615 ∷ 18446744073709551615 ∷ 18446744073709551615 ∷ 18446744073709551615 ∷ []) c ≡ true
unfolding has_bit
all_have c l =
    let all : List ℕ = 18446744073709551615 ∷ 18446744073709551615 ∷ 18446744073709551615 ∷ 18446744073709551615 ∷ [] in
    let word : get_or all (c / 64) 0 ≡ 18446744073709551615 = get_or-replicate 4 (c / 64) 18446744073709551615 0 (omega arith) in
    rw (word, bit_at_ones 64 (c % 64) (omega arith)) refl

module _ (words others both : List ℕ) (core : ℕ) where
  abbrev AreOthers : Type 0
  AreOthers = (c : ℕ) → has_core others c
      ≡ (not (nat_eq core c) && has_core (18446744073709551615 ∷ 18446744073709551615 ∷ 18446744073709551615 ∷ 18446744073709551615 ∷ []) c)

  abbrev AreBoth : Type 0
  AreBoth = (c : ℕ) → has_bit both c ≡ (has_bit words c && has_bit others c)

  pub other_from_mask : AreOthers → AreBoth → has_some_bit both ≡ true → HasOtherCore words core
  other_from_mask are_others are_both h =
      let found = some_core both (λ none. not_both (has_some_bit both) h (mask_from_none both none)) in
      let parts = and_parts (has_bit words found.0) (has_bit others found.0) (sym (are_both found.0) ∙ found.1) in
      let apart = and_parts (not (nat_eq core found.0)) _ (sym (are_others found.0) ∙ parts.1) in
      (found.0, λ e. not_both (nat_eq core found.0) (eq-eqb core found.0 (sym e)) (not-true (nat_eq core found.0) apart.0), parts.0)

  mask_from_this : AreOthers → AreBoth → (c : ℕ) → c < 256 → c ≢ core → has_core words c ≡ true → has_some_bit both ≡ true
  mask_from_this are_others are_both c l apart has =
      mask_from_some both c l (are_both c ∙ rw (has, are_others c, ne_eqb core c (λ e. apart (sym e)), all_have c l) refl)

  pub mask_from_other : AreOthers → AreBoth → length words ≡ 4 → HasOtherCore words core → has_some_bit both ≡ true
  mask_from_other are_others are_both four other =
      elim (cases_lt other.0 256) as (λ _. has_some_bit both ≡ true) [
        | inl l ↦ mask_from_this are_others are_both other.0 l other.1 other.2
        | inr l ↦ absurd (not_both (has_core words other.0) other.2 (core_past words other.0 (omega arith)))
      ]

-- ---- the cores in order, with one more or fewer
pub none_from_cores : (words : List ℕ) → cores_in words ≡ [] → HasNone words
none_from_cores words h c = sym (is_member-cores_in words c) ∙ ap (λ (l : List ℕ). is_member nat_eq l c) h

same_test : (x y : ℕ) → nat_eq x y ≡ nat_eq y x
same_test x y =
    elim (cases_eq x y) as (λ _. nat_eq x y ≡ nat_eq y x) [
      | inl e ↦ rw (eq-eqb x y e, eq-eqb y x (sym e)) refl
      | inr e ↦ rw (ne_eqb x y e, ne_eqb y x (λ k. e (sym k))) refl
    ]

pub cores_with : (words more : List ℕ) (core : ℕ) → length more ≡ 4 → ((c : ℕ) → has_core more c ≡ (nat_eq core c || has_core words c)) → cores_in more ≡ with_core core (cores_in words)
unfolding cores_in
cores_with words more core four each =
    ap (λ (n : ℕ). filter (has_core more) (range_with_len 0 (64 * n))) four
    ∙ filter_agree (has_core more) (λ c. nat_eq c core || is_member nat_eq (cores_in words) c)
    (λ c. each c ∙ ap₂ (λ (x y : Bool). x || y) (same_test core c) (sym (is_member-cores_in words c))) (range_with_len 0 256)

none_after : (core a n : ℕ) → core < a → filter (λ c. nat_eq c core || false) (range_with_len a n) ≡ []
none_after core a zero l = refl
none_after core a (suc n) l =
    let apart : (nat_eq a core || false) ≡ false = rw (ne_eqb a core (λ e. omega arith)) refl in
    ap (λ (b : Bool). cond b (a ∷ filter (λ c. nat_eq c core || false) (range_with_len (a + 1) n)) (filter (λ c. nat_eq c core || false) (range_with_len (a + 1) n))) apart
    ∙ none_after core (a + 1) n (omega arith)

one_among : (core a n : ℕ) → a ≤ core → core < a + n → filter (λ c. nat_eq c core || false) (range_with_len a n) ≡ core ∷ []
one_among core a zero low high = absurd (omega arith)
one_among core a (suc n) low high =
    elim (cases_eq a core) as (λ _. cond (nat_eq a core || false) (a ∷ filter (λ c. nat_eq c core || false) (range_with_len (a + 1) n)) (filter (λ c. nat_eq c core || false) (range_with_len (a + 1) n)) ≡ core ∷ []) [
      | inl e ↦
          let here : (nat_eq a core || false) ≡ true = rw (eq-eqb a core e) refl in
          ap (λ (b : Bool). cond b (a ∷ filter (λ c. nat_eq c core || false) (range_with_len (a + 1) n)) (filter (λ c. nat_eq c core || false) (range_with_len (a + 1) n))) here
          ∙ ap₂ (λ (x : ℕ) (l : List ℕ). x ∷ l) e (none_after core (a + 1) n (omega (arith, e)))
      | inr e ↦
          let apart : (nat_eq a core || false) ≡ false = rw (ne_eqb a core e) refl in
          ap (λ (b : Bool). cond b (a ∷ filter (λ c. nat_eq c core || false) (range_with_len (a + 1) n)) (filter (λ c. nat_eq c core || false) (range_with_len (a + 1) n))) apart
          ∙ one_among core (a + 1) n (omega (arith, e)) (omega arith)
    ]

pub one_core : (core : ℕ) → core < 256 → with_core core [] ≡ core ∷ []
one_core core l = one_among core 0 256 (omega arith) (omega (arith, l))

kept_twice : (q : ℕ → Bool) (x : ℕ) (a b : List ℕ) (s t : Bool) → q x ≡ s → a ≡ filter q b → cond (s && t) (x ∷ a) a ≡ filter q (cond t (x ∷ b) b)
kept_twice q x a b true true e rest = ap (λ (l : List ℕ). x ∷ l) rest ∙ sym (ap (λ (u : Bool). cond u (x ∷ filter q b) (filter q b)) e)
kept_twice q x a b true false e rest = rest
kept_twice q x a b false true e rest = rest ∙ sym (ap (λ (u : Bool). cond u (x ∷ filter q b) (filter q b)) e)
kept_twice q x a b false false e rest = rest

filter_twice : (p q r : ℕ → Bool) → ((c : ℕ) → r c ≡ (q c && p c)) → (xs : List ℕ) → filter r xs ≡ filter q (filter p xs)
filter_twice p q r h [] = refl
filter_twice p q r h (x ∷ xs) =
    ap (λ (u : Bool). cond u (x ∷ filter r xs) (filter r xs)) (h x)
    ∙ kept_twice q x (filter r xs) (filter p xs) (q x) (p x) refl (filter_twice p q r h xs)

pub cores_without : (words fewer : List ℕ) (core : ℕ) → length fewer ≡ length words → ((c : ℕ) → has_core fewer c ≡ (not (nat_eq core c) && has_core words c)) → cores_in fewer ≡ without_core core (cores_in words)
unfolding cores_in
cores_without words fewer core same each =
    ap (λ (n : ℕ). filter (has_core fewer) (range_with_len 0 (64 * n))) same
    ∙ filter_twice (has_core words) (λ c. not (nat_eq c core)) (has_core fewer)
    (λ c. each c ∙ ap (λ (b : Bool). not b && has_core words c) (same_test core c)) (range_with_len 0 (64 * length words))

-- ---- the first one
head_is : (p : ℕ → Bool) (a n c : ℕ) → a ≤ c → c < a + n → p c ≡ true → ((k : ℕ) → k < c → p k ≡ false) → slice_get (filter p (range_with_len a n)) 0 ≡ Some c
head_is p a zero c low high here before = absurd (omega arith)
head_is p a (suc n) c low high here before =
    elim (cases_eq a c) as (λ _. slice_get (cond (p a) (a ∷ filter p (range_with_len (a + 1) n)) (filter p (range_with_len (a + 1) n))) 0 ≡ Some c) [
      | inl e ↦
          let passes : p a ≡ true = rw e here in
          ap (λ (b : Bool). slice_get (cond b (a ∷ filter p (range_with_len (a + 1) n)) (filter p (range_with_len (a + 1) n))) 0) passes ∙ ap (λ (x : ℕ). Some x) e
      | inr e ↦
          let fails : p a ≡ false = before a (omega (arith, e)) in
          ap (λ (b : Bool). slice_get (cond b (a ∷ filter p (range_with_len (a + 1) n)) (filter p (range_with_len (a + 1) n))) 0) fails
          ∙ head_is p (a + 1) n c (omega (arith, e)) (omega arith) here before
    ]

kept_all : (p : ℕ → Bool) (a b n : ℕ) → a < b → filter (λ x. not (nat_eq x a)) (filter p (range_with_len b n)) ≡ filter p (range_with_len b n)
kept_all p a b zero l = refl
kept_all p a b (suc n) l =
    let rest = kept_all p a (b + 1) n (omega arith) in
    elim (p b) as (λ u. filter (λ x. not (nat_eq x a)) (cond u (b ∷ filter p (range_with_len (b + 1) n)) (filter p (range_with_len (b + 1) n))) ≡ cond u (b ∷ filter p (range_with_len (b + 1) n)) (filter p (range_with_len (b + 1) n))) [
      | true ↦
          let apart : not (nat_eq b a) ≡ true = rw (ne_eqb b a (λ e. omega arith)) refl in
          ap (λ (u : Bool). cond u (b ∷ filter (λ x. not (nat_eq x a)) (filter p (range_with_len (b + 1) n))) (filter (λ x. not (nat_eq x a)) (filter p (range_with_len (b + 1) n)))) apart
          ∙ ap (λ (t : List ℕ). b ∷ t) rest
      | false ↦ rest
    ]

first_kept : (p : ℕ → Bool) (a n c : ℕ) → slice_get (filter p (range_with_len a n)) 0 ≡ Some c → filter p (range_with_len a n) ≡ c ∷ filter (λ x. not (nat_eq x c)) (filter p (range_with_len a n))
first_kept p a zero c = λ h. absurd cc
first_kept p a (suc n) c =
    elim (p a) as (λ u. slice_get (cond u (a ∷ filter p (range_with_len (a + 1) n)) (filter p (range_with_len (a + 1) n))) 0 ≡ Some c
    → cond u (a ∷ filter p (range_with_len (a + 1) n)) (filter p (range_with_len (a + 1) n)) ≡ c ∷ filter (λ x. not (nat_eq x c)) (cond u (a ∷ filter p (range_with_len (a + 1) n)) (filter p (range_with_len (a + 1) n)))) [
      | true ↦ λ h.
          let e : a ≡ c = cc in
          let test : not (nat_eq a c) ≡ false = rw (eq-eqb a c e) refl in
          let gone : filter (λ x. not (nat_eq x c)) (a ∷ filter p (range_with_len (a + 1) n)) ≡ filter p (range_with_len (a + 1) n)
          = ap (λ (u : Bool). cond u (a ∷ filter (λ x. not (nat_eq x c)) (filter p (range_with_len (a + 1) n))) (filter (λ x. not (nat_eq x c)) (filter p (range_with_len (a + 1) n)))) test
          ∙ kept_all p c (a + 1) n (omega (arith, e)) in
          ap₂ (λ (x : ℕ) (t : List ℕ). x ∷ t) e (sym gone)
      | false ↦ λ h. first_kept p (a + 1) n c h
    ]

pub first_and_rest : (words : List ℕ) (core : ℕ) → slice_get (cores_in words) 0 ≡ Some core → cores_in words ≡ core ∷ without_core core (cores_in words)
unfolding cores_in
first_and_rest words core h = first_kept (has_core words) 0 (64 * length words) core h

pub is_zero : (w : ℕ) → not (eqb w 0) ≡ false → w ≡ 0
is_zero w h =
    elim (cases_eq w 0) as (λ _. w ≡ 0) [
      | inl e ↦ e
      | inr e ↦ let bad : true ≡ false = rw (ne_eqb w 0 e) at h in absurd cc
    ]

pub is_some_word : (w : ℕ) → not (eqb w 0) ≡ true → 0 < w
is_some_word w h =
    elim (cases_eq w 0) as (λ _. 0 < w) [
      | inl e ↦ let bad : false ≡ true = rw (eq-eqb w 0 e) at h in absurd cc
      | inr e ↦ omega (arith, e)
    ]

module _ (words : List ℕ) where
  at_place : (k i c : ℕ) → i < 64 → c ≡ 64 * k + i → has_core words c ≡ eqb (bit_at (get_or words k 0) i) 1
  unfolding has_bit
  at_place k i c l e =
      let q : c / 64 ≡ k = omega arith in
      let r : c % 64 ≡ i = omega arith in
      ap₂ (λ (x y : ℕ). eqb (bit_at (get_or words x 0) y) 1) q r

  in_earlier_word : (place k i c : ℕ) → c ≡ 64 * k + i → i < 64 → k < place → ((k : ℕ) → k < place → get_or words k 0 ≡ 0) → has_core words c ≡ false
  in_earlier_word place k i c e l earlier zeros = at_place k i c l e ∙ rw (zeros k earlier, bit_at-zero i) refl

  in_this_word : (place k i t c : ℕ) → c ≡ 64 * k + i → i < 64 → k ≡ place → i < t → ((i : ℕ) → i < t → bit_at (get_or words place 0) i ≡ 0) → has_core words c ≡ false
  in_this_word place k i t c e l here before zeros = at_place k i c l e ∙ rw (here, zeros i before) refl

  pub none_from_words : list_any (λ w. not (eqb w 0)) words ≡ false → HasNone words
  none_from_words h c =
      elim (cases_lt (c / 64) (length words)) as (λ _. has_core words c ≡ false) [
        | inl l ↦
            let zero_there : get_or words (c / 64) 0 ≡ 0
            = is_zero (get_or words (c / 64) 0) (false_from_ne_true _ (λ t. not_both _ (list_any_at (λ w. not (eqb w 0)) words (c / 64) 0 l t) h)) in
            at_place (c / 64) (c % 64) c (omega arith) (omega arith) ∙ rw (zero_there, bit_at-zero (c % 64)) refl
        | inr l ↦ core_past words c (omega arith)
      ]

  -- the least core is that of the lowest bit of the first word that is not 0
  pub first_of_words : (place core : ℕ) → place < length words → 0 < get_or words place 0 → get_or words place 0 < 2 ^ 64 → ((k : ℕ) → k < place → get_or words k 0 ≡ 0)
      → core ≡ 64 * place + trailing_zeros w64 (get_or words place 0) → slice_get (cores_in words) 0 ≡ Some core
  unfolding cores_in
  first_of_words place core within some fits zeros e =
      let lowest = bit_at-trailing_zeros w64 (get_or words place 0) some fits in
      let t : ℕ = trailing_zeros w64 (get_or words place 0) in
      let below : t < 64 = lowest.0 in
      head_is (has_core words) 0 (64 * length words) core (omega arith) (omega (arith, e))
      (at_place place t core below e ∙ eq-eqb (bit_at (get_or words place 0) t) 1 lowest.1)
      (λ c l. elim (cases_lt (c / 64) place) as (λ _. has_core words c ≡ false) [
        | inl k ↦ in_earlier_word place (c / 64) (c % 64) c (omega arith) (omega arith) k zeros
        | inr k ↦ in_this_word place (c / 64) (c % 64) t c (omega arith) (omega arith) (omega (arith, e)) (omega (arith, e)) lowest.2
      ])

-- ---- the cores of two sets

one_of : (x y : ℕ) → x < 2 → y < 2 → eqb (max x y) 1 ≡ (eqb x 1 || eqb y 1)
one_of zero zero l m = refl
one_of zero (suc zero) l m = refl
one_of zero (suc (suc y)) l m = absurd (omega arith)
one_of (suc zero) zero l m = refl
one_of (suc zero) (suc zero) l m = refl
one_of (suc zero) (suc (suc y)) l m = absurd (omega arith)
one_of (suc (suc x)) y l m = absurd (omega arith)

word_or : (a b i : ℕ) → eqb (bit_at (bit_or a b) i) 1 ≡ (eqb (bit_at a i) 1 || eqb (bit_at b i) 1)
word_or a b i = ap (λ (x : ℕ). eqb x 1) (bit_at_or a b i) ∙ one_of (bit_at a i) (bit_at b i) (bit_at-lt a i) (bit_at-lt b i)

abbrev pub either : (a b : List ℕ) → List ℕ
either a b = bit_or (get_or a 0 0) (get_or b 0 0) ∷ bit_or (get_or a 1 0) (get_or b 1 0) ∷ bit_or (get_or a 2 0) (get_or b 2 0) ∷ bit_or (get_or a 3 0) (get_or b 3 0) ∷ []

words_or : (a b : List ℕ) (k i : ℕ) → length a ≤ 4 → length b ≤ 4 → eqb (bit_at (get_or (either a b) k 0) i) 1 ≡ (eqb (bit_at (get_or a k 0) i) 1 || eqb (bit_at (get_or b k 0) i) 1)
words_or a b zero i l m = word_or (get_or a 0 0) (get_or b 0 0) i
words_or a b (suc zero) i l m = word_or (get_or a 1 0) (get_or b 1 0) i
words_or a b (suc (suc zero)) i l m = word_or (get_or a 2 0) (get_or b 2 0) i
words_or a b (suc (suc (suc zero))) i l m = word_or (get_or a 3 0) (get_or b 3 0) i
words_or a b (suc (suc (suc (suc k)))) i l m =
    rw (get_or_past a (suc (suc (suc (suc k)))) 0 (omega (arith, l)), get_or_past b (suc (suc (suc (suc k)))) 0 (omega (arith, m)), bit_at-zero i) refl

pub either_has : (a b : List ℕ) → length a ≤ 4 → length b ≤ 4 → (c : ℕ) → has_core (either a b) c ≡ (has_core a c || has_core b c)
unfolding has_bit
either_has a b l m c = words_or a b (c / 64) (c % 64) l m
