-- What things of all numbers add up to: each has one number, or none.
use Rattle.std.proofs.Common.{◌≡◌, ℕ, ◌+◌, ◌==◌, ◌&&◌, Bool, true, false, cond, List, [], ◌∷◌, sum_by, count_by, Option, Some, None, is_some, inl, inr, refl, sym, ◌∙◌, ap, arith}
use Rattle.std.proofs.lemmas.Bool.{cases_Bool, eq-eqb}
use Rattle.std.proofs.lemmas.List.Sums.{sum_by-cons}
use Rattle.stats.specs.Counted.{one_if}
use Rattle.profile.specs.Copies.{is_this}
use Rattle.profile.proofs.Fields.{counted_if}

-- a list has each number of which the test holds once, and no other
abbrev pub HasEachOnce : (has : ℕ → Bool) → List ℕ → Type 0
HasEachOnce has numbers = (n : ℕ) → count_by (λ m. n == m) numbers ≡ one_if (has n)

module _ {X : Type 0} (test : X → Bool) (number_of : X → Option ℕ) (count : X → ℕ) where
  -- what those of one number add up to, and what those of any
  abbrev pub sum_at : (number : ℕ) → List X → ℕ
  sum_at number xs = sum_by (counted_if (λ x. test x && is_this (number_of x) number) count) xs

  abbrev pub sum_of_all : List X → ℕ
  sum_of_all xs = sum_by (counted_if (λ x. test x && is_some (number_of x)) count) xs

  abbrev at_number : X → (number : ℕ) → ℕ
  at_number x number = counted_if (λ y. test y && is_this (number_of y) number) count x

  sum_of_none : (numbers : List ℕ) → sum_by (λ number. sum_at number []) numbers ≡ 0
  sum_of_none [] = refl
  sum_of_none (n ∷ numbers) = omega (arith, sum_by-cons (λ number. sum_at number []) n numbers, sum_of_none numbers)

  one_first : (x : X) (xs : List X) (numbers : List ℕ) → sum_by (λ number. sum_at number (x ∷ xs)) numbers ≡ sum_by (at_number x) numbers + sum_by (λ number. sum_at number xs) numbers
  one_first x xs [] = refl
  one_first x xs (n ∷ numbers) =
      omega (
        arith,
        sum_by-cons (λ number. sum_at number (x ∷ xs)) n numbers,
        sum_by-cons (counted_if (λ y. test y && is_this (number_of y) n) count) x xs,
        one_first x xs numbers,
        sum_by-cons (at_number x) n numbers,
        sum_by-cons (λ number. sum_at number xs) n numbers,
      )

  abbrev value_if : (passes : Bool) → Option ℕ → (n number : ℕ) → ℕ
  value_if passes own n number = cond (passes && is_this own number) n 0

  abbrev value_where : (n : ℕ) → Bool → ℕ
  value_where n test = cond test n 0

  none_at : (own : Option ℕ) (n : ℕ) (numbers : List ℕ) → sum_by (value_if false own n) numbers ≡ 0
  none_at own n [] = refl
  none_at own n (m ∷ numbers) = omega (arith, none_at own n numbers, sum_by-cons (value_if false own n) m numbers)

  none_of : (n : ℕ) (numbers : List ℕ) → sum_by (value_if true None n) numbers ≡ 0
  none_of n [] = refl
  none_of n (m ∷ numbers) = omega (arith, none_of n numbers, sum_by-cons (value_if true None n) m numbers)

  -- a number that is not there adds nothing, and one that is there once adds its value
  zero_of : (k n : ℕ) (numbers : List ℕ) → count_by (λ m. k == m) numbers ≡ 0 → sum_by (value_if true (Some k) n) numbers ≡ 0
  zero_of k n [] none = refl
  zero_of k n (m ∷ numbers) none =
      elim (cases_Bool (k == m)) [
        | inl same ↦ absurd (omega (arith, none, sum_by-cons (λ x. one_if (k == x)) m numbers, ap one_if same))
        | inr apart ↦
            omega (
              arith,
              zero_of k n numbers (omega (arith, none, sum_by-cons (λ x. one_if (k == x)) m numbers)),
              sum_by-cons (value_if true (Some k) n) m numbers,
              ap (value_where n) apart,
            )
      ]

  one_of : (k n : ℕ) (numbers : List ℕ) → count_by (λ m. k == m) numbers ≡ 1 → sum_by (value_if true (Some k) n) numbers ≡ n
  one_of k n [] one = absurd (omega (arith, one))
  one_of k n (m ∷ numbers) one =
      elim (cases_Bool (k == m)) [
        | inl same ↦
            omega (
              arith,
              zero_of k n numbers (omega (arith, one, sum_by-cons (λ x. one_if (k == x)) m numbers, ap one_if same)),
              sum_by-cons (value_if true (Some k) n) m numbers,
              ap (value_where n) same,
            )
        | inr apart ↦
            omega (
              arith,
              one_of k n numbers (omega (arith, one, sum_by-cons (λ x. one_if (k == x)) m numbers, ap one_if apart)),
              sum_by-cons (value_if true (Some k) n) m numbers,
              ap (value_where n) apart,
            )
      ]

  module _ (has : ℕ → Bool) (numbers : List ℕ) (once : HasEachOnce has numbers) where
    own_sum : (passes : Bool) (own : Option ℕ) (n : ℕ) → ((k : ℕ) → passes ≡ true → own ≡ Some k → has k ≡ false → n ≡ 0) → sum_by (value_if passes own n) numbers ≡ cond (passes && is_some own) n 0
    own_sum false own n nothing = none_at own n numbers
    own_sum true None n nothing = none_of n numbers
    own_sum true (Some k) n nothing =
        elim (cases_Bool (has k)) [
          | inl there ↦ one_of k n numbers (once k ∙ ap one_if there)
          | inr not ↦ zero_of k n numbers (once k ∙ ap one_if not) ∙ sym (nothing k refl refl not)
        ]

    -- the sums of all numbers, where nothing is of a number that is not listed
    pub all_numbers : (xs : List X) → ((k : ℕ) → has k ≡ false → sum_at k xs ≡ 0) → sum_by (λ number. sum_at number xs) numbers ≡ sum_of_all xs
    all_numbers [] nothing = sum_of_none numbers
    all_numbers (x ∷ xs) nothing =
        let of_first : (k : ℕ) → test x ≡ true → number_of x ≡ Some k → has k ≡ false → count x ≡ 0 = λ k passes own not.
        let here : at_number x k ≡ count x = ap (λ (b : Bool). cond (b && is_this (number_of x) k) (count x) 0) passes ∙ ap (λ (o : Option ℕ). cond (is_this o k) (count x) 0) own ∙ ap (λ (b : Bool). cond b (count x) 0) (eq-eqb k k refl) in
        omega (arith, nothing k not, sum_by-cons (counted_if (λ y. test y && is_this (number_of y) k) count) x xs, here)
        in
        omega (
          arith,
          one_first x xs numbers,
          own_sum (test x) (number_of x) (count x) of_first,
          all_numbers xs (λ k not. omega (arith, nothing k not, sum_by-cons (counted_if (λ y. test y && is_this (number_of y) k) count) x xs)),
          sum_by-cons (counted_if (λ y. test y && is_some (number_of y)) count) x xs,
        )
