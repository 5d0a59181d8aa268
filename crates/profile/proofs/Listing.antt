-- Lists of rows that grow by the next one, and what one core more has.
use Rattle.std.proofs.Common.{◌≡◌, ℕ, ◌+◌, ◌^◌, ◌<◌, ◌≤◌, ◌||◌, min, Bool, true, false, List, [], ◌∷◌, ◌++◌, map, filter, Option, None, Some, if◌then◌else◌, ◌⊎◌, inl, inr, refl, sym, ◌∙◌, ap, ap₂, subst, append-nil, append_assoc, arith}
use Rattle.std.specs.List.{list_any, range_with_len}
use Rattle.std.specs.Prelude.{flat_map, sum_by}
use Rattle.std.proofs.lemmas.Grind.{flat_map-append}
use Rattle.std.proofs.lemmas.Bool.{cases_lt}
use Rattle.std.proofs.lemmas.List.{map-append}
use Rattle.std.proofs.lemmas.List.Elements.{filter-append}
use Rattle.std.proofs.lemmas.List.Folds.{list_any-append}
use Rattle.std.proofs.lemmas.List.Sums.{fold-append, sum_by-append}
use Rattle.sparse_table.specs.Next.{earlier}
use Rattle.profile_rows.specs.declared.tally.Tally.{Tally}
use Rattle.profile_rows.specs.Tallies.{capped, capped_tally, no_tally, plus, total}
use Rattle.profile.specs.Listed.{AreAll}
use Rattle.profile.specs.Rows.{IsNext}
use Rattle.profile.proofs.Lists.{range_more}
use Rattle.profile.proofs.RowsMore.{both_capped}

module _ (test : ℕ → Bool) where
  -- these are all numbers before this one
  abbrev pub AreBefore : (at : ℕ) → List ℕ → Type 0
  AreBefore at so_far = (rest : List ℕ) → AreAll test at rest → AreAll test 0 (so_far ++ rest)

  pub none_before : AreBefore 0 []
  none_before = λ rest all. all

  pub one_more : (at n : ℕ) (so_far : List ℕ) → AreBefore at so_far → IsNext test at (Some n) → AreBefore (n + 1) (so_far ++ n ∷ [])
  one_more at n so_far before next = λ rest all. subst (λ (ns : List ℕ). AreAll test 0 ns) (sym (append_assoc so_far (n ∷ []) rest)) (before (n ∷ rest) (next, all))

  pub no_more : (at : ℕ) (so_far : List ℕ) → AreBefore at so_far → ((n : ℕ) → at ≤ n → n < 2 ^ 64 → test n ≡ false) → AreAll test 0 so_far
  no_more at so_far before none = subst (λ (ns : List ℕ). AreAll test 0 ns) (append-nil so_far) (before [] none)

-- ---- the next number of which one test holds, or the other

or_true : (b : Bool) → (b || true) ≡ true
or_true true = refl
or_true false = refl

module _ (one other : ℕ → Bool) (from : ℕ) where
  neither : (n : ℕ) → one n ≡ false → other n ≡ false → (one n || other n) ≡ false
  neither n not nor = ap₂ (λ (a b : Bool). a || b) not nor

  pub next_either : (a b : Option ℕ) → IsNext one from a → IsNext other from b → IsNext (λ n. one n || other n) from (earlier a b)
  next_either None None none none_too = λ n le. neither n (none n le) (none_too n le)
  next_either None (Some y) none next = (next.0, ap (λ (b : Bool). one y || b) next.1 ∙ or_true (one y), λ n le lt. neither n (none n le) (next.2 n le lt))
  next_either (Some x) None next none = (next.0, ap (λ (b : Bool). b || other x) next.1, λ n le lt. neither n (next.2 n le lt) (none n le))
  next_either (Some x) (Some y) next next_too = (
    omega (arith, next.0, next_too.0),
    by (cases_lt x y),
    λ n le lt. neither n (next.2 n le (omega (arith, lt))) (next_too.2 n le (omega (arith, lt))),
  )
    where
      here : (m : ℕ) → m ≡ min x y → (one m || other m) ≡ true → (one (min x y) || other (min x y)) ≡ true
      here m is holds = ap (λ (k : ℕ). one k || other k) (sym is) ∙ holds

      by : (x < y) ⊎ (y ≤ x) → (one (min x y) || other (min x y)) ≡ true
      by (inl before) = here x (omega (arith, before)) (ap (λ (b : Bool). b || other x) next.1)
      by (inr behind) = here y (omega (arith, behind)) (ap (λ (b : Bool). one y || b) next_too.1 ∙ or_true (one y))

-- of the cores up to one more
module _ (has : (core n : ℕ) → Bool) where
  any_more : (cores n : ℕ) → list_any (λ core. has core n) (range_with_len 0 (cores + 1)) ≡ (list_any (λ core. has core n) (range_with_len 0 cores) || has cores n)
  any_more cores n =
      ap (list_any (λ core. has core n)) (range_more cores) ∙ list_any-append (λ core. has core n) (range_with_len 0 cores) (cores ∷ [])
      ∙ ap (λ (b : Bool). list_any (λ core. has core n) (range_with_len 0 cores) || b) (or_false (has cores n))
    where
      or_false : (b : Bool) → (b || false) ≡ b
      or_false true = refl
      or_false false = refl

  pub next_more : (cores from : ℕ) (so_far own : Option ℕ) → IsNext (λ n. list_any (λ core. has core n) (range_with_len 0 cores)) from so_far → IsNext (has cores) from own
      → IsNext (λ n. list_any (λ core. has core n) (range_with_len 0 (cores + 1))) from (earlier so_far own)
  next_more cores from so_far own next next_own =
      subst (λ (test : ℕ → Bool). IsNext test from (earlier so_far own)) (λ i n. sym (any_more cores n) i)
      (next_either (λ n. list_any (λ core. has core n) (range_with_len 0 cores)) (has cores) from so_far own next next_own)

-- ---- sums over cores

pub count_more : (count : ℕ → ℕ) (cores so_far own new : ℕ) → so_far ≡ capped (sum_by count (range_with_len 0 cores)) → own ≡ capped (count cores) → new ≡ capped (so_far + own)
    → new ≡ capped (sum_by count (range_with_len 0 (cores + 1)))
count_more count cores so_far own new is own_is more =
    let all : sum_by count (range_with_len 0 (cores + 1)) ≡ sum_by count (range_with_len 0 cores) + (0 + count cores) =
    ap (sum_by count) (range_more cores) ∙ sum_by-append count (range_with_len 0 cores) (cores ∷ [])
    in
    omega (arith, all, is, own_is, more)

pub tally_more : (tally : ℕ → Tally) (cores : ℕ) (so_far own new : Tally) → so_far ≡ capped_tally (total (map tally (range_with_len 0 cores))) → own ≡ capped_tally (tally cores)
    → new ≡ capped_tally (plus so_far own) → new ≡ capped_tally (total (map tally (range_with_len 0 (cores + 1))))
tally_more tally cores so_far own new is own_is more =
    let all : total (map tally (range_with_len 0 (cores + 1))) ≡ plus (total (map tally (range_with_len 0 cores))) (tally cores) =
    ap (λ (ks : List ℕ). total (map tally ks)) (range_more cores) ∙ ap (λ (ts : List Tally). total ts) (map-append tally (range_with_len 0 cores) (cores ∷ []))
    ∙ fold-append plus no_tally (map tally (range_with_len 0 cores)) (tally cores ∷ [])
    in
    more ∙ ap₂ (λ (a b : Tally). capped_tally (plus a b)) is own_is ∙ both_capped (total (map tally (range_with_len 0 cores))) (tally cores) ∙ ap capped_tally (sym all)

-- ---- rows of one core more

pub rows_more : {A : Type 0} (row : ℕ → A) (p : ℕ → Bool) (cores : ℕ) (first so_far new : List A) → so_far ≡ first ++ map row (filter p (range_with_len 0 cores))
    → new ≡ (if p cores then so_far ++ row cores ∷ [] else so_far) → new ≡ first ++ map row (filter p (range_with_len 0 (cores + 1)))
rows_more {A} row p cores first so_far new is more =
    let before : List ℕ = filter p (range_with_len 0 cores) in
    let all : filter p (range_with_len 0 (cores + 1)) ≡ before ++ (if p cores then cores ∷ [] else []) = ap (filter p) (range_more cores) ∙ filter-append p (range_with_len 0 cores) (cores ∷ []) in
    more ∙ by (p cores) ∙ ap (λ (ks : List ℕ). first ++ map row ks) (sym all)
  where
    by : (b : Bool) → (if b then so_far ++ row cores ∷ [] else so_far) ≡ first ++ map row (filter p (range_with_len 0 cores) ++ (if b then cores ∷ [] else []))
    by true =
        ap (λ (xs : List A). xs ++ row cores ∷ []) is ∙ append_assoc first (map row (filter p (range_with_len 0 cores))) (row cores ∷ [])
        ∙ ap (λ (xs : List A). first ++ xs) (sym (map-append row (filter p (range_with_len 0 cores)) (cores ∷ [])))
    by false = is ∙ ap (λ (ks : List ℕ). first ++ map row ks) (sym (append-nil (filter p (range_with_len 0 cores))))

-- ---- rows of one number more

pub mapped_more : {A : Type 0} (row : ℕ → A) (so_far : List ℕ) (n : ℕ) (first rows new : List A) (x : A) → rows ≡ first ++ map row so_far → x ≡ row n → new ≡ rows ++ x ∷ []
    → new ≡ first ++ map row (so_far ++ n ∷ [])
mapped_more {A} row so_far n first rows new x is x_is more =
    more ∙ ap₂ (λ (xs : List A) (y : A). xs ++ y ∷ []) is x_is ∙ append_assoc first (map row so_far) (row n ∷ [])
    ∙ ap (λ (xs : List A). first ++ xs) (sym (map-append row so_far (n ∷ [])))

pub listed_more : {A : Type 0} (rows_of : ℕ → List A) (so_far : List ℕ) (n : ℕ) (first rows new : List A) → rows ≡ first ++ flat_map rows_of so_far → new ≡ rows ++ rows_of n
    → new ≡ first ++ flat_map rows_of (so_far ++ n ∷ [])
listed_more {A} rows_of so_far n first rows new is more =
    more ∙ ap (λ (xs : List A). xs ++ rows_of n) is ∙ append_assoc first (flat_map rows_of so_far) (rows_of n)
    ∙ ap (λ (xs : List A). first ++ (flat_map rows_of so_far ++ xs)) (sym (append-nil (rows_of n)))
    ∙ ap (λ (xs : List A). first ++ xs) (sym (flat_map-append rows_of so_far (n ∷ [])))
