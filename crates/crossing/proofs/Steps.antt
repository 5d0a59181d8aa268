-- Each step keeps the rule of the crossings.
use Rattle.std.proofs.Common.{◌≡◌, ◌≢◌, ◌+◌, ◌*◌, ◌%◌, ◌<◌, ◌≤◌, ◌⊎◌, ℕ, zero, suc, true, false, List, [], ◌∷◌, ◌++◌, length, map, replicate, get_or, set, sym, ◌∙◌, ap, subst, refl, inl, inr, arith, length-set}
use mathlib.Core.Option.{none, some, some-injective, some-ne-none}
use lib.ListN.{get_elem?}
use Rattle.std.proofs.lemmas.Bool.{false≢true, cases_eq, cases_lt}
use Rattle.std.proofs.lemmas.List.{get_or-set_same, get_or-set_other, get_or-replicate, length-map, length-replicate, set-get_or}
use Rattle.atomic_table.specs.Table.{State, step, keeps, stepped, Allows, Splits}
use Rattle.atomic_table.proofs.Lists.{at_set}
use Rattle.crossing.specs.declared.view.View.{View}
use Rattle.crossing.specs.Rule.{AreCrossings, Found, Finds, Holds, IsCrossingSeat, IsTrueNumber, TellsFirstSeat, Wrote, fresh, seat_of_next_domain, crossing_number, untold, with_noted, with_one_more, with_wrote}

abbrev Table : Type 0
Table = State (Unit {0}) View

-- lists

number_after : (words : List ℕ) (x y n : ℕ) → 16 * x + 16 < length words
    → ((y ≡ x) × (crossing_number (set words (16 * x + 16) n) y ≡ n)) ⊎ ((y ≢ x) × (crossing_number (set words (16 * x + 16) n) y ≡ crossing_number words y))
number_after words x y n l =
    elim (cases_eq y x) [
      | inl same ↦ inl (same, ap (λ k. get_or (set words (16 * x + 16) n) (16 * k + 16) 0) same ∙ get_or-set_same words (16 * x + 16) n 0 l)
      | inr apart ↦ inr (apart, get_or-set_other words (16 * x + 16) (16 * y + 16) n 0 (λ e. apart (omega (arith, e))))
    ]

at_after : (xs : List ℕ) (x y n : ℕ) → x < length xs → ((y ≡ x) × (get_or (set xs x n) y 0 ≡ n)) ⊎ ((y ≢ x) × (get_or (set xs x n) y 0 ≡ get_or xs y 0))
at_after xs x y n l =
    elim (cases_eq y x) [
      | inl same ↦ inl (same, ap (λ k. get_or (set xs x n) k 0) same ∙ get_or-set_same xs x n 0 l)
      | inr apart ↦ inr (apart, get_or-set_other xs x y n 0 apart)
    ]

zeros : (xs : List ℕ) (y : ℕ) → get_or {A = ℕ} (map (λ (x : ℕ). 0) xs) y 0 ≡ 0
zeros [] y = refl
zeros (x ∷ xs) zero = refl
zeros (x ∷ xs) (suc y) = zeros xs y

at_end : {A : Type 0} (xs : List A) (a b : A) (j : ℕ) → get_elem? (xs ++ a ∷ []) j ≡ some b → (get_elem? xs j ≡ some b) ⊎ ((j ≡ length xs) × (b ≡ a))
at_end [] a b zero e = inr (refl, sym (some-injective a b e))
at_end [] a b (suc j) e = absurd (some-ne-none b (sym e))
at_end (x ∷ xs) a b zero e = inl e
at_end (x ∷ xs) a b (suc j) e =
    elim (at_end xs a b j e) [
      | inl there ↦ inl there
      | inr last ↦ inr (ap suc last.0, last.1)
    ]

only : {A : Type 0} (a b : A) (j : ℕ) → get_elem? (a ∷ []) j ≡ some b → (j ≡ 0) × (b ≡ a)
only a b zero e = (refl, sym (some-injective a b e))
only a b (suc j) e = absurd (some-ne-none b (sym e))

-- A write by the owner.

module _ (s : Table) (id : ℕ) (v : View) (r : AreCrossings v.finishes v.sources s) (at : get_elem? s.views id ≡ some v) (x n : ℕ)
    (there : x < length v.sources) (owner : get_or v.sources x 0 ≡ v.domain) (seat : v.makes ≡ false) (even : get_or v.wrote x 0 % 2 ≡ 0)
    (rises : get_or v.wrote x 0 ≤ n) (is_true : IsTrueNumber (get_or v.finishes x 0) n) where
  mine : IsCrossingSeat v.finishes v.sources s.words v
  mine = r.seats id v at

  inside : 16 * x + 16 < length s.words
  inside = let w = r.wide in omega arith

  was : crossing_number s.words x ≡ get_or v.wrote x 0
  was = mine.own seat x there owner

  abbrev words' : List ℕ
  words' = set s.words (16 * x + 16) n

  below' : (u : View) → IsCrossingSeat v.finishes v.sources s.words u → (y : ℕ) → y < length v.sources → get_or u.noted y 0 ≤ crossing_number words' y
  below' u k y l =
      elim (number_after s.words x y n inside) [
        | inl here ↦
            let b : get_or u.noted x 0 ≤ crossing_number s.words x = k.below x there in
            let m : get_or u.noted y 0 ≡ get_or u.noted x 0 = ap (λ i. get_or u.noted i 0) here.0 in
            omega (arith, here.1, b, m, was, rises)
        | inr other ↦ let b = k.below y l in omega (arith, other.1, b)
      ]

  exact' : (u : View) → IsCrossingSeat v.finishes v.sources s.words u → (y : ℕ) → y < length v.sources → get_or u.noted y 0 % 2 ≡ 1 → get_or u.noted y 0 ≡ crossing_number words' y
  exact' u k y l odd =
      elim (number_after s.words x y n inside) [
        | inl here ↦
            let m : get_or u.noted y 0 ≡ get_or u.noted x 0 = ap (λ i. get_or u.noted i 0) here.0 in
            let e : get_or u.noted x 0 ≡ crossing_number s.words x = k.exact x there (ap (λ i. i % 2) (sym m) ∙ odd) in
            absurd (omega (arith, e, was, even, odd, m))
        | inr other ↦ k.exact y l odd ∙ sym other.1
      ]

  other_seat : (j : ℕ) (u : View) → j ≢ id → get_elem? s.views j ≡ some u → IsCrossingSeat v.finishes v.sources words' u
  other_seat j u apart there_u =
      let k = r.seats j u there_u in
      let differs : u.domain ≢ v.domain = λ e. apart (r.apart j id u v there_u at e) in
      record {
        told_is = k.told_is;
        finishes_are = k.finishes_are;
        sources_are = k.sources_are;
        wide = k.wide;
        below = below' u k;
        exact = exact' u k;
        own = λ m y l e.
            elim (number_after s.words x y n inside) [
              | inl here ↦ absurd (differs (sym e ∙ (ap (λ i. get_or v.sources i 0) here.0 ∙ owner)))
              | inr other ↦ other.1 ∙ k.own m y l e
            ];
        next = λ makes y l e.
            elim (number_after s.words x y n inside) [
              | inl here ↦
                  let c : v.domain ≤ u.domain = r.counted j id u v there_u makes at in
                  let o : get_or v.sources y 0 ≡ v.domain = ap (λ i. get_or v.sources i 0) here.0 ∙ owner in
                  absurd (differs (omega (arith, c, o, e)))
              | inr other ↦ other.1 ∙ k.next makes y l e
            ];
      }

  own_seat : IsCrossingSeat v.finishes v.sources words' (with_wrote v x n)
  own_seat = record {
    told_is = mine.told_is;
    finishes_are = refl;
    sources_are = refl;
    wide = (length-set v.wrote x n ∙ mine.wide.0, mine.wide.1, mine.wide.2);
    below = below' v mine;
    exact = exact' v mine;
    own = λ m y l e.
        elim (number_after s.words x y n inside) [
          | inl here ↦ here.1 ∙ sym (ap (λ i. get_or (set v.wrote x n) i 0) here.0 ∙ get_or-set_same v.wrote x n 0 (let w = mine.wide.0 in omega arith))
          | inr other ↦ other.1 ∙ (mine.own m y l e ∙ sym (get_or-set_other v.wrote x y n 0 other.0))
        ];
    next = λ makes. absurd (false≢true (sym seat ∙ makes));
  }

  writes : AreCrossings v.finishes v.sources record { words = set s.words (16 * x + 16) n; homes = s.homes; views = set s.views id (with_wrote v x n) }
  writes = record {
    wide = length-set s.words (16 * x + 16) n ∙ r.wide;
    is_true = λ y l.
        elim (number_after s.words x y n inside) [
          | inl here ↦ subst (λ (z : ℕ × ℕ). IsTrueNumber (get_or v.finishes z.0 0) z.1) (λ i. (sym here.0 i, sym here.1 i)) is_true
          | inr other ↦ subst (IsTrueNumber (get_or v.finishes y 0)) (sym other.1) (r.is_true y l)
        ];
    seats = λ j u e.
        elim (at_set s.views id j (with_wrote v x n) u e) [
          | inl here ↦ subst (IsCrossingSeat v.finishes v.sources words') here.1 own_seat
          | inr other ↦ other_seat j u other.0 other.1
        ];
    apart = λ i j a b e f same. r.apart i j (was_at i a e).0 (was_at j b f).0 (was_at i a e).1 (was_at j b f).1 (sym (was_at i a e).2 ∙ (same ∙ (was_at j b f).2));
    counted = λ i j a b e makes f.
        let p = was_at i a e in let q = was_at j b f in
        let c : q.0.domain ≤ p.0.domain = r.counted i j p.0 q.0 p.1 (sym p.3 ∙ makes) q.1 in
        omega (arith, c, p.2, q.2);
  }
    where
      was_at : (j : ℕ) (u : View) → get_elem? (set s.views id (with_wrote v x n)) j ≡ some u
          → (a : View) × (get_elem? s.views j ≡ some a) × (u.domain ≡ a.domain) × (u.makes ≡ a.makes)
      was_at j u e =
          elim (at_set s.views id j (with_wrote v x n) u e) [
            | inl here ↦ (v, ap (get_elem? s.views) here.0 ∙ at, ap (λ (k : View). k.domain) (sym here.1), ap (λ (k : View). k.makes) (sym here.1))
            | inr other ↦ (u, other.1, refl, refl)
          ]

-- A look.

module _ (s : Table) (id : ℕ) (v : View) (r : AreCrossings v.finishes v.sources s) (at : get_elem? s.views id ≡ some v) (x : ℕ) (there : x < length v.sources) (seat : v.makes ≡ false) where
  own_note : IsCrossingSeat v.finishes v.sources s.words v → IsCrossingSeat v.finishes v.sources s.words (with_noted v x (crossing_number s.words x))
  own_note k =
      let l : x < length v.noted = (let w = k.wide.1 in omega arith) in
      record {
        told_is = k.told_is;
        finishes_are = refl;
        sources_are = refl;
        wide = (k.wide.0, length-set v.noted x (crossing_number s.words x) ∙ k.wide.1, length-set v.looks x (get_or v.looks x 0 + 1) ∙ k.wide.2);
        below = λ y m.
            elim (at_after v.noted x y (crossing_number s.words x) l) [
              | inl here ↦ let e : crossing_number s.words y ≡ crossing_number s.words x = ap (crossing_number s.words) here.0 in omega (arith, here.1, e)
              | inr other ↦ let b = k.below y m in omega (arith, other.1, b)
            ];
        exact = λ y m odd.
            elim (at_after v.noted x y (crossing_number s.words x) l) [
              | inl here ↦ here.1 ∙ ap (crossing_number s.words) (sym here.0)
              | inr other ↦ other.1 ∙ k.exact y m (ap (λ i. i % 2) (sym other.1) ∙ odd)
            ];
        own = k.own;
        next = k.next;
      }

  looks : AreCrossings v.finishes v.sources record { words = s.words; homes = s.homes; views = set s.views id (with_noted v x (crossing_number s.words x)) }
  looks = record {
    wide = r.wide;
    is_true = r.is_true;
    seats = λ j u e.
        elim (at_set s.views id j (with_noted v x (crossing_number s.words x)) u e) [
          | inl here ↦ subst (IsCrossingSeat v.finishes v.sources s.words) here.1 (own_note (r.seats id v at))
          | inr other ↦ r.seats j u other.1
        ];
    apart = λ i j a b e f same. r.apart i j (was_at i a e).0 (was_at j b f).0 (was_at i a e).1 (was_at j b f).1 (sym (was_at i a e).2 ∙ (same ∙ (was_at j b f).2));
    counted = λ i j a b e makes f.
        let p = was_at i a e in let q = was_at j b f in
        let c : q.0.domain ≤ p.0.domain = r.counted i j p.0 q.0 p.1 (sym p.3 ∙ makes) q.1 in
        omega (arith, c, p.2, q.2);
  }
    where
      was_at : (j : ℕ) (u : View) → get_elem? (set s.views id (with_noted v x (crossing_number s.words x))) j ≡ some u
          → (a : View) × (get_elem? s.views j ≡ some a) × (u.domain ≡ a.domain) × (u.makes ≡ a.makes)
      was_at j u e =
          elim (at_set s.views id j (with_noted v x (crossing_number s.words x)) u e) [
            | inl here ↦ (v, ap (get_elem? s.views) here.0 ∙ at, ap (λ (k : View). k.domain) (sym here.1), ap (λ (k : View). k.makes) (sym here.1))
            | inr other ↦ (u, other.1, refl, refl)
          ]

  finds : Finds v x (crossing_number s.words x)
  finds =
      let k = r.seats id v at in
      record {
        is_true = r.is_true x there;
        no_fall = k.below x there;
        exact_stays = λ odd. sym (k.exact x there odd);
        own = λ e. k.own seat x there e;
      }

-- A split.

module _ (s : Table) (id : ℕ) (v : View) (r : AreCrossings v.finishes v.sources s) (at : get_elem? s.views id ≡ some v) (makes : v.makes ≡ true) where
  abbrev Origin : ℕ → View → Type 0
  Origin j u =
      ((j ≡ id) × (u ≡ with_one_more v)) ⊎ (((j ≢ id) × (get_elem? s.views j ≡ some u)) ⊎ ((j ≡ length s.views) × (u ≡ seat_of_next_domain v)))

  origin : (j : ℕ) (u : View) → get_elem? (set s.views id (with_one_more v) ++ seat_of_next_domain v ∷ []) j ≡ some u → Origin j u
  origin j u e =
      elim (at_end (set s.views id (with_one_more v)) (seat_of_next_domain v) u j e) [
        | inr last ↦ inr (inr (last.0 ∙ length-set s.views id (with_one_more v), last.1))
        | inl there ↦
            elim (at_set s.views id j (with_one_more v) u there) [
              | inl here ↦ inl (here.0, sym here.1)
              | inr other ↦ inr (inl other)
            ]
      ]

  others_below : (j : ℕ) (u : View) → j ≢ id → get_elem? s.views j ≡ some u → u.domain < v.domain
  others_below j u apart e =
      let c : u.domain ≤ v.domain = r.counted id j v u at makes e in
      elim (cases_lt u.domain v.domain) [
        | inl l ↦ l
        | inr m ↦ absurd (apart (r.apart j id u v e at (omega (arith, c, m))))
      ]

  others_stay : (j : ℕ) (u : View) → j ≢ id → get_elem? s.views j ≡ some u → u.makes ≡ true → ⊥
  others_stay j u apart e m =
      let a : v.domain ≤ u.domain = r.counted j id u v e m at in
      let b = others_below j u apart e in
      omega (arith, a, b)

  first_stays : IsCrossingSeat v.finishes v.sources s.words (with_one_more v)
  first_stays =
      let k = r.seats id v at in
      record {
        told_is = k.told_is;
        finishes_are = refl;
        sources_are = refl;
        wide = k.wide;
        below = k.below;
        exact = k.exact;
        own = λ m. absurd (false≢true (sym m ∙ makes));
        next = λ m y l e. k.next makes y l (omega (arith, e));
      }

  new_seat_is : IsCrossingSeat v.finishes v.sources s.words (seat_of_next_domain v)
  new_seat_is =
      let k = r.seats id v at in
      record {
        told_is = refl;
        finishes_are = refl;
        sources_are = refl;
        wide = (length-map v.sources _, length-map v.sources _, length-map v.sources _);
        below = λ y l. let z = zeros v.sources y in omega (arith, z);
        exact = λ y l odd. absurd (let z = zeros v.sources y in omega (arith, z, odd));
        own = λ m y l e. k.next makes y l (omega (arith, e)) ∙ sym (zeros v.sources y);
        next = λ m. absurd (false≢true m);
      }

  splits : AreCrossings v.finishes v.sources record { words = s.words; homes = s.homes; views = set s.views id (with_one_more v) ++ seat_of_next_domain v ∷ [] }
  splits = record {
    wide = r.wide;
    is_true = r.is_true;
    seats = λ j u e.
        elim (origin j u e) [
          | inl first ↦ subst (IsCrossingSeat v.finishes v.sources s.words) (sym first.1) first_stays
          | inr rest ↦
              elim rest [
                | inl other ↦ r.seats j u other.1
                | inr new ↦ subst (IsCrossingSeat v.finishes v.sources s.words) (sym new.1) new_seat_is
              ]
        ];
    apart = λ i j a b e f same. differ i j a b (origin i a e) (origin j b f) same;
    counted = λ i j a b e m f. count i j a b (origin i a e) m (origin j b f);
  }
    where
      domain_of : (a : View) (b : View) → a ≡ b → a.domain ≡ b.domain
      domain_of a b e = ap (λ (k : View). k.domain) e

      differ : (i j : ℕ) (a b : View) → Origin i a → Origin j b → a.domain ≡ b.domain → i ≡ j
      differ i j a b (inl p) (inl q) same = p.0 ∙ sym q.0
      differ i j a b (inl p) (inr (inl q)) same =
          let l = others_below j b q.0 q.1 in let d = domain_of a (with_one_more v) p.1 in absurd (omega (arith, l, d, same))
      differ i j a b (inl p) (inr (inr q)) same =
          let d = domain_of a (with_one_more v) p.1 in let n = domain_of b (seat_of_next_domain v) q.1 in absurd (omega (arith, d, n, same))
      differ i j a b (inr (inl p)) (inl q) same =
          let l = others_below i a p.0 p.1 in let d = domain_of b (with_one_more v) q.1 in absurd (omega (arith, l, d, same))
      differ i j a b (inr (inl p)) (inr (inl q)) same = r.apart i j a b p.1 q.1 same
      differ i j a b (inr (inl p)) (inr (inr q)) same =
          let l = others_below i a p.0 p.1 in let n = domain_of b (seat_of_next_domain v) q.1 in absurd (omega (arith, l, n, same))
      differ i j a b (inr (inr p)) (inl q) same =
          let n = domain_of a (seat_of_next_domain v) p.1 in let d = domain_of b (with_one_more v) q.1 in absurd (omega (arith, d, n, same))
      differ i j a b (inr (inr p)) (inr (inl q)) same =
          let l = others_below j b q.0 q.1 in let n = domain_of a (seat_of_next_domain v) p.1 in absurd (omega (arith, l, n, same))
      differ i j a b (inr (inr p)) (inr (inr q)) same = p.0 ∙ sym q.0

      upto : (j : ℕ) (b : View) → Origin j b → b.domain ≤ v.domain + 1
      upto j b (inl q) = let d = domain_of b (with_one_more v) q.1 in omega (arith, d)
      upto j b (inr (inl q)) = let l = others_below j b q.0 q.1 in omega (arith, l)
      upto j b (inr (inr q)) = let n = domain_of b (seat_of_next_domain v) q.1 in omega (arith, n)

      count : (i j : ℕ) (a b : View) → Origin i a → a.makes ≡ true → Origin j b → b.domain ≤ a.domain
      count i j a b (inl p) m q = let d = domain_of a (with_one_more v) p.1 in omega (arith, upto j b q, d)
      count i j a b (inr (inl p)) m q = absurd (others_stay i a p.0 p.1 m)
      count i j a b (inr (inr p)) m q = absurd (false≢true (sym (ap (λ (k : View). k.makes) p.1) ∙ m))

-- The first step.

module _ (finishes sources : List ℕ) where
  abbrev first_state : Table → Table
  first_state s = record { words = s.words; homes = s.homes; views = fresh finishes sources true 0 ∷ [] }

  begins : (s : Table) → s.words ≡ replicate (16 * length sources + 1) 0 → AreCrossings finishes sources (first_state s)
  begins s words = record {
    wide = ap length words ∙ length-replicate (16 * length sources + 1) 0;
    is_true = λ x l. subst (IsTrueNumber (get_or finishes x 0)) (sym (zero_at x l)) (record { upto = omega arith; exact = λ odd. absurd (omega (arith, odd)) });
    seats = λ i u e. subst (IsCrossingSeat finishes sources s.words) (sym (only (fresh finishes sources true 0) u i e).1) seat;
    apart = λ i j a b e f same. (only (fresh finishes sources true 0) a i e).0 ∙ sym (only (fresh finishes sources true 0) b j f).0;
    counted = λ i j a b e m f.
        let p = ap (λ (k : View). k.domain) (only (fresh finishes sources true 0) a i e).1 in
        let q = ap (λ (k : View). k.domain) (only (fresh finishes sources true 0) b j f).1 in
        omega (arith, p, q);
  }
    where
      zero_at : (x : ℕ) → x < length sources → crossing_number s.words x ≡ 0
      zero_at x l = ap (λ (ws : List ℕ). crossing_number ws x) words ∙ get_or-replicate (16 * length sources + 1) (16 * x + 16) 0 0 (omega arith)

      seat : IsCrossingSeat finishes sources s.words (fresh finishes sources true 0)
      seat = record {
        told_is = refl;
        finishes_are = refl;
        sources_are = refl;
        wide = (length-map sources _, length-map sources _, length-map sources _);
        below = λ y l. let z = zeros sources y in omega (arith, z);
        exact = λ y l odd. absurd (let z = zeros sources y in omega (arith, z, odd));
        own = λ m. absurd (false≢true (sym m));
        next = λ m y l e. zero_at y l;
      }

-- The steps as the calls ask for them.

same_words : (s : Table) (i : ℕ) → set s.words i (get_or s.words i 0) ≡ s.words
same_words s i = set-get_or s.words i 0

-- a seat that was told the finishes is at crossings that are made
made_for : (k : ℕ) (s : Table) (id : ℕ) (v : View) → Holds k s → get_elem? s.views id ≡ some v → v.told ≡ true → (length v.sources ≡ k) × AreCrossings v.finishes v.sources s
made_for k s id v (inl b) at told =
    let u : v ≡ untold = (only untold v id (subst (λ (vs : List View). get_elem? vs id ≡ some v) b.views at)).1 in
    absurd (false≢true (sym (ap (λ (z : View). z.told) u) ∙ told))
made_for k s id v (inr m) at told =
    let q = m.crossed.seats id v at in (
      ap length q.sources_are ∙ m.count,
      subst (λ (fs : List ℕ). AreCrossings fs v.sources s) (sym q.finishes_are) (subst (λ (os : List ℕ). AreCrossings m.finishes os s) (sym q.sources_are) m.crossed),
    )

pub saying : (k slots id : ℕ) (finishes sources : List ℕ) → k ≡ length sources
    → Allows (Holds k) slots id (untold, []) 0 (λ n. n) (TellsFirstSeat finishes sources (step slots 0 0 0 none) (untold, []))
saying k slots id finishes sources count s (inr m) sized at small = absurd (false≢true (m.crossed.seats id untold at).told_is)
saying k slots id finishes sources count s (inl b) sized at small =
    let place : id ≡ 0 = (only untold untold id (subst (λ (vs : List View). get_elem? vs id ≡ some untold) b.views at)).0 in
    let views : set s.views id (fresh finishes sources true 0) ≡ fresh finishes sources true 0 ∷ [] =
    ap (λ (vs : List View). set vs id (fresh finishes sources true 0)) b.views ∙ ap (λ i. set (untold ∷ []) i (fresh finishes sources true 0)) place
    in
    let made : AreCrossings finishes sources (stepped s 0 (get_or s.words 0 0) id [] (fresh finishes sources true 0) keeps) =
    subst (λ (z : List ℕ × List View). AreCrossings finishes sources record { words = z.0; homes = s.homes; views = z.1 }) (λ i. (sym (same_words s 0) i, sym views i))
    (begins finishes sources s (b.words ∙ ap (λ n. replicate (16 * n + 1) 0) count))
    in
    (fresh finishes sources true 0, keeps, tt, inr (record { finishes = finishes; sources = sources; count = sym count; crossed = made }), refl)

pub writing : (k slots id : ℕ) (v : View) (x n : ℕ) → v.told ≡ true → v.makes ≡ false → x < length v.sources → get_or v.sources x 0 ≡ v.domain → get_or v.wrote x 0 % 2 ≡ 0
    → (get_or v.wrote x 0 ≤ 2 * get_or v.finishes x 0 + 1 → get_or v.wrote x 0 ≤ n) → IsTrueNumber (get_or v.finishes x 0) n
    → Allows (Holds k) slots id (v, []) (16 * x + 16) (λ _. n) (λ _. Wrote (step slots (16 * x + 16) n 0 none) (v, []) n)
writing k slots id v x n told seat there owner even rises is_true s held sized at small =
    let m = made_for k s id v held at told in
    let upto : get_or v.wrote x 0 ≤ 2 * get_or v.finishes x 0 + 1 =
    let t = (m.1.is_true x there).upto in
    let w = (m.1.seats id v at).own seat x there owner in
    omega (arith, t, w)
    in (
      with_wrote v x n,
      keeps,
      tt,
      inr (record { finishes = v.finishes; sources = v.sources; count = m.0; crossed = writes s id v m.1 at x n there owner seat even (rises upto) is_true }),
      λ y e. let same : x ≡ y = omega (arith, e) in ap (λ i. (with_wrote v i n, [])) same,
    )

pub finding : (k slots id : ℕ) (v : View) (x : ℕ) → v.told ≡ true → v.makes ≡ false → x < length v.sources
    → Allows (Holds k) slots id (v, []) (16 * x + 16) (λ n. n) (Found (step slots (16 * x + 16) 0 0 none) (v, []))
finding k slots id v x told seat there s held sized at small =
    let m = made_for k s id v held at told in
    let n : ℕ = crossing_number s.words x in
    let crossed : AreCrossings v.finishes v.sources (stepped s (16 * x + 16) n id [] (with_noted v x n) keeps) =
    subst (λ (ws : List ℕ). AreCrossings v.finishes v.sources record { words = ws; homes = s.homes; views = set s.views id (with_noted v x n) }) (sym (same_words s (16 * x + 16)))
    (looks s id v m.1 at x there seat)
    in (
      with_noted v x n,
      keeps,
      tt,
      inr (record { finishes = v.finishes; sources = v.sources; count = m.0; crossed = crossed }),
      λ y e. let same : x ≡ y = omega (arith, e) in (ap (λ i. (with_noted v i n, [])) same, subst (λ i. Finds v i n) same (finds s id v m.1 at x there seat)),
    )

pub splitting : (k id : ℕ) (v : View) → v.told ≡ true → v.makes ≡ true → Splits (Holds k) id v (with_one_more v) (seat_of_next_domain v)
splitting k id v told makes s held at =
    let m = made_for k s id v held at told in
    inr (record { finishes = v.finishes; sources = v.sources; count = m.0; crossed = splits s id v m.1 at makes })
