-- Ways in order of their ages, when one way changes.
use Rattle.std.proofs.Common.{◌≡◌, ◌≢◌, ℕ, zero, suc, ◌<◌, ◌≤◌, true, false, cond, List, [], ◌∷◌, ◌++◌, length, map, set, Some, None, refl, sym, ap, ◌∙◌, arith, inl, inr}
use Rattle.std.specs.List.{remove}
use Rattle.std.specs.Prelude.{nat_lt}
use Rattle.std.proofs.lemmas.Bool.{cases_lt, cases_eq, eq-eqb, ne_eqb, lt-ltb, le-ltb}
use Rattle.cache_set.specs.Ages.{put_by_age, by_age}
use Rattle.cache_set.specs.Ways.{kept_of, without, changed}

module _ {X : Type 0} where
  put_below : (a w : ℕ × (ℕ × X)) (ws : List (ℕ × (ℕ × X))) → a.0 ≤ w.0 → put_by_age a (w ∷ ws) ≡ w ∷ put_by_age a ws
  put_below a w ws h = rw (le-ltb w.0 a.0 h) refl

  put_above : (a w : ℕ × (ℕ × X)) (ws : List (ℕ × (ℕ × X))) → w.0 < a.0 → put_by_age a (w ∷ ws) ≡ a ∷ w ∷ ws
  put_above a w ws h = rw (lt-ltb w.0 a.0 h) refl

  both : (a b w : ℕ × (ℕ × X)) (ws : List (ℕ × (ℕ × X))) → w.0 < a.0 → w.0 < b.0 → a.0 ≢ b.0 → put_by_age a (b ∷ w ∷ ws) ≡ put_by_age b (a ∷ w ∷ ws)
  both a b w ws l k h =
      elim (cases_lt b.0 a.0) as (λ _. put_by_age a (b ∷ w ∷ ws) ≡ put_by_age b (a ∷ w ∷ ws)) [
        | inl g ↦ put_above a b (w ∷ ws) g ∙ sym (put_below b a (w ∷ ws) (omega arith) ∙ ap (λ (l : List (ℕ × (ℕ × X))). a ∷ l) (put_above b w ws k))
        | inr g ↦ put_below a b (w ∷ ws) g ∙ ap (λ (l : List (ℕ × (ℕ × X))). b ∷ l) (put_above a w ws l) ∙ sym (put_above b a (w ∷ ws) (omega (arith, h)))
      ]

  -- two ways of different ages come in one order, whichever is put in first
  swap : (a b : ℕ × (ℕ × X)) (ws : List (ℕ × (ℕ × X))) → a.0 ≢ b.0 → put_by_age a (put_by_age b ws) ≡ put_by_age b (put_by_age a ws)
  swap a b [] h =
      elim (cases_lt b.0 a.0) as (λ _. put_by_age a (put_by_age b []) ≡ put_by_age b (put_by_age a [])) [
        | inl l ↦ put_above a b [] l ∙ sym (put_below b a [] (omega arith))
        | inr g ↦ put_below a b [] g ∙ sym (put_above b a [] (omega (arith, h)))
      ]
  swap a b (w ∷ ws) h =
      elim (cases_lt w.0 a.0) as (λ _. put_by_age a (put_by_age b (w ∷ ws)) ≡ put_by_age b (put_by_age a (w ∷ ws))) [
        | inl l ↦ elim (cases_lt w.0 b.0) as (λ _. put_by_age a (put_by_age b (w ∷ ws)) ≡ put_by_age b (put_by_age a (w ∷ ws))) [
          | inl k ↦ ap (put_by_age a) (put_above b w ws k) ∙ both a b w ws l k h ∙ sym (ap (put_by_age b) (put_above a w ws l))
          | inr g ↦ ap (put_by_age a) (put_below b w ws g) ∙ put_above a w (put_by_age b ws) l ∙ sym (ap (put_by_age b) (put_above a w ws l) ∙ put_below b a (w ∷ ws) (omega arith) ∙ ap (λ (l : List (ℕ × (ℕ × X))). a ∷ l) (put_below b w ws g))
        ]
        | inr f ↦ elim (cases_lt w.0 b.0) as (λ _. put_by_age a (put_by_age b (w ∷ ws)) ≡ put_by_age b (put_by_age a (w ∷ ws))) [
          | inl k ↦ ap (put_by_age a) (put_above b w ws k) ∙ put_below a b (w ∷ ws) (omega arith) ∙ ap (λ (l : List (ℕ × (ℕ × X))). b ∷ l) (put_below a w ws f) ∙ sym (ap (put_by_age b) (put_below a w ws f) ∙ put_above b w (put_by_age a ws) k)
          | inr g ↦ ap (put_by_age a) (put_below b w ws g) ∙ put_below a w (put_by_age b ws) f ∙ ap (λ (l : List (ℕ × (ℕ × X))). w ∷ l) (swap a b ws h) ∙ sym (ap (put_by_age b) (put_below a w ws f) ∙ put_below b w (put_by_age a ws) g)
        ]
      ]

  -- ---- what holds of all ways that are not free

  abbrev pub AllLive : (P : ℕ × (ℕ × X) → Type 0) → List (ℕ × (ℕ × X)) → Type 0
  AllLive P [] = Unit {0}
  AllLive P (w ∷ ws) = (0 < w.0 → P w) × AllLive P ws

  abbrev pub AllOf : (P : ℕ × (ℕ × X) → Type 0) → List (ℕ × (ℕ × X)) → Type 0
  AllOf P [] = Unit {0}
  AllOf P (w ∷ ws) = P w × AllOf P ws

  all_put : (P : ℕ × (ℕ × X) → Type 0) (a : ℕ × (ℕ × X)) (ws : List (ℕ × (ℕ × X))) → P a → AllOf P ws → AllOf P (put_by_age a ws)
  all_put P a [] p all = (p, tt)
  all_put P a (w ∷ ws) p all =
      elim (nat_lt w.0 a.0) as (λ b. AllOf P (cond b (a ∷ w ∷ ws) (w ∷ put_by_age a ws))) [
        | true ↦ (p, all)
        | false ↦ (all.0, all_put P a ws p all.1)
      ]

  pub all_by_age : (P : ℕ × (ℕ × X) → Type 0) (ws : List (ℕ × (ℕ × X))) → AllLive P ws → AllOf P (by_age ws)
  all_by_age P [] all = tt
  all_by_age P (w ∷ ws) all =
      elim (cases_eq w.0 0) as (λ _. AllOf P (by_age (w ∷ ws))) [
        | inl e ↦ rw (eq-eqb w.0 0 e) (all_by_age P ws all.1)
        | inr e ↦ rw (ne_eqb w.0 0 e) (all_put P w (by_age ws) (all.0 (omega (arith, e))) (all_by_age P ws all.1))
      ]

  -- ---- one way changes

  -- the other ways have other ages
  abbrev pub ApartBut : (i : ℕ) → ℕ × (ℕ × X) → List (ℕ × (ℕ × X)) → Type 0
  ApartBut i w [] = Unit {0}
  ApartBut zero w (x ∷ xs) = AllLive (λ y. w.0 ≢ y.0) xs
  ApartBut (suc i) w (x ∷ xs) = (0 < x.0 → w.0 ≢ x.0) × ApartBut i w xs

  pub put_at : (ws : List (ℕ × (ℕ × X))) (i : ℕ) (w : ℕ × (ℕ × X)) → i < length ws → 0 < w.0 → ApartBut i w ws → by_age (set ws i w) ≡ put_by_age w (by_age (remove ws i))
  put_at [] i w within live apart = absurd (omega arith)
  put_at (x ∷ xs) zero w within live apart = rw (ne_eqb w.0 0 (omega arith)) refl
  put_at (x ∷ xs) (suc i) w within live apart =
      elim (cases_eq x.0 0) as (λ _. by_age (x ∷ set xs i w) ≡ put_by_age w (by_age (x ∷ remove xs i))) [
        | inl e ↦ rw (eq-eqb x.0 0 e) (put_at xs i w (omega arith) live apart.1)
        | inr e ↦ rw (ne_eqb x.0 0 e) (ap (put_by_age x) (put_at xs i w (omega arith) live apart.1) ∙ swap x w (by_age (remove xs i)) (λ k. apart.0 (omega (arith, e)) (sym k)))
      ]

  pub free_at : (ws : List (ℕ × (ℕ × X))) (i : ℕ) (w : ℕ × (ℕ × X)) → i < length ws → w.0 ≡ 0 → by_age (set ws i w) ≡ by_age (remove ws i)
  free_at [] i w within free = absurd (omega arith)
  free_at (x ∷ xs) zero w within free = rw (eq-eqb w.0 0 free) refl
  free_at (x ∷ xs) (suc i) w within free =
      elim (cases_eq x.0 0) as (λ _. by_age (x ∷ set xs i w) ≡ by_age (x ∷ remove xs i)) [
        | inl e ↦ rw (eq-eqb x.0 0 e) (free_at xs i w (omega arith) free)
        | inr e ↦ rw (ne_eqb x.0 0 e) (ap (put_by_age x) (free_at xs i w (omega arith) free))
      ]

  -- ---- a way among others that do not have its line

  abbrev pub the_ways : List (ℕ × (ℕ × X)) → List (ℕ × X)
  the_ways ws = map (λ way. way.1) ws

  abbrev pub Others : (line : ℕ) → List (ℕ × (ℕ × X)) → Type 0
  Others line ws = AllOf (λ w. line ≢ w.1.0) ws

  pub kept_among : (age line : ℕ) (x : X) (ws : List (ℕ × (ℕ × X))) → Others line ws → kept_of line (the_ways (put_by_age (age, (line, x)) ws)) ≡ Some x
  kept_among age line x [] others = rw (eq-eqb line line refl) refl
  kept_among age line x (w ∷ ws) others =
      elim (nat_lt w.0 age) as (λ b. kept_of line (the_ways (cond b ((age, (line, x)) ∷ w ∷ ws) (w ∷ put_by_age (age, (line, x)) ws))) ≡ Some x) [
        | true ↦ rw (eq-eqb line line refl) refl
        | false ↦ rw (ne_eqb line w.1.0 others.0) (kept_among age line x ws others.1)
      ]

  pub kept_of_none : (line : ℕ) (ws : List (ℕ × (ℕ × X))) → Others line ws → kept_of line (the_ways ws) ≡ None
  kept_of_none line [] others = refl
  kept_of_none line (w ∷ ws) others = rw (ne_eqb line w.1.0 others.0) (kept_of_none line ws others.1)

  pub without_absent : (line : ℕ) (ws : List (ℕ × (ℕ × X))) → Others line ws → without line (the_ways ws) ≡ the_ways ws
  without_absent line [] others = refl
  without_absent line (w ∷ ws) others = rw (ne_eqb line w.1.0 others.0) (ap (λ (l : List (ℕ × X)). w.1 ∷ l) (without_absent line ws others.1))

  pub without_among : (age line : ℕ) (x : X) (ws : List (ℕ × (ℕ × X))) → Others line ws → without line (the_ways (put_by_age (age, (line, x)) ws)) ≡ the_ways ws
  without_among age line x [] others = rw (eq-eqb line line refl) refl
  without_among age line x (w ∷ ws) others =
      elim (nat_lt w.0 age) as (λ b. without line (the_ways (cond b ((age, (line, x)) ∷ w ∷ ws) (w ∷ put_by_age (age, (line, x)) ws))) ≡ the_ways (w ∷ ws)) [
        | true ↦ rw (eq-eqb line line refl) refl
        | false ↦ rw (ne_eqb line w.1.0 others.0) (ap (λ (l : List (ℕ × X)). w.1 ∷ l) (without_among age line x ws others.1))
      ]

  pub changed_among : (age line : ℕ) (x y : X) (ws : List (ℕ × (ℕ × X))) → Others line ws → changed line y (the_ways (put_by_age (age, (line, x)) ws)) ≡ the_ways (put_by_age (age, (line, y)) ws)
  changed_among age line x y [] others = rw (eq-eqb line line refl) refl
  changed_among age line x y (w ∷ ws) others =
      elim (nat_lt w.0 age) as (λ b. changed line y (the_ways (cond b ((age, (line, x)) ∷ w ∷ ws) (w ∷ put_by_age (age, (line, x)) ws))) ≡ the_ways (cond b ((age, (line, y)) ∷ w ∷ ws) (w ∷ put_by_age (age, (line, y)) ws))) [
        | true ↦ rw (eq-eqb line line refl) refl
        | false ↦ rw (ne_eqb line w.1.0 others.0) (ap (λ (l : List (ℕ × X)). w.1 ∷ l) (changed_among age line x y ws others.1))
      ]

  -- ---- the first and the last

  pub put_first : (a : ℕ × (ℕ × X)) (ws : List (ℕ × (ℕ × X))) → AllOf (λ w. w.0 < a.0) ws → put_by_age a ws ≡ a ∷ ws
  put_first a [] all = refl
  put_first a (w ∷ ws) all = put_above a w ws all.0

  pub put_last : (a : ℕ × (ℕ × X)) (ws : List (ℕ × (ℕ × X))) → AllOf (λ w. a.0 ≤ w.0) ws → put_by_age a ws ≡ ws ++ (a ∷ [])
  put_last a [] all = refl
  put_last a (w ∷ ws) all = put_below a w ws all.0 ∙ ap (λ (l : List (ℕ × (ℕ × X))). w ∷ l) (put_last a ws all.1)
