-- Whether some core's letter passes a test.
use Rattle.std.proofs.Common.{◌≡◌, ◌≢◌, ℕ, zero, suc, ◌+◌, ◌<◌, ◌≤◌, Bool, true, false, not, ◌&&◌, ◌||◌, [], length, refl, sym, ap, ◌∙◌, arith, inl, inr}
use Rattle.std.specs.List.{list_any, range_with_len}
use Rattle.std.specs.Prelude.{nat_eq}
use Rattle.std.proofs.lemmas.Bool.{eq-eqb, ne_eqb, cases_Bool, cases_eq, cases_lt}
use Rattle.std.proofs.lemmas.List.{get_or_past}
use Rattle.cache_set.specs.declared.letter.Letter.{Letter}
use Rattle.cache_set.specs.declared.letter.Letter.TheVariants.{M, E, S, I}
use Rattle.shard.specs.Coherence.{Caches, is_valid, letter_at, some_core, some_other}

any_true : (p : ℕ → Bool) (a n o : ℕ) → a ≤ o → o < a + n → p o ≡ true → list_any p (range_with_len a n) ≡ true
any_true p a zero o low high t = absurd (omega arith)
any_true p a (suc n) o low high t =
    elim (cases_eq a o) as (λ _. (p a || list_any p (range_with_len (a + 1) n)) ≡ true) [
      | inl e ↦ rw (e, t) refl
      | inr e ↦ let rest : list_any p (range_with_len (a + 1) n) ≡ true = any_true p (a + 1) n o (omega arith) (omega arith) t in
          elim (p a) as (λ b. (b || list_any p (range_with_len (a + 1) n)) ≡ true) [ true ↦ refl | false ↦ rest ]
    ]

any_false : (p : ℕ → Bool) (a n : ℕ) → ((o : ℕ) → p o ≡ false) → list_any p (range_with_len a n) ≡ false
any_false p a zero f = refl
any_false p a (suc n) f = rw (f a) (any_false p (a + 1) n f)

any_same : (p q : ℕ → Bool) (a n : ℕ) → ((o : ℕ) → p o ≡ q o) → list_any p (range_with_len a n) ≡ list_any q (range_with_len a n)
any_same p q a zero f = refl
any_same p q a (suc n) f = rw (f a, any_same p q (a + 1) n f) refl

module _ (test : Letter → Bool) (c : Caches) (line : ℕ) where
  pub some_core_true : (o : ℕ) → o < length c.l1 → test (letter_at c o line) ≡ true → some_core test c line ≡ true
  some_core_true o within t = any_true (λ (x : ℕ). test (letter_at c x line)) 0 (length c.l1) o (omega arith) (omega arith) t

  pub some_core_false : ((o : ℕ) → test (letter_at c o line) ≡ false) → some_core test c line ≡ false
  some_core_false f = any_false (λ (x : ℕ). test (letter_at c x line)) 0 (length c.l1) f

  module _ (core : ℕ) where
    abbrev other : ℕ → Bool
    other o = not (nat_eq o core) && test (letter_at c o line)

    pub some_other_true : (o : ℕ) → o < length c.l1 → o ≢ core → test (letter_at c o line) ≡ true → some_other test c core line ≡ true
    some_other_true o within apart t = any_true other 0 (length c.l1) o (omega arith) (omega arith) (rw (ne_eqb o core apart) t)

    pub some_other_false : ((o : ℕ) → o ≢ core → test (letter_at c o line) ≡ false) → some_other test c core line ≡ false
    some_other_false f =
        any_false other 0 (length c.l1) (λ o. elim (cases_eq o core) as (λ _. other o ≡ false) [
          | inl e ↦ rw (eq-eqb o core e) refl
          | inr e ↦ rw (ne_eqb o core e) (f o e)
        ])

-- the same letters, as far as a test sees, give the same answer
pub some_other_same : (test other_test : Letter → Bool) (c d : Caches) (core line : ℕ) → length c.l1 ≡ length d.l1 → ((o : ℕ) → o ≢ core → test (letter_at c o line) ≡ other_test (letter_at d o line))
    → some_other test c core line ≡ some_other other_test d core line
some_other_same test other_test c d core line longer f =
    rw longer (any_same (other test c line core) (other other_test d line core) 0 (length d.l1) (λ o. elim (cases_eq o core) as (λ _. other test c line core o ≡ other other_test d line core o) [
      | inl e ↦ rw (eq-eqb o core e) refl
      | inr e ↦ rw (ne_eqb o core e) (f o e)
    ]))

-- where a core's own letter fails the test, the others are all cores
pub some_other_all : (test : Letter → Bool) (c : Caches) (core line : ℕ) → test (letter_at c core line) ≡ false → some_other test c core line ≡ some_core test c line
some_other_all test c core line own =
    any_same (other test c line core) (λ (o : ℕ). test (letter_at c o line)) 0 (length c.l1) (λ o. elim (cases_eq o core) as (λ _. other test c line core o ≡ test (letter_at c o line)) [
      | inl e ↦ rw (eq-eqb o core e) (sym (ap (λ (x : ℕ). test (letter_at c x line)) e ∙ own))
      | inr e ↦ rw (ne_eqb o core e) refl
    ])

both : (b : Bool) → b ≡ true → b ≡ false → ⊥
both b t f = cc

unknown : (c : Caches) (core line : ℕ) → length c.l1 ≤ core → letter_at c core line ≡ I
unfolding letter_at
unknown c core line past = rw (get_or_past c.l1 core [] past) refl

-- where no other core has the line, each has the letter I for it
pub some_other_none : (c : Caches) (line core : ℕ) → some_other is_valid c core line ≡ false → (o : ℕ) → o ≢ core → letter_at c o line ≡ I
some_other_none c line core none o apart =
    elim (cases_lt o (length c.l1)) as (λ _. letter_at c o line ≡ I) [
      | inl l ↦
          elim (cases_Bool (is_valid (letter_at c o line))) as (λ _. letter_at c o line ≡ I) [
            | inl t ↦ absurd (both (some_other is_valid c core line) (some_other_true is_valid c line core o l apart t) none)
            | inr f ↦ not_held (letter_at c o line) f
          ]
      | inr l ↦ unknown c o line l
    ] where
      not_held : (letter : Letter) → is_valid letter ≡ false → letter ≡ I
      not_held M h = absurd cc
      not_held E h = absurd cc
      not_held S h = absurd cc
      not_held I h = refl
