-- The home's row of a line, after the core got it.
use Rattle.std.proofs.Common.{◌≡◌, ◌≢◌, ℕ, zero, suc, ◌+◌, ◌<◌, ◌≤◌, ◌||◌, Bool, true, false, cond, List, [], ◌∷◌, Some, refl, sym, ap, ◌∙◌, subst, arith, inl, inr}
use Rattle.std.specs.List.{filter, range_with_len}
use Rattle.std.specs.Prelude.{nat_eq}
use Rattle.std.specs.Set.{is_member}
use Rattle.std.proofs.lemmas.Bool.{cases_Bool, cases_eq, cases_lt, eq-eqb, ne_eqb}
use Rattle.shard.specs.Coherence.{is_alone, is_valid}
use Rattle.home.specs.HomeState.{HomeLine, bytes_at, granted_in, owned_in, row_at}
use Rattle.mesi_dir.specs.CoreSets.{with_core}
use Rattle.l1_cache.specs.L1State.{Copy}
use Rattle.shard.specs.SharedStep.{Bank, own_letter, with_home}
use Rattle.shard.proofs.HomesAndL1s.Banks.{same_bank}
use Rattle.shard.proofs.HomesAndL1s.Decisions.{member_first}
use Rattle.shard.proofs.HomesAndL1s.Fit.{AreFit, fit_home}
use Rattle.shard.proofs.HomesAndL1s.ReadyFits.{RowSet}
use Rattle.shard.proofs.HomesAndL1s.Rows.{row_other, row_there}

-- ---- some cores and one more
module _ (f : ℕ → Bool) where
  below : (a n k : ℕ) → k < a → is_member nat_eq (filter f (range_with_len a n)) k ≡ false
  below a zero k l = refl
  below a (suc n) k l =
      let rest : is_member nat_eq (filter f (range_with_len (a + 1) n)) k ≡ false = below (a + 1) n k (omega arith) in
      elim (f a) as (λ b. is_member nat_eq (cond b (a ∷ filter f (range_with_len (a + 1) n)) (filter f (range_with_len (a + 1) n))) k ≡ false) [
        | true ↦ ap (λ (b : Bool). b || is_member nat_eq (filter f (range_with_len (a + 1) n)) k) (ne_eqb k a (λ e. absurd (omega arith))) ∙ rest
        | false ↦ rest
      ]

  above : (a n k : ℕ) → a + n ≤ k → is_member nat_eq (filter f (range_with_len a n)) k ≡ false
  above a zero k l = refl
  above a (suc n) k l =
      let rest : is_member nat_eq (filter f (range_with_len (a + 1) n)) k ≡ false = above (a + 1) n k (omega arith) in
      elim (f a) as (λ b. is_member nat_eq (cond b (a ∷ filter f (range_with_len (a + 1) n)) (filter f (range_with_len (a + 1) n))) k ≡ false) [
        | true ↦ ap (λ (b : Bool). b || is_member nat_eq (filter f (range_with_len (a + 1) n)) k) (ne_eqb k a (λ e. absurd (omega arith))) ∙ rest
        | false ↦ rest
      ]

  within : (a n k : ℕ) → a ≤ k → k < a + n → is_member nat_eq (filter f (range_with_len a n)) k ≡ f k
  within a zero k low high = absurd (omega arith)
  within a (suc n) k low high =
      elim (cases_eq k a) as (λ _. is_member nat_eq (filter f (range_with_len a (suc n))) k ≡ f k) [
        | inl e ↦
            subst (λ (j : ℕ). is_member nat_eq (filter f (range_with_len a (suc n))) j ≡ f j) (sym e)
            (elim (f a) as (λ b. is_member nat_eq (cond b (a ∷ filter f (range_with_len (a + 1) n)) (filter f (range_with_len (a + 1) n))) a ≡ b) [
              | true ↦ member_first a (filter f (range_with_len (a + 1) n))
              | false ↦ below (a + 1) n a (omega arith)
            ])
        | inr e ↦
            let rest : is_member nat_eq (filter f (range_with_len (a + 1) n)) k ≡ f k = within (a + 1) n k (higher a k low e) (omega arith) in
            elim (f a) as (λ b. is_member nat_eq (cond b (a ∷ filter f (range_with_len (a + 1) n)) (filter f (range_with_len (a + 1) n))) k ≡ f k) [
              | true ↦ ap (λ (b : Bool). b || is_member nat_eq (filter f (range_with_len (a + 1) n)) k) (ne_eqb k a e) ∙ rest
              | false ↦ rest
            ]
      ] where
        higher : (a k : ℕ) → a ≤ k → k ≢ a → a + 1 ≤ k
        higher a k l apart = elim (cases_lt a k) as (λ _. a + 1 ≤ k) [ inl h ↦ omega arith | inr h ↦ absurd (apart (omega arith)) ]

pub with_own : (core : ℕ) (cores : List ℕ) → core < 256 → is_member nat_eq (with_core core cores) core ≡ true
with_own core cores l =
    within (λ c. nat_eq c core || is_member nat_eq cores c) 0 256 core (omega arith) (omega arith) ∙ ap (λ (b : Bool). b || is_member nat_eq cores core) (eq-eqb core core refl)

pub with_other : (core k : ℕ) (cores : List ℕ) → k ≢ core → (is_member nat_eq cores k ≡ true → k < 256) → is_member nat_eq (with_core core cores) k ≡ is_member nat_eq cores k
with_other core k cores apart few =
    let f : ℕ → Bool = λ c. nat_eq c core || is_member nat_eq cores c in
    elim (cases_lt k 256) as (λ _. is_member nat_eq (with_core core cores) k ≡ is_member nat_eq cores k) [
      | inl l ↦ within f 0 256 k (omega arith) (omega arith) ∙ ap (λ (b : Bool). b || is_member nat_eq cores k) (ne_eqb k core apart)
      | inr past ↦
          above f 0 256 k (omega arith)
          ∙ sym (elim (cases_Bool (is_member nat_eq cores k)) as (λ _. is_member nat_eq cores k ≡ false) [ inl t ↦ let l : k < 256 = few t in absurd (omega arith) | inr t ↦ t ])
    ]

-- ---- the row stays
pub unset : (r : Bank) → AreFit r → (core line : ℕ) (row w : HomeLine) (copy : Copy) → row_at r.home line ≡ Some w → w.fetchers ≡ row.fetchers → w.alone ≡ is_alone copy.letter
    → ((k : ℕ) → is_member nat_eq w.sharers k ≡ is_valid (own_letter r k line)) → RowSet r r core line row copy
unset r fit core line row w copy there fetchers alone members = record {
  keeps = record { bank = same_bank r fit; base = refl; size = refl; marks = refl; long = refl };
  marks = refl;
  l1s = refl;
  rows = λ x apart. refl;
  bytes = λ x. refl;
  row_now = (w, there, fetchers, alone, members);
}

-- ---- the core alone has it
only_one : (core k : ℕ) (valid_here valid_k : Bool) → (k ≡ core → valid_k ≡ true) → (k ≢ core → valid_k ≡ false) → is_member nat_eq (core ∷ []) k ≡ valid_k
only_one core k valid_here valid_k mine others =
    elim (cases_eq k core) as (λ _. is_member nat_eq (core ∷ []) k ≡ valid_k) [
      | inl e ↦ ap (λ (b : Bool). b || false) (eq-eqb k core e) ∙ sym (mine e)
      | inr e ↦ ap (λ (b : Bool). b || false) (ne_eqb k core e) ∙ sym (others e)
    ]

module _ (r : Bank) (fit : AreFit r) (core line : ℕ) (row w : HomeLine) (copy : Copy) (there : row_at r.home line ≡ Some w) (fetchers : w.fetchers ≡ row.fetchers) (mine : is_valid (own_letter r core line) ≡ true) where
  pub owned_set : is_alone copy.letter ≡ true → ((k : ℕ) → k ≢ core → is_valid (own_letter r k line) ≡ false) → RowSet r (with_home (owned_in line core) r) core line row copy
  unfolding owned_in bytes_at
  owned_set alone others = record {
    keeps = record {
      bank = record { count = refl; number = refl; cores = refl; fit = fit_home r (owned_in line core r.home) fit refl refl };
      base = refl;
      size = refl;
      marks = refl;
      long = refl;
    };
    marks = refl;
    l1s = refl;
    rows = λ x apart. row_other line (λ row. record row { sharers = core ∷ []; alone = true }) r.home x apart;
    bytes = λ x. refl;
    row_now = (
      record w { sharers = core ∷ []; alone = true },
      row_there line (λ row. record row { sharers = core ∷ []; alone = true }) r.home w there,
      fetchers,
      sym alone,
      λ k. only_one core k true (is_valid (own_letter r k line)) (λ e. subst (λ (j : ℕ). is_valid (own_letter r j line) ≡ true) (sym e) mine) (others k),
    );
  }

  pub granted_set : (alone : Bool) → alone ≡ is_alone copy.letter → core < 256 → ((k : ℕ) → is_member nat_eq w.sharers k ≡ true → k < 256)
      → ((k : ℕ) → k ≢ core → is_member nat_eq w.sharers k ≡ is_valid (own_letter r k line)) → RowSet r (with_home (granted_in line core alone) r) core line row copy
  unfolding granted_in bytes_at
  granted_set alone same few_core few others = record {
    keeps = record {
      bank = record { count = refl; number = refl; cores = refl; fit = fit_home r (granted_in line core alone r.home) fit refl refl };
      base = refl;
      size = refl;
      marks = refl;
      long = refl;
    };
    marks = refl;
    l1s = refl;
    rows = λ x apart. row_other line (λ row. record row { sharers = with_core core row.sharers; alone = alone }) r.home x apart;
    bytes = λ x. refl;
    row_now = (
      record w { sharers = with_core core w.sharers; alone = alone },
      row_there line (λ row. record row { sharers = with_core core row.sharers; alone = alone }) r.home w there,
      fetchers,
      same,
      λ k. elim (cases_eq k core) as (λ _. is_member nat_eq (with_core core w.sharers) k ≡ is_valid (own_letter r k line)) [
        | inl e ↦ subst (λ (j : ℕ). is_member nat_eq (with_core core w.sharers) j ≡ is_valid (own_letter r j line)) (sym e) (with_own core w.sharers few_core ∙ sym mine)
        | inr e ↦ with_other core k w.sharers e (few k) ∙ others k e
      ],
    );
  }
