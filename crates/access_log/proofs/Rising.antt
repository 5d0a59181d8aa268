-- Lists of entries whose stamps rise.
use Rattle.std.proofs.Common.{◌≡◌, ℕ, ◌<◌, ◌≤◌, nat_lt, true, false, List, [], ◌∷◌, length, All, refl, sym, ◌∙◌, ap, subst, arith, rules, inl, inr}
use Rattle.std.specs.Prelude.{replicate, slice_index, slice_set}
use Rattle.std.proofs.lemmas.Bool.{cases_Bool, cases_eq}
use Rattle.std.proofs.lemmas.List.{get_or-set_other, get_or-set_same, length-replicate, length-set}
use Rattle.std.proofs.lemmas.List.Elements.{All-head, All-tail}
use Rattle.zs_num.specs.declared.entry.Entry.{Entry}
use Rattle.access_log.specs.History.{AreRising, AreStamped, bank_of_entry, core_of_entry, of_bank, of_core, of_number, stamped_by}
use Rattle.access_log.specs.RecordedOrder.{Stamps, comes_before, no_stamps, placed, recorded_order}
use Rattle.access_log.proofs.Filters.{before_same, other_first, own_first, swapped}

pub rising_less : (low above : ℕ) (entries : List Entry) → low ≤ above → AreRising above entries → AreRising low entries
rising_less low above [] less rising = tt
rising_less low above (e ∷ entries) less rising = (omega (arith, rising.0, less), rising.1)

earlier_before : (e x : Entry) → e.stamp < x.stamp → comes_before e x ≡ true
earlier_before e x earlier = let before : nat_lt e.stamp x.stamp ≡ true = search rules in rw before refl

-- ---- the recorded order

module _ (number_of : Entry → ℕ) where
  -- what follows an entry rises too
  rest_rises : (above number : ℕ) (e : Entry) (entries : List Entry) → AreRising above (of_number number_of number (e ∷ entries)) → AreRising above (of_number number_of number entries)
  rest_rises above number e entries rising =
      elim (cases_eq (number_of e) number) as (λ _. AreRising above (of_number number_of number entries)) [
        | inl own ↦
            let whole : AreRising above (e ∷ of_number number_of number entries) = subst (AreRising above) (own_first number_of number e entries own) rising in
            rising_less above e.stamp (of_number number_of number entries) (omega (arith, whole.0)) whole.1
        | inr other ↦ subst (AreRising above) (other_first number_of number e entries other) rising
      ]

  -- neighbours with the same number
  next_later : (e x : Entry) (entries : List Entry) → number_of e ≡ number_of x → AreRising 0 (of_number number_of (number_of e) (e ∷ x ∷ entries)) → e.stamp < x.stamp
  next_later e x entries same rising =
      let one = own_first number_of (number_of e) e (x ∷ entries) refl in
      let two = own_first number_of (number_of e) x entries (sym same) in
      let both : AreRising 0 (e ∷ x ∷ of_number number_of (number_of e) entries) = subst (AreRising 0) (one ∙ ap (λ (es : List Entry). e ∷ es) two) rising in
      both.1.0

  apart : (e x : Entry) (entries : List Entry) → ((number : ℕ) → AreRising 0 (of_number number_of number (e ∷ x ∷ entries))) → comes_before e x ≡ false → number_of e ≡ number_of x → ⊥
  apart e x entries rising not same =
      let before = earlier_before e x (next_later e x entries same (rising (number_of e))) in cc

  placed_same : (entries : List Entry) (e : Entry) → ((number : ℕ) → AreRising 0 (of_number number_of number (e ∷ entries)))
      → (number : ℕ) → of_number number_of number (placed e entries) ≡ of_number number_of number (e ∷ entries)
  placed_same [] e rising number = refl
  placed_same (x ∷ entries) e rising number =
      elim (cases_Bool (comes_before e x)) as (λ _. of_number number_of number (placed e (x ∷ entries)) ≡ of_number number_of number (e ∷ x ∷ entries)) [
        | inl is ↦ rw is refl
        | inr not ↦
            let other = apart e x entries rising not in
            let later : (n : ℕ) → AreRising 0 (of_number number_of n (e ∷ entries)) = λ n.
            rest_rises 0 n x (e ∷ entries) (subst (AreRising 0) (sym (swapped number_of n e x entries other)) (rising n)) in
            rw not (before_same number_of number x (e ∷ entries) (placed e entries) (placed_same entries e later number) ∙ swapped number_of number e x entries other)
      ]

  pub rising_stay : (entries : List Entry) → ((number : ℕ) → AreRising 0 (of_number number_of number entries)) → (number : ℕ) → of_number number_of number (recorded_order entries) ≡ of_number number_of number entries
  rising_stay [] rising number = refl
  rising_stay (e ∷ entries) rising number =
      let later : (n : ℕ) → AreRising 0 (of_number number_of n entries) = λ n. rest_rises 0 n e entries (rising n) in
      let inner : (n : ℕ) → of_number number_of n (e ∷ recorded_order entries) ≡ of_number number_of n (e ∷ entries) = λ n. before_same number_of n e entries (recorded_order entries) (rising_stay entries later n) in
      placed_same (recorded_order entries) e (λ n. subst (AreRising 0) (sym (inner n)) (rising n)) number ∙ inner number

-- ---- logical clocks

-- what was stamped rises above the last stamp of its number
module _ (number_of : Entry → ℕ) (number : ℕ) where
  -- the last stamps, by number, of entries that rise
  abbrev above_all : List ℕ → List Entry → Type 0
  above_all last entries = AreRising (slice_index last number) (of_number number_of number entries)

  one_rises : (last : List ℕ) (e : Entry) (entries : List Entry) → number_of e < length last → slice_index last (number_of e) < e.stamp
      → above_all (slice_set last (number_of e) e.stamp) entries → above_all last (e ∷ entries)
  one_rises last e entries within later rising =
      elim (cases_eq (number_of e) number) as (λ _. above_all last (e ∷ entries)) [
        | inl own ↦
            let found : slice_index (slice_set last (number_of e) e.stamp) number ≡ e.stamp = ap (slice_index (slice_set last (number_of e) e.stamp)) (sym own) ∙ get_or-set_same last (number_of e) e.stamp 0 within in
            let low : slice_index last number < e.stamp = subst (λ (n : ℕ). slice_index last n < e.stamp) own later in
            subst (AreRising (slice_index last number)) (sym (own_first number_of number e entries own)) (low, subst (λ (n : ℕ). AreRising n (of_number number_of number entries)) found rising)
        | inr other ↦
            let found : slice_index (slice_set last (number_of e) e.stamp) number ≡ slice_index last number = get_or-set_other last (number_of e) number e.stamp 0 (λ s. other (sym s)) in
            subst (AreRising (slice_index last number)) (sym (other_first number_of number e entries other)) (subst (λ (n : ℕ). AreRising n (of_number number_of number entries)) found rising)
      ]

module _ (banks : ℕ) (some : 0 < banks) where
  cores_rise : (entries : List Entry) (stamps : Stamps) (core : ℕ) → All (λ e. e.core < length stamps.cores) entries → AreStamped banks stamps entries → above_all core_of_entry core stamps.cores entries
  cores_rise [] stamps core known stamped = tt
  cores_rise (e ∷ entries) stamps core known stamped =
      let P : Entry → Type 0 = λ x. x.core < length stamps.cores in
      let later : slice_index stamps.cores e.core < e.stamp = omega (arith, stamped.0) in
      let rest : All (λ (x : Entry). x.core < length (stamped_by banks stamps e).cores) entries = subst (λ (n : ℕ). All (λ (x : Entry). x.core < n) entries) (sym (length-set stamps.cores e.core e.stamp)) (All-tail P e entries known) in
      one_rises core_of_entry core stamps.cores e entries (All-head P e entries known) later (cores_rise entries (stamped_by banks stamps e) core rest stamped.1)

  banks_rise : (entries : List Entry) (stamps : Stamps) (bank : ℕ) → banks ≡ length stamps.banks → AreStamped banks stamps entries → above_all (bank_of_entry banks) bank stamps.banks entries
  banks_rise [] stamps bank is stamped = tt
  banks_rise (e ∷ entries) stamps bank is stamped =
      let own : ℕ = bank_of_entry banks e in
      let later : slice_index stamps.banks own < e.stamp = omega (arith, stamped.0) in
      one_rises (bank_of_entry banks) bank stamps.banks e entries (omega (arith, is, some)) later
      (banks_rise entries (stamped_by banks stamps e) bank (is ∙ sym (length-set stamps.banks own e.stamp)) stamped.1)

pub stamps_rise : (banks cores : ℕ) (entries : List Entry) → 0 < banks → All (λ e. e.core < cores) entries → AreStamped banks (no_stamps banks cores) entries
    → ((core : ℕ) → AreRising 0 (of_core core entries)) × ((bank : ℕ) → AreRising 0 (of_bank banks bank entries))
stamps_rise banks cores entries some known stamped =
    let here : All (λ e. e.core < length (replicate {A = ℕ} cores 0)) entries = subst (λ (n : ℕ). All (λ (e : Entry). e.core < n) entries) (sym (length-replicate cores 0)) known in (
      (λ core. rising_less 0 (slice_index (replicate cores 0) core) (of_core core entries) (omega arith) (cores_rise banks some entries (no_stamps banks cores) core here stamped)),
      (λ bank. rising_less 0 (slice_index (replicate banks 0) bank) (of_bank banks bank entries) (omega arith) (banks_rise banks some entries (no_stamps banks cores) bank (sym (length-replicate banks 0)) stamped)),
    )
