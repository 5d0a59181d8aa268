-- One entry more at the end of a history.
use Rattle.std.proofs.Common.{◌≡◌, ℕ, ◌+◌, ◌<◌, max, List, [], ◌∷◌, ◌++◌, length, All, refl, sym, ◌∙◌, ap, subst, arith, inl, inr}
use Rattle.std.specs.Prelude.{replicate, slice_index, slice_set}
use Rattle.std.specs.List.{fold}
use Rattle.std.proofs.lemmas.Bool.{cases_eq, cases_lt}
use Rattle.std.proofs.lemmas.List.{get_or-replicate, get_or-set_other, get_or-set_same, get_or_past, length-replicate, length-set}
use Rattle.std.proofs.lemmas.List.Elements.{All-head, All-tail}
use Rattle.zs_num.specs.declared.entry.Entry.{Entry}
use Rattle.access_log.specs.History.{AreStamped, bank_of_entry, core_of_entry, latest_of, of_bank, of_core, of_number, stamped_by}
use Rattle.access_log.specs.RecordedOrder.{Stamps, next_stamp, no_stamps}
use Rattle.access_log.proofs.Filters.{other_first, own_first}

-- the stamp of the last of some entries, or this one where there is none
abbrev last_from : ℕ → List Entry → ℕ
last_from stamp entries = fold (λ stamp e. e.stamp) stamp entries

-- ---- the last stamps by a number

module _ (number_of : Entry → ℕ) (number : ℕ) where
  one_last : (last : List ℕ) (e : Entry) (entries : List Entry) → number_of e < length last
      → last_from (slice_index (slice_set last (number_of e) e.stamp) number) (of_number number_of number entries) ≡ last_from (slice_index last number) (of_number number_of number (e ∷ entries))
  one_last last e entries within =
      elim (cases_eq (number_of e) number) as (λ _. last_from (slice_index (slice_set last (number_of e) e.stamp) number) (of_number number_of number entries) ≡ last_from (slice_index last number) (of_number number_of number (e ∷ entries))) [
        | inl own ↦
            let found : slice_index (slice_set last (number_of e) e.stamp) number ≡ e.stamp = ap (slice_index (slice_set last (number_of e) e.stamp)) (sym own) ∙ get_or-set_same last (number_of e) e.stamp 0 within in
            ap (λ (n : ℕ). last_from n (of_number number_of number entries)) found ∙ ap (last_from (slice_index last number)) (sym (own_first number_of number e entries own))
        | inr other ↦
            let found : slice_index (slice_set last (number_of e) e.stamp) number ≡ slice_index last number = get_or-set_other last (number_of e) number e.stamp 0 (λ s. other (sym s)) in
            ap (λ (n : ℕ). last_from n (of_number number_of number entries)) found ∙ ap (last_from (slice_index last number)) (sym (other_first number_of number e entries other))
      ]

module _ (banks : ℕ) (some : 0 < banks) where
  abbrev stamps_after : Stamps → List Entry → Stamps
  stamps_after stamps entries = fold (stamped_by banks) stamps entries

  last_of_core : (entries : List Entry) (stamps : Stamps) (core : ℕ) → All (λ e. e.core < length stamps.cores) entries
      → slice_index (stamps_after stamps entries).cores core ≡ last_from (slice_index stamps.cores core) (of_core core entries)
  last_of_core [] stamps core known = refl
  last_of_core (e ∷ entries) stamps core known =
      let P : Entry → Type 0 = λ x. x.core < length stamps.cores in
      let rest : All (λ (x : Entry). x.core < length (stamped_by banks stamps e).cores) entries = subst (λ (n : ℕ). All (λ (x : Entry). x.core < n) entries) (sym (length-set stamps.cores e.core e.stamp)) (All-tail P e entries known) in
      last_of_core entries (stamped_by banks stamps e) core rest ∙ one_last core_of_entry core stamps.cores e entries (All-head P e entries known)

  last_of_bank : (entries : List Entry) (stamps : Stamps) (bank : ℕ) → banks ≡ length stamps.banks
      → slice_index (stamps_after stamps entries).banks bank ≡ last_from (slice_index stamps.banks bank) (of_bank banks bank entries)
  last_of_bank [] stamps bank is = refl
  last_of_bank (e ∷ entries) stamps bank is =
      let own : ℕ = bank_of_entry banks e in
      last_of_bank entries (stamped_by banks stamps e) bank (is ∙ sym (length-set stamps.banks own e.stamp)) ∙ one_last (bank_of_entry banks) bank stamps.banks e entries (omega (arith, is, some))

  stamped_more : (entries : List Entry) (stamps : Stamps) (e : Entry) → AreStamped banks stamps entries → e.stamp ≡ next_stamp (stamps_after stamps entries) (bank_of_entry banks e) e.core
      → AreStamped banks stamps (entries ++ e ∷ [])
  stamped_more [] stamps e stamped next = (next, tt)
  stamped_more (x ∷ entries) stamps e stamped next = (stamped.0, stamped_more entries (stamped_by banks stamps x) e stamped.1 next)

-- no stamp is 0
zero_at : (n i : ℕ) → slice_index (replicate n 0) i ≡ 0
zero_at n i =
    elim (cases_lt i n) [
      | inl within ↦ get_or-replicate n i 0 0 within
      | inr past ↦ get_or_past (replicate n 0) i 0 (omega (arith, past, length-replicate {A = ℕ} n 0))
    ]

pub one_more_stamped : (banks cores : ℕ) (entries : List Entry) (e : Entry) → 0 < banks → All (λ x. x.core < cores) entries → AreStamped banks (no_stamps banks cores) entries
    → e.stamp ≡ max (latest_of (of_bank banks (bank_of_entry banks e) entries)) (latest_of (of_core e.core entries)) + 1 → AreStamped banks (no_stamps banks cores) (entries ++ e ∷ [])
one_more_stamped banks cores entries e some known stamped next =
    let here : All (λ e. e.core < length (replicate {A = ℕ} cores 0)) entries = subst (λ (n : ℕ). All (λ (e : Entry). e.core < n) entries) (sym (length-replicate cores 0)) known in
    let bank : ℕ = bank_of_entry banks e in
    let of_its_bank = last_of_bank banks some entries (no_stamps banks cores) bank (sym (length-replicate banks 0)) ∙ ap (λ (n : ℕ). last_from n (of_bank banks bank entries)) (zero_at banks bank) in
    let of_its_core = last_of_core banks some entries (no_stamps banks cores) e.core here ∙ ap (λ (n : ℕ). last_from n (of_core e.core entries)) (zero_at cores e.core) in
    stamped_more banks some entries (no_stamps banks cores) e stamped (next ∙ ap (λ (n : ℕ). max n (latest_of (of_core e.core entries)) + 1) (sym of_its_bank) ∙ ap (λ (n : ℕ). max (slice_index (stamps_after banks some (no_stamps banks cores) entries).banks bank) n + 1) (sym of_its_core))
