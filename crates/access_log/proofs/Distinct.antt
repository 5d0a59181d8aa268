-- Entries whose stamps rise in each core.
use Rattle.std.proofs.Common.{◌≡◌, ◌≢◌, ℕ, ◌<◌, false, List, [], ◌∷◌, refl, subst, arith, inl, inr}
use Rattle.std.specs.List.{AllByRecursion, IsDistinct}
use Rattle.std.proofs.lemmas.Bool.{cases_eq}
use Rattle.std.proofs.lemmas.Bool.Decides.{nat_tests}
use Rattle.zs_num.specs.declared.entry.Entry.{Entry}
use Rattle.access_log.specs.History.{AreRising, core_of_entry, of_core}
use Rattle.access_log.specs.Logs.{HaveDistinctKeys, have_same_key}
use Rattle.access_log.proofs.Filters.{other_first, own_first}
use Rattle.access_log.proofs.Rising.{rising_less}

later_differs : (e x : Entry) → e.stamp < x.stamp → have_same_key e x ≡ false
later_differs e x later = grind (arith, nat_tests)

other_differs : (e x : Entry) → x.core ≢ e.core → have_same_key e x ≡ false
other_differs e x other = grind (arith, nat_tests)

rest_rises : (core : ℕ) (e : Entry) (entries : List Entry) → AreRising 0 (of_core core (e ∷ entries)) → AreRising 0 (of_core core entries)
rest_rises core e entries rising =
    elim (cases_eq e.core core) as (λ _. AreRising 0 (of_core core entries)) [
      | inl own ↦
          let whole : AreRising 0 (e ∷ of_core core entries) = subst (AreRising 0) (own_first core_of_entry core e entries own) rising in
          rising_less 0 e.stamp (of_core core entries) (omega arith) whole.1
      | inr other ↦ subst (AreRising 0) (other_first core_of_entry core e entries other) rising
    ]

apart_from_all : (e : Entry) (entries : List Entry) → AreRising e.stamp (of_core e.core entries) → AllByRecursion (λ y. have_same_key e y ≡ false) entries
apart_from_all e [] rising = tt
apart_from_all e (x ∷ entries) rising =
    elim (cases_eq x.core e.core) as (λ _. AllByRecursion (λ y. have_same_key e y ≡ false) (x ∷ entries)) [
      | inl own ↦
          let whole : AreRising e.stamp (x ∷ of_core e.core entries) = subst (AreRising e.stamp) (own_first core_of_entry e.core x entries own) rising in
          (later_differs e x whole.0, apart_from_all e entries (rising_less e.stamp x.stamp (of_core e.core entries) (omega (arith, whole.0)) whole.1))
      | inr other ↦
          let rest : AreRising e.stamp (of_core e.core entries) = subst (AreRising e.stamp) (other_first core_of_entry e.core x entries other) rising in
          (other_differs e x other, apart_from_all e entries rest)
    ]

pub distinct_keys : (entries : List Entry) → ((core : ℕ) → AreRising 0 (of_core core entries)) → HaveDistinctKeys entries
unfolding IsDistinct
distinct_keys [] rising = tt
distinct_keys (e ∷ entries) rising =
    let whole : AreRising 0 (e ∷ of_core e.core entries) = subst (AreRising 0) (own_first core_of_entry e.core e entries refl) (rising e.core) in
    (apart_from_all e entries whole.1, distinct_keys entries (λ core. rest_rises core e entries (rising core)))
