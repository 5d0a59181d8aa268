-- The entries with a number, an entry at a time.
use Rattle.std.proofs.Common.{◌≡◌, ℕ, List, ◌∷◌, refl, sym, ◌∙◌, inl, inr}
use Rattle.std.proofs.lemmas.Bool.{cases_eq, eq-eqb, ne_eqb}
use Rattle.zs_num.specs.declared.entry.Entry.{Entry}
use Rattle.access_log.specs.History.{HasSameFilters, bank_of_entry, core_of_entry, of_number}

module _ (number_of : Entry → ℕ) (number : ℕ) where
  pub own_first : (e : Entry) (entries : List Entry) → number_of e ≡ number → of_number number_of number (e ∷ entries) ≡ e ∷ of_number number_of number entries
  own_first e entries own = rw (eq-eqb (number_of e) number own) refl

  pub other_first : (e : Entry) (entries : List Entry) → (number_of e ≡ number → ⊥) → of_number number_of number (e ∷ entries) ≡ of_number number_of number entries
  other_first e entries other = rw (ne_eqb (number_of e) number other) refl

  -- two neighbours with different numbers change places
  pub swapped : (e x : Entry) (entries : List Entry) → (number_of e ≡ number_of x → ⊥) → of_number number_of number (x ∷ e ∷ entries) ≡ of_number number_of number (e ∷ x ∷ entries)
  swapped e x entries apart =
      elim (cases_eq (number_of e) number) as (λ _. of_number number_of number (x ∷ e ∷ entries) ≡ of_number number_of number (e ∷ x ∷ entries)) [
        | inl own ↦
            let other : number_of x ≡ number → ⊥ = λ same. apart (own ∙ sym same) in
            rw (eq-eqb (number_of e) number own, ne_eqb (number_of x) number other) refl
        | inr other ↦ rw (ne_eqb (number_of e) number other) refl
      ]

  -- an entry before lists of the same entries
  pub before_same : (e : Entry) (entries others : List Entry) → of_number number_of number others ≡ of_number number_of number entries
      → of_number number_of number (e ∷ others) ≡ of_number number_of number (e ∷ entries)
  before_same e entries others same = rw same refl

module _ (banks : ℕ) where
  pub same_filters : (entries : List Entry) → HasSameFilters banks entries entries
  same_filters entries = record { core = λ number. refl; bank = λ number. refl }

  pub then_same : (entries others more : List Entry) → HasSameFilters banks entries others → HasSameFilters banks others more → HasSameFilters banks entries more
  then_same entries others more one two = record { core = λ number. two.core number ∙ one.core number; bank = λ number. two.bank number ∙ one.bank number }

  pub after_same : (e : Entry) (entries others : List Entry) → HasSameFilters banks entries others → HasSameFilters banks (e ∷ entries) (e ∷ others)
  after_same e entries others same = record {
    core = λ number. before_same core_of_entry number e entries others (same.core number);
    bank = λ number. before_same (bank_of_entry banks) number e entries others (same.bank number);
  }

  pub swapped_same : (e x : Entry) (entries : List Entry) → (e.core ≡ x.core → ⊥) → (bank_of_entry banks e ≡ bank_of_entry banks x → ⊥)
      → HasSameFilters banks (e ∷ x ∷ entries) (x ∷ e ∷ entries)
  swapped_same e x entries cores apart = record {
    core = λ number. swapped core_of_entry number e x entries cores;
    bank = λ number. swapped (bank_of_entry banks) number e x entries apart;
  }
