-- Two neighbours of different cores and banks may change places.
use Rattle.std.proofs.Common.{◌≡◌, ℕ, ◌<◌, nat_lt, true, false, ◌||◌, Bool, List, ◌∷◌, length, refl, sym, ◌∙◌, ap, subst, arith, rules}
use Rattle.std.proofs.lemmas.List.{get_or-set_other, get_or-set_same, set_comm}
use Rattle.std.specs.Prelude.{slice_index, slice_set}
use Rattle.zs_num.specs.declared.entry.Entry.{Entry}
use Rattle.access_log.specs.History.{AreStamped, bank_of_entry, stamped_by}
use Rattle.access_log.specs.RecordedOrder.{Stamps, comes_before, next_stamp}

first_fails : (a b : Bool) → (a || b) ≡ false → a ≡ false
first_fails true b fails = fails
first_fails false b fails = refl

-- a number that was set is found where it was set
found : (numbers : List ℕ) (i j n : ℕ) → i ≡ j → i < length numbers → slice_index (slice_set numbers i n) j ≡ n
found numbers i j n same within = ap (slice_index (slice_set numbers i n)) (sym same) ∙ get_or-set_same numbers i n 0 within

pub not_before : (n m : ℕ) → nat_lt n m ≡ false → n < m → ⊥
not_before n m not lt = let before : nat_lt n m ≡ true = search rules in cc

module _ (banks : ℕ) (stamps : Stamps) (e x : Entry) where
  -- an entry that does not come before the next one has nothing in common with it
  module _ (next : x.stamp ≡ next_stamp (stamped_by banks stamps e) (bank_of_entry banks x) x.core) (not : comes_before e x ≡ false) where
    pub apart_cores : e.core < length stamps.cores → e.core ≡ x.core → ⊥
    apart_cores within same =
        let stamp = found stamps.cores e.core x.core e.stamp same within in
        not_before e.stamp x.stamp (first_fails (nat_lt e.stamp x.stamp) _ not) (omega (arith, next, stamp))

    pub apart_banks : bank_of_entry banks e < length stamps.banks → bank_of_entry banks e ≡ bank_of_entry banks x → ⊥
    apart_banks within same =
        let stamp = found stamps.banks (bank_of_entry banks e) (bank_of_entry banks x) e.stamp same within in
        not_before e.stamp x.stamp (first_fails (nat_lt e.stamp x.stamp) _ not) (omega (arith, next, stamp))

  module _ (cores : e.core ≡ x.core → ⊥) (apart : bank_of_entry banks e ≡ bank_of_entry banks x → ⊥) where
    -- the stamps after both are the same
    both : stamped_by banks (stamped_by banks stamps e) x ≡ stamped_by banks (stamped_by banks stamps x) e
    both =
        rw (set_comm stamps.banks (bank_of_entry banks e) (bank_of_entry banks x) e.stamp x.stamp apart, set_comm stamps.cores e.core x.core e.stamp x.stamp cores) refl

    second_first : next_stamp (stamped_by banks stamps e) (bank_of_entry banks x) x.core ≡ next_stamp stamps (bank_of_entry banks x) x.core
    second_first =
        rw (get_or-set_other stamps.banks (bank_of_entry banks e) (bank_of_entry banks x) e.stamp 0 (λ s. apart (sym s)), get_or-set_other stamps.cores e.core x.core e.stamp 0 (λ s. cores (sym s))) refl

    first_second : next_stamp stamps (bank_of_entry banks e) e.core ≡ next_stamp (stamped_by banks stamps x) (bank_of_entry banks e) e.core
    first_second =
        rw (get_or-set_other stamps.banks (bank_of_entry banks x) (bank_of_entry banks e) x.stamp 0 apart, get_or-set_other stamps.cores x.core e.core x.stamp 0 cores) refl

    pub swapped_stamped : (entries : List Entry) → AreStamped banks stamps (e ∷ x ∷ entries) → AreStamped banks stamps (x ∷ e ∷ entries)
    swapped_stamped entries stamped =
        (stamped.1.0 ∙ second_first, (stamped.0 ∙ first_second, subst (λ (s : Stamps). AreStamped banks s entries) both stamped.1.1))
