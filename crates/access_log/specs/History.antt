-- A history: the entries of the accesses of an interval, in an order in which the turns were taken. What one core did
-- is told by its own entries, and what one bank did by those of the bank.
use Rattle.std.specs.Prelude.{◌≡◌, ℕ, ◌==◌, ◌<◌, List, [], ◌∷◌, map}
use Rattle.std.specs.List.{enumerate_from, filter, fold}
use Rattle.zs_num.specs.Request.{bank_of}
use Rattle.zs_num.specs.declared.entry.Entry.{Entry}
use Rattle.access_log.specs.RecordedOrder.{Stamps, next_stamp, stamped}

abbrev pub core_of_entry : Entry → ℕ
core_of_entry e = e.core

abbrev pub bank_of_entry : (banks : ℕ) → Entry → ℕ
bank_of_entry banks e = bank_of banks e.request

-- ---- by core and by bank

-- the entries that have this number, in order
abbrev pub of_number : (number_of : Entry → ℕ) → (number : ℕ) → List Entry → List Entry
of_number number_of number entries = filter (λ e. number_of e == number) entries

abbrev pub of_core : (core : ℕ) → List Entry → List Entry
of_core core entries = of_number core_of_entry core entries

abbrev pub of_bank : (banks bank : ℕ) → List Entry → List Entry
of_bank banks bank entries = of_number (bank_of_entry banks) bank entries

-- what each of a list of things comes to by the entries that have its number, one after the other
abbrev pub each_after : {X : Type 0} → (step : X → Entry → X) → (number_of : Entry → ℕ) → List Entry → List X → List X
each_after step number_of entries xs = map (λ at. fold step at.1 (of_number number_of at.0 entries)) (enumerate_from 0 xs)

-- ---- stamps

-- the stamps after an entry
abbrev pub stamped_by : (banks : ℕ) → Stamps → Entry → Stamps
stamped_by banks stamps e = stamped stamps (bank_of_entry banks e) e.core e.stamp

-- each entry has the stamp that follows those before it in its bank and of its core
abbrev pub AreStamped : (banks : ℕ) → Stamps → List Entry → Type 0
AreStamped banks stamps [] = Unit {0}
AreStamped banks stamps (e ∷ entries) =
    (e.stamp ≡ next_stamp stamps (bank_of_entry banks e) e.core) × AreStamped banks (stamped_by banks stamps e) entries

-- the stamp of the last of some entries, 0 where there is none
abbrev pub latest_of : List Entry → ℕ
latest_of entries = fold (λ stamp e. e.stamp) 0 entries

-- the stamps rise, from above this one on
abbrev pub AreRising : (above : ℕ) → List Entry → Type 0
AreRising above [] = Unit {0}
AreRising above (e ∷ entries) = (above < e.stamp) × AreRising e.stamp entries

-- ---- another order

-- the same entries of each core and of each bank, in the same order
pub record HasSameFilters (banks : ℕ) (entries others : List Entry) : Type 0 where
  pub core : (number : ℕ) → of_core number others ≡ of_core number entries
  pub bank : (number : ℕ) → of_bank banks number others ≡ of_bank banks number entries
