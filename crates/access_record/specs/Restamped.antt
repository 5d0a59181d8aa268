-- Accesses that get their stamps after they were made.
use Rattle.std.specs.Prelude.{◌≡◌, ℕ, List, [], ◌∷◌, length, map, slice_index_or}
use Rattle.std.specs.List.{range_with_len}
use Rattle.zs_num.specs.declared.entry.Entry.{Entry}
use Rattle.access_log.specs.History.{bank_of_entry, of_core, stamped_by}
use Rattle.access_log.specs.RecordedOrder.{Stamps, next_stamp, no_stamps}
use Rattle.access_record.specs.Turns.{in_turns}
use Rattle.access_record.specs.declared.stamped.Stamped.{Stamped}

abbrev pub unstamped : Entry → Entry
unstamped e = record e { stamp = 0 }

-- they are the same accesses but for their stamps
abbrev pub AreSameButStamps : (entries others : List Entry) → Type 0
AreSameButStamps entries others = map unstamped others ≡ map unstamped entries

-- an access with the stamp that follows those before it in its bank and of its core
abbrev pub with_stamp : (banks : ℕ) → Stamps → Entry → Entry
with_stamp banks stamps e = record e { stamp = next_stamp stamps (bank_of_entry banks e) e.core }

-- and each of these, which turns took in this order
abbrev pub with_stamps : (banks : ℕ) → Stamps → List Entry → List Entry
with_stamps banks stamps [] = []
with_stamps banks stamps (e ∷ entries) =
    with_stamp banks stamps e ∷ with_stamps banks (stamped_by banks stamps (with_stamp banks stamps e)) entries

-- the accesses of all cores in the order of the turns, with the stamps that follow
abbrev pub stamped_in_turns : (banks : ℕ) → (turns : List ℕ) → List (List Entry) → List Entry
stamped_in_turns banks turns lists = with_stamps banks (no_stamps banks (length lists)) (in_turns turns lists)

-- and of these each core's, in its order
abbrev pub stamped_lists : (banks : ℕ) → (turns : List ℕ) → List (List Entry) → List (List Entry)
stamped_lists banks turns lists = map (λ core. of_core core (stamped_in_turns banks turns lists)) (range_with_len 0 (length lists))

-- the accesses of the core of these, where the lists are those of the cores
abbrev pub list_like : List (List Entry) → List Entry → List Entry
list_like lists [] = []
list_like lists (e ∷ entries) = slice_index_or lists e.core []

-- the lists with their stamps
abbrev pub lists_of_stamped : Stamped → List (List Entry)
lists_of_stamped s = stamped_lists s.banks s.turns.value.items (map (λ log. log.entries) s.logs.value.items)
