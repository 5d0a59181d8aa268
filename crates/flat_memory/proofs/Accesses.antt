-- What accesses make of each other.
use Rattle.std.proofs.Common.{◌≡◌, ◌≢◌, ◌⊎◌, ◌+◌, ◌-◌, ◌/◌, ◌%◌, ◌^◌, ◌<◌, ◌≤◌, ◌==◌, ◌∙◌, ℕ, true, cond, List, ◌++◌, length, take, drop, get_or, slice_set, Option, Some, None, inl, inr, refl, sym, ap, arith}
use Rattle.std.proofs.Math.Nat.{div-one}
use Rattle.std.proofs.Math.Seq.{get_or-append_right, drop-append-add}
use Rattle.std.proofs.lemmas.Bool.{eq-eqb}
use Rattle.std.proofs.lemmas.Bool.Decides.{eqb_tells}
use Rattle.std.proofs.lemmas.List.{get_or-drop, get_or-set_same, get_or-take, get_or_append_left, length-take-le}
use Rattle.byteorder.specs.Endian.{little_bytes, little_number}
use Rattle.byteorder.specs.Numbers.{length-bytes_low_first, little_from-bytes}
use Rattle.flat_memory.specs.declared.reservation.Reservation.{Reservation}
use Rattle.flat_memory.specs.FlatMemory.{after_write, is_reserved, is_reservation, number_in, unless_written, with_number, written}
use Rattle.flat_memory.specs.Laws.{ConditionalFailsAfterOthersStore, ConditionalStoresAfterReserved, LoadGivesWhatWasStored, StoreLeavesOtherBytes}
use Rattle.flat_memory.proofs.AfterWrite.{after_write-at}

-- the bytes of a number behind those of a list
number_in-with_number : (bytes : List ℕ) (place width value : ℕ) → place ≤ length bytes → number_in (with_number bytes place width value) place width ≡ value % 256 ^ width
unfolding number_in with_number
number_in-with_number bytes place width value h =
    let rest = little_bytes width value ++ drop (place + width) bytes in
    let front : length (take place bytes) ≡ place = length-take-le place bytes h in
    let behind : drop place (take place bytes ++ rest) ≡ rest =
    ap (λ n. drop n (take place bytes ++ rest)) (sym front ∙ omega arith) ∙ drop-append-add (take place bytes) rest 0 in
    ap (little_number width) behind ∙ little_from-bytes width 0 value (drop (place + width) bytes)
    ∙ ap (λ (n : ℕ). n % 256 ^ width) (div-one value)

pub stored_is_loaded : LoadGivesWhatWasStored
unfolding written
stored_is_loaded memory core other addr width value there =
    number_in-with_number memory.bytes (addr - memory.base) width value (omega (arith, there.begins, there.ends))

-- a byte before the number, or behind it
with_number-at : (bytes : List ℕ) (place width value i : ℕ) → place + width ≤ length bytes → (i < place) ⊎ (place + width ≤ i)
    → get_or (with_number bytes place width value) i 0 ≡ get_or bytes i 0
unfolding with_number
with_number-at bytes place width value i h (inl before) =
    let front : length (take place bytes) ≡ place = length-take-le place bytes (omega (arith, h)) in
    get_or_append_left (take place bytes) _ 0 i (omega (arith, front, before)) ∙ get_or-take place bytes i 0 before
with_number-at bytes place width value i h (inr behind) =
    let front : length (take place bytes) ≡ place = length-take-le place bytes (omega (arith, h)) in
    let number : length (little_bytes width value) ≡ width = length-bytes_low_first 0 width value in
    get_or-append_right (take place bytes) _ i 0 (omega (arith, front, behind))
    ∙ get_or-append_right (little_bytes width value) _ (i - length (take place bytes)) 0 (omega (arith, front, number, behind))
    ∙ get_or-drop (place + width) bytes (i - length (take place bytes) - length (little_bytes width value)) 0
    ∙ ap (λ (n : ℕ). get_or bytes n 0) (omega (arith, front, number, behind))

pub other_bytes_stay : StoreLeavesOtherBytes
unfolding written
other_bytes_stay memory core addr width value i there outside =
    with_number-at memory.bytes (addr - memory.base) width value i (omega (arith, there.begins, there.ends)) outside

-- what was reserved is what is reserved
reserved_is : (addr width : ℕ) → is_reservation (Some (record { addr = addr; width = width })) addr width ≡ true
reserved_is addr width = rw (eq-eqb addr addr refl, eq-eqb width width refl) refl

pub pair_stores : ConditionalStoresAfterReserved
unfolding is_reserved
pair_stores memory core addr width value paired there =
    let reservation : Option Reservation = Some (record { addr = addr; width = width }) in
    let at : get_or (slice_set memory.reservations core reservation) core None ≡ reservation = get_or-set_same memory.reservations core reservation None there in
    let is : is_reservation (get_or (slice_set memory.reservations core reservation) core None) addr width ≡ true =
    ap (λ r. is_reservation r addr width) at ∙ reserved_is addr width in
    ap (λ b. cond b 0 1) is

-- another core's write to the line leaves nothing of what was reserved there
ended : (core other addr width place : ℕ) → other ≢ core → place / 64 ≡ addr / 64
    → unless_written (core == other) place (Some (record { addr = addr; width = width })) ≡ None
ended core other addr width place others line =
    elim (eqb_tells core other) [
      | inl (is, same) ↦ absurd (others (sym same))
      | inr (is, differs) ↦ rw (is, eq-eqb (addr / 64) (place / 64) (sym line)) refl
    ]

pub store_between_ends_pair : ConditionalFailsAfterOthersStore
unfolding is_reserved written
store_between_ends_pair memory core other addr width value place size number paired there others line =
    let reservation : Option Reservation = Some (record { addr = addr; width = width }) in
    let reserved = slice_set memory.reservations core reservation in
    let at : get_or reserved core None ≡ reservation = get_or-set_same memory.reservations core reservation None there in
    let gone : get_or (after_write other place reserved) core None ≡ None =
    after_write-at other place reserved core ∙ ap (unless_written (core == other) place) at ∙ ended core other addr width place others line in
    ap (λ b. cond b 0 1) (ap (λ r. is_reservation r addr width) gone)
