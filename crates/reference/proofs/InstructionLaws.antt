-- What whole instructions make of each other.
use Rattle.std.proofs.Common.{◌≡◌, ◌≢◌, ◌⊎◌, ◌<◌, ◌≤◌, ◌+◌, ◌-◌, ◌∙◌, ℕ, Bool, true, List, All, length, take, drop, None, inl, inr, refl, sym, ap, subst, arith}
use Rattle.std.specs.Prelude.{slice_index}
use Rattle.std.specs.List.{flat_map}
use Rattle.std.proofs.lemmas.List.Elements.{All-drop, All-take}
use Rattle.rv_decode.specs.declared.inst.Inst.{Inst}
use Rattle.flat_memory.specs.FlatMemory.{MemoryState, memory_number, with_number, written}
use Rattle.flat_memory.specs.Laws as flat
use Rattle.rv_core.specs.Accesses.{is_in_memory, joined, load_requests, low_bytes, store_requests}
use Rattle.rv_core.specs.CoreState.{CoreState}
use Rattle.rv_core.specs.Effect.{address, goes_on, goes_to, loads, register}
use Rattle.rv_core.specs.Laws.{bytes_of, bytes_stored, number_of_bytes, replies_loaded}
use Rattle.reference.specs.InstructionLaws.{ComesToNext, CoreInMemory, IsStore, LoadsAreWhole, OtherBytesStay, StoredIsLoaded, StoresAreWhole, after_all_requests, after_executing, extended}
use Rattle.reference.proofs.LittleEndian.{bytes-below, number-read, number_of-bytes, read-back, with_number-length}
use Rattle.reference.proofs.LoadsStores.{Leaves, LieIn, lie-in, load-whole, store-whole}
use Rattle.reference.proofs.WholeInstructions.{free-idle, goes_on-instruction, goes_on-memory, load-effect, quiet-length, register-written, store-effect}

module _ (joins : (addr width : ℕ) (bytes : List ℕ) → length bytes ≡ width → All (λ b. b < 256) bytes → joined (replies_loaded (load_requests addr width) bytes) ≡ number_of_bytes bytes) where
  pub loads-whole : LoadsAreWhole
  loads-whole number load width signed s is ready there =
      let by_name = load-effect is load s.core in
      let addr = address load s.core in
      let lies = lie-in s.core s.memory addr width ready.base ready.size there in
      let bytes = All-take (λ b. b < 256) width (drop (addr - s.memory.base) s.memory.bytes) (All-drop (λ b. b < 256) (addr - s.memory.base) s.memory.bytes ready.bytes) in
      ap (λ c. after_all_requests number (record s { core = c })) by_name.0
      ∙ load-whole joins number width signed load s.core s.memory by_name.1 (free-idle s.core ready.free) there lies bytes

module _ (writes : (addr width value : ℕ) → flat_map bytes_stored (store_requests addr width value) ≡ bytes_of width value) where
  store-leaves : (number : ℕ) (store : Inst) (width : ℕ) (s : CoreInMemory) → IsStore store.name width → ComesToNext s → is_in_memory s.core.memory (address store s.core) width ≡ true
      → Leaves s.core s.memory (address store s.core) width (register s.core store.rs2) (after_executing number store s)
  store-leaves number store width s is ready there =
      let run = ap (λ c. after_all_requests number (record s { core = c })) (store-effect is store s.core).0 in
      let lies = lie-in s.core s.memory (address store s.core) width ready.base ready.size there in
      subst (λ (after : CoreInMemory). Leaves s.core s.memory (address store s.core) width (register s.core store.rs2) after) (sym run)
      (store-whole writes number width store s.core s.memory (free-idle s.core ready.free) there lies)

  pub stores-whole : StoresAreWhole
  unfolding written
  stores-whole number store width s is ready there = let left = store-leaves number store width s is ready there in (left.core_is, left.bytes_are)

  pub other_bytes-stay : flat.StoreLeavesOtherBytes → OtherBytesStay
  unfolding written
  other_bytes-stay stay number store width other s is ready there begins outside =
      let left = store-leaves number store width s is ready there in
      let addr = address store s.core in
      let lies = lie-in s.core s.memory addr width ready.base ready.size there in
      let within : flat.IsThere s.memory addr width = record { begins = lies.begins; ends = omega (arith, lies.begins, lies.ends) } in
      let apart : (other - s.memory.base < addr - s.memory.base) ⊎ (addr - s.memory.base + width ≤ other - s.memory.base) =
      elim outside [ inl before ↦ inl (omega (arith, before, begins)) | inr behind ↦ inr (omega (arith, behind, begins, lies.begins)) ] in
      ap (λ bytes. slice_index bytes (other - (after_executing number store s).memory.base)) left.bytes_are
      ∙ ap (λ base. slice_index (with_number s.memory.bytes (addr - s.memory.base) width (register s.core store.rs2)) (other - base)) left.base_is
      ∙ stay s.memory number addr width (register s.core store.rs2) (other - s.memory.base) within apart

  module _ (joins : (addr width : ℕ) (bytes : List ℕ) → length bytes ≡ width → All (λ b. b < 256) bytes → joined (replies_loaded (load_requests addr width) bytes) ≡ number_of_bytes bytes) where
    -- a load where memory holds a number that was written
    load-written : (number width : ℕ) (signed : Bool) (load : Inst) (core : CoreState) (memory : MemoryState) (addr : ℕ) (bytes : List ℕ) (value : ℕ) → width ≤ 8
        → core.instruction ≡ None → is_in_memory core.memory addr width ≡ true → address load core ≡ addr → memory.base ≤ addr → addr - memory.base + width ≤ length bytes
        → memory.bytes ≡ with_number bytes (addr - memory.base) width value → load.rd ≢ 0 → load.rd < length core.registers
        → register (after_all_requests number (record { core = loads width signed load core; memory = memory })).core load.rd ≡ extended width signed (low_bytes width value)
    load-written number width signed load core memory addr bytes value few free there same begins ends holds some rd =
        let place = address load core - memory.base in
        let place_is : place ≡ addr - memory.base = ap (λ a. a - memory.base) same in
        let size : length memory.bytes ≡ length bytes = ap (λ (list : List ℕ). length list) holds ∙ with_number-length bytes (addr - memory.base) width value ends in
        let lies : LieIn memory (address load core) width = record { begins = omega (arith, begins, same); ends = omega (arith, ends, size, place_is) } in
        let read : take width (drop place memory.bytes) ≡ bytes_of width value =
        ap (λ n. take width (drop n memory.bytes)) place_is ∙ ap (λ list. take width (drop (addr - memory.base) list)) holds
        ∙ read-back bytes (addr - memory.base) width value (omega (arith, ends)) in
        let below : All (λ b. b < 256) (take width (drop place memory.bytes)) = subst (λ (list : List ℕ). All (λ b. b < 256) list) (sym read) (bytes-below width value) in
        let run = load-whole joins number width signed load core memory few free (ap (λ a. is_in_memory core.memory a width) same ∙ there) lies below in
        let number_is : memory_number memory (address load core) width ≡ low_bytes width value =
        number-read memory.bytes place width lies.ends ∙ ap number_of_bytes read ∙ number_of-bytes width value in
        ap (λ (after : CoreInMemory). register after.core load.rd) run
        ∙ register-written core load.rd (extended width signed (memory_number memory (address load core) width)) some rd
        ∙ ap (extended width signed) number_is

    quiet-address : (load : Inst) (core : CoreState) → address load (goes_on core 0 0) ≡ address load core
    unfolding goes_to
    quiet-address load core = refl

    pub stored-loaded : StoredIsLoaded
    stored-loaded number store load width signed s is_store is_load some few same ready there =
        let left = store-leaves number store width s is_store ready there in
        let addr = address store s.core in
        let middle = after_executing number store s in
        let core = goes_on s.core 0 0 in
        let lies = lie-in s.core s.memory addr width ready.base ready.size there in
        let by_name = load-effect is_load load core in
        let place : addr - middle.memory.base ≡ addr - s.memory.base = ap (λ base. addr - base) left.base_is in
        let run : after_executing number load middle ≡ after_all_requests number (record middle { core = loads width signed load core }) =
        ap (λ c. after_executing number load (record middle { core = c })) left.core_is ∙ ap (λ c. after_all_requests number (record middle { core = c })) by_name.0 in
        let free : core.instruction ≡ None = goes_on-instruction s.core 0 0 ∙ free-idle s.core ready.free in
        let here : is_in_memory core.memory addr width ≡ true = ap (λ memory. is_in_memory memory addr width) (goes_on-memory s.core 0 0) ∙ there in
        let begins : middle.memory.base ≤ addr = omega (arith, left.base_is, lies.begins) in
        let holds : middle.memory.bytes ≡ with_number s.memory.bytes (addr - middle.memory.base) width (register s.core store.rs2) =
        left.bytes_are ∙ ap (λ n. with_number s.memory.bytes n width (register s.core store.rs2)) (sym place) in
        let rd : load.rd < length core.registers = omega (arith, few, quiet-length s.core, ready.sound.registers) in
        ap (λ (after : CoreInMemory). register after.core load.rd) run
        ∙ load-written number width signed load core middle.memory addr s.memory.bytes (register s.core store.rs2) by_name.1 free here (quiet-address load s.core ∙ same) begins
        (omega (arith, place, lies.ends)) holds some rd
