-- A load or a store is one access of all its bytes, wherever it crosses a line.
use Rattle.std.proofs.Common.{◌≡◌, ◌<◌, ◌≤◌, ◌+◌, ◌-◌, ◌%◌, ◌^◌, ◌++◌, ◌∙◌, ℕ, Bool, true, false, List, [], ◌∷◌, All, length, take, drop, None, refl, sym, ap, arith}
use Rattle.std.specs.List.{flat_map}
use Rattle.std.proofs.Math.Nat.{mod-eq_of_lt}
use Rattle.std.proofs.lemmas.Bool.{and_parts, leb-false, leb-true}
use Rattle.std.proofs.lemmas.List.{append-nil, drop-drop, drop-take, length-drop, length-take, take-take}
use Rattle.byteorder.specs.Endian.{little_bytes}
use Rattle.zs_num.specs.declared.request.Request.TheVariants.{Load, Store}
use Rattle.rv_decode.specs.declared.inst.Inst.{Inst}
use Rattle.flat_memory.specs.FlatMemory.{MemoryState, memory_number, number_in, with_number, written}
use Rattle.rv_core.specs.declared.progress.Reply.{Reply}
use Rattle.rv_core.specs.Accesses.{high_bytes, is_in_line, is_in_memory, joined, left_in_line, load_requests, low_bytes, reply_to, store_requests}
use Rattle.rv_core.specs.CoreState.{CoreState, ToNothing}
use Rattle.rv_core.specs.Effect.{accesses, address, ended, goes_on, goes_through, loads, register, stores, to_register}
use Rattle.rv_core.specs.Laws.{bytes_of, bytes_stored, number_of_bytes, replies_loaded}
use Rattle.reference.specs.InstructionLaws.{CoreInMemory, after_all_requests, extended}
use Rattle.reference.proofs.LittleEndian.{number-below, number-read, same-bytes, written-twice}
use Rattle.reference.proofs.WholeInstructions.{one-access, same-core, two-accesses}

-- how many bytes lie in the second line
abbrev beyond : (addr width : ℕ) → ℕ
beyond addr width = width - left_in_line addr

both-parts : (addr width : ℕ) → is_in_line addr width ≡ false → left_in_line addr + beyond addr width ≡ width
both-parts addr width e = let past : 64 < addr % 64 + width = leb-false _ _ e in omega arith

-- where the bytes of an access lie in memory
pub record LieIn (memory : MemoryState) (addr width : ℕ) : Type 0 where
  pub begins : memory.base ≤ addr
  pub ends : addr - memory.base + width ≤ length memory.bytes

pub lie-in : (core : CoreState) (memory : MemoryState) (addr width : ℕ) → core.memory.base ≡ memory.base → core.memory.size ≡ length memory.bytes
    → is_in_memory core.memory addr width ≡ true → LieIn memory addr width
lie-in core memory addr width base size there =
    let parts = and_parts _ _ there in
    let begins : core.memory.base ≤ addr = leb-true _ _ parts.0 in
    let ends : addr + width ≤ core.memory.base + core.memory.size = leb-true _ _ parts.1 in
    record { begins = omega (arith, begins, base); ends = omega (arith, begins, ends, base, size) }

-- ---- requests

store-request : (addr width value : ℕ) → is_in_line addr width ≡ true → store_requests addr width value ≡ Store width addr (low_bytes width value) ∷ []
unfolding store_requests
store-request addr width value line = rw line refl

store-two_requests : (addr width value : ℕ) → is_in_line addr width ≡ false
    → store_requests addr width value
    ≡ Store (left_in_line addr) addr (low_bytes (left_in_line addr) value)
    ∷ Store (beyond addr width) (addr + left_in_line addr) (low_bytes (beyond addr width) (high_bytes (left_in_line addr) value)) ∷ []
unfolding store_requests
store-two_requests addr width value line = rw line refl

load-request : (addr width : ℕ) → is_in_line addr width ≡ true → load_requests addr width ≡ Load width addr ∷ []
unfolding load_requests
load-request addr width line = rw line refl

load-two_requests : (addr width : ℕ) → is_in_line addr width ≡ false
    → load_requests addr width ≡ Load (left_in_line addr) addr ∷ Load (beyond addr width) (addr + left_in_line addr) ∷ []
unfolding load_requests
load-two_requests addr width line = rw line refl

stores-begin : (width : ℕ) (i : Inst) (core : CoreState) → is_in_memory core.memory (address i core) width ≡ true
    → stores width i core ≡ goes_through (store_requests (address i core) width (register core i.rs2)) [] ToNothing core
unfolding accesses
stores-begin width i core there = rw there refl

loads-begin : (width : ℕ) (signed : Bool) (i : Inst) (core : CoreState) → is_in_memory core.memory (address i core) width ≡ true
    → loads width signed i core ≡ goes_through (load_requests (address i core) width) [] (to_register i width signed) core
unfolding accesses
loads-begin width signed i core there = rw there refl

-- ---- stores

-- what a store leaves
pub record Leaves (core : CoreState) (memory : MemoryState) (addr width value : ℕ) (s : CoreInMemory) : Type 0 where
  pub core_is : s.core ≡ goes_on core 0 0
  pub base_is : s.memory.base ≡ memory.base
  pub bytes_are : s.memory.bytes ≡ with_number memory.bytes (addr - memory.base) width value

module _ (law : (addr width value : ℕ) → flat_map bytes_stored (store_requests addr width value) ≡ bytes_of width value) where
  pub low-bytes_count : (addr width value : ℕ) → is_in_line addr width ≡ true → little_bytes width (low_bytes width value) ≡ little_bytes width value
  low-bytes_count addr width value line =
      same-bytes width (low_bytes width value) ∙ sym (append-nil (bytes_of width (low_bytes width value)))
      ∙ ap (flat_map bytes_stored) (sym (store-request addr width value line)) ∙ law addr width value ∙ sym (same-bytes width value)

  both-bytes : (addr width value : ℕ) → is_in_line addr width ≡ false
      → little_bytes (left_in_line addr) (low_bytes (left_in_line addr) value) ++ little_bytes (beyond addr width) (low_bytes (beyond addr width) (high_bytes (left_in_line addr) value))
      ≡ little_bytes width value
  both-bytes addr width value line =
      let first = low_bytes (left_in_line addr) value in
      let last = low_bytes (beyond addr width) (high_bytes (left_in_line addr) value) in
      ap (λ bytes. bytes ++ little_bytes (beyond addr width) last) (same-bytes (left_in_line addr) first)
      ∙ ap (λ bytes. bytes_of (left_in_line addr) first ++ bytes) (same-bytes (beyond addr width) last ∙ sym (append-nil (bytes_of (beyond addr width) last)))
      ∙ ap (flat_map bytes_stored) (sym (store-two_requests addr width value line)) ∙ law addr width value ∙ sym (same-bytes width value)

  store-once : (number width : ℕ) (i : Inst) (core : CoreState) (memory : MemoryState) → core.instruction ≡ None → is_in_memory core.memory (address i core) width ≡ true
      → is_in_line (address i core) width ≡ true
      → Leaves core memory (address i core) width (register core i.rs2) (after_all_requests number (record { core = stores width i core; memory = memory }))
  unfolding ended written with_number
  store-once number width i core memory free there line =
      let addr = address i core in
      let value = register core i.rs2 in
      let begins = stores-begin width i core there ∙ ap (λ requests. goes_through requests [] ToNothing core) (store-request addr width value line) in
      let is = ap (λ c. after_all_requests number (record { core = c; memory = memory })) begins ∙ one-access number (Store width addr (low_bytes width value)) ToNothing core memory in
      record {
        core_is = ap (λ (s : CoreInMemory). s.core) is ∙ ap (λ c. goes_on c 0 0) (same-core core free);
        base_is = ap (λ (s : CoreInMemory). s.memory.base) is;
        bytes_are = ap (λ (s : CoreInMemory). s.memory.bytes) is
            ∙ ap (λ bytes. take (addr - memory.base) memory.bytes ++ (bytes ++ drop (addr - memory.base + width) memory.bytes)) (low-bytes_count addr width value line);
      }

  store-twice : (number width : ℕ) (i : Inst) (core : CoreState) (memory : MemoryState) → core.instruction ≡ None → is_in_memory core.memory (address i core) width ≡ true
      → LieIn memory (address i core) width → is_in_line (address i core) width ≡ false
      → Leaves core memory (address i core) width (register core i.rs2) (after_all_requests number (record { core = stores width i core; memory = memory }))
  unfolding ended written with_number
  store-twice number width i core memory free there lies line =
      let addr = address i core in
      let value = register core i.rs2 in
      let lower = left_in_line addr in
      let upper = beyond addr width in
      let place = addr - memory.base in
      let first = low_bytes lower value in
      let last = low_bytes upper (high_bytes lower value) in
      let width_is : lower + upper ≡ width = both-parts addr width line in
      let begins = stores-begin width i core there ∙ ap (λ requests. goes_through requests [] ToNothing core) (store-two_requests addr width value line) in
      let is = ap (λ c. after_all_requests number (record { core = c; memory = memory })) begins
      ∙ two-accesses number (Store lower addr first) (Store upper (addr + lower) last) ToNothing core memory in
      let place_is : addr + lower - memory.base ≡ place + lower = omega (arith, lies.begins) in
      record {
        core_is = ap (λ (s : CoreInMemory). s.core) is ∙ ap (λ c. goes_on c 0 0) (same-core core free);
        base_is = ap (λ (s : CoreInMemory). s.memory.base) is;
        bytes_are = ap (λ (s : CoreInMemory). s.memory.bytes) is
            ∙ ap (λ n. with_number (with_number memory.bytes place lower first) n upper last) place_is
            ∙ written-twice memory.bytes place lower upper first last (omega (arith, lies.ends, width_is))
            ∙ ap (λ bytes. take place memory.bytes ++ (bytes ++ drop (place + (lower + upper)) memory.bytes)) (both-bytes addr width value line)
            ∙ ap (λ n. take place memory.bytes ++ (little_bytes width value ++ drop (place + n) memory.bytes)) width_is;
      }

  by-line : (number width : ℕ) (i : Inst) (core : CoreState) (memory : MemoryState) → core.instruction ≡ None → is_in_memory core.memory (address i core) width ≡ true
      → LieIn memory (address i core) width → (line : Bool) → is_in_line (address i core) width ≡ line
      → Leaves core memory (address i core) width (register core i.rs2) (after_all_requests number (record { core = stores width i core; memory = memory }))
  by-line number width i core memory free there lies true line = store-once number width i core memory free there line
  by-line number width i core memory free there lies false line = store-twice number width i core memory free there lies line

  pub store-whole : (number width : ℕ) (i : Inst) (core : CoreState) (memory : MemoryState) → core.instruction ≡ None → is_in_memory core.memory (address i core) width ≡ true
      → LieIn memory (address i core) width
      → Leaves core memory (address i core) width (register core i.rs2) (after_all_requests number (record { core = stores width i core; memory = memory }))
  store-whole number width i core memory free there lies = by-line number width i core memory free there lies (is_in_line (address i core) width) refl

-- ---- loads

module _ (law : (addr width : ℕ) (bytes : List ℕ) → length bytes ≡ width → All (λ b. b < 256) bytes → joined (replies_loaded (load_requests addr width) bytes) ≡ number_of_bytes bytes) where
  -- the bytes that a load reads
  abbrev read : MemoryState → (addr width : ℕ) → List ℕ
  read memory addr width = take width (drop (addr - memory.base) memory.bytes)

  read-length : (memory : MemoryState) (addr width : ℕ) → LieIn memory addr width → length (read memory addr width) ≡ width
  read-length memory addr width lies = simp (length-take, length-drop) (omega (arith, lies.ends))

  -- the whole number is below 2^64
  whole : (memory : MemoryState) (addr width n : ℕ) → width ≤ 8 → LieIn memory addr width → All (λ b. b < 256) (read memory addr width)
      → n ≡ number_of_bytes (read memory addr width) → n % 2 ^ 64 ≡ memory_number memory addr width
  whole memory addr width n few lies bytes e =
      let is : n ≡ memory_number memory addr width = e ∙ sym (number-read memory.bytes (addr - memory.base) width lies.ends) in
      let below : memory_number memory addr width < 2 ^ 64 = number-below memory.bytes (addr - memory.base) width few bytes in
      ap (λ (k : ℕ). k % 2 ^ 64) is ∙ mod-eq_of_lt below

  -- the core and the memory after a load of a number
  abbrev loaded : (width : ℕ) (signed : Bool) (i : Inst) (core : CoreState) (memory : MemoryState) → CoreInMemory
  loaded width signed i core memory =
      record { core = goes_on core i.rd (extended width signed (memory_number memory (address i core) width)); memory = memory }

  -- the end of a load whose replies make the number
  ends-load : (number width : ℕ) (signed : Bool) (i : Inst) (core : CoreState) (memory : MemoryState) → width ≤ 8 → core.instruction ≡ None
      → LieIn memory (address i core) width → All (λ b. b < 256) (read memory (address i core) width)
      → (replies : List Reply) → joined replies ≡ number_of_bytes (read memory (address i core) width)
      → (record { core = goes_on (record core { instruction = None }) i.rd (extended width signed (joined replies % 2 ^ 64)); memory = memory }) ≡ loaded width signed i core memory
  ends-load number width signed i core memory few free lies bytes replies joins =
      ap (λ c. record { core = goes_on c i.rd (extended width signed (joined replies % 2 ^ 64)); memory = memory }) (same-core core free)
      ∙ ap (λ n. record { core = goes_on core i.rd (extended width signed n); memory = memory }) (whole memory (address i core) width (joined replies) few lies bytes joins)

  load-once : (number width : ℕ) (signed : Bool) (i : Inst) (core : CoreState) (memory : MemoryState) → width ≤ 8 → core.instruction ≡ None
      → is_in_memory core.memory (address i core) width ≡ true → LieIn memory (address i core) width → All (λ b. b < 256) (read memory (address i core) width)
      → is_in_line (address i core) width ≡ true
      → after_all_requests number (record { core = loads width signed i core; memory = memory }) ≡ loaded width signed i core memory
  unfolding ended
  load-once number width signed i core memory few free there lies bytes line =
      let addr = address i core in
      let begins = loads-begin width signed i core there ∙ ap (λ requests. goes_through requests [] (to_register i width signed) core) (load-request addr width line) in
      let is = ap (λ c. after_all_requests number (record { core = c; memory = memory })) begins ∙ one-access number (Load width addr) (to_register i width signed) core memory in
      let here : memory_number memory addr width ≡ number_of_bytes (take width (read memory addr width)) =
      number-read memory.bytes (addr - memory.base) width lies.ends
      ∙ ap number_of_bytes (sym (take-take width width (drop (addr - memory.base) memory.bytes) (omega arith))) in
      let joins : joined (reply_to (Load width addr) (memory_number memory addr width) ∷ []) ≡ number_of_bytes (read memory addr width) =
      ap (λ n. joined (reply_to (Load width addr) n ∷ [])) here
      ∙ ap (λ requests. joined (replies_loaded requests (read memory addr width))) (sym (load-request addr width line))
      ∙ law addr width (read memory addr width) (read-length memory addr width lies) bytes in
      is ∙ ends-load number width signed i core memory few free lies bytes (reply_to (Load width addr) (memory_number memory addr width) ∷ []) joins

  load-twice : (number width : ℕ) (signed : Bool) (i : Inst) (core : CoreState) (memory : MemoryState) → width ≤ 8 → core.instruction ≡ None
      → is_in_memory core.memory (address i core) width ≡ true → LieIn memory (address i core) width → All (λ b. b < 256) (read memory (address i core) width)
      → is_in_line (address i core) width ≡ false
      → after_all_requests number (record { core = loads width signed i core; memory = memory }) ≡ loaded width signed i core memory
  unfolding ended
  load-twice number width signed i core memory few free there lies bytes line =
      let addr = address i core in
      let lower = left_in_line addr in
      let upper = beyond addr width in
      let place = addr - memory.base in
      let rest = drop place memory.bytes in
      let width_is : lower + upper ≡ width = both-parts addr width line in
      let begins = loads-begin width signed i core there ∙ ap (λ requests. goes_through requests [] (to_register i width signed) core) (load-two_requests addr width line) in
      let is = ap (λ c. after_all_requests number (record { core = c; memory = memory })) begins
      ∙ two-accesses number (Load lower addr) (Load upper (addr + lower)) (to_register i width signed) core memory in
      let first : memory_number memory addr lower ≡ number_of_bytes (take lower (read memory addr width)) =
      number-read memory.bytes place lower (omega (arith, lies.ends, width_is)) ∙ ap number_of_bytes (sym (take-take lower width rest (omega (arith, width_is)))) in
      let place_is : addr + lower - memory.base ≡ place + lower = omega (arith, lies.begins) in
      let above : drop lower (read memory addr width) ≡ take upper (drop lower rest) = ap (λ n. drop lower (take n rest)) (sym width_is) ∙ drop-take lower upper rest in
      let last : memory_number memory (addr + lower) upper ≡ number_of_bytes (take upper (drop lower (read memory addr width))) =
      ap (λ n. number_in memory.bytes n upper) place_is ∙ number-read memory.bytes (place + lower) upper (omega (arith, lies.ends, width_is))
      ∙ ap (λ list. number_of_bytes (take upper list)) (sym (drop-drop lower place memory.bytes))
      ∙ ap number_of_bytes (sym (ap (take upper) above ∙ take-take upper upper (drop lower rest) (omega arith))) in
      let joins : joined (reply_to (Load lower addr) (memory_number memory addr lower) ∷ reply_to (Load upper (addr + lower)) (memory_number memory (addr + lower) upper) ∷ []) ≡ number_of_bytes (read memory addr width) =
      ap (λ n. joined (reply_to (Load lower addr) n ∷ reply_to (Load upper (addr + lower)) (memory_number memory (addr + lower) upper) ∷ [])) first
      ∙ ap (λ n. joined (reply_to (Load lower addr) (number_of_bytes (take lower (read memory addr width))) ∷ reply_to (Load upper (addr + lower)) n ∷ [])) last
      ∙ ap (λ requests. joined (replies_loaded requests (read memory addr width))) (sym (load-two_requests addr width line))
      ∙ law addr width (read memory addr width) (read-length memory addr width lies) bytes in
      is ∙ ends-load number width signed i core memory few free lies bytes (reply_to (Load lower addr) (memory_number memory addr lower) ∷ reply_to (Load upper (addr + lower)) (memory_number memory (addr + lower) upper) ∷ []) joins

  load-by_line : (number width : ℕ) (signed : Bool) (i : Inst) (core : CoreState) (memory : MemoryState) → width ≤ 8 → core.instruction ≡ None
      → is_in_memory core.memory (address i core) width ≡ true → LieIn memory (address i core) width → All (λ b. b < 256) (read memory (address i core) width)
      → (line : Bool) → is_in_line (address i core) width ≡ line
      → after_all_requests number (record { core = loads width signed i core; memory = memory }) ≡ loaded width signed i core memory
  load-by_line number width signed i core memory few free there lies bytes true line = load-once number width signed i core memory few free there lies bytes line
  load-by_line number width signed i core memory few free there lies bytes false line = load-twice number width signed i core memory few free there lies bytes line

  pub load-whole : (number width : ℕ) (signed : Bool) (i : Inst) (core : CoreState) (memory : MemoryState) → width ≤ 8 → core.instruction ≡ None
      → is_in_memory core.memory (address i core) width ≡ true → LieIn memory (address i core) width
      → All (λ b. b < 256) (take width (drop (address i core - memory.base) memory.bytes))
      → after_all_requests number (record { core = loads width signed i core; memory = memory })
      ≡ (record { core = goes_on core i.rd (extended width signed (memory_number memory (address i core) width)); memory = memory })
  load-whole number width signed i core memory few free there lies bytes =
      load-by_line number width signed i core memory few free there lies bytes (is_in_line (address i core) width) refl
