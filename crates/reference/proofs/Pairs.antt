-- A load-reserved and a store-conditional, with accesses of other cores between.
use Rattle.std.proofs.Common.{◌≡◌, ◌≢◌, ◌<◌, ◌+◌, ◌-◌, ◌*◌, ◌/◌, ◌%◌, ◌^◌, ◌==◌, ◌&&◌, ◌||◌, ◌++◌, ◌∙◌, ℕ, zero, suc, Bool, true, false, cond, not, List, [], ◌∷◌, All, length, take, drop, Option, Some, None, refl, sym, ap, subst, arith, rules}
use Rattle.std.specs.List.{flat_map}
use Rattle.std.proofs.lemmas.Bool.{eq-eqb, ne_eqb}
use Rattle.std.proofs.lemmas.List.{get_or-set_same}
use Rattle.zs_num.specs.Request.{addr_of, line_of}
use Rattle.zs_num.specs.declared.request.Request.{Request}
use Rattle.zs_num.specs.declared.request.Request.TheVariants.{Lr, Sc, Store}
use Rattle.rv_decode.specs.declared.inst.Inst.{Inst}
use Rattle.rv_decode.specs.declared.name.Name.{Name}
use Rattle.flat_memory.specs.declared.reservation.Reservation.{Reservation}
use Rattle.flat_memory.specs.FlatMemory.{MemoryState, is_reservation, is_reserved, memory_after, memory_reply, unless_written, with_number, written}
use Rattle.flat_memory.specs.Laws.{does_write, reservation_of, OthersEndByWrites}
use Rattle.rv_core.specs.Accesses.{is_in_line, is_in_memory, low_bytes, reply_to, store_requests}
use Rattle.rv_core.specs.CoreState.{CoreState}
use Rattle.rv_core.specs.Effect.{ended, goes_on, received, register, to_register}
use Rattle.rv_core.specs.Laws.{bytes_of, bytes_stored}
use Rattle.zs_num.specs.Pairing.{is_paired, pairing_after}
use Rattle.reference.specs.InstructionLaws.{CoreInMemory, IsLoadReserved, IsPair, IsStoreConditional, PairAloneStores, PairStores, StoreBetweenEndsPair, WriteBetweenEndsPair, memory_after_all, after_all_requests, after_executing, after_pair, between, is_ended, is_written, reserved, sc_w, sc_d}
use Rattle.reference.proofs.Lists.{all_head, all_tail}
use Rattle.reference.proofs.LoadsStores.{low-bytes_count}
use Rattle.reference.proofs.WholeInstructions.{atomic-run, goes_on-memory, load_reserved-effect, register-written, registers-stay, store_conditional-effect, zero-stays}

-- ---- what a core has reserved, through accesses of others

nothing-left : (writes : Bool) (addr : ℕ) → cond writes (unless_written false addr None) None ≡ None
nothing-left true addr = refl
nothing-left false addr = refl

unless-line : (writes in_line : Bool) (r : Option Reservation) → cond writes (cond (not false && in_line) None r) r ≡ cond (writes && in_line) None r
unless-line true true r = refl
unless-line true false r = refl
unless-line false in_line r = refl

module _ (law : OthersEndByWrites) (number : ℕ) where
  none-stays : (others : List (ℕ × Request)) (memory : MemoryState) → All (λ access. access.0 ≢ number) others → reservation_of memory number ≡ None
      → reservation_of (memory_after_all others memory) number ≡ None
  none-stays [] memory apart none = none
  none-stays (access ∷ others) memory apart none =
      none-stays others (memory_after memory access.0 access.1) (all_tail (λ (a : ℕ × Request). a.0 ≢ number) access others apart)
      (law memory number access.0 access.1 (all_head (λ (a : ℕ × Request). a.0 ≢ number) access others apart)
      ∙ ap (λ r. cond (does_write memory access.0 access.1) (unless_written false (addr_of access.1) r) r) none
      ∙ nothing-left (does_write memory access.0 access.1) (addr_of access.1))

  after-one : (memory : MemoryState) (other : ℕ) (request : Request) (r : Reservation) → other ≢ number → reservation_of memory number ≡ Some r
      → reservation_of (memory_after memory other request) number ≡ cond (does_write memory other request && (r.addr / 64 == line_of request)) None (Some r)
  after-one memory other request r apart some =
      law memory number other request apart ∙ ap (λ o. cond (does_write memory other request) (unless_written false (addr_of request) o) o) some
      ∙ unless-line (does_write memory other request) (r.addr / 64 == line_of request) (Some r)

  -- by whether the first of the accesses wrote to the line
  by-first : (others : List (ℕ × Request)) (memory : MemoryState) (r : Reservation) (wrote : Bool) → All (λ access. access.0 ≢ number) others
      → reservation_of memory number ≡ cond wrote None (Some r)
      → (reservation_of memory number ≡ Some r → reservation_of (memory_after_all others memory) number ≡ cond (is_written (r.addr / 64) others memory) None (Some r))
      → reservation_of (memory_after_all others memory) number ≡ cond (wrote || is_written (r.addr / 64) others memory) None (Some r)
  by-first others memory r true apart is rest = none-stays others memory apart is
  by-first others memory r false apart is rest = rest is

  pub ends-by_writes : (others : List (ℕ × Request)) (memory : MemoryState) (r : Reservation) → All (λ access. access.0 ≢ number) others → reservation_of memory number ≡ Some r
      → reservation_of (memory_after_all others memory) number ≡ cond (is_written (r.addr / 64) others memory) None (Some r)
  ends-by_writes [] memory r apart some = some
  ends-by_writes (access ∷ others) memory r apart some =
      let others_apart = all_tail (λ (a : ℕ × Request). a.0 ≢ number) access others apart in
      by-first others (memory_after memory access.0 access.1) r (does_write memory access.0 access.1 && (r.addr / 64 == line_of access.1)) others_apart
      (after-one memory access.0 access.1 r (all_head (λ (a : ℕ × Request). a.0 ≢ number) access others apart) some)
      (λ here. ends-by_writes others (memory_after memory access.0 access.1) r others_apart here)

-- ---- the load-reserved

-- what a load-reserved leaves
record Reserves (number addr width : ℕ) (before after : CoreInMemory) : Type 0 where
  memory_is : after.core.memory ≡ before.core.memory
  registers : length after.core.registers ≡ length before.core.registers
  zero : register before.core 0 ≡ 0 → register after.core 0 ≡ 0
  held : reservation_of after.memory number ≡ Some (record { addr = addr; width = width })

reserves : (number : ℕ) (i : Inst) (width : ℕ) (s : CoreInMemory) → IsLoadReserved i.name width → number < length s.memory.reservations
    → register s.core i.rs1 % width ≡ 0 → is_in_memory s.core.memory (register s.core i.rs1) width ≡ true
    → Reserves number (register s.core i.rs1) width s (after_executing number i s)
unfolding ended
reserves number i width s is_name there aligned in_memory =
    let addr = register s.core i.rs1 in
    let request = Lr width addr in
    let reply = reply_to request (memory_reply s.memory number request) in
    let core = record s.core { pairing = pairing_after s.core.pairing request; instruction = None } in
    let value = received (record { rd = i.rd; width = width; signed = true }) (reply ∷ []) in
    let run : after_executing number i s ≡ (record { core = goes_on core i.rd value; memory = memory_after s.memory number request }) =
    ap (λ c. after_all_requests number (record s { core = c })) (load_reserved-effect is_name i s.core)
    ∙ atomic-run number addr width request (to_register i width true) s.core s.memory aligned in_memory in
    subst (λ (after : CoreInMemory). Reserves number addr width s after) (sym run) (record {
      memory_is = goes_on-memory core i.rd value;
      registers = registers-stay core i.rd value;
      zero = λ zero. zero-stays core i.rd value zero;
      held = get_or-set_same s.memory.reservations number (Some (record { addr = addr; width = width })) None there;
    })

-- ---- the store-conditional

-- what the reply 0 or 1 gives a register
given : {n : Name} {width : ℕ} → IsStoreConditional n width → (stores : Bool) → (low_bytes width (cond stores 0 1) + 2 ^ (8 * width) * 0) % 2 ^ 64 ≡ cond stores 0 1
given sc_w true = refl
given sc_w false = refl
given sc_d true = refl
given sc_d false = refl

-- so few bytes lie in a line
narrow : {n : Name} {width : ℕ} → IsStoreConditional n width → is_in_line 0 width ≡ true
narrow sc_w = refl
narrow sc_d = refl

-- what a store-conditional leaves, by whether it stores
record Conditions (number rd width value addr : ℕ) (stores : Bool) (before after : CoreInMemory) : Type 0 where
  result : register before.core 0 ≡ 0 → length before.core.registers ≡ 32 → rd < 32 → register after.core rd ≡ cond (rd == 0) 0 (cond stores 0 1)
  bytes_are : after.memory.bytes ≡ cond stores (with_number before.memory.bytes (addr - before.memory.base) width value) before.memory.bytes

-- the number that rd reads as
reads-as : (core : CoreState) (rd value : ℕ) → register core 0 ≡ 0 → rd < length core.registers → register (goes_on core rd value) rd ≡ cond (rd == 0) 0 value
reads-as core zero value zero_is there = zero-stays core 0 value zero_is
reads-as core (suc n) value zero_is there =
    let other : (suc n == 0) ≡ false = search rules in
    let some : suc n ≢ 0 = λ e. absurd (omega (arith, e)) in rw other (register-written core (suc n) value some there)

-- what memory answers and keeps, by whether the core has still reserved the bytes
replies-by : (memory : MemoryState) (number addr width value : ℕ) (paired stores : Bool) → is_reserved memory number addr width ≡ stores
    → memory_reply memory number (Sc width paired addr value) ≡ cond stores 0 1
replies-by memory number addr width value paired stores e = ap (λ b. cond b 0 1) e

keeps-by : (memory : MemoryState) (number addr width value : ℕ) (paired stores : Bool) → is_reserved memory number addr width ≡ stores
    → (memory_after memory number (Sc width paired addr value)).bytes ≡ cond stores (with_number memory.bytes (addr - memory.base) width value) memory.bytes
unfolding written
keeps-by memory number addr width value paired true e = rw e refl
keeps-by memory number addr width value paired false e = rw e refl

-- of the number the low bytes count
low-stored : (writes : (addr width value : ℕ) → flat_map bytes_stored (store_requests addr width value) ≡ bytes_of width value)
    → {n : Name} {width : ℕ} → IsStoreConditional n width → (bytes : List ℕ) (place value : ℕ) → with_number bytes place width (low_bytes width value) ≡ with_number bytes place width value
unfolding with_number
low-stored writes {width = width} is bytes place value =
    ap (λ number. take place bytes ++ (number ++ drop (place + width) bytes)) (low-bytes_count writes 0 width value (narrow is))

conditions : (writes : (addr width value : ℕ) → flat_map bytes_stored (store_requests addr width value) ≡ bytes_of width value)
    → (number : ℕ) (i : Inst) (width : ℕ) (s : CoreInMemory) (addr : ℕ) (stores : Bool) → IsStoreConditional i.name width → register s.core i.rs1 ≡ addr
    → addr % width ≡ 0 → is_in_memory s.core.memory addr width ≡ true → is_reserved s.memory number addr width ≡ stores
    → Conditions number i.rd width (register s.core i.rs2) addr stores s (after_executing number i s)
unfolding ended
conditions writes number i width s addr stores is_name same aligned in_memory held =
    let here = register s.core i.rs1 in
    let value = register s.core i.rs2 in
    let paired = is_paired s.core.pairing here width in
    let request = Sc width paired here (low_bytes width value) in
    let reply = memory_reply s.memory number request in
    let core = record s.core { pairing = pairing_after s.core.pairing request; instruction = None } in
    let here_aligned : here % width ≡ 0 = ap (λ (a : ℕ). a % width) same ∙ aligned in
    let here_there : is_in_memory s.core.memory here width ≡ true = ap (λ a. is_in_memory s.core.memory a width) same ∙ in_memory in
    let here_held : is_reserved s.memory number here width ≡ stores = ap (λ a. is_reserved s.memory number a width) same ∙ held in
    let number_is : (low_bytes width reply + 2 ^ (8 * width) * 0) % 2 ^ 64 ≡ cond stores 0 1 =
    ap (λ n. (low_bytes width n + 2 ^ (8 * width) * 0) % 2 ^ 64) (replies-by s.memory number here width (low_bytes width value) paired stores here_held) ∙ given is_name stores in
    let run : after_executing number i s ≡ (record { core = goes_on core i.rd ((low_bytes width reply + 2 ^ (8 * width) * 0) % 2 ^ 64); memory = memory_after s.memory number request }) =
    ap (λ c. after_all_requests number (record s { core = c })) (store_conditional-effect is_name i s.core)
    ∙ atomic-run number here width request (to_register i width false) s.core s.memory here_aligned here_there in
    subst (λ (after : CoreInMemory). Conditions number i.rd width value addr stores s after) (sym run) (record {
      result = λ zero size few.
          let there : i.rd < length s.core.registers = omega (arith, few, size) in
          reads-as core i.rd ((low_bytes width reply + 2 ^ (8 * width) * 0) % 2 ^ 64) zero there ∙ ap (λ n. cond (i.rd == 0) 0 n) number_is;
      bytes_are = keeps-by s.memory number here width (low_bytes width value) paired stores here_held
          ∙ ap (λ bytes. cond stores bytes s.memory.bytes) (low-stored writes is_name s.memory.bytes (here - s.memory.base) value)
          ∙ ap (λ (a : ℕ). cond stores (with_number s.memory.bytes (a - s.memory.base) width value) s.memory.bytes) same;
    })

-- ---- both

either : (b : Bool) (n : ℕ) → cond b n n ≡ n
either true n = refl
either false n = refl

same-bytes_reserved : (addr width : ℕ) → is_reservation (Some (record { addr = addr; width = width })) addr width ≡ true
same-bytes_reserved addr width = rw (eq-eqb addr addr refl, eq-eqb width width refl) refl

still-reserved : (memory : MemoryState) (number addr width : ℕ) (written : Bool) → reservation_of memory number ≡ cond written None (Some (record { addr = addr; width = width }))
    → is_reserved memory number addr width ≡ not written
unfolding is_reserved
still-reserved memory number addr width true held = ap (λ r. is_reservation r addr width) held
still-reserved memory number addr width false held = ap (λ r. is_reservation r addr width) held ∙ same-bytes_reserved addr width

module _ (law : OthersEndByWrites) (writes : (addr width value : ℕ) → flat_map bytes_stored (store_requests addr width value) ≡ bytes_of width value) (number : ℕ) (reserve : Inst) (others : List (ℕ × Request)) (store : Inst) (s : CoreInMemory) where
  pair-leaves : (width : ℕ) (written : Bool) → IsPair number reserve others store s width → is_ended number reserve others store s ≡ written
      → Conditions number store.rd width (register (reserved number reserve others store s).core store.rs2) (register s.core reserve.rs1) (not written)
      (between number reserve others store s) (after_pair number reserve others store s)
  pair-leaves width written p e =
      let addr = register s.core reserve.rs1 in
      let left = reserves number reserve width s p.reserves p.is_core p.aligned p.there in
      let held = ends-by_writes law number others (reserved number reserve others store s).memory (record { addr = addr; width = width }) p.of_others left.held in
      let still = still-reserved (between number reserve others store s).memory number addr width written
      (held ∙ ap (λ (b : Bool). cond b None (Some (record { addr = addr; width = width }))) e) in
      conditions writes number store width (between number reserve others store s) addr (not written) p.stores p.same_addr p.aligned
      (ap (λ memory. is_in_memory memory addr width) left.memory_is ∙ p.there) still

  pair-result : (width : ℕ) (written : Bool) → IsPair number reserve others store s width → is_ended number reserve others store s ≡ written
      → register (after_pair number reserve others store s).core store.rd ≡ cond (store.rd == 0) 0 (cond (not written) 0 1)
  pair-result width written p e =
      let left = reserves number reserve width s p.reserves p.is_core p.aligned p.there in
      (pair-leaves width written p e).result (left.zero p.ready.sound.zero) (left.registers ∙ p.ready.sound.registers) p.store_rd

  pub pair-stores : PairStores number reserve others store s
  unfolding written
  pair-stores width p kept = (pair-result width false p kept ∙ either (store.rd == 0) 0, (pair-leaves width false p kept).bytes_are)

  pub write-ends_pair : WriteBetweenEndsPair number reserve others store s
  write-ends_pair width p ended some =
      let other : (store.rd == 0) ≡ false = ne_eqb store.rd 0 some in
      (pair-result width true p ended ∙ ap (λ b. cond b 0 1) other, (pair-leaves width true p ended).bytes_are)

module _ (law : OthersEndByWrites) (writes : (addr width value : ℕ) → flat_map bytes_stored (store_requests addr width value) ≡ bytes_of width value) where
  pub pair_alone-stores : PairAloneStores
  pair_alone-stores number reserve store s width p = (pair-stores law writes number reserve [] store s width p refl).0

  pub store_between-ends_pair : StoreBetweenEndsPair
  store_between-ends_pair number other addr size value reserve store s width p line some =
      let here = register s.core reserve.rs1 in
      let ended : is_ended number reserve ((other, Store size addr value) ∷ []) store s ≡ true = rw (eq-eqb (here / 64) (addr / 64) (sym line)) refl in
      (write-ends_pair law writes number reserve ((other, Store size addr value) ∷ []) store s width p ended some).0
