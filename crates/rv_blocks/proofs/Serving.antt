-- A load or a store that is served as a hit is the access of its instruction, which completes it.
use Rattle.std.proofs.Common.{◌≡◌, ◌+◌, ◌*◌, ◌%◌, ◌^◌, ◌≤◌, ℕ, Bool, true, false, not, List, [], ◌∷◌, Option, Some, None, refl, ap, subst, sym, ◌∙◌}
use Rattle.std.specs.Prelude.{if◌then◌else◌, is_none, slice_index}
use Rattle.std.proofs.lemmas.Bool.{and_parts}
use Rattle.zs_num.specs.declared.entry.Entry.{Entry}
use Rattle.zs_num.specs.declared.request.Request.{Request}
use Rattle.zs_num.specs.declared.request.Request.TheVariants as request
use Rattle.elf_load.specs.MemoryImage.{MemoryImage}
use Rattle.rv_core.specs.declared.memory_range.MemoryRange.{MemoryRange}
use Rattle.rv_core.specs.declared.progress.Destination.{Destination}
use Rattle.rv_core.specs.declared.single.Single.{Single}
use Rattle.rv_core.specs.declared.single.Single.TheVariants.{Load, Store}
use Rattle.rv_core.specs.Accesses.{is_in_line, is_in_memory, load_requests, low_bytes, reply_to, store_requests}
use Rattle.rv_core.specs.CoreState.{CoreState, InProgress, ToNothing, ToRegister}
use Rattle.rv_core.specs.Effect.{accesses, ended, goes_to, received, with_register}
use Rattle.rv_core.specs.Executions.{at, Meets}
use Rattle.rv_core.specs.Hits.{Completes, MakesAccess}
use Rattle.rv_core.specs.Port.{IsHit}
use Rattle.rv_core.specs.Single.{begun, is_single, single_load, single_store}
use Rattle.rv_core.specs.Step.{answered, executed, is_free}
use Rattle.rv_blocks.specs.declared.slot.Op.{Op}
use Rattle.rv_blocks.specs.declared.slot.Op.TheVariants as op
use Rattle.rv_blocks.specs.declared.slot.Slot.{Slot}
use Rattle.rv_blocks.specs.Served.{registers_by, IsServed}
use Rattle.rv_blocks.specs.Slots.{address_by, destination_by, is_signed, loads_by, met_as, met_by, stores_by, width_of, AccessesFor, IsAccess}
use Rattle.rv_blocks.proofs.Standing.{next_pc}

-- ---- what is begun

begins_load : (memory : MemoryRange) (addr : ℕ) (d : Destination) (core : CoreState) → core.memory ≡ memory → is_single memory addr d.width ≡ true
    → accesses addr d.width (load_requests addr d.width) (ToRegister d) core ≡ begun (Load addr d) core
unfolding accesses load_requests
begins_load memory addr d core same single =
    let parts = and_parts (is_in_memory memory addr d.width) (is_in_line addr d.width) single in
    rw (same, parts.0, parts.1) refl

begins_store : (memory : MemoryRange) (addr width number : ℕ) (core : CoreState) → core.memory ≡ memory → is_single memory addr width ≡ true
    → accesses addr width (store_requests addr width number) ToNothing core ≡ begun (Store addr width (low_bytes width number)) core
unfolding accesses store_requests
begins_store memory addr width number core same single =
    let parts = and_parts (is_in_memory memory addr width) (is_in_line addr width) single in
    rw (same, parts.0, parts.1) refl

-- where a test gives an access, what is begun with it is begun with that one
given_begins : (test : Bool) (given single : Single) (core loaded : CoreState) → (if test then Some given else None) ≡ Some single → (test ≡ true → loaded ≡ begun given core) → loaded ≡ begun single core
given_begins true given single core loaded is begins = let same : given ≡ single = cc in subst (λ s. loaded ≡ begun s core) same (begins refl)
given_begins false given single core loaded is begins = cc

begins_as : (o : Op) (load store : Option Single) (single : Single) (core after loaded stored : CoreState) → met_as o load store ≡ Some single → IsAccess o after loaded stored
    → (load ≡ Some single → loaded ≡ begun single core) → (store ≡ Some single → stored ≡ begun single core) → after ≡ begun single core
begins_as op.Load load store single core after loaded stored met is loads stores = is ∙ loads met
begins_as op.Store load store single core after loaded stored met is loads stores = is ∙ stores met
begins_as _ load store single core after loaded stored met is loads stores = cc

-- the access that a slot meets is the one of its instruction
pub meets : (image : MemoryImage) (memory : MemoryRange) (first count place : ℕ) (slot : Slot) (registers : List ℕ) (single : Single) → AccessesFor image (record { first = first; count = count }) place slot
    → met_by slot memory registers ≡ Some single → Meets image memory registers (first + 4 * place) single
meets image memory first count place slot registers single access met core same =
    let here = at core registers (first + 4 * place) in
    let addr = address_by slot registers in
    let d = destination_by slot in
    let number = slice_index registers slot.rs2 in
    let load = single_load memory addr d in
    let store = single_store memory addr (width_of slot.name) number in
    begins_as slot.op load store single here (executed image here) (loads_by slot here) (stores_by slot here) met (access core registers)
    (λ is. given_begins (is_single memory addr d.width) (Load addr d) single here (loads_by slot here) is (begins_load memory addr d here same))
    (λ is. given_begins (is_single memory addr (width_of slot.name)) (Store addr (width_of slot.name) (low_bytes (width_of slot.name) number)) single here (stores_by slot here) is
    (begins_store memory addr (width_of slot.name) number here same))

-- ---- what is completed

none-of : (o : Option InProgress) → is_none o ≡ true → None ≡ o
none-of None e = refl
none-of (Some x) e = cc

completes : (single : Single) (reply : ℕ) (registers : List ℕ) (pc next : ℕ) → (pc + 4) % 2 ^ 64 ≡ next → Completes single reply registers pc (registers_by single reply registers) next
unfolding answered ended goes_to
completes (Load addr d) reply registers pc next follows core idle =
    let free = and_parts (is_free core) (not core.is_fetched) idle in
    let none = none-of core.instruction (and_parts (is_none core.halted) (is_none core.instruction) free.0).1 in
    let after = registers_by (Load addr d) reply registers in
    ap (λ o. record (at core after ((pc + 4) % 2 ^ 64)) { instruction = o }) none ∙ ap (at core after) follows
completes (Store addr width value) reply registers pc next follows core idle =
    let free = and_parts (is_free core) (not core.is_fetched) idle in
    let none = none-of core.instruction (and_parts (is_none core.halted) (is_none core.instruction) free.0).1 in
    ap (λ o. record (at core registers ((pc + 4) % 2 ^ 64)) { instruction = o }) none ∙ ap (at core registers) follows

-- ---- what is served

module _ {Port : Type 0} (memory : MemoryRange) (gives : Port → (start : ℕ) → Request → Entry → Port → Type 0) (core_of : Port → ℕ) (logged_of : Port → Option (List Entry))
    (slot : Slot) (start : ℕ) (registers : List ℕ) (port : Port) where
  pub serves_load : (width reply value : ℕ) (after : List ℕ) (port_after : Port) → slot.op ≡ op.Load → width ≡ width_of slot.name → is_single memory (address_by slot registers) width ≡ true
      → IsHit gives core_of logged_of port start (request.Load width (address_by slot registers)) reply port_after
      → value ≡ received (record { rd = 0; width = width; signed = is_signed slot.name }) (reply_to (request.Load width 0) reply ∷ [])
      → after ≡ with_register registers slot.rd value
      → IsServed memory gives core_of logged_of slot start registers port after port_after
  serves_load width reply value after port_after load wide single hit number left = record {
    single = Load (address_by slot registers) (destination_by slot);
    reply = reply;
    met = rw (load, rw wide at single) refl;
    served = rw wide at hit;
    left = left ∙ ap (with_register registers slot.rd) (rw wide at number);
  }

  pub serves_store : (width reply : ℕ) (port_after : Port) → slot.op ≡ op.Store → width ≡ width_of slot.name → is_single memory (address_by slot registers) width ≡ true
      → IsHit gives core_of logged_of port start (request.Store width (address_by slot registers) (low_bytes width (slice_index registers slot.rs2))) reply port_after
      → IsServed memory gives core_of logged_of slot start registers port registers port_after
  serves_store width reply port_after store wide single hit = record {
    single = Store (address_by slot registers) (width_of slot.name) (low_bytes (width_of slot.name) (slice_index registers slot.rs2));
    reply = reply;
    met = rw (store, rw wide at single) refl;
    served = rw wide at hit;
    left = refl;
  }

  -- the access of the instruction at a place, which leads to the next one
  pub makes_access : (image : MemoryImage) (first count place : ℕ) (after : List ℕ) (port_after : Port) → AccessesFor image (record { first = first; count = count }) place slot
      → first + 4 * (place + 1) ≤ 2 ^ 48 → IsServed memory gives core_of logged_of slot start registers port after port_after
      → MakesAccess image memory gives core_of logged_of start registers (first + 4 * place) port after (first + 4 * (place + 1)) port_after
  makes_access image first count place after port_after access room served = record {
    single = served.single;
    reply = served.reply;
    meets = meets image memory first count place slot registers served.single access served.met;
    served = served.served;
    completes = subst (λ r. Completes served.single served.reply registers (first + 4 * place) r (first + 4 * (place + 1))) (sym served.left)
        (completes served.single served.reply registers (first + 4 * place) (first + 4 * (place + 1)) (next_pc first place room));
  }
