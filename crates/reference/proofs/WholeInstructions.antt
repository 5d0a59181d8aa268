-- A whole instruction with one access or two.
use Rattle.std.proofs.Common.{◌≡◌, ◌≢◌, ◌<◌, ◌≤◌, ◌%◌, ◌==◌, ◌∙◌, ℕ, zero, suc, Bool, true, false, List, [], ◌∷◌, length, Option, Some, None, refl, sym, ap, lit≤, rules, arith}
use Rattle.std.specs.Prelude.{slice_index, is_none}
use Rattle.std.proofs.lemmas.Bool.{and_parts, eq-eqb, ne_eqb}
use Rattle.std.proofs.lemmas.List.{get_or-set_other, get_or-set_same, length-set}
use Rattle.zs_num.specs.declared.request.Request.{Request}
use Rattle.rv_decode.specs.declared.inst.Inst.{Inst}
use Rattle.rv_decode.specs.declared.name.Name.{Name}
use Rattle.flat_memory.specs.FlatMemory.{MemoryState, memory_after, memory_reply}
use Rattle.rv_core.specs.Accesses.{is_in_memory, reply_to}
use Rattle.rv_core.specs.CoreState.{CoreState, Ending, InProgress}
use Rattle.rv_core.specs.Effect.{accesses, atomic, effect, ended, goes_on, goes_through, goes_to, load_reserved, loads, register, store_conditional, stores, with_register}
use Rattle.zs_num.specs.Pairing.{pairing_after}
use Rattle.rv_core.specs.Step.{answered, is_free, replies_with}
use Rattle.reference.specs.InstructionLaws.{IsLoad, lb, lh, lw, ld, lbu, lhu, lwu, IsLoadReserved, lr_w, lr_d, IsStore, sb, sh, sw, sd, IsStoreConditional, sc_w, sc_d, after_all_requests}

-- ---- no instruction in progress

idle : (instruction : Option InProgress) → is_none instruction ≡ true → instruction ≡ None
idle None e = refl
idle (Some now) e = cc

pub free-idle : (core : CoreState) → is_free core ≡ true → core.instruction ≡ None
free-idle core free = idle core.instruction (and_parts (is_none core.halted) (is_none core.instruction) free).1

pub same-core : (core : CoreState) → core.instruction ≡ None → record core { instruction = None } ≡ core
same-core core e = ap (λ (instruction : Option InProgress). record core { instruction = instruction }) (sym e)

-- ---- registers

zero-is : (n value : ℕ) (registers : List ℕ) → slice_index registers 0 ≡ 0 → slice_index (with_register registers n value) 0 ≡ 0
zero-is zero value registers is = is
zero-is (suc n) value registers is =
    let other : (suc n == 0) ≡ false = search rules in
    let first : 0 ≢ suc n = λ e. absurd (omega (arith, e)) in rw other (get_or-set_other registers (suc n) 0 value 0 first ∙ is)

pub zero-stays : (core : CoreState) (rd value : ℕ) → register core 0 ≡ 0 → register (goes_on core rd value) 0 ≡ 0
unfolding goes_to
zero-stays core rd value is = zero-is rd value core.registers is

length-is : (n value : ℕ) (registers : List ℕ) → length (with_register registers n value) ≡ length registers
length-is zero value registers = refl
length-is (suc n) value registers = let other : (suc n == 0) ≡ false = search rules in rw other (length-set registers (suc n) value)

pub registers-stay : (core : CoreState) (rd value : ℕ) → length (goes_on core rd value).registers ≡ length core.registers
unfolding goes_to
registers-stay core rd value = length-is rd value core.registers

pub register-written : (core : CoreState) (rd value : ℕ) → rd ≢ 0 → rd < length core.registers → register (goes_on core rd value) rd ≡ value
unfolding goes_to
register-written core rd value some there =
    let other : (rd == 0) ≡ false = ne_eqb rd 0 some in rw other (get_or-set_same core.registers rd value 0 there)

-- a core that only goes on
pub quiet-length : (core : CoreState) → length (goes_on core 0 0).registers ≡ length core.registers
unfolding goes_to
quiet-length core = refl

pub goes_on-memory : (core : CoreState) (rd value : ℕ) → (goes_on core rd value).memory ≡ core.memory
unfolding goes_to
goes_on-memory core rd value = refl

pub goes_on-instruction : (core : CoreState) (rd value : ℕ) → (goes_on core rd value).instruction ≡ core.instruction
unfolding goes_to
goes_on-instruction core rd value = refl

-- ---- accesses

pub one-access : (number : ℕ) (request : Request) (ending : Ending) (core : CoreState) (memory : MemoryState)
    → after_all_requests number (record { core = goes_through (request ∷ []) [] ending core; memory = memory })
    ≡ (record {
      core = ended ending (replies_with ending [] (reply_to request (memory_reply memory number request))) (record core { pairing = pairing_after core.pairing request; instruction = None });
      memory = memory_after memory number request;
    })
unfolding answered
one-access number request ending core memory = refl

pub two-accesses : (number : ℕ) (first last : Request) (ending : Ending) (core : CoreState) (memory : MemoryState)
    → after_all_requests number (record { core = goes_through (first ∷ last ∷ []) [] ending core; memory = memory })
    ≡ (record {
      core = ended ending
          (replies_with ending (replies_with ending [] (reply_to first (memory_reply memory number first))) (reply_to last (memory_reply (memory_after memory number first) number last)))
          (record core { pairing = pairing_after (pairing_after core.pairing first) last; instruction = None });
      memory = memory_after (memory_after memory number first) number last;
    })
unfolding answered
two-accesses number first last ending core memory = refl

-- ---- instructions by name

pub store-effect : {n : Name} {width : ℕ} → IsStore n width → (i : Inst) (core : CoreState) → (effect n i core ≡ stores width i core) × (1 ≤ width) × (width ≤ 8)
unfolding effect
store-effect sb i core = (refl, lit≤ tt, lit≤ tt)
store-effect sh i core = (refl, lit≤ tt, lit≤ tt)
store-effect sw i core = (refl, lit≤ tt, lit≤ tt)
store-effect sd i core = (refl, lit≤ tt, lit≤ tt)

pub load-effect : {n : Name} {width : ℕ} {signed : Bool} → IsLoad n width signed → (i : Inst) (core : CoreState) → (effect n i core ≡ loads width signed i core) × (width ≤ 8)
unfolding effect
load-effect lb i core = (refl, lit≤ tt)
load-effect lh i core = (refl, lit≤ tt)
load-effect lw i core = (refl, lit≤ tt)
load-effect ld i core = (refl, lit≤ tt)
load-effect lbu i core = (refl, lit≤ tt)
load-effect lhu i core = (refl, lit≤ tt)
load-effect lwu i core = (refl, lit≤ tt)

pub load_reserved-effect : {n : Name} {width : ℕ} → IsLoadReserved n width → (i : Inst) (core : CoreState) → effect n i core ≡ load_reserved width i core
unfolding effect
load_reserved-effect lr_w i core = refl
load_reserved-effect lr_d i core = refl

pub store_conditional-effect : {n : Name} {width : ℕ} → IsStoreConditional n width → (i : Inst) (core : CoreState) → effect n i core ≡ store_conditional width i core
unfolding effect
store_conditional-effect sc_w i core = refl
store_conditional-effect sc_d i core = refl

-- ---- atomics

atomic-begins : (addr width : ℕ) (request : Request) (ending : Ending) (core : CoreState) → addr % width ≡ 0 → is_in_memory core.memory addr width ≡ true
    → atomic addr width request ending core ≡ goes_through (request ∷ []) [] ending core
unfolding atomic accesses
atomic-begins addr width request ending core aligned there = rw (eq-eqb (addr % width) 0 aligned, there) refl

pub atomic-run : (number addr width : ℕ) (request : Request) (ending : Ending) (core : CoreState) (memory : MemoryState) → addr % width ≡ 0 → is_in_memory core.memory addr width ≡ true
    → after_all_requests number (record { core = atomic addr width request ending core; memory = memory })
    ≡ (record {
      core = ended ending (replies_with ending [] (reply_to request (memory_reply memory number request))) (record core { pairing = pairing_after core.pairing request; instruction = None });
      memory = memory_after memory number request;
    })
atomic-run number addr width request ending core memory aligned there =
    ap (λ c. after_all_requests number (record { core = c; memory = memory })) (atomic-begins addr width request ending core aligned there)
    ∙ one-access number request ending core memory
