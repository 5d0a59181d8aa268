-- What slots do is what the instructions do for which they are made.
use Rattle.std.proofs.Common.{◌≡◌, ℕ, ◌+◌, ◌-◌, ◌*◌, ◌/◌, ◌%◌, ◌^◌, ◌≤◌, Bool, true, false, List, Option, Some, None, refl, ap, sym, ◌∙◌, arith, subst, true≢false, IsTrue, nat_le, nat_lt, ◌==◌, ◌&&◌}
use Rattle.std.specs.Prelude.{if◌then◌else◌, is_some, slice_index, unwrap_or, IfSome}
use Rattle.std.proofs.lemmas.Bool.{and_parts, eq-eqb, eqb-true, leb-true}
use Rattle.rv_alu.specs.Branch.{is_taken}
use Rattle.rv_decode.specs.declared.inst.Inst.{Inst}
use Rattle.rv_decode.specs.declared.name.Name.{Name}
use Rattle.rv_decode.specs.declared.name.Name.TheVariants as name
use Rattle.rv_alu.specs.Computing.{is_arithmetic, is_branch}
use Rattle.rv_core.specs.CoreState.{CoreState}
use Rattle.rv_core.specs.Effect.{branches as core_branches, effect, following, goes_on, goes_to, immediate_number, jumps, relative, with_register}
use Rattle.rv_core.specs.declared.program.Fetched.TheVariants.{Instruction}
use Rattle.rv_core.specs.Fetch.{fetched_at, of_word}
use Rattle.rv_core.specs.Step.{after_fetch, executed}
use Rattle.rv_blocks.specs.declared.slot.Op.{Op}
use Rattle.rv_blocks.specs.declared.slot.Op.TheVariants as op
use Rattle.elf_load.specs.MemoryImage.{MemoryImage, fetched_word}
use Rattle.rv_blocks.specs.declared.slot.Slot.{Slot}
use Rattle.rv_core.specs.Executions.{at}
use Rattle.rv_blocks.specs.Slots.{Placed, Stretch, address_of, branches, does, is_setting, links_to_place, name_of, place_within, loads_by, sets, stores_by, AccessesAs, AccessesFor, ChangesNothing, DoesAs, GivesNumber, IsAccess, IsFound, IsMeant, StandsFor}

pub next_pc : (first place : ℕ) → first + 4 * (place + 1) ≤ 2 ^ 48 → (first + 4 * place + 4) % 2 ^ 64 ≡ first + 4 * (place + 1)
next_pc first place room = omega (arith, room)

-- the core goes on at the next instruction
pub sets_stand : (stretch : Stretch) (place : ℕ) (core : CoreState) (registers : List ℕ) (rd value : ℕ) → stretch.first + 4 * (place + 1) ≤ 2 ^ 48
    → goes_on (at core registers (address_of stretch place)) rd value ≡ at core (with_register registers rd value) (address_of stretch (place + 1))
unfolding goes_to
sets_stand stretch place core registers rd value room =
    ap (λ pc. at core (with_register registers rd value) pc) (next_pc stretch.first place room)

-- one that writes x0 changes nothing
pub nothing_written : (stretch : Stretch) (place : ℕ) (core : CoreState) (registers : List ℕ) (rd value : ℕ) → rd ≡ 0 → stretch.first + 4 * (place + 1) ≤ 2 ^ 48
    → goes_on (at core registers (address_of stretch place)) rd value ≡ at core registers (address_of stretch (place + 1))
nothing_written stretch place core registers rd value zero room =
    sets_stand stretch place core registers rd value room ∙ ap (λ r. at core (with_register registers r value) (address_of stretch (place + 1))) zero

-- an arithmetic instruction and its slot give rd the same number
abbrev Computed : Name → Stretch → Slot → Inst → CoreState → (registers : List ℕ) → (place : ℕ) → Type 0
Computed n stretch slot i core registers place =
    (value : ℕ) × (effect n i (at core registers (address_of stretch place)) ≡ goes_on (at core registers (address_of stretch place)) i.rd value)
    × (does n stretch slot (record { registers = registers; place = place }) ≡ sets slot value (record { registers = registers; place = place }))

pub computed : (n : Name) → IsTrue (is_arithmetic n) → (stretch : Stretch) (op : Op) (left : ℕ) (i : Inst) (core : CoreState) (registers : List ℕ) (place : ℕ)
    → Computed n stretch (record { op = op; name = n; rd = i.rd; rs1 = i.rs1; rs2 = i.rs2; left = left; value = immediate_number i }) i core registers place
unfolding effect does
computed name.Addi holds stretch op left i core registers place = (_, refl, refl)
computed name.Slti holds stretch op left i core registers place = (_, refl, refl)
computed name.Sltiu holds stretch op left i core registers place = (_, refl, refl)
computed name.Xori holds stretch op left i core registers place = (_, refl, refl)
computed name.Ori holds stretch op left i core registers place = (_, refl, refl)
computed name.Andi holds stretch op left i core registers place = (_, refl, refl)
computed name.Slli holds stretch op left i core registers place = (_, refl, refl)
computed name.Srli holds stretch op left i core registers place = (_, refl, refl)
computed name.Srai holds stretch op left i core registers place = (_, refl, refl)
computed name.Addiw holds stretch op left i core registers place = (_, refl, refl)
computed name.Slliw holds stretch op left i core registers place = (_, refl, refl)
computed name.Srliw holds stretch op left i core registers place = (_, refl, refl)
computed name.Sraiw holds stretch op left i core registers place = (_, refl, refl)
computed name.Add holds stretch op left i core registers place = (_, refl, refl)
computed name.Sub holds stretch op left i core registers place = (_, refl, refl)
computed name.Sll holds stretch op left i core registers place = (_, refl, refl)
computed name.Slt holds stretch op left i core registers place = (_, refl, refl)
computed name.Sltu holds stretch op left i core registers place = (_, refl, refl)
computed name.Xor holds stretch op left i core registers place = (_, refl, refl)
computed name.Srl holds stretch op left i core registers place = (_, refl, refl)
computed name.Sra holds stretch op left i core registers place = (_, refl, refl)
computed name.Or holds stretch op left i core registers place = (_, refl, refl)
computed name.And holds stretch op left i core registers place = (_, refl, refl)
computed name.Addw holds stretch op left i core registers place = (_, refl, refl)
computed name.Subw holds stretch op left i core registers place = (_, refl, refl)
computed name.Sllw holds stretch op left i core registers place = (_, refl, refl)
computed name.Srlw holds stretch op left i core registers place = (_, refl, refl)
computed name.Sraw holds stretch op left i core registers place = (_, refl, refl)
computed name.Mul holds stretch op left i core registers place = (_, refl, refl)
computed name.Mulh holds stretch op left i core registers place = (_, refl, refl)
computed name.Mulhsu holds stretch op left i core registers place = (_, refl, refl)
computed name.Mulhu holds stretch op left i core registers place = (_, refl, refl)
computed name.Div holds stretch op left i core registers place = (_, refl, refl)
computed name.Divu holds stretch op left i core registers place = (_, refl, refl)
computed name.Rem holds stretch op left i core registers place = (_, refl, refl)
computed name.Remu holds stretch op left i core registers place = (_, refl, refl)
computed name.Mulw holds stretch op left i core registers place = (_, refl, refl)
computed name.Divw holds stretch op left i core registers place = (_, refl, refl)
computed name.Divuw holds stretch op left i core registers place = (_, refl, refl)
computed name.Remw holds stretch op left i core registers place = (_, refl, refl)
computed name.Remuw holds stretch op left i core registers place = (_, refl, refl)
computed _ holds stretch op left i core registers place = cc

-- ---- jumps and branches

-- a test that gives a place holds, and the place is the one that it gives
given : (test : Bool) (x place : ℕ) → (if test then Some x else None) ≡ Some place → (test ≡ true) × (x ≡ place)
given true x place e = (refl, ap (λ (o : Option ℕ). unwrap_or o 0) e)
given false x place e = cc

-- the instruction of a place stands at the place's address
pub stands_at : (stretch : Stretch) (target place : ℕ) → place_within stretch target ≡ Some place → target ≡ address_of stretch place
stands_at stretch target place e =
    let first = stretch.first in
    let begins : Bool = nat_le first target in
    let multiple : Bool = (target - first) % 4 == 0 in
    let ends : Bool = nat_lt ((target - first) / 4) stretch.count in
    let r = given (begins && multiple && ends) ((target - first) / 4) place e in
    let earlier = and_parts begins multiple (and_parts (begins && multiple) ends r.0).0 in
    let from : first ≤ target = leb-true _ _ earlier.0 in
    let whole : (target - first) % 4 ≡ 0 = eqb-true _ _ earlier.1 in
    omega (arith, from, whole, r.1)

multiple_of_4 : (first target place : ℕ) → first % 4 ≡ 0 → target ≡ first + 4 * place → target % 4 ≡ 0
multiple_of_4 first target place aligned here = omega (arith, aligned, here)

pub jumps_stand : (stretch : Stretch) (place : ℕ) (core : CoreState) (registers : List ℕ) (rd target next : ℕ) → stretch.first % 4 ≡ 0 → stretch.first + 4 * (place + 1) ≤ 2 ^ 48
    → place_within stretch target ≡ Some next
    → jumps rd target (at core registers (address_of stretch place)) ≡ at core (with_register registers rd (address_of stretch (place + 1))) (address_of stretch next)
unfolding jumps goes_to
jumps_stand stretch place core registers rd target next aligned room within =
    let here = stands_at stretch target next within in
    let four : (target % 4 == 0) ≡ true = eq-eqb _ _ (multiple_of_4 stretch.first target next aligned here) in
    let link : following (at core registers (address_of stretch place)) ≡ address_of stretch (place + 1) = next_pc stretch.first place room in
    rw four (ap (λ value. at core (with_register registers rd value) target) link ∙ ap (λ pc. at core (with_register registers rd (address_of stretch (place + 1))) pc) here)

-- a branch and its slot go the same way
abbrev Branched : Name → Stretch → Slot → Inst → CoreState → Placed → Type 0
Branched n stretch slot i core s =
    (effect n i core ≡ core_branches n i core) × (does n stretch slot s ≡ branches n slot s)

branched : (n : Name) → IsTrue (is_branch n) → (stretch : Stretch) (slot : Slot) (i : Inst) (core : CoreState) (s : Placed) → Branched n stretch slot i core s
unfolding effect does
branched name.Beq holds stretch slot i core s = (refl, refl)
branched name.Bne holds stretch slot i core s = (refl, refl)
branched name.Blt holds stretch slot i core s = (refl, refl)
branched name.Bge holds stretch slot i core s = (refl, refl)
branched name.Bltu holds stretch slot i core s = (refl, refl)
branched name.Bgeu holds stretch slot i core s = (refl, refl)
branched _ holds stretch slot i core s = cc

branch_by : (test : Bool) (stretch : Stretch) (place : ℕ) (core : CoreState) (registers : List ℕ) (target next : ℕ) → stretch.first % 4 ≡ 0 → stretch.first + 4 * (place + 1) ≤ 2 ^ 48
    → place_within stretch target ≡ Some next
    → (if test then jumps 0 target (at core registers (address_of stretch place)) else goes_on (at core registers (address_of stretch place)) 0 0)
    ≡ at core registers (address_of stretch (if test then next else place + 1))
branch_by true stretch place core registers target next aligned room within = jumps_stand stretch place core registers 0 target next aligned room within
branch_by false stretch place core registers target next aligned room within = sets_stand stretch place core registers 0 0 room

pub branch_stands : (n : Name) → IsTrue (is_branch n) → (stretch : Stretch) (place : ℕ) (core : CoreState) (registers : List ℕ) (i : Inst) (op : Op) (next : ℕ) → stretch.first % 4 ≡ 0
    → stretch.first + 4 * (place + 1) ≤ 2 ^ 48 → place_within stretch (relative i (at core registers (address_of stretch place))) ≡ Some next
    → IfSome (does n stretch (record { op = op; name = n; rd = 0; rs1 = i.rs1; rs2 = i.rs2; left = 1; value = next }) (record { registers = registers; place = place }))
    (λ after. effect n i (at core registers (address_of stretch place)) ≡ at core after.registers (address_of stretch after.place))
unfolding core_branches
branch_stands n holds stretch place core registers i op next aligned room within =
    let slot : Slot = record { op = op; name = n; rd = 0; rs1 = i.rs1; rs2 = i.rs2; left = 1; value = next } in
    let s : Placed = record { registers = registers; place = place } in
    let from : CoreState = at core registers (address_of stretch place) in
    let Q : Option Placed → Type 0 = λ o. IfSome o (λ after. effect n i from ≡ at core after.registers (address_of stretch after.place)) in
    let both = branched n holds stretch slot i from s in
    subst Q (sym both.1) (both.0 ∙ branch_by (is_taken n (slice_index registers i.rs1) (slice_index registers i.rs2)) stretch place core registers (relative i from) next aligned room within)

-- a jump by a register goes to the place where its target stands, if there is one
pub links_stand : (o : Option ℕ) (stretch : Stretch) (place : ℕ) (core : CoreState) (registers : List ℕ) (slot : Slot) (target : ℕ) → stretch.first % 4 ≡ 0
    → stretch.first + 4 * (place + 1) ≤ 2 ^ 48 → place_within stretch target ≡ o
    → IfSome (links_to_place stretch slot o (record { registers = registers; place = place }))
    (λ after. jumps slot.rd target (at core registers (address_of stretch place)) ≡ at core after.registers (address_of stretch after.place))
links_stand None stretch place core registers slot target aligned room within = tt
links_stand (Some next) stretch place core registers slot target aligned room within = jumps_stand stretch place core registers slot.rd target next aligned room within

pub branch_ends : (n : Name) → IsTrue (is_branch n) → is_setting n ≡ false
branch_ends name.Beq holds = refl
branch_ends name.Bne holds = refl
branch_ends name.Blt holds = refl
branch_ends name.Bge holds = refl
branch_ends name.Bltu holds = refl
branch_ends name.Bgeu holds = refl
branch_ends _ holds = cc

-- ---- single instructions

module _ (i : Inst) (stretch : Stretch) (place : ℕ) where
  pub lui_gives : i.name ≡ name.Lui → GivesNumber i (immediate_number i) stretch place
  unfolding effect
  lui_gives is core registers =
      let from : CoreState = at core registers (address_of stretch place) in
      subst (λ n. effect n i from ≡ goes_on from i.rd (immediate_number i)) (sym is) refl

  pub auipc_gives : i.name ≡ name.Auipc → GivesNumber i ((stretch.first + 4 * place + immediate_number i) % 2 ^ 64) stretch place
  unfolding effect
  auipc_gives is core registers =
      let from : CoreState = at core registers (address_of stretch place) in
      subst (λ n. effect n i from ≡ goes_on from i.rd (relative i from)) (sym is) refl

  pub fence_changes_nothing : i.name ≡ name.Fence → stretch.first + 4 * (place + 1) ≤ 2 ^ 48 → ChangesNothing i stretch place
  unfolding effect
  fence_changes_nothing is room core registers =
      let from : CoreState = at core registers (address_of stretch place) in
      subst (λ n. effect n i from ≡ at core registers (address_of stretch (place + 1))) (sym is) (sets_stand stretch place core registers 0 0 room)

-- ---- the cost of a slot

-- what a slot does, it does whatever it costs
does_whatever : (n : Name) (stretch : Stretch) (slot : Slot) (left : ℕ) (s : Placed) → does n stretch (record slot { left = left }) s ≡ does n stretch slot s
unfolding does
does_whatever name.Lui stretch slot left s = refl
does_whatever _ stretch slot left s = refl

pub meant_whatever : (left : ℕ) (image : MemoryImage) (stretch : Stretch) (place : ℕ) (slot : Slot) → IsMeant image stretch place slot → IsMeant image stretch place (record slot { left = left })
meant_whatever left image stretch place slot (fit, stands, accesses, found) = (
  record { rd = fit.rd; rs1 = fit.rs1; rs2 = fit.rs2; writes = fit.writes; leads = fit.leads; falls = fit.falls; accessed = fit.accessed },
  (λ core registers.
      let P : Option Placed → Type 0 = λ o. IfSome o (λ next. executed image (at core registers (address_of stretch place)) ≡ at core next.registers (address_of stretch next.place)) in
      subst P (sym (does_whatever (name_of slot) stretch slot left (record { registers = registers; place = place }))) (stands core registers)),
  (λ core registers. accesses core registers),
  found,
)

-- the slot that is left to the core is right anywhere
abbrev pub left_to_core : Slot
left_to_core = record { op = op.Other; name = name.Ebreak; rd = 0; rs1 = 0; rs2 = 0; left = 1; value = 0 }

pub left_meant : (image : MemoryImage) (stretch : Stretch) (place : ℕ) → IsMeant image stretch place left_to_core
unfolding does
left_meant image stretch place = (
  record {
    rd = omega arith;
    rs1 = omega arith;
    rs2 = omega arith;
    writes = λ holds. absurd (true≢false (sym holds));
    leads = λ holds. absurd (true≢false (sym holds));
    falls = λ holds. absurd (true≢false (sym holds));
    accessed = λ holds. absurd (true≢false (sym holds));
  },
  (λ core registers. tt),
  (λ core registers. tt),
  (λ other. absurd (true≢false other)),
)

word_found : (word : Option ℕ) (i : Inst) → of_word word ≡ Instruction i → IsTrue (is_some word)
word_found None i e = cc
word_found (Some word) i e = refl

-- a slot that does as an instruction stands for it where it is fetched
pub stands_for : (image : MemoryImage) (stretch : Stretch) (place : ℕ) (i : Inst) (slot : Slot) → fetched_at image (address_of stretch place) ≡ Instruction i
    → DoesAs i stretch place slot → StandsFor image stretch place slot
stands_for image stretch place i slot fetched done core registers =
    let from : CoreState = at core registers (address_of stretch place) in
    let P : CoreState → Type 0 = λ to. IfSome (does (name_of slot) stretch slot (record { registers = registers; place = place })) (λ next. to ≡ at core next.registers (address_of stretch next.place)) in
    subst P (sym (ap (λ f. after_fetch f from) fetched)) (done core registers)

-- and so does one whose access is the instruction's
pub accesses_for : (image : MemoryImage) (stretch : Stretch) (place : ℕ) (i : Inst) (slot : Slot) → fetched_at image (address_of stretch place) ≡ Instruction i
    → AccessesAs i stretch place slot → AccessesFor image stretch place slot
accesses_for image stretch place i slot fetched done core registers =
    let from : CoreState = at core registers (address_of stretch place) in
    let P : CoreState → Type 0 = λ after. IsAccess slot.op after (loads_by slot from) (stores_by slot from) in
    subst P (sym (ap (λ f. after_fetch f from) fetched)) (done core registers)

-- and an instruction stands there
pub found_at : (image : MemoryImage) (stretch : Stretch) (place : ℕ) (i : Inst) (slot : Slot) → fetched_at image (address_of stretch place) ≡ Instruction i → IsFound image stretch place slot
unfolding fetched_at
found_at image stretch place i slot fetched other = word_found (fetched_word image.segments (address_of stretch place)) i fetched
