-- All instructions of a block but its last one are followed by the next.
use Rattle.std.proofs.Common.{◌≡◌, ℕ, zero, suc, ◌+◌, ◌*◌, ◌<◌, ◌≤◌, Bool, true, false, List, Option, Some, None, length, refl, sym, ◌∙◌, ap, arith, subst, inl, inr}
use Rattle.std.specs.Prelude.{slice_get, IfSome, if◌then◌else◌}
use Rattle.std.proofs.lemmas.Option.{slice_get_cases, slice_get_within}
use Rattle.elf_load.specs.MemoryImage.{MemoryImage}
use Rattle.rv_decode.specs.declared.name.Name.{Name}
use Rattle.rv_decode.specs.declared.name.Name.TheVariants as name
use Rattle.rv_core.specs.CoreState.{CoreState}
use Rattle.rv_core.specs.Executions.{at}
use Rattle.rv_core.specs.Step.{executed, initial_core}
use Rattle.rv_blocks.specs.declared.slot.Slot.{Slot}
use Rattle.rv_blocks.specs.Falling.{FallsThrough}
use Rattle.rv_blocks.proofs.Steps.{costs_some}
use Rattle.rv_blocks.specs.Slots.{Placed, Stretch, does, is_plain, left_at, left_of, name_of, AreSlots}

-- a slot whose next one follows in its block does something, and leads there
plain_falls : (n : Name) (stretch : Stretch) (slot : Slot) (s : Placed) → is_plain n ≡ true
    → (registers : List ℕ) × (does n stretch slot s ≡ Some (record { registers = registers; place = s.place + 1 }))
unfolding does
plain_falls name.Lui stretch slot s plain = (_, refl)
plain_falls name.Auipc stretch slot s plain = cc
plain_falls name.Jal stretch slot s plain = cc
plain_falls name.Jalr stretch slot s plain = cc
plain_falls name.Beq stretch slot s plain = cc
plain_falls name.Bne stretch slot s plain = cc
plain_falls name.Blt stretch slot s plain = cc
plain_falls name.Bge stretch slot s plain = cc
plain_falls name.Bltu stretch slot s plain = cc
plain_falls name.Bgeu stretch slot s plain = cc
plain_falls name.Lb stretch slot s plain = cc
plain_falls name.Lh stretch slot s plain = cc
plain_falls name.Lw stretch slot s plain = cc
plain_falls name.Ld stretch slot s plain = cc
plain_falls name.Lbu stretch slot s plain = cc
plain_falls name.Lhu stretch slot s plain = cc
plain_falls name.Lwu stretch slot s plain = cc
plain_falls name.Sb stretch slot s plain = cc
plain_falls name.Sh stretch slot s plain = cc
plain_falls name.Sw stretch slot s plain = cc
plain_falls name.Sd stretch slot s plain = cc
plain_falls name.Addi stretch slot s plain = (_, refl)
plain_falls name.Slti stretch slot s plain = (_, refl)
plain_falls name.Sltiu stretch slot s plain = (_, refl)
plain_falls name.Xori stretch slot s plain = (_, refl)
plain_falls name.Ori stretch slot s plain = (_, refl)
plain_falls name.Andi stretch slot s plain = (_, refl)
plain_falls name.Slli stretch slot s plain = (_, refl)
plain_falls name.Srli stretch slot s plain = (_, refl)
plain_falls name.Srai stretch slot s plain = (_, refl)
plain_falls name.Addiw stretch slot s plain = (_, refl)
plain_falls name.Slliw stretch slot s plain = (_, refl)
plain_falls name.Srliw stretch slot s plain = (_, refl)
plain_falls name.Sraiw stretch slot s plain = (_, refl)
plain_falls name.Fence stretch slot s plain = (_, refl)
plain_falls name.Ecall stretch slot s plain = cc
plain_falls name.Ebreak stretch slot s plain = cc
plain_falls name.Add stretch slot s plain = (_, refl)
plain_falls name.Sub stretch slot s plain = (_, refl)
plain_falls name.Sll stretch slot s plain = (_, refl)
plain_falls name.Slt stretch slot s plain = (_, refl)
plain_falls name.Sltu stretch slot s plain = (_, refl)
plain_falls name.Xor stretch slot s plain = (_, refl)
plain_falls name.Srl stretch slot s plain = (_, refl)
plain_falls name.Sra stretch slot s plain = (_, refl)
plain_falls name.Or stretch slot s plain = (_, refl)
plain_falls name.And stretch slot s plain = (_, refl)
plain_falls name.Addw stretch slot s plain = (_, refl)
plain_falls name.Subw stretch slot s plain = (_, refl)
plain_falls name.Sllw stretch slot s plain = (_, refl)
plain_falls name.Srlw stretch slot s plain = (_, refl)
plain_falls name.Sraw stretch slot s plain = (_, refl)
plain_falls name.Mul stretch slot s plain = (_, refl)
plain_falls name.Mulh stretch slot s plain = (_, refl)
plain_falls name.Mulhsu stretch slot s plain = (_, refl)
plain_falls name.Mulhu stretch slot s plain = (_, refl)
plain_falls name.Div stretch slot s plain = (_, refl)
plain_falls name.Divu stretch slot s plain = (_, refl)
plain_falls name.Rem stretch slot s plain = (_, refl)
plain_falls name.Remu stretch slot s plain = (_, refl)
plain_falls name.Mulw stretch slot s plain = (_, refl)
plain_falls name.Divw stretch slot s plain = (_, refl)
plain_falls name.Divuw stretch slot s plain = (_, refl)
plain_falls name.Remw stretch slot s plain = (_, refl)
plain_falls name.Remuw stretch slot s plain = (_, refl)
plain_falls name.LrW stretch slot s plain = cc
plain_falls name.ScW stretch slot s plain = cc
plain_falls name.AmoswapW stretch slot s plain = cc
plain_falls name.AmoaddW stretch slot s plain = cc
plain_falls name.AmoxorW stretch slot s plain = cc
plain_falls name.AmoandW stretch slot s plain = cc
plain_falls name.AmoorW stretch slot s plain = cc
plain_falls name.AmominW stretch slot s plain = cc
plain_falls name.AmomaxW stretch slot s plain = cc
plain_falls name.AmominuW stretch slot s plain = cc
plain_falls name.AmomaxuW stretch slot s plain = cc
plain_falls name.LrD stretch slot s plain = cc
plain_falls name.ScD stretch slot s plain = cc
plain_falls name.AmoswapD stretch slot s plain = cc
plain_falls name.AmoaddD stretch slot s plain = cc
plain_falls name.AmoxorD stretch slot s plain = cc
plain_falls name.AmoandD stretch slot s plain = cc
plain_falls name.AmoorD stretch slot s plain = cc
plain_falls name.AmominD stretch slot s plain = cc
plain_falls name.AmomaxD stretch slot s plain = cc
plain_falls name.AmominuD stretch slot s plain = cc
plain_falls name.AmomaxuD stretch slot s plain = cc

-- any core
some_core : CoreState
some_core = initial_core 0 1 0 0 (record { base = 0; size = 0 }) false

module _ (image : MemoryImage) (first : ℕ) (slots : List Slot) (are : AreSlots image first slots) where
  stretch : Stretch
  stretch = record { first = first; count = length slots }

  -- the instruction of a slot whose next one follows in its block
  falls_at : (place : ℕ) (slot : Slot) → slice_get slots place ≡ Some slot → is_plain (name_of slot) ≡ true → FallsThrough image (first + 4 * place)
  unfolding stretch
  falls_at place slot here plain registers after pc_after leads =
      let s : Placed = record { registers = registers; place = place } in
      let falls = plain_falls (name_of slot) stretch slot s plain in
      let P : Option Placed → Type 0 = λ o. IfSome o (λ next. executed image (at some_core registers (first + 4 * place)) ≡ at some_core next.registers (first + 4 * next.place)) in
      let does_as : executed image (at some_core registers (first + 4 * place)) ≡ at some_core falls.0 (first + 4 * (place + 1)) =
      subst P falls.1 (are.stand place slot here some_core registers)
      in
      let same : pc_after ≡ first + 4 * (place + 1) = ap (λ (core : CoreState). core.pc) (sym (leads some_core) ∙ does_as) in
      omega (arith, same)

  -- a slot that costs more than one is one whose next one follows in its block
  costs_plain : (test : Bool) (more : ℕ) → 1 < (if test then 1 + more else 1) → test ≡ true
  costs_plain true more lt = refl
  costs_plain false more lt = absurd (omega (arith, lt))

  plain_at : (place : ℕ) (slot : Slot) → slice_get slots place ≡ Some slot → 1 < left_at slots place → is_plain (name_of slot) ≡ true
  plain_at place slot here some =
      costs_plain (is_plain (name_of slot)) (left_at slots (place + 1)) (subst (λ n. 1 < n) (ap left_of here ∙ are.counted place slot here) some)

  plain_left : (test : Bool) (more : ℕ) → test ≡ true → (if test then 1 + more else 1) ≡ 1 + more
  plain_left true more is = refl
  plain_left false more is = cc

  -- there is a slot where something is left of a block
  there_at : (place : ℕ) (o : Option Slot) → slice_get slots place ≡ o → 0 < left_of o → (slot : Slot) × (slice_get slots place ≡ Some slot)
  there_at place None is some = absurd (omega (arith, some))
  there_at place (Some slot) is some = (slot, is)

  -- each slot that is there costs something
  pub block_costs : (place : ℕ) → place < length slots → 1 ≤ left_at slots place
  block_costs place within =
      elim ((slice_get_cases slots place).1) [
        | inl here ↦ costs_some image first slots are place here.0 here.2
        | inr past ↦ absurd (omega (arith, within, past.0))
      ]

  -- a block ends within the slots
  pub block_within : (i place : ℕ) → i < left_at slots place → place + i < length slots
  block_within zero place some =
      let here = there_at place (slice_get slots place) refl some in
      omega (arith, slice_get_within slots place here.0 here.1)
  block_within (suc i) place some =
      let here = there_at place (slice_get slots place) refl (omega (arith, some)) in
      let plain : is_plain (name_of here.0) ≡ true = plain_at place here.0 here.1 (omega (arith, some)) in
      let left : left_at slots place ≡ 1 + left_at slots (place + 1) =
      ap left_of here.1 ∙ are.counted place here.0 here.1 ∙ plain_left (is_plain (name_of here.0)) (left_at slots (place + 1)) plain
      in
      omega (arith, block_within i (place + 1) (omega (arith, some, left)))

  pub block_falls : (i place : ℕ) → i + 1 < left_at slots place → FallsThrough image (first + 4 * (place + i))
  block_falls zero place some =
      let here = there_at place (slice_get slots place) refl (omega (arith, some)) in
      let same : place ≡ place + 0 = omega arith in
      subst (λ p. FallsThrough image (first + 4 * p)) same (falls_at place here.0 here.1 (plain_at place here.0 here.1 (omega (arith, some))))
  block_falls (suc i) place some =
      let here = there_at place (slice_get slots place) refl (omega (arith, some)) in
      let plain : is_plain (name_of here.0) ≡ true = plain_at place here.0 here.1 (omega (arith, some)) in
      let left : left_at slots place ≡ 1 + left_at slots (place + 1) =
      ap left_of here.1 ∙ are.counted place here.0 here.1 ∙ plain_left (is_plain (name_of here.0)) (left_at slots (place + 1)) plain
      in
      let same : place + 1 + i ≡ place + suc i = omega arith in
      subst (λ p. FallsThrough image (first + 4 * p)) same (block_falls i (place + 1) (omega (arith, some, left)))
