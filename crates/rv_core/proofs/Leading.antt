-- A core stays sound through instructions that change registers and pc alone.
use Rattle.std.proofs.Common.{◌≡◌, ◌<◌, ℕ, zero, suc, Bool, true, false, not, List, Option, Some, None, IfSome, refl, sym, subst}
use Rattle.std.proofs.lemmas.Bool.{and_parts}
use Rattle.elf_load.specs.MemoryImage.{MemoryImage}
use Rattle.rv_decode.specs.declared.inst.Inst.{Inst}
use Rattle.rv_decode.specs.InstructionTable.{decoded}
use Rattle.rv_core.specs.declared.memory_range.MemoryRange.{MemoryRange}
use Rattle.rv_core.specs.declared.single.Single.{Single}
use Rattle.rv_core.specs.CoreState.{CoreState}
use Rattle.rv_core.specs.Executions.{at, LeadsTo, Meets}
use Rattle.rv_core.specs.Single.{begun}
use Rattle.rv_core.specs.Sound.{IsSoundCore}
use Rattle.rv_core.specs.Asked.{is_idle}
use Rattle.rv_core.specs.Step.{executed, is_free}
use Rattle.rv_core.proofs.Fetches.{unfetched-ready}
use Rattle.rv_core.proofs.Kept.{IsReady}
use Rattle.rv_core.proofs.Reached.{executed-keeps}

not_fetched : (fetched : Bool) → not fetched ≡ true → fetched ≡ false
not_fetched true e = cc
not_fetched false e = refl

pub idle-ready : (core : CoreState) → is_idle core ≡ true → IsSoundCore core → IsReady core
idle-ready core idle s =
    let parts = and_parts (is_free core) (not core.is_fetched) idle in
    let r = unfetched-ready core parts.0 s in record { sound = s; halted = r.halted; instruction = r.instruction; fetched = not_fetched core.is_fetched parts.1 }

module _ (ranges : (word : ℕ) (i : Inst) → decoded word ≡ Some i → (i.rd < 32) × (i.rs1 < 32) × (i.rs2 < 32)) (image : MemoryImage) where
  pub led-ready : (line : Option ℕ) (n : ℕ) (core : CoreState) (registers after : List ℕ) (pc pc_after : ℕ) → LeadsTo line n image registers pc after pc_after
      → IsReady (at core registers pc) → IsReady (at core after pc_after)
  led-ready line zero core registers after pc pc_after led ready =
      subst (λ r. IsReady (at core r pc_after)) (sym led.0) (subst (λ p. IsReady (at core registers p)) (sym led.1) ready)
  led-ready line (suc n) core registers after pc pc_after (between, (pc_between, (led, lies, leads))) ready =
      let here = led-ready line n core registers between pc pc_between led ready in
      let keeps = executed-keeps ranges image (at core between pc_between) here in
      record { sound = subst IsSoundCore (leads core) keeps.sound; halted = ready.halted; instruction = ready.instruction; fetched = ready.fetched }

  pub led-sound : (line : Option ℕ) (n : ℕ) (core : CoreState) (after : List ℕ) (pc_after : ℕ) → is_idle core ≡ true → IsSoundCore core
      → LeadsTo line n image core.registers core.pc after pc_after → IsSoundCore (at core after pc_after)
  led-sound line n core after pc_after idle sound led =
      (led-ready line n core core.registers after core.pc pc_after led (idle-ready core idle sound)).sound

-- a core meets the access of the instruction to which it came
pub meets-now : (image : MemoryImage) (memory : MemoryRange) (met : Option Single) (core : CoreState) → IfSome met (λ single. Meets image memory core.registers core.pc single) → core.memory ≡ memory
    → IfSome met (λ single. executed image core ≡ begun single core)
meets-now image memory None core meets same = tt
meets-now image memory (Some single) core meets same = meets core same
