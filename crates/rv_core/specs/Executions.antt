-- Instructions that change registers and pc alone, one after the other, and one that makes an access.
use Rattle.std.specs.Prelude.{◌≡◌, ℕ, zero, suc, List, Option, Some, None}
use Rattle.zs_num.specs.Request.{line_at}
use Rattle.elf_load.specs.MemoryImage.{MemoryImage}
use Rattle.rv_core.specs.declared.memory_range.MemoryRange.{MemoryRange}
use Rattle.rv_core.specs.declared.single.Single.{Single}
use Rattle.rv_core.specs.CoreState.{CoreState}
use Rattle.rv_core.specs.Single.{begun}
use Rattle.rv_core.specs.Step.{executed}

-- the core with these registers, at this address
abbrev pub at : CoreState → (registers : List ℕ) → (pc : ℕ) → CoreState
at core registers pc = record core { registers = registers; pc = pc }

-- The instruction at an address leads from these registers to those at another, whatever else the core is. It has no
-- access and does not halt the core, since nothing else changes.
abbrev pub Leads : MemoryImage → (registers : List ℕ) → (pc : ℕ) → (registers_after : List ℕ) → (pc_after : ℕ) → Type 0
Leads image registers pc registers_after pc_after =
    (core : CoreState) → executed image (at core registers pc) ≡ at core registers_after pc_after

-- the address lies in this line, if one is given
abbrev pub LiesIn : Option ℕ → (pc : ℕ) → Type 0
LiesIn None pc = Unit {0}
LiesIn (Some line) pc = line_at pc ≡ line

-- So many such instructions lead there, each the one at the address to which those before it led. All of them lie in this
-- line, if one is given.
abbrev pub LeadsTo : (line : Option ℕ) → ℕ → MemoryImage → (registers : List ℕ) → (pc : ℕ) → (registers_after : List ℕ) → (pc_after : ℕ) → Type 0
LeadsTo line zero image registers pc registers_after pc_after = (registers_after ≡ registers) × (pc_after ≡ pc)
LeadsTo line (suc n) image registers pc registers_after pc_after =
    (between : List ℕ) × ((pc_between : ℕ) × (LeadsTo line n image registers pc between pc_between
    × LiesIn line pc_between
    × Leads image between pc_between registers_after pc_after))

-- At these registers the instruction at an address makes this one access: a core whose memory lies there, whatever else it
-- is, begins it and changes nothing.
abbrev pub Meets : MemoryImage → MemoryRange → (registers : List ℕ) → (pc : ℕ) → Single → Type 0
Meets image memory registers pc single =
    (core : CoreState) → core.memory ≡ memory → executed image (at core registers pc) ≡ begun single (at core registers pc)
