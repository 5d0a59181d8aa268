-- The order of a run whose cores take their turns one after the other in each interval.
use Rattle.std.specs.Prelude.{◌≡◌, ℕ, All, List, Ok}
use Rattle.elf_load.specs.MemoryImage.{MemoryImage}
use Rattle.machine_desc.specs.declared.machine.Machine.{Machine}
use Rattle.component.specs.declared.comp.Comp.{Comp}
use Rattle.component.specs.Components.{AreFresh}
use Rattle.reference.specs.ReferenceRun.{RunState, after_intervals, first_state}
use Rattle.trace.specs.EachCore.{IsCoreAfterCore}

-- The schedule has a legal list for each of the first intervals of a run, as many as it has lists, and in each the cores
-- make their accesses one core after the other, in order of their numbers. The run may go on.
pub record IsInTurn (machine : Machine) (image : MemoryImage) (lists : List (List ℕ)) : Type 0 where
  pub comps : List Comp
  pub fresh : AreFresh machine comps
  pub state : RunState
  pub reached : after_intervals machine image (first_state machine image comps) lists ≡ Ok state
  pub in_turn : All IsCoreAfterCore lists
