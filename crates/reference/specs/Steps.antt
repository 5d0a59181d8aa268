-- Steps of a machine's cores, without the end of an interval.
use Rattle.std.specs.Prelude.{ℕ, if◌then◌else◌, List, [], ◌∷◌, map, slice_get, slice_set}
use Rattle.std.specs.Option.{option_map_or}
use Rattle.std.specs.List.{range_with_len}
use Rattle.zs_num.specs.declared.entry.Entry.{Entry}
use Rattle.elf_load.specs.MemoryImage.{MemoryImage}
use Rattle.machine_desc.specs.declared.machine.Machine.{Machine}
use Rattle.rv_core.specs.Step.{is_free}
use Rattle.reference.specs.MachineWorld.{MachineWorld, first_world, serve}
use Rattle.reference.specs.ReferenceMachine.{BoundState, access_served}
use Rattle.reference.specs.TimedCore.{TimedCore, after_instruction, asks, first_core}

-- the machine before the first step
abbrev pub at_start : Machine → MemoryImage → BoundState MachineWorld
at_start m image = record { cores = map (first_core m image) (range_with_len 0 m.cores); world = first_world m image; entries = [] }

module _ (time : Entry → ℕ) (image : MemoryImage) where
  -- a core up to the access that its next step makes, if it makes one: an access that it waits for is made first
  abbrev pub begun_step : TimedCore → TimedCore
  begun_step c = if is_free c.core then after_instruction image c else c

  -- A step of a core, which stands there: one instruction, up to and with its first access; or one further access of the
  -- instruction in progress; or the fetch of an instruction. A halted core does nothing.
  abbrev pub step_at : BoundState MachineWorld → (number : ℕ) → TimedCore → BoundState MachineWorld
  step_at s number c =
      option_map_or (λ request. access_served serve time image 0 s number c (serve s.world number c.clock request)) (asks c)
      (record s { cores = slice_set s.cores number c })

  abbrev pub after_step : BoundState MachineWorld → (number : ℕ) → BoundState MachineWorld
  after_step s number = option_map_or (λ c. step_at s number (begun_step c)) (slice_get s.cores number) s

  -- steps of these cores, one after the other
  abbrev pub after_steps : BoundState MachineWorld → List ℕ → BoundState MachineWorld
  after_steps s [] = s
  after_steps s (number ∷ numbers) = after_steps (after_step s number) numbers
