-- What is true of the replays of every machine.
use Rattle.std.specs.Prelude.{◌≡◌, ◌⊎◌, ℕ, List, Result, Ok, Err}
use Rattle.elf_load.specs.MemoryImage.{MemoryImage}
use Rattle.machine_desc.specs.declared.machine.Machine.{Machine}
use Rattle.reference.specs.ReferenceRun.{IsRunOf}
use Rattle.reference.specs.Results.{Results}
use Rattle.replay.specs.Replay.{Replays}
use Rattle.replay.specs.declared.replay_fail.ReplayFail.{ReplayFail}
use Rattle.replay.specs.declared.replay_fail.ReplayFail.TheVariants.{NoMemory}

-- A replay of the schedule under which a run gave its results gives the same results, unless memory runs out.
abbrev pub ReplaysGiveTheSame : Type 0
ReplaysGiveTheSame = (machine : Machine) (image : MemoryImage) (lists : List (List ℕ)) (results : Results) (answer : Result Results ReplayFail)
    → IsRunOf machine image lists results → Replays machine image lists answer → (answer ≡ Ok results) ⊎ (answer ≡ Err NoMemory)
