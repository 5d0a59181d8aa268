-- Homes and L1s before the first access.
use Rattle.std.specs.Prelude.{◌≡◌, ◌⊎◌, ℕ, ◌+◌, ◌/◌, ◌^◌, ◌<◌, ◌≤◌, [], map, replicate}
use Rattle.std.specs.List.{range_with_len}
use Rattle.elf_load.specs.MemoryImage.{MemoryImage}
use Rattle.machine_desc.specs.InstructionCaches.{l1i_sets_of, l1i_ways_of}
use Rattle.machine_desc.specs.Machine.{IsMachine}
use Rattle.machine_desc.specs.declared.machine.Machine.{Machine}
use Rattle.home.specs.HomeState.{HomeState}
use Rattle.home.specs.NewHome.{new_home}
use Rattle.l1_cache.specs.L1State.{L1State}
use Rattle.shard.specs.PartsLaws.{AreAllParts, AreParts}
use Rattle.shard.specs.Seen.{PartsState, shard_seen, shards_seen}
use Rattle.shard.specs.Served.{new_shard}
use Rattle.shard.specs.SharedStep.{Bank}
use Rattle.shard.specs.StandsFor.{new_shards}

-- a bank's home: its lines are as they were loaded
abbrev pub home_of_bank : Machine → (number : ℕ) → MemoryImage → HomeState
home_of_bank m number image = new_home number m.l2.banks (m.l2.sets / m.l2.banks) m.l2.ways m.cores image

-- an empty L1, of which each of so many parts has as many sets: one part, or one for each bank
abbrev pub l1_of_core : Machine → (parts : ℕ) → L1State
l1_of_core m parts = record {
  shards = parts;
  ways = m.l1.ways;
  l1i_ways = l1i_ways_of m;
  sets = replicate (m.l1.sets / parts) [];
  l1i = replicate (l1i_sets_of m / parts) [];
}

abbrev pub new_bank : Machine → (parts number : ℕ) → MemoryImage → Bank
new_bank m parts number image = record { home = home_of_bank m number image; l1s = replicate m.cores (l1_of_core m parts) }

-- all homes, and whole L1s
abbrev pub new_parts : Machine → MemoryImage → PartsState
new_parts m image = record {
  homes = map (λ number. home_of_bank m number image) (range_with_len 0 m.l2.banks);
  l1s = replicate m.cores (l1_of_core m 1);
  lasts = replicate m.l2.banks 0;
}

-- memory lies where a machine has it
abbrev pub IsPlaced : MemoryImage → Type 0
IsPlaced image = (0 < image.size) × (image.base + image.size ≤ 2 ^ 48)

-- new homes and L1s are seen as new shards, and fit together
abbrev pub NewBanksAreShards : Type 0
NewBanksAreShards = (m : Machine) (image : MemoryImage) (parts number : ℕ) → IsMachine m → IsPlaced image → (parts ≡ 1) ⊎ (parts ≡ m.l2.banks) → number < m.l2.banks
    → (shard_seen (new_bank m parts number image) 0 ≡ new_shard m number image) × AreParts (new_bank m parts number image)

abbrev pub NewPartsAreShards : Type 0
NewPartsAreShards = (m : Machine) (image : MemoryImage) → IsMachine m → IsPlaced image → (shards_seen (new_parts m image) ≡ new_shards m image) × AreAllParts (new_parts m image)
