-- What shards stand for together: one memory, and the cache lists of one machine.
use Rattle.std.specs.Prelude.{◌≡◌, ◌≢◌, ◌⊎◌, ℕ, ◌+◌, ◌-◌, ◌*◌, ◌<◌, ◌≤◌, if◌then◌else◌, IsTrue, IsSome, List, [], ◌∷◌, length, map, replicate, nat_eq, slice_index_or, slice_get, slice_set, Option, Some, None}
use Rattle.std.specs.List.{All, IsDistinct, range_with_len}
use Rattle.std.specs.Map.{keys_of}
use Rattle.zs_num.specs.PairedRight.{pairing_of}
use Rattle.zs_num.specs.Request.{line_of, line_at, bank_of_line}
use Rattle.zs_num.specs.declared.entry.Entry.{Entry}
use Rattle.zs_num.specs.declared.pairing.Pairing.{Pairing}
use Rattle.zs_num.specs.declared.request.Request.{Request}
use Rattle.elf_load.specs.MemoryImage.{MemoryImage, bytes_from}
use Rattle.machine_desc.specs.declared.machine.Machine.{Machine}
use Rattle.cache_set.specs.declared.letter.Letter.TheVariants.{I}
use Rattle.flat_memory.specs.declared.reservation.Reservation.{Reservation}
use Rattle.flat_memory.specs.FlatMemory.{MemoryState, is_reservation}
use Rattle.shard.specs.Coherence.{Caches, dirty_at, fetch_holds, is_alone, is_valid, letter_at}
use Rattle.shard.specs.HaveL1i.{have_l1i}
use Rattle.cache_set.specs.Lines.{set_number, set_of}
use Rattle.shard.specs.Marks.{MarkedMemory}
use Rattle.shard.specs.Served.{ShardState, met_by, new_shard, place_of, shard_after, shard_reply}

-- ---- caches that accesses can leave

-- a set has no line twice, and no more lines than ways
pub record IsSet {X : Type 0} (ways : ℕ) (set : List (ℕ × X)) : Type 0 where
  pub distinct : IsDistinct nat_eq (keys_of set)
  pub within : length set ≤ ways

pub record HaveSets (c : Caches) : Type 0 where
  pub l1 : All (λ sets. All (λ set. IsSet c.l1_ways set) sets) c.l1
  pub l1i : All (λ sets. All (λ set. IsSet c.l1i_ways set) sets) c.l1i
  pub l2 : All (λ set. IsSet c.l2_ways set) c.l2
  -- what an L1 has it holds: no letter is I
  pub held : (core n : ℕ) → All (λ way. IsTrue (is_valid way.1)) (slice_index_or (slice_index_or c.l1 core []) n [])
  -- each line stands in its own set
  pub l1_placed : (core n : ℕ) → All (λ way. set_number c.shards way.0 (slice_index_or c.l1 core []) ≡ n) (slice_index_or (slice_index_or c.l1 core []) n [])
  pub l1i_placed : (core n : ℕ) → All (λ way. set_number c.shards way.0 (slice_index_or c.l1i core []) ≡ n) (slice_index_or (slice_index_or c.l1i core []) n [])
  pub l2_placed : (n : ℕ) → All (λ way. set_number c.shards way.0 c.l2 ≡ n) (slice_index_or c.l2 n [])

pub record AreCoherent (c : Caches) : Type 0 where
  pub sets : HaveSets c
  -- a core whose letter for a line is M or E is the only one that has it
  pub single : (core other line : ℕ) → other ≢ core → IsTrue (is_alone (letter_at c core line)) → letter_at c other line ≡ I
  -- each line of an L1 stands in the L2, and each line of an instruction cache
  pub inclusive : (core line : ℕ) → IsTrue (is_valid (letter_at c core line)) → IsSome (dirty_at c line)
  pub l1i_inclusive : (core line : ℕ) → IsTrue (fetch_holds c core line) → IsSome (dirty_at c line)

-- there is a set for each line, and room for a line in each
pub record HaveRoomForLines (c : Caches) : Type 0 where
  pub l1_ways : 1 ≤ c.l1_ways
  pub l2_ways : 1 ≤ c.l2_ways
  pub l1_sets : (core : ℕ) → core < length c.l1 → 1 ≤ length (slice_index_or c.l1 core [])
  pub l2_sets : 1 ≤ length c.l2
  -- all cores have an instruction cache, or none has
  pub fetchers : (length c.l1i ≡ length c.l1) ⊎ (length c.l1i ≡ 0)
  pub l1i_ways : IsTrue (have_l1i c) → 1 ≤ c.l1i_ways
  pub l1i_sets : (core : ℕ) → core < length c.l1i → 1 ≤ length (slice_index_or c.l1i core [])

-- ---- shards

-- a list of shards in order of their numbers, all of one machine
pub record AreShards (shards : List ShardState) (memory_base memory_size : ℕ) : Type 0 where
  pub number : (i : ℕ) (s : ShardState) → slice_get shards i ≡ Some s → s.number ≡ i
  pub count : (i : ℕ) (s : ShardState) → slice_get shards i ≡ Some s → s.caches.shards ≡ length shards
  pub base : (i : ℕ) (s : ShardState) → slice_get shards i ≡ Some s → s.base ≡ memory_base
  pub size : (i : ℕ) (s : ShardState) → slice_get shards i ≡ Some s → s.size ≡ memory_size

-- a shard keeps a line
abbrev pub KeepsLine : (shards : List ShardState) → (line : ℕ) → ShardState → Type 0
KeepsLine shards line s = slice_get shards (bank_of_line (length shards) line) ≡ Some s

-- The shards stand for a memory with marks and for the cache lists of one machine: each byte, each mark and each list
-- is the one in the shard of its line or set.
pub record StandFor (shards : List ShardState) (memory : MarkedMemory) (c : Caches) : Type 0 where
  pub are : AreShards shards memory.base (length memory.bytes)
  pub bytes : (addr : ℕ) (s : ShardState) → memory.base ≤ addr → addr < memory.base + length memory.bytes → KeepsLine shards (line_at addr) s
      → slice_get memory.bytes (addr - memory.base) ≡ slice_get s.bytes (place_of (length shards) memory.base addr)
  pub marks : memory.marks ≡ map (λ s. s.marks) shards
  pub whole : c.shards ≡ 1
  pub l1 : (core line : ℕ) (s : ShardState) → KeepsLine shards line s
      → set_of 1 line (slice_index_or c.l1 core []) ≡ set_of (length shards) line (slice_index_or s.caches.l1 core [])
  pub l1i : (core line : ℕ) (s : ShardState) → KeepsLine shards line s
      → set_of 1 line (slice_index_or c.l1i core []) ≡ set_of (length shards) line (slice_index_or s.caches.l1i core [])
  pub l2 : (line : ℕ) (s : ShardState) → KeepsLine shards line s → set_of 1 line c.l2 ≡ set_of (length shards) line s.caches.l2
  -- each shard has its part of the sets, and knows all cores
  pub l1_sets : (i core : ℕ) (s : ShardState) → slice_get shards i ≡ Some s
      → length (slice_index_or c.l1 core []) ≡ length shards * length (slice_index_or s.caches.l1 core [])
  pub l1i_sets : (i core : ℕ) (s : ShardState) → slice_get shards i ≡ Some s
      → length (slice_index_or c.l1i core []) ≡ length shards * length (slice_index_or s.caches.l1i core [])
  pub l2_sets : (i : ℕ) (s : ShardState) → slice_get shards i ≡ Some s → length c.l2 ≡ length shards * length s.caches.l2
  pub cores : (i : ℕ) (s : ShardState) → slice_get shards i ≡ Some s → (length s.caches.l1 ≡ length c.l1) × (length s.marks ≡ length c.l1)
  pub fetchers : (i : ℕ) (s : ShardState) → slice_get shards i ≡ Some s → length s.caches.l1i ≡ length c.l1i
  pub l1_ways : (i : ℕ) (s : ShardState) → slice_get shards i ≡ Some s → s.caches.l1_ways ≡ c.l1_ways
  pub l1i_ways : (i : ℕ) (s : ShardState) → slice_get shards i ≡ Some s → s.caches.l1i_ways ≡ c.l1i_ways
  pub l2_ways : (i : ℕ) (s : ShardState) → slice_get shards i ≡ Some s → s.caches.l2_ways ≡ c.l2_ways
  pub coherent : AreCoherent c
  pub room : HaveRoomForLines c

-- ---- before the first access

-- the shards of a machine, in order of their numbers
abbrev pub new_shards : Machine → MemoryImage → List ShardState
new_shards m image = map (λ number. new_shard m number image) (range_with_len 0 m.l2.banks)

-- memory as an executable was loaded, with no mark
abbrev pub new_memory : Machine → MemoryImage → MarkedMemory
new_memory m image = record {
  base = image.base;
  bytes = bytes_from image.segments image.base image.size;
  marks = replicate m.l2.banks (replicate m.cores None);
}

-- ---- entries

abbrev pub accesses_of : List Entry → List (ℕ × Request)
accesses_of entries = map (λ entry. (entry.core, entry.request)) entries

-- These entries are what the shards answer to their accesses one after the other, each the shard that keeps the line,
-- and these shards are left.
abbrev pub AreAnswered : (shards : List ShardState) → List Entry → (left : List ShardState) → Type 0
AreAnswered shards [] left = left ≡ shards
AreAnswered shards (entry ∷ entries) left =
    (s : ShardState) × KeepsLine shards (line_of entry.request) s × (entry.reply ≡ shard_reply s entry) × (entry.outcome ≡ met_by s entry)
    × AreAnswered (slice_set shards s.number (shard_after s entry)) entries left

-- ---- one reservation for each core

-- a core's mark in the shard of an address
abbrev pub mark_at : MarkedMemory → (core addr : ℕ) → Option Reservation
mark_at memory core addr = slice_index_or (slice_index_or memory.marks (bank_of_line (length memory.marks) (line_at addr)) []) core None

-- what a core with a pairing has reserved: these bytes, where they are marked in their shard
abbrev pub reserved_by : MarkedMemory → (core : ℕ) → (pairing : Option Pairing) → Option Reservation
reserved_by memory core None = None
reserved_by memory core (Some pairing) =
    if is_reservation (mark_at memory core pairing.addr) pairing.addr pairing.width
    then Some (record { addr = pairing.addr; width = pairing.width })
    else None

-- The flat memory for which the bytes and marks stand, where the cores have these pairings.
abbrev pub flat_for : MarkedMemory → (pairings : List (Option Pairing)) → MemoryState
flat_for memory pairings = record {
  base = memory.base;
  bytes = memory.bytes;
  reservations = map (λ core. reserved_by memory core (pairing_of pairings core)) (range_with_len 0 (length pairings));
}
