-- How an L1 is laid out: its ways in arrays, one set after the other, and before these a table of ways that were met.
use Rattle.std.specs.Prelude.{◌≡◌, ◌⊎◌, ℕ, ◌+◌, ◌-◌, ◌*◌, ◌^◌, ◌<◌, ◌≤◌, ◌&&◌, true, false, List, [], ◌∷◌, length, replicate, slice_index_or}
use Rattle.std.specs.Int.Bits.{bit_and}
use Rattle.cache_set.specs.declared.letter.Letter.TheVariants.{M, I}
use Rattle.cache_set.specs.LetterFacts.{is_modified}
use Rattle.cache_set.specs.Pieces.{sets_in}
use Rattle.cache_set.specs.Places.{AreTags, StandsAt, StandsNowhere, set_number_in}
use Rattle.l1_cache.specs.declared.near.Near.{Near}
use Rattle.l1_cache.specs.declared.near.Kept.{Kept}
use Rattle.l1_cache.specs.declared.data_ways.DataWays.{DataWays}
use Rattle.l1_cache.specs.declared.l1i.InstructionWays.{InstructionWays}
use Rattle.l1_cache.specs.L1State.{Copy, L1State}

-- ---- what the arrays stand for

abbrev pub copy_in : Kept → (bytes : List ℕ) → Copy
copy_in kept bytes = record { letter = kept.letter; free = kept.free; bytes = bytes }

abbrev pub copies_in : List Kept → (bytes : List (List ℕ)) → List Copy
copies_in [] bytes = []
copies_in (k ∷ kept) [] = []
copies_in (k ∷ kept) (b ∷ bytes) = copy_in k b ∷ copies_in kept bytes

-- nothing is kept of an instruction cache's lines
abbrev pub nothings_in : (ages : List ℕ) → List (Unit {0})
nothings_in ages = replicate (length ages) tt

-- ---- the table

-- the line of an entry that is of no way
abbrev pub no_line : ℕ
no_line = 2 ^ 64 - 1

abbrev pub no_near : Near
no_near = record { line = no_line; place = 0; writes = false }

abbrev pub no_kept : Kept
no_kept = record { letter = I; free = false }

abbrev pub to_write : Kept
to_write = record { letter = M; free = true }

-- the entry of a way that has the line, of which this is kept
abbrev pub near_of : (line place : ℕ) → Kept → Near
near_of line place kept = record { line = line; place = place; writes = kept.free && is_modified kept.letter }

-- an entry is of the way that has its line, and where it says so that way is M and free to write
pub record IsOfWay (shards sets ways : ℕ) (ages tags : List ℕ) (kept : List Kept) (near : Near) : Type 0 where
  pub stands : StandsAt ways ages tags (set_number_in shards sets near.line) near.line near.place
  pub writes : near.writes ≡ true → slice_index_or kept near.place no_kept ≡ to_write

abbrev pub IsNearAt : (shards sets ways : ℕ) → (ages tags : List ℕ) → (kept : List Kept) → (mask i : ℕ) → Near → Type 0
IsNearAt shards sets ways ages tags kept mask i near =
    (near.line ≡ no_line) ⊎ (IsOfWay shards sets ways ages tags kept near × (bit_and near.line mask ≡ i))

pub record AreNear (shards sets ways : ℕ) (ages tags : List ℕ) (kept : List Kept) (mask : ℕ) (entries : List Near) : Type 0 where
  pub count : length entries ≡ mask + 1
  pub each : (i : ℕ) → i < length entries → IsNearAt shards sets ways ages tags kept mask i (slice_index_or entries i no_near)

-- ---- an L1

pub record AreDataWays (w : DataWays) : Type 0 where
  pub shards_are : (0 < w.shards) × (w.shards < 2 ^ 16)
  pub sets_are : (0 < w.tags.sets) × (w.tags.sets ≤ 65536)
  pub tags : AreTags w.tags.sets w.tags.ways w.tags.tick w.tags.ages.items w.tags.tags.items
  pub kept_are : length w.kept.items ≡ w.tags.sets * w.tags.ways
  pub mask_is : w.mask < 2 ^ 32
  pub near : AreNear w.shards w.tags.sets w.tags.ways w.tags.ages.items w.tags.tags.items w.kept.items w.mask w.near.items

-- the set of a line
abbrev pub set_for : DataWays → (line : ℕ) → ℕ
set_for w line = set_number_in w.shards w.tags.sets line

abbrev pub HasAt : DataWays → (line place : ℕ) → Type 0
HasAt w line place = StandsAt w.tags.ways w.tags.ages.items w.tags.tags.items (set_for w line) line place

abbrev pub HasNowhere : DataWays → (line : ℕ) → Type 0
HasNowhere w line = StandsNowhere w.tags.ways w.tags.ages.items w.tags.tags.items (set_for w line) line

-- The instruction cache, if there is one. Nothing is kept of its lines.
pub record AreInstructionWays (shards : ℕ) (i : InstructionWays) : Type 0 where
  pub few_sets : i.tags.sets ≤ 65536
  pub tags : AreTags i.tags.sets i.tags.ways i.tags.tick i.tags.ages.items i.tags.tags.items
  pub mask_is : i.mask < 2 ^ 32
  pub near : AreNear shards i.tags.sets i.tags.ways i.tags.ages.items i.tags.tags.items [] i.mask i.near.items

abbrev pub HasInstructionsAt : (shards : ℕ) → InstructionWays → (line place : ℕ) → Type 0
HasInstructionsAt shards i line place = StandsAt i.tags.ways i.tags.ages.items i.tags.tags.items (set_number_in shards i.tags.sets line) line place

abbrev pub HasInstructionsNowhere : (shards : ℕ) → InstructionWays → (line : ℕ) → Type 0
HasInstructionsNowhere shards i line =
    (i.tags.sets ≡ 0) ⊎ ((0 < i.tags.sets) × StandsNowhere i.tags.ways i.tags.ages.items i.tags.tags.items (set_number_in shards i.tags.sets line) line)

-- all of an L1: the data cache with the bytes of its ways, and the instruction cache
pub record AreParts (w : DataWays) (bytes : List (List ℕ)) (l1i : InstructionWays) : Type 0 where
  pub ways : AreDataWays w
  pub bytes_are : length bytes ≡ w.tags.sets * w.tags.ways
  pub instructions : AreInstructionWays w.shards l1i

abbrev pub l1_view : DataWays → (bytes : List (List ℕ)) → (l1i : InstructionWays) → L1State
l1_view w bytes l1i = record {
  shards = w.shards;
  ways = w.tags.ways;
  l1i_ways = l1i.tags.ways;
  sets = sets_in w.tags.sets w.tags.ways w.tags.ages.items w.tags.tags.items (copies_in w.kept.items bytes);
  l1i = sets_in l1i.tags.sets l1i.tags.ways l1i.tags.ages.items l1i.tags.tags.items (nothings_in l1i.tags.ages.items);
}
