-- What homes and L1s stand for: a shard for each bank.
use Rattle.std.specs.Prelude.{ℕ, ◌+◌, ◌*◌, ◌/◌, nat_lt, if◌then◌else◌, List, [], ◌∷◌, length, map, slice_index_or, slice_set}
use Rattle.std.specs.List.{flat_map, range_with_len}
use Rattle.zs_num.specs.Request.{bank_of}
use Rattle.zs_num.specs.declared.entry.Outcome.{Outcome}
use Rattle.zs_num.specs.declared.request.Request.{Request}
use Rattle.cache_set.specs.declared.letter.Letter.{Letter}
use Rattle.shard.specs.Coherence.{Caches}
use Rattle.home.specs.HomeState.{HomeState, bytes_at}
use Rattle.l1_cache.specs.L1State.{Copy, L1State, copies_at, copy_at, instructions_at, newer_bytes, no_l1}
use Rattle.shard.specs.Served.{ShardState}
use Rattle.home.specs.FirstBytes.{lines_below, lines_kept}
use Rattle.shard.specs.SharedStep.{Bank, bank_after, bank_reply, l1_of, met_at_bank}

-- ---- the lists of one bank

-- how many sets of an L1 are of one of so many shards
abbrev pub sets_of_shard : (shards : ℕ) → (sets l1_shards : ℕ) → ℕ
sets_of_shard shards sets l1_shards = sets * l1_shards / shards

-- What an L1 has of the lines of one shard: of all sets those with its lines. Where it has no others, it is that itself.
abbrev pub part_of : (shards number : ℕ) → L1State → L1State
part_of shards number l1 = record l1 {
  shards = shards;
  sets = map (λ k. copies_at l1 (k * shards + number)) (range_with_len 0 (sets_of_shard shards (length l1.sets) l1.shards));
  l1i = map (λ k. instructions_at l1 (k * shards + number)) (range_with_len 0 (sets_of_shard shards (length l1.l1i) l1.shards));
}

abbrev pub letters_in : List (ℕ × Copy) → List (ℕ × Letter)
letters_in copies = map (λ way. (way.0, way.1.letter)) copies

abbrev pub sets_seen : HomeState → L1State → List (List (ℕ × Letter))
sets_seen home l1 = map letters_in (part_of home.shards home.number l1).sets

-- a machine without instruction caches has no list of them
abbrev pub instructions_seen : HomeState → List L1State → List (List (List (ℕ × Unit {0})))
instructions_seen home l1s =
    if nat_lt 0 (length (slice_index_or l1s 0 no_l1).l1i) then map (λ l1. (part_of home.shards home.number l1).l1i) l1s else []

unfoldable pub caches_seen : Bank → Caches
caches_seen p = record {
  shards = p.home.shards;
  l1_ways = (l1_of p 0).ways;
  l1i_ways = (l1_of p 0).l1i_ways;
  l2_ways = p.home.ways;
  l1 = map (sets_seen p.home) p.l1s;
  l1i = instructions_seen p.home p.l1s;
  l2 = map (λ rows. map (λ way. (way.0, way.1.dirty)) rows) p.home.sets;
}

-- ---- its bytes

-- the bytes of a line, where its home has these: those of the L1 that has the line in M, if one has
abbrev pub newest_in : (line : ℕ) → (at_home : List ℕ) → List L1State → List ℕ
newest_in line at_home [] = at_home
newest_in line at_home (l1 ∷ l1s) = newest_in line (newer_bytes (copy_at l1 line) at_home) l1s

-- the bank's lines that memory has, in order of their numbers
abbrev pub lines_of : HomeState → List ℕ
lines_of home = map (λ k. (lines_below home.shards home.base + k) * home.shards + home.number) (range_with_len 0 (lines_kept home.shards home.base home.size))

unfoldable pub bytes_seen : Bank → List ℕ
bytes_seen p = flat_map (λ line. newest_in line (bytes_at p.home line) p.l1s) (lines_of p.home)

-- ---- the shard

unfoldable pub shard_seen : Bank → (last : ℕ) → ShardState
shard_seen p last = record {
  number = p.home.number;
  base = p.home.base;
  size = p.home.size;
  caches = caches_seen p;
  bytes = bytes_seen p;
  marks = p.home.marks;
  last = last;
}

-- ---- all homes and L1s of a machine

pub record PartsState : Type 0 where
  -- in order of their banks
  pub homes : List HomeState
  -- in order of the cores
  pub l1s : List L1State
  -- the stamp of the latest access, by bank
  pub lasts : List ℕ

abbrev pub no_home : HomeState
no_home = record { number = 0; shards = 1; base = 0; size = 0; ways = 0; sets = []; bytes = []; marks = [] }

abbrev pub bank_at : PartsState → (bank : ℕ) → Bank
bank_at w bank = record { home = slice_index_or w.homes bank no_home; l1s = w.l1s }

unfoldable pub shards_seen : PartsState → List ShardState
shards_seen w = map (λ bank. shard_seen (bank_at w bank) (slice_index_or w.lasts bank 0)) (range_with_len 0 (length w.homes))

abbrev pub with_bank : (bank : ℕ) → Bank → (last : ℕ) → PartsState → PartsState
with_bank bank p last w = record w { homes = slice_set w.homes bank p.home; l1s = p.l1s; lasts = slice_set w.lasts bank last }

-- after an access that got this stamp
unfoldable pub parts_after : PartsState → (core stamp : ℕ) → Request → PartsState
parts_after w core stamp request = let bank = bank_of (length w.homes) request in with_bank bank (bank_after (bank_at w bank) core request) stamp w

unfoldable pub parts_reply : PartsState → (core : ℕ) → Request → ℕ
parts_reply w core request = bank_reply (bank_at w (bank_of (length w.homes) request)) core request

unfoldable pub parts_met : PartsState → (core : ℕ) → Request → Outcome
parts_met w core request = met_at_bank (bank_at w (bank_of (length w.homes) request)) core request
