-- A shard, and what it does with an access. All is said by functions of the shard and the recorded entry, so that a
-- list of entries is at once the list of requests, of replies and of stamps.
use Rattle.std.specs.Prelude.{◌≡◌, ℕ, ◌+◌, ◌-◌, ◌*◌, ◌/◌, ◌%◌, ◌<◌, List, [], ◌∷◌, length, max, replicate, slice_index_or, Option, None}
use Rattle.zs_num.specs.Request.{addr_of, bank_of_line, line_at, line_bytes, line_of}
use Rattle.zs_num.specs.Servable.{IsServable}
use Rattle.zs_num.specs.declared.entry.Entry.{Entry}
use Rattle.zs_num.specs.declared.entry.Outcome.{Outcome}
use Rattle.zs_num.specs.declared.request.Request.{Request}
use Rattle.elf_load.specs.MemoryImage.{MemoryImage}
use Rattle.machine_desc.specs.declared.machine.Machine.{Machine}
use Rattle.machine_desc.specs.InstructionCaches.{fetchers_of, l1i_sets_of, l1i_ways_of}
use Rattle.flat_memory.specs.declared.reservation.Reservation.{Reservation}
use Rattle.home.specs.FirstBytes.{lines_below, first_bytes}
use Rattle.shard.specs.Coherence.{Caches, caches_after, empty_caches, outcome_of}
use Rattle.shard.specs.HaveL1i.{have_l1i}
use Rattle.shard.specs.Marks.{bytes_after, marks_after, reply_from}

pub record ShardState : Type 0 where
  pub number : ℕ
  -- where memory lies, in bytes
  pub base : ℕ
  pub size : ℕ
  -- the lists of the sets with this shard's lines
  pub caches : Caches
  -- the bytes of the shard's lines, in order of their numbers
  pub bytes : List ℕ
  -- by core, the mark of its latest load-reserved here
  pub marks : List (Option Reservation)
  -- the stamp of the latest access
  pub last : ℕ

-- where a byte of the shard stands among its bytes
abbrev pub place_of : (shards base addr : ℕ) → ℕ
place_of shards base addr = line_bytes * (line_at addr / shards - lines_below shards base) + addr % line_bytes

-- what a shard can be asked: an access to a line of its own that the machine can be asked
unfoldable pub CanServe : ShardState → Request → Type 0
CanServe shard request =
    IsServable shard.base shard.size (have_l1i shard.caches) request × (bank_of_line shard.caches.shards (line_of request) ≡ shard.number)

-- a core that the shard knows
abbrev pub KnowsCore : ShardState → (core : ℕ) → Type 0
KnowsCore shard core = core < length shard.marks

unfoldable pub shard_reply : ShardState → Entry → ℕ
shard_reply shard entry =
    reply_from shard.bytes (place_of shard.caches.shards shard.base (addr_of entry.request)) shard.marks entry.core entry.request

unfoldable pub met_by : ShardState → Entry → Outcome
met_by shard entry = outcome_of shard.caches entry.core entry.request

-- the shard after the access of an entry
unfoldable pub shard_after : ShardState → Entry → ShardState
shard_after shard entry = record shard {
  caches = caches_after shard.caches entry.core entry.request;
  bytes = bytes_after shard.bytes (place_of shard.caches.shards shard.base (addr_of entry.request)) shard.marks entry.core entry.request;
  marks = marks_after shard.marks entry.core entry.request;
  last = entry.stamp;
}

-- The entry that a shard answers to an access of a core, whose own latest stamp was `last`: the reply and the outcome
-- are those of the shard, and the stamp is past the latest of both (L. Lamport, "Time, Clocks, and the Ordering of
-- Events in a Distributed System", 1978).
pub record IsServedBy (shard : ShardState) (core start last : ℕ) (request : Request) (entry : Entry) : Type 0 where
  pub core_is : entry.core ≡ core
  pub start_is : entry.start ≡ start
  pub request_is : entry.request ≡ request
  pub reply : entry.reply ≡ shard_reply shard entry
  pub outcome : entry.outcome ≡ met_by shard entry
  pub stamp : entry.stamp ≡ max shard.last last + 1

-- the shard gives these entries their replies and their outcomes, one after the other
abbrev pub AreServedBy : ShardState → List Entry → Type 0
AreServedBy shard [] = Unit {0}
AreServedBy shard (e ∷ entries) = (e.reply ≡ shard_reply shard e) × (e.outcome ≡ met_by shard e) × AreServedBy (shard_after shard e) entries

-- a shard whose latest stamp is another
abbrev pub resumed : ShardState → (last : ℕ) → ShardState
resumed shard last = record shard { last = last }

-- ---- shards in order of their numbers

-- it stands where there is no shard
abbrev pub no_shard : ShardState
no_shard = record { number = 0; base = 0; size = 0; caches = empty_caches 0 0 0 0 0 0 0 0 0; bytes = []; marks = []; last = 0 }

-- the shard that keeps a line: that of its bank
abbrev pub shard_of_line : List ShardState → (line : ℕ) → ShardState
shard_of_line shards line = slice_index_or shards (bank_of_line (length shards) line) no_shard

-- that of a request's line
abbrev pub shard_for : List ShardState → Request → ShardState
shard_for shards request = shard_of_line shards (line_of request)

-- ---- before the first access

-- the caches of one shard's lines, empty
abbrev pub new_caches_of_shard : Machine → Caches
new_caches_of_shard m = empty_caches m.cores m.l2.banks (m.l1.sets / m.l2.banks) m.l1.ways
    (fetchers_of m) (l1i_sets_of m / m.l2.banks) (l1i_ways_of m) (m.l2.sets / m.l2.banks) m.l2.ways

abbrev pub new_shard : Machine → (number : ℕ) → MemoryImage → ShardState
new_shard m number image = record {
  number = number;
  base = image.base;
  size = image.size;
  caches = new_caches_of_shard m;
  bytes = first_bytes m.l2.banks number image;
  marks = replicate m.cores None;
  last = 0;
}
