-- What the accesses of all cores through a table come to: one memory and one machine's caches serve them, one after the
-- other.
use Rattle.std.specs.Prelude.{◌≡◌, ◌≢◌, ℕ, ◌%◌, ◌^◌, List, ◌∷◌, ◌++◌, All, length, map, Option, IsTrue}
use Rattle.zs_num.specs.PairedRight.{AreAllPairedRight, pairings_after_all}
use Rattle.zs_num.specs.Request.{line_of, line_at}
use Rattle.zs_num.specs.declared.entry.Entry.{Entry}
use Rattle.zs_num.specs.declared.pairing.Pairing.{Pairing}
use Rattle.zs_num.specs.declared.request.Request.TheVariants.{Load, Store}
use Rattle.shard.specs.Coherence.{Caches}
use Rattle.shard.specs.Accesses.{caches_after_all, outcomes_of}
use Rattle.shard.specs.Laws.{flat_after_all, flat_replies, has_written, marked_after_all, marked_replies}
use Rattle.shard.specs.Marks.{MarkedMemory}
use Rattle.shard.specs.Served.{ShardState}
use Rattle.shard.specs.StandsFor.{AreAnswered, StandFor, accesses_of, flat_for}
use Rattle.shard_table.specs.Access.{AreWhole, SeatState, TableState}

-- What a closed table promises of its shards one by one, it promises of all together: they answered the entries one
-- after the other, each the shard that keeps the line, and these shards are left.
abbrev pub WholeIsAnswered : Type 0
WholeIsAnswered = (t : TableState) (entries : List Entry) (seats : List SeatState) (left : List ShardState)
    → AreWhole t entries seats left → AreAnswered t.shards entries left

-- One memory with marks, and the caches of one machine, give these entries their replies and their outcomes, one after
-- the other, and these shards stand for what is left of both.
pub record AreOfOneMachine (memory : MarkedMemory) (c : Caches) (entries : List Entry) (left : List ShardState) : Type 0 where
  pub replies : map (λ e. e.reply) entries ≡ marked_replies memory (accesses_of entries)
  pub outcomes : map (λ e. e.outcome) entries ≡ outcomes_of c (accesses_of entries)
  pub stand : StandFor left (marked_after_all memory (accesses_of entries)) (caches_after_all c (accesses_of entries))
  -- The replies are those of flat memory with one reservation for each core, where each store-conditional says rightly
  -- whether it is paired.
  pub flat : (pairings : List (Option Pairing)) → length pairings ≡ length c.l1 → AreAllPairedRight pairings (accesses_of entries)
      → (map (λ e. e.reply) entries ≡ flat_replies (flat_for memory pairings) (accesses_of entries))
      × (flat_for (marked_after_all memory (accesses_of entries)) (pairings_after_all pairings (accesses_of entries)) ≡ flat_after_all (flat_for memory pairings) (accesses_of entries))

-- So it is where the table's shards stood for a memory and caches before the first access.
abbrev pub WholeIsOfOneMachine : Type 0
WholeIsOfOneMachine = (t : TableState) (entries : List Entry) (seats : List SeatState) (left : List ShardState) (memory : MarkedMemory) (c : Caches)
    → AreWhole t entries seats left → StandFor t.shards memory c → AreOfOneMachine memory c entries left

-- In recorded order, a load of what a store wrote gives the low bytes of the number, where no access between wrote to
-- the line, whichever cores accessed.
abbrev pub WholeReadsAfterWrites : Type 0
WholeReadsAfterWrites = (t : TableState) (seats : List SeatState) (left : List ShardState) (memory : MarkedMemory) (c : Caches) (before between later : List Entry) (store load : Entry) (addr width value : ℕ)
    → AreWhole t (before ++ (store ∷ (between ++ (load ∷ later)))) seats left → StandFor t.shards memory c
    → store.request ≡ Store width addr value → load.request ≡ Load width addr
    → All (λ e. IsTrue (has_written e.request e.reply) → line_of e.request ≢ line_at addr) between
    → load.reply ≡ value % 256 ^ width
