-- That the turns of an interval may be taken in any order, and are as good as those of the machine of one thread in
-- recorded order.
use Rattle.std.specs.Prelude.{◌≡◌, ℕ, ◌<◌, List, length, map, All, Ok}
use Rattle.std.specs.List.{fold}
use Rattle.zs_num.specs.declared.entry.Entry.{Entry}
use Rattle.zs_num.specs.declared.request.Request.{Request}
use Rattle.elf_load.specs.MemoryImage.{MemoryImage}
use Rattle.shard.specs.Served.{ShardState}
use Rattle.access_log.specs.RecordedOrder.{recorded_order}
use Rattle.reference.specs.History.{AreTurnsOf, IsHistory, after_history, after_turn, begun_over_shards}
use Rattle.reference.specs.Reaching.{Reaches}
use Rattle.reference.specs.ReferenceMachine.{BoundState, bound_phase}
use Rattle.reference.specs.ShardWorld.{ShardWorld, shards_serve}
use Rattle.reference.specs.TimedCore.{TimedCore, ran_to}
use Rattle.reference.specs.Turn.{IsOver, TurnsToEnd}

module _ (time : Entry → ℕ) (image : MemoryImage) (end : ℕ) where
  -- A history is a bound phase: the schedule of its entries' cores is legal, and gives the same entries.
  abbrev pub HistoriesArePhases : Type 0
  HistoriesArePhases = (cores : List TimedCore) (shards : List ShardState) (entries : List Entry) → IsHistory time image end cores shards entries
      → bound_phase shards_serve time image end (map (λ e. e.core) entries) (begun_over_shards cores shards) ≡ Ok (after_history time image end cores shards entries)

  -- Every bound phase is one of a history, and its schedule is that of the entries' cores.
  abbrev pub PhasesAreHistories : Type 0
  PhasesAreHistories = (cores : List TimedCore) (shards : List ShardState) (numbers : List ℕ) (s : BoundState ShardWorld)
      → 0 < length shards → All (λ shard. shard.last ≡ 0) shards → bound_phase shards_serve time image end numbers (begun_over_shards cores shards) ≡ Ok s
      → IsHistory time image end cores shards s.entries
      × (numbers ≡ map (λ e. e.core) s.entries)
      × (s ≡ after_history time image end cores shards s.entries)

  -- The entries in recorded order are a history too, and leave the same cores and shards.
  abbrev pub RecordedOrderIsHistory : Type 0
  RecordedOrderIsHistory = (cores : List TimedCore) (shards : List ShardState) (entries : List Entry) → IsHistory time image end cores shards entries
      → IsHistory time image end cores shards (recorded_order entries)
      × (after_history time image end cores shards (recorded_order entries)
      ≡ record (after_history time image end cores shards entries) { entries = recorded_order entries })

  -- Turns that were taken one after the other, by whomever and through whatever ports, make a history, once every core
  -- is over.
  abbrev pub TurnsMakeAHistory : Type 0
  TurnsMakeAHistory = (cores : List TimedCore) (shards : List ShardState) (numbers : List ℕ) (s : BoundState ShardWorld)
      → 0 < length shards → All (λ shard. shard.last ≡ 0) shards
      → Reaches shards_serve time image end (begun_over_shards cores shards) numbers s → All (IsOver end) s.cores
      → IsHistory time image end cores shards s.entries
      × (numbers ≡ map (λ e. e.core) s.entries)
      × (s ≡ after_history time image end cores shards s.entries)

module _ {Port : Type 0} (gives : Port → (start : ℕ) → Request → Entry → Port → Type 0) where
  -- the port's entries say what was asked, and when
  abbrev pub AnswersWhatWasAsked : Type 0
  AnswersWhatWasAsked = (port port_after : Port) (start : ℕ) (request : Request) (e : Entry) → gives port start request e port_after
      → (e.request ≡ request) × (e.start ≡ start)

  -- The turns of a core through a port up to the end of its interval are its own part of a history.
  abbrev pub TurnsAreTheCoresOwn : Type 0
  TurnsAreTheCoresOwn = AnswersWhatWasAsked
      → (time : Entry → ℕ) (image : MemoryImage) (end : ℕ) (port port_after : Port) (before after : TimedCore) (entries : List Entry)
      → TurnsToEnd time image end gives entries port port_after before after
      → AreTurnsOf time image end before entries × (after ≡ ran_to image end (fold (after_turn time image end) before entries))
