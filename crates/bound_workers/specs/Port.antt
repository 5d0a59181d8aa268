-- What serves the accesses of a core at work, and keeps them.
use Rattle.std.specs.Prelude.{ℕ, ◌<◌, ◌≤◌, length}
use Rattle.bound_core.specs.ShardPort.{AreShardsOf}
use Rattle.bound_records.specs.declared.record_port.CoreRecord.{CoreRecord}
use Rattle.parts_table.specs.Access.{IsSeatOf, SeatState, TableState, opening_shards}
use Rattle.bound_workers.specs.Kept.{IsKeptAtWork}

pub record TablePortState : Type 0 where
  pub table : TableState
  -- where the machine's memory lies, and how large it is
  pub base : ℕ
  pub size : ℕ
  pub turn : SeatState
  pub kept : CoreRecord

-- the core works at the table, and what it makes there is kept
pub record IsAtTable (p : TablePortState) : Type 0 where
  pub of_table : IsSeatOf p.table p.turn
  pub room : length p.turn.made ≤ p.table.room
  pub shards : AreShardsOf p.table.cores (opening_shards p.table) p.base p.size
  pub core : p.turn.core < p.table.cores
  pub is_kept : IsKeptAtWork p.table p.turn p.kept.log p.kept.records p.kept.count
