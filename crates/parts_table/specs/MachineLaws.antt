-- The laws of a machine's homes and L1s, on which the table rests.
use Rattle.shard.specs.Laws.{StillServes}
use Rattle.shard.specs.PartsLaws.{OtherBank, OwnBank, PrivateIsOfOneL1, RunsAreOfShards}
use Rattle.shard.specs.Touched.{OnlyTouchedCount}

pub record MachineLaws : Type 0 where
  pub only : OnlyTouchedCount
  pub hits : PrivateIsOfOneL1
  pub runs : RunsAreOfShards
  pub own : OwnBank
  pub other : OtherBank
  pub serves : StillServes
