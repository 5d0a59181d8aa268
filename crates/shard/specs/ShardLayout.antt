-- What the code of a shard keeps. It serves private contracts alone.
use Rattle.std.specs.Prelude.{◌≡◌, ℕ}
use Rattle.shard.specs.PartsLaws.{AreParts}
use Rattle.shard.specs.SharedStep.{Bank}

-- the number of the shard, how many shards there are, and its home with the cores' L1s
pub record IsShardLayout (number count : ℕ) (p : Bank) : Type 0 where
  pub number_is : number ≡ p.home.number
  pub count_is : count ≡ p.home.shards
  pub parts : AreParts p
