-- What a queue of ready events is seen as.
use Rattle.std.specs.Prelude.{ℕ, List}
use Rattle.zs_num.specs.declared.time.Key.{Key}

-- keys, and how many there is room for
pub record Keys : Type 0 where
  pub list : List Key
  pub room : ℕ
