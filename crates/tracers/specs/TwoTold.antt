-- Two tracers that are told the same steps.
use Rattle.std.specs.Prelude.{Bool}

-- They were told the same while they are whole: until one of them fails.
pub record TwoTold (A B : Type 0) : Type 0 where
  pub first : A
  pub second : B
  pub is_whole : Bool
