-- Intervals whose recorded order is still to be told.
use Rattle.std.specs.Prelude.{◌≡◌, ℕ, ◌<◌, ◌^◌, List, ◌++◌, length, map}
use Rattle.std.specs.List.{All}
use Rattle.access_record.specs.Unordered.{order_of}
use Rattle.run.specs.declared.waiting.Order.{Order}
use Rattle.run.specs.declared.waiting.Order.TheVariants.{Told, Untold}
use Rattle.run.specs.declared.waiting.Waiting.{Waiting}

-- the cores of the accesses in recorded order, be it told or not
abbrev pub turns_in : Order → List ℕ
turns_in (Told list) = list.items
turns_in (Untold accesses) = order_of accesses

-- those of all intervals that wait
abbrev pub lists_in : Waiting → List (List ℕ)
lists_in w = map (λ o. order_of o.unordered) w.orders.items

-- a list of turns names cores, and its length fits in 32 bits
pub record IsTurnList (cores : ℕ) (turns : List ℕ) : Type 0 where
  pub known : All (λ core. core < cores) turns
  pub short : length turns < 2 ^ 32

-- these lists are the first of those
pub record IsFirstPart (lists whole : List (List ℕ)) : Type 0 where
  pub rest : List (List ℕ)
  pub are : lists ++ rest ≡ whole
