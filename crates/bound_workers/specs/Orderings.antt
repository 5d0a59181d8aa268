-- Recorded orders that workers tell.
use Rattle.std.specs.Prelude.{◌≡◌, IfSome}
use Rattle.access_record.specs.Unordered.{order_of}
use Rattle.bound_workers.specs.declared.ordering.Ordering.{Ordering}

-- It is of the same accesses, and its order, where there is one, is theirs.
pub record HasOrdered (before after : Ordering) : Type 0 where
  pub same : after.unordered ≡ before.unordered
  pub order : IfSome after.told (λ list. list.items ≡ order_of before.unordered)
