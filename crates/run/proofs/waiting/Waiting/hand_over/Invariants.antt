-- the schedule has the first of the lists, and those that wait follow
use Rattle.std.proofs.Common.{All, ◌≡◌, ◌+◌, ◌<◌, ◌^◌, ◌++◌, length}
use Rattle.std.specs.Prelude.{IfSome}
use Rattle.access_record.specs.Unordered.{order_of}
use Rattle.run.specs.Waiting.{IsTurnList, lists_in}
use Rattle.run.proofs.waiting.Waiting.hand_over.Given as goal

abbrev pub invariant-loop-self : goal.invariant-loop-self
invariant-loop-self l = record {
  lists : l.schedule.lists ++ lists_in l.self ≡ l.fn.schedule.lists ++ lists_in l.fn.self;
  told : All (λ o. IfSome o.told (λ list. list.items ≡ order_of o.unordered)) l.self.orders.items;
  turns : All (IsTurnList l.fn.schedule.cores) (lists_in l.self);
  room : length l.schedule.lists + length (lists_in l.self) < 2 ^ 32;
  cores : l.schedule.cores ≡ l.fn.schedule.cores;
}

abbrev pub decreases-loop-self : goal.decreases-loop-self
decreases-loop-self l = length l.self.orders.items
