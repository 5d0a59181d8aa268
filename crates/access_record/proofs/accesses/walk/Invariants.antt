-- the accesses so far were met, and those that make events were listed
use Rattle.std.proofs.Common.{drop}
use Rattle.access_log.specs.RecordedOrder.{recorded_order}
use Rattle.access_record.specs.RecordedAccesses.{IsWalking}
use Rattle.access_record.specs.Turns.{taken_of}
use Rattle.access_record.proofs.accesses.walk.Given as goal

abbrev pub invariant-loop-core : goal.invariant-loop-core
invariant-loop-core l =
    IsWalking l.begin l.base (recorded_order (taken_of l.turns l.logs)) l.logs l.records l.initial.list.items (drop l.core-index (recorded_order (taken_of l.turns l.logs))) l.met l.taken l.list.items
