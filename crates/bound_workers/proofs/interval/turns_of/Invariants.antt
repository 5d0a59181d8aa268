-- the accesses of the cores before this one
use Rattle.std.proofs.Common.{◌≡◌, ◌*◌, ◌^◌, ◌≤◌, length, sum_by, take}
use Rattle.bound_workers.proofs.interval.turns_of.Given as goal

abbrev pub invariant-loop-kept : goal.invariant-loop-kept
invariant-loop-kept l = record {
  count : l.count ≡ sum_by (λ k. length k.log.entries) (take l.kept-index l.records);
  small : l.count ≤ 2 ^ 32 * l.kept-index;
}
