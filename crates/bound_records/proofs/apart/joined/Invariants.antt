-- the logs and records that are left, and behind them those that were joined, the last first
use Rattle.std.proofs.Common.{◌≡◌, ◌+◌, ◌≤◌, ◌++◌, All, length, map, reverse, vec_capacity, vec_len}
use Rattle.stats.specs.Counted.{no_core_count}
use Rattle.bound_records.proofs.apart.joined.Given as goal

abbrev pub decreases-loop-log : goal.decreases-loop-log
decreases-loop-log l = vec_len l.logs

abbrev pub invariant-loop-log : goal.invariant-loop-log
invariant-loop-log l = record {
  logs : l.logs.items ++ map (λ k. k.log) (reverse l.kept.items) ≡ l.fn.logs.items;
  records : l.records.items ++ map (λ k. k.records) (reverse l.kept.items) ≡ l.fn.records.items;
  same : length l.records.items ≡ length l.logs.items;
  room : length l.kept.items + length l.logs.items ≤ vec_capacity l.kept;
  counts : All (λ k. k.count ≡ no_core_count) l.kept.items;
}
