-- what is left, and behind it what was taken in, the last first
use Rattle.std.proofs.Common.{◌≡◌, ◌+◌, ◌≤◌, ◌++◌, length, map, reverse, vec_capacity, vec_len}
use Rattle.bound_records.proofs.apart.Split.fill.Given as goal

abbrev pub decreases-loop-record : goal.decreases-loop-record
decreases-loop-record l = vec_len l.kept

abbrev pub invariant-loop-record : goal.invariant-loop-record
invariant-loop-record l = record {
  logs : map (λ k. k.log) l.kept.items ++ reverse l.self.logs.items ≡ map (λ k. k.log) l.fn.kept.items;
  records : map (λ k. k.records) l.kept.items ++ reverse l.self.records.items ≡ map (λ k. k.records) l.fn.kept.items;
  counts : map (λ k. k.count) l.kept.items ++ reverse l.self.counts.items ≡ map (λ k. k.count) l.fn.kept.items;
  room : length l.self.logs.items + length l.kept.items ≤ vec_capacity l.self.logs;
  records_room : length l.self.records.items + length l.kept.items ≤ vec_capacity l.self.records;
  counts_room : length l.self.counts.items + length l.kept.items ≤ vec_capacity l.self.counts;
}
