-- the number of the events, and those so far
use Rattle.std.proofs.Common.{◌≡◌, ◌+◌, ◌*◌, ◌≤◌, ◌++◌, length, take, vec_len, vec_capacity}
use Rattle.std.specs.List.{flat_map}
use Rattle.byteorder.specs.Endian.{little_bytes}
use Rattle.certify.specs.EventsFile.{record_bytes, with_times}
use Rattle.certify.proofs.events_file.put_interval.Given as goal

abbrev pub invariant-loop-k : goal.invariant-loop-k
invariant-loop-k l = record {
  written : l.out.items ≡ (l.fn.out.items ++ little_bytes 4 (length l.events)) ++ flat_map record_bytes (take l.k (with_times l.events l.fired));
  len : vec_len l.out ≡ vec_len l.fn.out + (4 + 64 * l.k);
  room : vec_capacity l.fn.out ≤ vec_capacity l.out;
}
