-- what is written, and what is left; and the bytes so far are few enough for their number
use Rattle.std.proofs.Common.{◌≡◌, ◌≤◌, ◌+◌, ◌*◌, ◌^◌, ◌++◌, drop, length}
use Rattle.elf_write.specs.File.{table_bytes}
use Rattle.elf_write.proofs.writer.write_table.Given as goal

abbrev pub invariant-loop-segment : goal.invariant-loop-segment
invariant-loop-segment l =
    (l.out.items ++ table_bytes (drop l.segment-index l.segments) l.offset ≡ l.initial.out.items ++ table_bytes l.segments (64 + 56 * length l.segments))
    × (l.offset ≤ 7232 + 2 ^ 48 * l.segment-index)
