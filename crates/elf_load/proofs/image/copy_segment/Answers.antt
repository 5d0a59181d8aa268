use Rattle.std.proofs.Common.{◌≡◌, ◌+◌, ◌-◌, ◌<◌, length, arith}
use Rattle.elf_load.proofs.Copies.{written}
use Rattle.elf_load.proofs.image.copy_segment.Goals as goal

pub returns-then-start-out : goal.returns-then-start-out
returns-then-start-out c i l =
    let segment = c.args.segment.now in
    let skipped = c.saturating_sub-before.result in
    let start = c.saturating_sub-start.result in
    let count = c.min-count.result in
    let bytes = c.as_slice-bytes.ensures in
    let copied : skipped + count - skipped ≡ count = omega arith in
    let replaced : start + count - start ≡ count = omega arith in
    let some : skipped < length segment.bytes = rw bytes at c.if-before-bytes.true in
    rw (c.copy_from_slice.ensures.after, copied, replaced, bytes)
    (written segment c.args.addr c.args.out.now skipped start count i c.saturating_sub-before.ensures c.saturating_sub-start.ensures some
    c.if-start-out.true (rw bytes at c.min-count.ensures) l)
