use Rattle.std.proofs.Common.{◌++◌, ◌+◌, ◌∙◌, ℕ, List, drop, refl, sym, ap}
use Rattle.elf_write.specs.File.{contents}
use Rattle.elf_write.proofs.Appended.{all_appended, from_item, piece_appended}
use Rattle.elf_write.proofs.writer.write_contents.Goals as goal

pub loop-segment-preserved : goal.loop-segment-preserved
loop-segment-preserved c =
    let segments = c.args.segments.now in
    let i = c.loop-segment.segment-index in
    let next = ap contents (from_item segments i c.segment-item.result c.loop-segment-test.true c.segment-item.is) in
    let bytes = ap (λ (bytes : List ℕ). bytes ++ contents (drop (i + 1) segments)) (sym c.as_slice.ensures) in
    piece_appended _ _ _ _ _ _ c.in_ok-extend_from_slice.ensures.items (next ∙ bytes) c.loop-segment.invariant

pub returns : goal.returns
returns c = all_appended contents c.args.segments.now c.loop-segment.segment-index _ _ refl c.loop-segment-test.false c.loop-segment.invariant
