use Rattle.std.proofs.Common.{◌++◌, ◌+◌, ◌∙◌, ℕ, List, length, drop, refl, sym, ap, arith}
use Rattle.elf_load.specs.declared.segment.Segment.{Segment}
use Rattle.elf_write.specs.File.{fields_bytes, program_header_fields, table_bytes}
use Rattle.elf_write.proofs.Appended.{all_appended, from_item, piece_appended}
use Rattle.elf_write.proofs.writer.write_table.Goals as goal

pub loop-segment-preserved : goal.loop-segment-preserved
loop-segment-preserved c =
    let segments = c.args.segments.now in
    let i = c.loop-segment.segment-index in
    let offset = c.loop-segment.offset in
    let segment = c.segment-item.result in
    let header = fields_bytes (program_header_fields segment offset) in
    let written = c.in_ok-write_fields.ensures ∙ ap (λ fields. c.loop-segment.out.items ++ fields_bytes fields) c.program_header_fields.ensures in
    let next = ap (λ (from : List Segment). table_bytes from offset) (from_item segments i segment c.loop-segment-test.true c.segment-item.is) in
    let behind = ap (λ (bytes : List ℕ). header ++ table_bytes (drop (i + 1) segments) (offset + length bytes)) (sym c.as_slice.ensures) in
    let short = c.requires.short i segment c.loop-segment-test.true in
    let same = ap (λ (s : Segment). length s.bytes) c.segment-item.is in
    let appended = piece_appended _ _ _ _ _ _ written (next ∙ behind) c.loop-segment.invariant.0 in
    (appended, omega (arith, c.loop-segment.invariant.1, short, same, ap length c.as_slice.ensures))

pub returns : goal.returns
returns c =
    let bytes_of = λ (segments : List Segment). table_bytes segments c.loop-segment.offset in
    all_appended bytes_of c.args.segments.now c.loop-segment.segment-index _ _ refl c.loop-segment-test.false c.loop-segment.invariant.0
