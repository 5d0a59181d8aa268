use Rattle.std.proofs.Common.{ap, ◌∙◌}
use Rattle.elf_load.specs.Image.{image_of}
use Rattle.elf_write.proofs.RoundTrip.{image_of-file_of, file_of-written, short_segments}
use Rattle.elf_write.proofs.writer.write.Goals as goal

pub write_table-requires-clause-short : goal.write_table-requires-clause-short
write_table-requires-clause-short c =
    let image = c.args.image.now in
    rw c.segments-segments.ensures (λ k d l. short_segments image.segments image.base image.size k d c.base.ensures.sound.reach c.base.ensures.sound.placed l)

pub returns-clause-layout : goal.returns-clause-layout
returns-clause-layout c =
    file_of-written c.args.image.now c.entry.result c.segments-segments.result.now _ _ _ _ c.entry.ensures c.segments-segments.ensures c.new-out.ensures.items
    c.in_ok-write_header.ensures c.in_ok-write_table.ensures (c.of.ensures ∙ c.in_ok-write_contents.ensures)

pub returns-clause-read_again : goal.returns-clause-read_again
returns-clause-read_again c =
    let image = c.args.image.now in
    ap (λ file. image_of file image.base image.size) (returns-clause-layout c) ∙ image_of-file_of image c.base.ensures.sound
