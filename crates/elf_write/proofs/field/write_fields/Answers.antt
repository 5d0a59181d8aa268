use Rattle.std.proofs.Common.{refl, ap}
use Rattle.std.proofs.lemmas.List.{drop_more}
use Rattle.elf_write.specs.File.{fields_bytes}
use Rattle.elf_write.proofs.Appended.{all_appended, piece_appended}
use Rattle.elf_write.proofs.field.write_fields.Goals as goal

pub loop-field-preserved : goal.loop-field-preserved
loop-field-preserved c =
    let next = ap fields_bytes (drop_more c.args.fields.now c.loop-field.field-index _ c.loop-field-test.true) in
    piece_appended _ _ _ _ _ _ c.in_ok-write_field.ensures next c.loop-field.invariant

pub returns : goal.returns
returns c = all_appended fields_bytes c.args.fields.now c.loop-field.field-index _ _ refl c.loop-field-test.false c.loop-field.invariant
