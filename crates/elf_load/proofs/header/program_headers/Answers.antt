use Rattle.std.proofs.Common.{◌≡◌, ◌-◌, arith, sym, ◌∙◌}
use Rattle.std.proofs.lemmas.List.{append-nil}
use Rattle.std.proofs.lemmas.Grind.{common_steps}
use Rattle.elf_load.specs.Header.{program_headers}
use Rattle.elf_load.proofs.Table.{header_room, headers_from-next}
use Rattle.elf_load.proofs.header.program_headers.Goals as goal

pub overflow_add-at : goal.overflow_add-at
overflow_add-at c = omega (arith, header_room c.args.header.now _ c.loop-i.i c.requires c.loop-i-test.true)

pub read-requires : goal.read-requires
read-requires c = header_room c.args.header.now _ c.loop-i.i c.requires c.loop-i-test.true

pub loop-i-preserved : goal.loop-i-preserved
loop-i-preserved c =
    let next = headers_from-next c.args.file.now c.args.header.now.phoff c.args.header.now.phnum c.loop-i.i c.loop-i-test.true in
    grind (arith, common_steps, next)

pub returns : goal.returns
unfolding program_headers
returns c =
    let end : c.args.header.now.phnum - c.loop-i.i ≡ 0 = omega arith in
    sym (append-nil c.loop-i.headers.items) ∙ (rw end at c.loop-i.invariant)
