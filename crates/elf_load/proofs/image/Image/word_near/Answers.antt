use Rattle.std.proofs.Common.{◌≡◌, ◌<◌, ◌&&◌, true, length, get_or, Some, ap, sym, ◌∙◌}
use Rattle.elf_load.specs.MemoryImage.{covers, fetched_word}
use Rattle.elf_load.proofs.Fetch.{fetched_near}
use Rattle.elf_load.proofs.image.Image.word_near.Goals as goal

pub returns-then-has_word : goal.returns-then-has_word
returns-then-has_word c =
    let segment = c.in-Some.segment.now in
    let here : segment ≡ get_or c.self.inside.segments.items c.args.near.now segment = rw c.deref.ensures.value at c.in-Some.ensures.lookup.1 in
    let below : c.args.near.now < length c.self.inside.segments.items = rw c.deref.ensures.value at c.in-Some.ensures.lookup.3.0 in
    let hit : (segment.exec && covers segment c.args.pc 4) ≡ true = sym c.has_word.ensures ∙ c.if-has_word.true in
    let found = fetched_near c.self.inside.segments.items c.args.pc c.args.near.now segment c.self.invariant.apart below here hit in
    ap Some c.word_in.ensures ∙ sym found ∙ ap (λ v. fetched_word v.segments c.args.pc) c.self.view_is
