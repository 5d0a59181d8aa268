use Rattle.std.proofs.Common.{◌≡◌, ◌<◌, length, get_or, ap, ◌∙◌}
use Rattle.elf_load.proofs.Copies.{copied, zeros}
use Rattle.elf_load.proofs.image.Image.copy_to.Goals as goal

pub loop-segment-init : goal.loop-segment-init
loop-segment-init c = c.fill.ensures.after (λ y e. e) ∙ zeros c.args.addr (length c.args.out.now)

pub loop-segment-preserved : goal.loop-segment-preserved
loop-segment-preserved c =
    let image = c.args.self.now in
    let same = ap (λ i. i.segments) c.self.view_is in
    let items = c.deref-segment-items.ensures.value ∙ same in
    let segment = c.segment-item.result in
    let at : segment ≡ get_or image.segments c.loop-segment.segment-index segment = rw items at c.segment-item.is in
    let below : c.loop-segment.segment-index < length image.segments = rw items at c.loop-segment-test.true in
    copied c.self.inside.base c.self.inside.size image.segments c.loop-segment.segment-index segment c.args.addr (length c.args.out.now)
    c.loop-segment.out c.copy_segment.new.out (rw same at c.self.invariant.placed) (rw same at c.self.invariant.apart) below at
    c.loop-segment.invariant c.copy_segment.auto.out c.copy_segment.ensures
