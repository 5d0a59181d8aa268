use Rattle.std.proofs.Common.{arith, refl, ◌+◌, ◌*◌}
use Rattle.rv_blocks.proofs.Steps.{walks_on}
use Rattle.rv_blocks.proofs.blocks.one_by_one.Goals as goal

pub perform-requires-clause-fit : goal.perform-requires-clause-fit
perform-requires-clause-fit c = c.requires.slots.fit c.next.ip c.slot_at-slot.result.now c.slot_at-slot.ensures

pub next-preserved-in-On : goal.next-preserved-in-On
next-preserved-in-On c =
    let was = c.next.invariant in
    record {
      within = c.in-On.ensures.continues.1;
      few = omega arith;
      ran = walks_on c.args._image.now c.args.first c.args.slots.now c.requires.slots c.next.ip c.slot_at-slot.result.now c.slot_at-slot.ensures
          c.args.line c.args.most c.next.left c.args.x.now c.next.x c.perform.new.x (c.args.first + 4 * c.args.place) (c.next.ip + 1) (omega arith) was.few was.ran (c.if-lies_in.ensures.yes refl) c.in-On.ensures.value;
    }

pub next-preserved : goal.next-preserved
next-preserved c =
    let was = c.next.invariant in
    record {
      within = c.in-To.ensures.continues.1;
      few = omega arith;
      ran = walks_on c.args._image.now c.args.first c.args.slots.now c.requires.slots c.next.ip c.slot_at-slot.result.now c.slot_at-slot.ensures
          c.args.line c.args.most c.next.left c.args.x.now c.next.x c.perform.new.x (c.args.first + 4 * c.args.place) c.in-To.next (omega arith) was.few was.ran (c.if-lies_in.ensures.yes refl) c.in-To.ensures.value;
    }
