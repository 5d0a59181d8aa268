use Rattle.std.proofs.Common.{rules, ◌<◌, length, ◌++◌, map, rules, arith, ◌∙◌}
use Rattle.parts_table.specs.Slots.{l1_slot}
use Rattle.parts_table.proofs.SlotLists.{one_put}
use Rattle.parts_table.proofs.slots.put_l1s.Goals as goal

pub loop-l1s-preserved : goal.loop-l1s-preserved
loop-l1s-preserved c =
    let so_far = c.loop-l1s.invariant in
    let more : 0 < length c.loop-l1s.l1s.items = search rules in
    record {
      items =
          rw (c.push_reserved.ensures.items, c.remove.ensures.items)
          (one_put l1_slot c.loop-l1s.slots.items (c.args.slots.now.items ++ map l1_slot c.args.l1s.now.items) c.loop-l1s.l1s.items c.remove.result more c.remove.ensures.value so_far.items);
      room = omega arith;
      slots = c.push_reserved.ensures.capacity ∙ so_far.slots;
      l1s = c.remove.ensures.capacity ∙ so_far.l1s;
    }
