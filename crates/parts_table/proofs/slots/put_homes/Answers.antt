use Rattle.std.proofs.Common.{rules, ◌<◌, length, ◌++◌, map, rules, arith, ◌∙◌}
use Rattle.parts_table.specs.Slots.{home_slot}
use Rattle.parts_table.proofs.SlotLists.{one_put}
use Rattle.parts_table.proofs.slots.put_homes.Goals as goal

pub loop-homes-preserved : goal.loop-homes-preserved
loop-homes-preserved c =
    let so_far = c.loop-homes.invariant in
    let more : 0 < length c.loop-homes.homes.items = search rules in
    record {
      items =
          rw (c.push_reserved.ensures.items, c.remove.ensures.items)
          (one_put home_slot c.loop-homes.slots.items (c.args.slots.now.items ++ map home_slot c.args.homes.now.items) c.loop-homes.homes.items c.remove.result more c.remove.ensures.value so_far.items);
      room = omega arith;
      slots = c.push_reserved.ensures.capacity ∙ so_far.slots;
      homes = c.remove.ensures.capacity ∙ so_far.homes;
    }
