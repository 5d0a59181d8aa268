use Rattle.std.proofs.Common.{rules, ◌<◌, length, arith}
use Rattle.parts_table.specs.Slots.{home_in_slot, homes_of, l1_in_slot, l1s_of}
use Rattle.parts_table.proofs.SlotLists.{one_back, room_back}
use Rattle.parts_table.proofs.slots.taken_back.Goals as goal

pub put_back-requires-clause-homes : goal.put_back-requires-clause-homes
put_back-requires-clause-homes c =
    let so_far = c.loop-slots.invariant in
    let more : 0 < length c.loop-slots.slots.items = search rules in
    let room = room_back home_in_slot c.loop-slots.homes.items (homes_of c.args.slots.items) c.loop-slots.slots.items c.remove.result more c.remove.ensures.value so_far.homes in
    omega (arith, room, so_far.homes_room)

pub put_back-requires-clause-l1s : goal.put_back-requires-clause-l1s
put_back-requires-clause-l1s c =
    let so_far = c.loop-slots.invariant in
    let more : 0 < length c.loop-slots.slots.items = search rules in
    let room = room_back l1_in_slot c.loop-slots.l1s.items (l1s_of c.args.slots.items) c.loop-slots.slots.items c.remove.result more c.remove.ensures.value so_far.l1s in
    omega (arith, room, so_far.l1s_room)

pub loop-slots-preserved : goal.loop-slots-preserved
loop-slots-preserved c =
    let so_far = c.loop-slots.invariant in
    let more : 0 < length c.loop-slots.slots.items = search rules in
    record {
      homes =
          rw (c.put_back.ensures.homes.0, c.remove.ensures.items)
          (one_back home_in_slot c.loop-slots.homes.items (homes_of c.args.slots.items) c.loop-slots.slots.items c.remove.result more c.remove.ensures.value so_far.homes);
      l1s =
          rw (c.put_back.ensures.l1s.0, c.remove.ensures.items)
          (one_back l1_in_slot c.loop-slots.l1s.items (l1s_of c.args.slots.items) c.loop-slots.slots.items c.remove.result more c.remove.ensures.value so_far.l1s);
      homes_room = omega (arith, c.put_back.ensures.homes.1, so_far.homes_room);
      l1s_room = omega (arith, c.put_back.ensures.l1s.1, so_far.l1s_room);
    }
