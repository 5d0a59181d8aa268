use Rattle.std.proofs.Common.{rules, ◌≡◌, ◌<◌, List, [], ◌∷◌, ◌++◌, drop, length, map, All, sym, ◌∙◌, ap, subst, arith}
use Rattle.std.proofs.lemmas.List.{length-map, map-append, nil_from_length}
use Rattle.std.proofs.lemmas.List.Elements.{All-drop, All-get_or}
use Rattle.zs_num.specs.declared.entry.Entry.{Entry}
use Rattle.access_log.specs.Logs.{LogState}
use Rattle.shard.specs.Served.{ShardState}
use Rattle.std.specs.List.{flat_map}
use Rattle.shard_table.specs.declared.view.CoreAccesses.{CoreAccesses}
use Rattle.shard_table.specs.declared.view.ShardAccesses.{ShardAccesses}
use Rattle.std.specs.Mem.Slots.{slots_items}
use Rattle.shard_table.specs.Access.{AreAllSeats, AreWhole, IsSeatOf, SeatState, TableState, recorded_entries}
use Rattle.shard_table.specs.Tables.{table_state_of}
use Rattle.shard_table.proofs.Closing.{is_whole, part_of}
use Rattle.shard_table.proofs.Joining.{Joined, all_joined, first_joined, one_joined}
use Rattle.shard_table.proofs.Seating.{joins}
use Rattle.shard_table.proofs.table.ShardTable.close.Goals as goal

pub loop-seats-init : goal.loop-seats-init
loop-seats-init c =
    let all : List SeatState = c.args.seats.items in
    let seat : SeatState = c.remove.result in
    let left = c.remove.ensures.items in
    let table = c.self.invariant in
    let few : 0 < length all = search rules in
    let of_it : IsSeatOf c.args.self seat = subst (IsSeatOf c.args.self) (sym c.remove.ensures.value) (All-get_or (IsSeatOf c.args.self) all 0 seat few c.requires.of_table) in
    let logs : map (λ (log : LogState). log.entries) c.push_reserved.new.self.items ≡ seat.entries ∷ [] = search rules in
    record {
      joined = subst (λ (xs : List SeatState). Joined all xs c.place.inside.place.me.0.parts c.place.inside.place.me.0.notes (map (λ (log : LogState). log.entries) c.push_reserved.new.self.items)) (sym left)
          (first_joined all seat c.place.inside.place.me.0.parts c.place.inside.place.me.0.notes (map (λ (log : LogState). log.entries) c.push_reserved.new.self.items) few c.remove.ensures.value (search rules)
          (ap (λ (x : SeatState). x.knows.notes) c.place.view_is) logs);
      hold = c.place.invariant.hold;
      table = ap (λ (x : SeatState). x.table) c.place.view_is ∙ of_it.table;
      room = search rules;
      of_table = subst (All (IsSeatOf c.args.self)) (sym left) (All-drop (IsSeatOf c.args.self) 1 all c.requires.of_table);
    }

pub join_seat-requires : goal.join_seat-requires
join_seat-requires c =
    let inside = c.self.inside.words.shared in
    let shards : List ShardState = inside.key.shards.value.items in
    let before = c.loop-seats.invariant in
    let table : c.args.self.table ≡ inside.table_id = sym (ap (λ (t : TableState). t.table) c.self.view_is) in
    let other : SeatState = c.remove-in-loop-seats.result in
    let more : 0 < length c.loop-seats.seats.items = search rules in
    let of_it : IsSeatOf c.args.self other = subst (IsSeatOf c.args.self) (sym c.remove-in-loop-seats.ensures.value) (All-get_or (IsSeatOf c.args.self) c.loop-seats.seats.items 0 other more before.of_table) in
    let some_parts : 0 < length c.loop-seats.place.me.0.parts = let n = ap length before.joined.parts_are ∙ length-map before.joined.done part_of in let one = before.joined.some_done in omega (arith, n, one) in (
      before.table ∙ table,
      ap (λ (x : SeatState). x.table) c.other.view_is ∙ (of_it.table ∙ table),
      c.other.invariant.slots,
      (let words = c.self.invariant.words in let one = c.self.invariant.some in omega (arith, words, one)),
      joins shards inside.key.cores inside.key.room c.loop-seats.place.id c.loop-seats.place.me.0 c.other.inside.place.id c.other.inside.place.me.0 before.hold c.other.invariant.hold some_parts,
    )

pub push_reserved-requires-in-loop-seats : goal.push_reserved-requires-in-loop-seats
push_reserved-requires-in-loop-seats c = search rules

pub loop-seats-preserved : goal.loop-seats-preserved
loop-seats-preserved c =
    let before = c.loop-seats.invariant in
    let rest : List SeatState = c.loop-seats.seats.items in
    let other : SeatState = c.remove-in-loop-seats.result in
    let left = c.remove-in-loop-seats.ensures.items in
    let more : 0 < length rest = search rules in
    let lists : List (List Entry) = map (λ (log : LogState). log.entries) c.loop-seats.logs.items in
    let parts : List CoreAccesses = c.loop-seats.place.me.0.parts in
    let notes : List ShardAccesses = c.loop-seats.place.me.0.notes in
    let notes_are : notes ++ other.knows.notes ≡ c.join_seat.new.seat.me.0.notes =
    sym (ap (λ m. m.0.notes) c.join_seat.ensures.2 ∙ ap (λ (ns : List ShardAccesses). notes ++ ns) (ap (λ (x : SeatState). x.knows.notes) c.other.view_is)) in
    let parts_are : parts ++ part_of other ∷ [] ≡ c.join_seat.new.seat.me.0.parts =
    sym (ap (λ m. m.0.parts) c.join_seat.ensures.2 ∙ ap (λ (ps : List CoreAccesses). parts ++ ps) (c.other.invariant.parts ∙ ap (λ (x : SeatState). part_of x ∷ []) c.other.view_is)) in
    let lists_are : lists ++ other.entries ∷ [] ≡ map (λ (log : LogState). log.entries) c.push_reserved-in-loop-seats.new.self.items =
    sym (ap (map (λ (log : LogState). log.entries)) c.push_reserved-in-loop-seats.ensures.items ∙ (map-append (λ (log : LogState). log.entries) c.loop-seats.logs.items (c.other.inside.log ∷ [])
    ∙ ap (λ (es : List Entry). lists ++ es ∷ []) (ap (λ (x : SeatState). x.entries) c.other.view_is))) in
    record {
      joined = subst (λ (xs : List SeatState). Joined c.args.seats.items xs c.join_seat.new.seat.me.0.parts c.join_seat.new.seat.me.0.notes (map (λ (log : LogState). log.entries) c.push_reserved-in-loop-seats.new.self.items)) (sym left)
          (subst (λ (ps : List CoreAccesses). Joined c.args.seats.items (drop 1 rest) ps c.join_seat.new.seat.me.0.notes (map (λ (log : LogState). log.entries) c.push_reserved-in-loop-seats.new.self.items)) parts_are
          (subst (λ (ns : List ShardAccesses). Joined c.args.seats.items (drop 1 rest) (parts ++ part_of other ∷ []) ns (map (λ (log : LogState). log.entries) c.push_reserved-in-loop-seats.new.self.items)) notes_are
          (subst (Joined c.args.seats.items (drop 1 rest) (parts ++ part_of other ∷ []) (notes ++ other.knows.notes)) lists_are
          (one_joined c.args.seats.items rest other parts notes lists before.joined more c.remove-in-loop-seats.ensures.value))));
      hold = ap (λ m. m.0.hold) c.join_seat.ensures.2 ∙ before.hold;
      table = c.join_seat.ensures.0 ∙ before.table;
      room = search rules;
      of_table = subst (All (IsSeatOf c.args.self)) (sym left) (All-drop (IsSeatOf c.args.self) 1 rest before.of_table);
    }

pub close_with-requires : goal.close_with-requires
close_with-requires c = search rules

-- no seat is left
ended : (c : goal.After-drop-seats) → (c.loop-seats.place.me.0.parts ≡ map part_of c.args.seats.items) × (c.loop-seats.place.me.0.notes ≡ flat_map (λ (seat : SeatState). seat.knows.notes) c.args.seats.items) × (map (λ (log : LogState). log.entries) c.loop-seats.logs.items ≡ map (λ (seat : SeatState). seat.entries) c.args.seats.items)
ended c =
    let size : length c.loop-seats.seats.items ≡ 0 = search rules in
    let none_left : c.loop-seats.seats.items ≡ [] = nil_from_length c.loop-seats.seats.items size in
    all_joined c.args.seats.items c.loop-seats.place.me.0.parts c.loop-seats.place.me.0.notes (map (λ (log : LogState). log.entries) c.loop-seats.logs.items)
    (subst (λ (xs : List SeatState). Joined c.args.seats.items xs c.loop-seats.place.me.0.parts c.loop-seats.place.me.0.notes (map (λ (log : LogState). log.entries) c.loop-seats.logs.items)) none_left c.loop-seats.invariant.joined)

pub returns-clause-logs : goal.returns-clause-logs
returns-clause-logs c = (ended c).2

pub returns-clause-whole : goal.returns-clause-whole
returns-clause-whole c =
    let inside = c.self.inside.words.shared in
    let t : TableState = table_state_of inside.table_id inside.key in
    let all = subst (λ (x : TableState). AreAllSeats x c.args.seats.items) (sym c.self.view_is) c.requires in
    subst (λ (x : TableState). AreWhole x (recorded_entries c.args.seats.items) c.args.seats.items c.taken_out.result.items) c.self.view_is
    (subst (λ (xs : List ShardState). AreWhole t (recorded_entries c.args.seats.items) c.args.seats.items xs) (sym c.taken_out.ensures)
    (is_whole c.stamps_rise.ensures c.cores_decide_the_order.ensures c.recorded_order_keeps_the_stamps.ensures c.each_has_its_own.ensures
    t c.self.invariant.some c.loop-seats.place.id c.loop-seats.place.me.0 c.args.seats.items (slots_items c.close_with.result.words) (slots_items c.close_with.result.slots)
    c.loop-seats.invariant.hold (ended c).0 (ended c).1 all c.close_with.ensures.values.2))
