use Rattle.std.proofs.Common.{rules, ◌≡◌, ℕ, ◌<◌, List, [], ◌∷◌, ◌++◌, drop, length, map, replicate, All, sym, ◌∙◌, ap, subst, arith}
use Rattle.std.specs.Prelude.{Option}
use Rattle.std.specs.Mem.Slots.{slots_items}
use Rattle.std.proofs.lemmas.List.{length-append, length-drop, length-map, map-append}
use Rattle.std.proofs.lemmas.List.Elements.{All-drop, All-get_or}
use Rattle.home.specs.HomeState.{HomeState}
use Rattle.l1_cache.specs.L1State.{L1State}
use Rattle.shard.specs.PartsLaws.{AreAllParts}
use Rattle.shard.specs.Seen.{PartsState, shards_seen}
use Rattle.parts_table.specs.declared.part.TimedPart.{TimedPart}
use Rattle.parts_table.specs.declared.view.CoreAccesses.{CoreAccesses}
use Rattle.parts_table.specs.Access.{AreAllSeats, AreWhole, IsSeatOf, SeatState, TableState}
use Rattle.parts_table.specs.KeptKeys.{BlocksState}
use Rattle.parts_table.specs.Slots.{homes_of, l1s_of}
use Rattle.parts_table.specs.Tables.{table_state_of}
use Rattle.parts_table.proofs.Closing.{closed_joined, keys_joined}
use Rattle.parts_table.proofs.Joining.{Joined, first_joined, keys_of_seat, log_of, one_joined}
use Rattle.parts_table.proofs.Seating.{joins}
use Rattle.parts_table.proofs.table.PartsTable.close.Goals as goal

abbrev keys_in : List BlocksState → List (List ℕ)
keys_in blocks = map (λ b. b.keys) blocks

abbrev together : List HomeState → List L1State → List ℕ → PartsState
together homes l1s lasts = record { homes = homes; l1s = l1s; lasts = lasts }

pub loop-seats-init : goal.loop-seats-init
loop-seats-init c =
    let all : List SeatState = c.args.seats.items in
    let seat : SeatState = c.remove.result in
    let left = c.remove.ensures.items in
    let count : c.self.inside.words.shared.key.cores ≡ c.args.self.cores = ap (λ (t : TableState). t.cores) c.self.view_is in
    let size = c.requires.count in
    let some = c.self.invariant.some_cores in
    let few : 0 < length all = omega (arith, count, size, some) in
    let of_it : IsSeatOf c.args.self seat = subst (IsSeatOf c.args.self) (sym c.remove.ensures.value) (All-get_or (IsSeatOf c.args.self) all 0 seat few c.requires.of_table) in
    let got = c.into_place-place.ensures in
    let logs : List CoreAccesses = c.into_place-place.result.0.me.0.logs in
    let keys : List (List ℕ) = keys_in c.push_reserved.new.self.items in
    let items = c.push_reserved.ensures.items ∙ ap (λ (bs : List BlocksState). bs ++ c.into_place-place.result.1 ∷ []) c.self.invariant.blocks_room.0 in
    record {
      joined = subst (λ (xs : List SeatState). Joined all xs logs keys) (sym left)
          (first_joined all seat logs keys few c.remove.ensures.value (ap (λ m. m.0.logs) got.place.1 ∙ got.rest.1) (ap keys_in items ∙ ap (λ (ks : List ℕ). ks ∷ []) got.keys));
      holds = ap (λ m. m.0.holds) got.place.1 ∙ got.rest.0;
      table = got.place.0 ∙ of_it.table;
      room = (
          let one = ap length items in
          let fewer = ap length left ∙ length-drop 1 all in
          let room = c.self.invariant.blocks_room.1 in
          let capacity = c.push_reserved.ensures.capacity in
          omega (arith, one, fewer, room, capacity, count, size, few));
      of_table = subst (All (IsSeatOf c.args.self)) (sym left) (All-drop (IsSeatOf c.args.self) 1 all c.requires.of_table);
    }

pub join_seat-requires : goal.join_seat-requires
join_seat-requires c =
    let inside = c.self.inside.words.shared in
    let parts : List (Option TimedPart) = inside.key.parts.value.items in
    let before = c.loop-seats.invariant in
    let table : c.args.self.table ≡ inside.table_id = sym (ap (λ (t : TableState). t.table) c.self.view_is) in
    let other : SeatState = c.remove-in-loop-seats.result in
    let more : 0 < length c.loop-seats.seats.items = search rules in
    let of_it : IsSeatOf c.args.self other = subst (IsSeatOf c.args.self) (sym c.remove-in-loop-seats.ensures.value) (All-get_or (IsSeatOf c.args.self) c.loop-seats.seats.items 0 other more before.of_table) in
    let got = c.into_place-other.ensures in
    let some_logs : 0 < length c.loop-seats.place.me.0.logs = let n = ap length before.joined.logs_are ∙ length-map before.joined.done log_of in let one = before.joined.some_done in omega (arith, n, one) in (
      before.table ∙ table,
      got.place.0 ∙ (of_it.table ∙ table),
      ap (λ m. m.1) got.place.1,
      (let words = c.self.invariant.places.words in let one = c.self.invariant.some_cores in omega (arith, words, one)),
      joins parts inside.key.cores inside.key.banks inside.key.room c.loop-seats.place.id c.loop-seats.place.me.0 c.into_place-other.result.0.id c.into_place-other.result.0.me.0 before.holds
          (ap (λ m. m.0.holds) got.place.1 ∙ got.rest.0) some_logs,
    )

pub loop-seats-preserved : goal.loop-seats-preserved
loop-seats-preserved c =
    let before = c.loop-seats.invariant in
    let all : List SeatState = c.args.seats.items in
    let rest : List SeatState = c.loop-seats.seats.items in
    let other : SeatState = c.remove-in-loop-seats.result in
    let left = c.remove-in-loop-seats.ensures.items in
    let more : 0 < length rest = search rules in
    let got = c.into_place-other.ensures in
    let logs : List CoreAccesses = c.loop-seats.place.me.0.logs in
    let keys : List (List ℕ) = keys_in c.loop-seats.blocks.items in
    let logs' : List CoreAccesses = c.join_seat.new.seat.me.0.logs in
    let keys' : List (List ℕ) = keys_in c.push_reserved-in-loop-seats.new.self.items in
    let logs_are : logs ++ log_of other ∷ [] ≡ logs' =
    sym (ap (λ m. m.0.logs) c.join_seat.ensures.2 ∙ ap (λ (ls : List CoreAccesses). logs ++ ls) (ap (λ m. m.0.logs) got.place.1 ∙ got.rest.1)) in
    let keys_are : keys ++ keys_of_seat other ∷ [] ≡ keys' =
    sym (ap keys_in c.push_reserved-in-loop-seats.ensures.items
    ∙ (map-append {A = BlocksState} {B = List ℕ} (λ b. b.keys) c.loop-seats.blocks.items (c.into_place-other.result.1 ∷ []) ∙ ap (λ (ks : List ℕ). keys ++ ks ∷ []) got.keys)) in
    record {
      joined = subst (λ (xs : List SeatState). Joined all xs logs' keys') (sym left)
          (subst (λ (ls : List CoreAccesses). Joined all (drop 1 rest) ls keys') logs_are
          (subst (Joined all (drop 1 rest) (logs ++ log_of other ∷ [])) keys_are
          (one_joined all rest other logs keys before.joined more c.remove-in-loop-seats.ensures.value)));
      holds = ap (λ m. m.0.holds) c.join_seat.ensures.2 ∙ before.holds;
      table = c.join_seat.ensures.0 ∙ before.table;
      room = (
          let one = ap length c.push_reserved-in-loop-seats.ensures.items ∙ length-append c.loop-seats.blocks.items (c.into_place-other.result.1 ∷ []) in
          let fewer = ap length left ∙ length-drop 1 rest in
          let room = before.room in
          let capacity = c.push_reserved-in-loop-seats.ensures.capacity in
          omega (arith, one, fewer, room, capacity, more));
      of_table = subst (All (IsSeatOf c.args.self)) (sym left) (All-drop (IsSeatOf c.args.self) 1 rest before.of_table);
    }

pub taken_out-homes-requires-clause-homes : goal.taken_out-homes-requires-clause-homes
taken_out-homes-requires-clause-homes c =
    let inside = c.self.inside.words.shared in
    let t : TableState = table_state_of inside.table_id inside.key in
    let is = closed_joined c.machine_laws.ensures t c.loop-seats.place.id c.loop-seats.place.me.0 (slots_items c.close_with.result.words) (slots_items c.close_with.result.slots)
    c.args.seats.items c.loop-seats.seats.items (keys_in c.loop-seats.blocks.items) c.loop-seats.invariant.joined (search rules) c.loop-seats.invariant.holds
    (subst (λ (x : TableState). AreAllSeats x c.args.seats.items) (sym c.self.view_is) c.requires) c.close_with.ensures.values.2 in
    let size = is.homes in
    let room = c.self.invariant.homes_room.1 in
    (c.self.invariant.homes_room.0, omega (arith, size, room))

pub taken_out-homes-requires-clause-l1s : goal.taken_out-homes-requires-clause-l1s
taken_out-homes-requires-clause-l1s c =
    let inside = c.self.inside.words.shared in
    let t : TableState = table_state_of inside.table_id inside.key in
    let is = closed_joined c.machine_laws.ensures t c.loop-seats.place.id c.loop-seats.place.me.0 (slots_items c.close_with.result.words) (slots_items c.close_with.result.slots)
    c.args.seats.items c.loop-seats.seats.items (keys_in c.loop-seats.blocks.items) c.loop-seats.invariant.joined (search rules) c.loop-seats.invariant.holds
    (subst (λ (x : TableState). AreAllSeats x c.args.seats.items) (sym c.self.view_is) c.requires) c.close_with.ensures.values.2 in
    let size = is.l1s in
    let room = c.self.invariant.l1s_room.1 in
    (c.self.invariant.l1s_room.0, omega (arith, size, room))

pub of-requires : goal.of-requires
of-requires c =
    let inside = c.self.inside.words.shared in
    let t : TableState = table_state_of inside.table_id inside.key in
    let is = closed_joined c.machine_laws.ensures t c.loop-seats.place.id c.loop-seats.place.me.0 (slots_items c.close_with.result.words) (slots_items c.close_with.result.slots)
    c.args.seats.items c.loop-seats.seats.items (keys_in c.loop-seats.blocks.items) c.loop-seats.invariant.joined (search rules) c.loop-seats.invariant.holds
    (subst (λ (x : TableState). AreAllSeats x c.args.seats.items) (sym c.self.view_is) c.requires) c.close_with.ensures.values.2 in
    let homes = c.taken_out-homes.ensures.homes in
    let l1s = c.taken_out-homes.ensures.l1s in
    let lasts = c.self.invariant.no_lasts in
    let same : together (homes_of (slots_items c.close_with.result.slots)) (l1s_of (slots_items c.close_with.result.slots)) (replicate t.banks 0)
    ≡ together c.taken_out-homes.result.0.items c.taken_out-homes.result.1.items c.self.inside.lasts.items = λ i. together (sym homes i) (sym l1s i) (sym lasts i) in
    subst AreAllParts same is.parts

pub returns-clause-keys : goal.returns-clause-keys
returns-clause-keys c =
    keys_joined c.args.seats.items c.loop-seats.seats.items c.loop-seats.place.me.0.logs (keys_in c.loop-seats.blocks.items) c.loop-seats.invariant.joined (search rules)

pub returns-clause-whole : goal.returns-clause-whole
returns-clause-whole c =
    let inside = c.self.inside.words.shared in
    let t : TableState = table_state_of inside.table_id inside.key in
    let is = closed_joined c.machine_laws.ensures t c.loop-seats.place.id c.loop-seats.place.me.0 (slots_items c.close_with.result.words) (slots_items c.close_with.result.slots)
    c.args.seats.items c.loop-seats.seats.items (keys_in c.loop-seats.blocks.items) c.loop-seats.invariant.joined (search rules) c.loop-seats.invariant.holds
    (subst (λ (x : TableState). AreAllSeats x c.args.seats.items) (sym c.self.view_is) c.requires) c.close_with.ensures.values.2 in
    let homes = c.taken_out-homes.ensures.homes in
    let l1s = c.taken_out-homes.ensures.l1s in
    let lasts = c.self.invariant.no_lasts in
    let seen : c.of.result ≡ shards_seen (together (homes_of (slots_items c.close_with.result.slots)) (l1s_of (slots_items c.close_with.result.slots)) (replicate t.banks 0)) =
    c.of.ensures ∙ (λ i. shards_seen (together (homes i) (l1s i) (lasts i))) in
    subst (λ (x : TableState). AreWhole x c.args.seats.items c.of.result) c.self.view_is
    (subst (AreWhole t c.args.seats.items) (sym seen) is.whole)
