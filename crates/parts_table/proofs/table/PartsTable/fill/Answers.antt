use Rattle.std.proofs.Common.{rules, ◌≡◌, ℕ, List, [], ◌++◌, length, map, sym, ◌∙◌, ap, subst, arith}
use Rattle.std.specs.Prelude.{Option}
use Rattle.home.specs.HomeState.{HomeState}
use Rattle.l1_cache.specs.L1State.{L1State}
use Rattle.shard.specs.PartsLaws.{AreAllParts}
use Rattle.shard.specs.Seen.{PartsState, shards_seen}
use Rattle.parts_table.specs.declared.part.TimedPart.{TimedPart}
use Rattle.parts_table.specs.Slots.{home_slot, homes_of, l1_slot, l1s_of, slots_of}
use Rattle.parts_table.specs.Tables.{HasPlaces}
use Rattle.parts_table.proofs.Opening.{few_l1s, opened_by}
use Rattle.parts_table.proofs.SlotLists.{same_homes, same_l1s}
use Rattle.parts_table.proofs.table.PartsTable.fill.Goals as goal

-- the slots are those of the parts
slots_are : (none one all : List (Option TimedPart)) (homes : List HomeState) (l1s : List L1State) → none ≡ [] → one ≡ none ++ map l1_slot l1s → all ≡ one ++ map home_slot homes → all ≡ slots_of homes l1s
slots_are none one all homes l1s empty first second =
    second ∙ ap (λ (xs : List (Option TimedPart)). xs ++ map home_slot homes) (first ∙ ap (λ (xs : List (Option TimedPart)). xs ++ map l1_slot l1s) empty)

abbrev whole : List HomeState → List L1State → List ℕ → PartsState
whole homes l1s lasts = record { homes = homes; l1s = l1s; lasts = lasts }

pub opened-requires-clause-parts : goal.opened-requires-clause-parts
opened-requires-clause-parts c =
    let homes : List HomeState = c.args.parts.0.items in
    let l1s : List L1State = c.args.parts.1.items in
    let slots = slots_are c.args.memory.slots.items c.put_l1s.new.slots.items c.put_homes.new.slots.items homes l1s c.requires.slots.0 c.put_l1s.ensures.slots c.put_homes.ensures.slots in
    opened_by homes l1s c.args.parts.2.items c.requires.parts c.put_homes.new.slots.items c.len-cores.result c.len-banks.result c.args.room slots (search rules) (search rules)

pub seats_of-seats-requires-clause-key : goal.seats_of-seats-requires-clause-key
seats_of-seats-requires-clause-key c =
    let few = few_l1s (whole c.args.parts.0.items c.args.parts.1.items c.args.parts.2.items) c.requires.parts in
    let many : c.len-cores.result ≡ length c.args.parts.1.items = search rules in
    (c.in-Ok.ensures.key.1, omega (arith, few.0, many), omega (arith, few.1, many))

pub invariant_of-table : goal.invariant_of-table
invariant_of-table c =
    let homes : List HomeState = c.args.parts.0.items in
    let l1s : List L1State = c.args.parts.1.items in
    let key = c.in-Ok.words.shared.key in
    let is = c.in-Ok.ensures.key in
    let slots = slots_are c.args.memory.slots.items c.put_l1s.new.slots.items c.put_homes.new.slots.items homes l1s c.requires.slots.0 c.put_l1s.ensures.slots c.put_homes.ensures.slots in
    let few = few_l1s (whole homes l1s c.args.parts.2.items) c.requires.parts in
    let cores : c.len-cores.result ≡ length l1s = search rules in
    let banks : c.len-banks.result ≡ length homes = search rules in
    record {
      places = subst (λ (p : ℕ × ℕ). HasPlaces c.in-Ok.words.shared.table_id p.0 p.1) (λ i. (sym is.1 i, sym is.2 i)) c.in-Ok.ensures.places;
      opened = opened_by homes l1s c.args.parts.2.items c.requires.parts key.parts.value.items key.cores key.banks key.room (is.0 ∙ slots) (is.1 ∙ cores) (is.2 ∙ banks);
      cores_are = sym is.1;
      banks_are = sym is.2;
      some_cores = (let one = few.0 in let same = is.1 in omega (arith, one, same, cores));
      few_cores = (let one = few.1 in let same = is.1 in omega (arith, one, same, cores));
      few_banks = (let one = c.requires.few in let same = is.2 in omega (arith, one, same, banks));
      small_room = (let one = c.ranges.room in let same = is.3 in omega (arith, one, same));
      homes_room = (c.put_homes.ensures.empty.0, (let room = c.args.parts.0.ok in let same = is.2 in let capacity = c.put_homes.ensures.empty.1 in omega (arith, room.0, room.1, same, banks, capacity)));
      l1s_room = (c.put_l1s.ensures.empty.0, (let room = c.args.parts.1.ok in let same = is.1 in let capacity = c.put_l1s.ensures.empty.1 in omega (arith, room.0, room.1, same, cores, capacity)));
      no_lasts = c.set_to_zero.ensures.stamps ∙ ap (λ (n : ℕ). Rattle.std.specs.Prelude.replicate n 0) (c.requires.parts.lasts ∙ (sym banks ∙ sym is.2));
      blocks_room = (c.seats_of-seats.ensures.blocks.0, (let room = c.args.blocks.ok in let same = is.1 in let many = c.requires.cores in let capacity = c.seats_of-seats.ensures.blocks.1 in omega (arith, room.0, room.1, same, cores, many, capacity)));
    }

pub taken_back-homes-requires-clause-homes : goal.taken_back-homes-requires-clause-homes
taken_back-homes-requires-clause-homes c =
    let homes : List HomeState = c.args.parts.0.items in
    let l1s : List L1State = c.args.parts.1.items in
    let slots = slots_are c.args.memory.slots.items c.put_l1s.new.slots.items c.put_homes.new.slots.items homes l1s c.requires.slots.0 c.put_l1s.ensures.slots c.put_homes.ensures.slots in
    let size = ap length (ap homes_of (c.in-Err.ensures.err ∙ slots) ∙ same_homes homes l1s) in
    let room = c.args.parts.0.ok in
    let capacity = c.put_homes.ensures.empty.1 in
    (c.put_homes.ensures.empty.0, omega (arith, size, room.0, room.1, capacity))

pub taken_back-homes-requires-clause-l1s : goal.taken_back-homes-requires-clause-l1s
taken_back-homes-requires-clause-l1s c =
    let homes : List HomeState = c.args.parts.0.items in
    let l1s : List L1State = c.args.parts.1.items in
    let slots = slots_are c.args.memory.slots.items c.put_l1s.new.slots.items c.put_homes.new.slots.items homes l1s c.requires.slots.0 c.put_l1s.ensures.slots c.put_homes.ensures.slots in
    let size = ap length (ap l1s_of (c.in-Err.ensures.err ∙ slots) ∙ same_l1s homes l1s) in
    let room = c.args.parts.1.ok in
    let capacity = c.put_l1s.ensures.empty.1 in
    (c.put_l1s.ensures.empty.0, omega (arith, size, room.0, room.1, capacity))

pub of-requires : goal.of-requires
of-requires c =
    let homes : List HomeState = c.args.parts.0.items in
    let l1s : List L1State = c.args.parts.1.items in
    let slots = slots_are c.args.memory.slots.items c.put_l1s.new.slots.items c.put_homes.new.slots.items homes l1s c.requires.slots.0 c.put_l1s.ensures.slots c.put_homes.ensures.slots in
    let one = c.taken_back-homes.ensures.homes ∙ (ap homes_of (c.in-Err.ensures.err ∙ slots) ∙ same_homes homes l1s) in
    let two = c.taken_back-homes.ensures.l1s ∙ (ap l1s_of (c.in-Err.ensures.err ∙ slots) ∙ same_l1s homes l1s) in
    let same : whole homes l1s c.args.parts.2.items ≡ whole c.taken_back-homes.result.0.items c.taken_back-homes.result.1.items c.args.parts.2.items = λ i. whole (sym one i) (sym two i) c.args.parts.2.items in
    subst AreAllParts same c.requires.parts

pub returns-in-Err-clause-err : goal.returns-in-Err-clause-err
returns-in-Err-clause-err c =
    let homes : List HomeState = c.args.parts.0.items in
    let l1s : List L1State = c.args.parts.1.items in
    let slots = slots_are c.args.memory.slots.items c.put_l1s.new.slots.items c.put_homes.new.slots.items homes l1s c.requires.slots.0 c.put_l1s.ensures.slots c.put_homes.ensures.slots in
    let one = c.taken_back-homes.ensures.homes ∙ (ap homes_of (c.in-Err.ensures.err ∙ slots) ∙ same_homes homes l1s) in
    let two = c.taken_back-homes.ensures.l1s ∙ (ap l1s_of (c.in-Err.ensures.err ∙ slots) ∙ same_l1s homes l1s) in
    c.of.ensures ∙ (λ i. shards_seen (whole (one i) (two i) c.args.parts.2.items))
