use Rattle.std.proofs.Common.{◌≡◌, ℕ, ◌+◌, ◌<◌, List, [], ◌∷◌, ◌++◌, Some, refl, sym, ◌∙◌, ap, subst, arith, rules}
use Rattle.std.specs.Prelude.{slice_get}
use Rattle.std.proofs.lemmas.Option.{slice_get-get_or}
use Rattle.parts_table.specs.declared.view.View.{View}
use Rattle.parts_table.specs.Access.{IsSeatOf, SeatState}
use Rattle.parts_table.specs.KeptKeys.{BlocksState}
use Rattle.parts_table.specs.Tables.{table_state_of}
use Rattle.parts_table.specs.Views.{first_view}
use Rattle.parts_table.proofs.Hiring.{AreSeatsUpTo, first_seat, next_hired}
use Rattle.parts_table.proofs.table.seats_of.Goals as goal

-- no keys yet
abbrev no_keys : (room : ℕ) → BlocksState
no_keys room = record { keys = []; now = 1; made = 0; room = room }

pub new-requires-clause-blocks : goal.new-requires-clause-blocks
new-requires-clause-blocks c =
    let room : c.args.place.me.0.room ≡ c.args.bench.now.key.room = ap (λ m. m.0.room) c.requires.first in
    (c.next_blocks.ensures.next c.args.bench.now.key.room c.requires.blocks.1).0 ∙ ap no_keys (sym room)

pub loop-core-init : goal.loop-core-init
loop-core-init c =
    let key = c.args.bench.now.key in
    let t = table_state_of c.args.bench.now.table_id key in
    let v : View = first_view key.parts.value.items c.args.cores key.banks key.room in
    let x : SeatState = record { table = c.args.place.table_id; core = 0; made = []; knows = v } in
    let is : c.new.result ≡ x = c.new.ensures ∙ ap (λ m. let s : SeatState = record { table = c.args.place.table_id; core = 0; made = []; knows = m.0 } in s) c.requires.first in
    let of_it : IsSeatOf t x = record { table = c.requires.table; opening = refl; cores = sym c.requires.key.0; banks = refl; room = refl } in
    let items : c.push_reserved.new.self.items ≡ x ∷ [] = c.push_reserved.ensures.items ∙ (ap (λ (xs : List SeatState). xs ++ c.new.result ∷ []) c.requires.room.0 ∙ ap (λ (s : SeatState). s ∷ []) is) in
    let length_is = c.next_blocks.ensures.length in
    let many = c.requires.blocks.0 in
    record {
      seats = subst (AreSeatsUpTo t 1) (sym items) (first_seat t x of_it refl refl refl);
      count = omega (arith, length_is, many);
      rooms = (c.next_blocks.ensures.next key.room c.requires.blocks.1).1;
      capacity = c.next_blocks.ensures.capacity;
      room = (let same = c.push_reserved.ensures.capacity in let room = c.requires.room.1 in omega (arith, same, room));
      within = (let some = c.requires.key.1 in omega (arith, some));
    }

-- the first seat, which makes the next one
pub next-seat-requires-clause-blocks : goal.next-seat-requires-clause-blocks
next-seat-requires-clause-blocks c =
    let so_far = c.loop-core.invariant.seats in
    let first : SeatState = c.index_mut.result.now in
    let here : slice_get c.loop-core.seats.items 0 ≡ Some first =
    slice_get-get_or c.loop-core.seats.items 0 c.index_mut.result.now (omega (arith, so_far.count, so_far.some)) ∙ ap Some (sym c.index_mut.ensures.value) in
    (c.next_blocks-in-loop-core.ensures.next c.args.bench.now.key.room c.loop-core.invariant.rooms).0 ∙ ap no_keys (sym (so_far.new 0 first here).0.room)

pub loop-core-preserved : goal.loop-core-preserved
loop-core-preserved c =
    let t = table_state_of c.args.bench.now.table_id c.args.bench.now.key in
    let before = c.loop-core.invariant in
    let below : c.loop-core.core < c.args.cores = omega (arith, c.loop-core-test.true) in
    let length_is = c.next_blocks-in-loop-core.ensures.length in
    record {
      seats = subst (AreSeatsUpTo t (c.loop-core.core + 1)) (sym c.push_reserved-in-loop-core.ensures.items)
          (next_hired t c.loop-core.core c.loop-core.seats.items c.index_mut.result.now c.next-seat.new.self c.next-seat.result before.seats (search rules) c.next-seat.ensures.first c.next-seat.ensures.next);
      count = omega (arith, length_is, before.count);
      rooms = (c.next_blocks-in-loop-core.ensures.next c.args.bench.now.key.room before.rooms).1;
      capacity = c.next_blocks-in-loop-core.ensures.capacity ∙ before.capacity;
      room = omega (arith, before.room, c.push_reserved-in-loop-core.ensures.capacity);
      within = omega (arith, below);
    }
