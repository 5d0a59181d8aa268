-- The next component is put behind those of its domain.
use Rattle.std.proofs.Common.{◌≡◌, ◌<◌, List, ◌∷◌, length, get_or, sym, ◌∙◌, ap, arith}
use Rattle.std.proofs.lemmas.Option.{slice_get-get_or}
use Rattle.std.specs.List.{remove}
use Rattle.weave_run.proofs.Gatherings.{all_dealt, first_and_rest, left_empty, none_dealt, one_dealt}
use Rattle.weave_run.proofs.dealt.deal.Goals as goal

pub loop-index-preserved : goal.loop-index-preserved
loop-index-preserved g c =
    let h = c.loop-index.invariant.so_far in
    let test = c.loop-index-test.true in
    let some : 0 < length c.loop-index.list.items = (let l = h.left_is in omega (arith, l, test)) in
    let place_below : get_or c.args.places.now c.loop-index.index 0 < length c.args.rooms.now = c.requires.there c.loop-index.index 0 test in
    let below : c.from.result < length c.loop-index.rooms = (let n = h.domains_are in let e = c.from.ensures in omega (arith, n, e, place_below)) in
    let is : c.loop-index.list.items ≡ c.remove-one.result ∷ c.remove-one.new.self.items =
    first_and_rest c.loop-index.list.items c.remove-one.result some
    ∙ (ap (λ (x : g.row.C.Denot). x ∷ remove c.loop-index.list.items 0) (sym c.remove-one.ensures.value) ∙ ap (λ (xs : List g.row.C.Denot). c.remove-one.result ∷ xs) (sym c.remove-one.ensures.items))
    in
    record {
      so_far = one_dealt c.args.places.now c.args.comps c.loop-index.list.items c.loop-index.rooms c.loop-index.index (length c.args.rooms.now) c.remove-one.result c.remove-one.new.self.items c.from.result
          (get_or c.loop-index.rooms c.from.result c.index-rooms-from.result) c.push_reserved.new.self h is c.from.ensures (slice_get-get_or c.loop-index.rooms c.from.result c.index-rooms-from.result below)
          c.push_reserved.ensures.items c.push_reserved.ensures.capacity;
      room = (let r = c.loop-index.invariant.room in let k = c.remove-one.ensures.capacity in omega (arith, r, k));
    }

pub returns-clause-dealt : goal.returns-clause-dealt
returns-clause-dealt g c =
    all_dealt c.args.places.now c.args.comps c.loop-index.list.items c.loop-index.rooms c.loop-index.index (length c.args.rooms.now) c.loop-index.invariant.so_far c.loop-index-test.false

pub loop-index-init : goal.loop-index-init
loop-index-init g c = record {
  so_far = rw c.into_list-list.ensures (none_dealt c.args.places.now c.args.comps c.args.rooms.now c.requires.count c.requires.rooms);
  room = omega (arith, ap length c.into_list-list.ensures, c.requires.count, c.into_list-list.result.ok);
}

pub remove-one-requires : goal.remove-one-requires
remove-one-requires g c = omega (arith, c.loop-index.invariant.so_far.left_is, c.loop-index-test.true, c.loop-index.list.ok)

pub push_reserved-requires : goal.push_reserved-requires
push_reserved-requires g c =
    let h = c.loop-index.invariant.so_far in
    let test = c.loop-index-test.true in
    let own = get_or c.loop-index.rooms c.from.result c.index-rooms-from.result in
    let place_below : get_or c.args.places.now c.loop-index.index 0 < length c.args.rooms.now = c.requires.there c.loop-index.index 0 test in
    let below : c.from.result < length c.loop-index.rooms = omega (arith, h.domains_are, c.from.ensures, place_below) in
    let room = h.room c.from.result own (slice_get-get_or c.loop-index.rooms c.from.result c.index-rooms-from.result below) in
    omega (arith, room.0, room.1, own.ok, test)

pub returns-clause-rooms : goal.returns-clause-rooms
returns-clause-rooms g c = c.loop-index.invariant.so_far.domains_are

pub returns-clause-empty : goal.returns-clause-empty
returns-clause-empty g c =
    left_empty c.args.places.now c.args.comps c.loop-index.list.items c.loop-index.rooms c.loop-index.index (length c.args.rooms.now) c.loop-index.invariant.so_far c.loop-index-test.false
