-- The components are dealt into the room that was taken, and come back by the same places.
use Rattle.std.proofs.Common.{◌≡◌, List, Vec, length, sym, ◌∙◌, ap, subst, arith}
use Rattle.std.specs.declared.alloc.Global.{Global}
use Rattle.domain_map.specs.Domains.{Partition}
use Rattle.weave_run.specs.Dealing.{AreEmptyRooms}
use Rattle.weave_run.proofs.Wovens.{lent}
use Rattle.weave_run.proofs.setup.prepare.Goals as goal

pub deal-list-requires-clause-count : goal.deal-list-requires-clause-count
deal-list-requires-clause-count g c = ap length c.places.ensures ∙ c.requires.partitioned.places

pub deal-list-requires-clause-rooms : goal.deal-list-requires-clause-rooms
deal-list-requires-clause-rooms g c =
    let rooms = c.in-Ok.ensures.rooms in
    let places : length c.places.result.now ≡ length c.args.plan.now.parts.value.places = ap length (c.places.ensures ∙ ap (λ (p : Partition). p.places) c.requires.parts) in
    subst (λ (lists : List (Vec g.row.C.Denot Global)). AreEmptyRooms (length lists) (length c.places.result.now) lists) (sym c.as_mut_slice.ensures.value)
    (record { domains_are = cc; empty = rooms.empty; room = λ domain room at. let most = rooms.room domain room at in omega (arith, most, places) })

pub deal-list-requires-clause-there : goal.deal-list-requires-clause-there
deal-list-requires-clause-there g c =
    let rooms : length c.as_mut_slice.result.now ≡ length c.args.parts.now.events =
    ap length c.as_mut_slice.ensures.value ∙ c.in-Ok.ensures.rooms.domains_are ∙ ap (λ (p : Partition). length p.events) (sym c.requires.parts) in
    rw (c.places.ensures, rooms) c.requires.partitioned.partitions.there.below

pub prepare_all-requires-clause-count : goal.prepare_all-requires-clause-count
prepare_all-requires-clause-count g c =
    let same : length c.deal-list.new.rooms ≡ length c.in-Ok.room.rooms.items = c.deal-list.ensures.rooms ∙ ap length c.as_mut_slice.ensures.value in
    ap length (lent c.in-Ok.room.rooms.len c.deal-list.new.rooms _ (omega (arith, same, c.in-Ok.room.rooms.ok.0)))
    ∙ same ∙ c.in-Ok.ensures.rooms.domains_are ∙ ap (λ (p : Partition). length p.events) (sym c.requires.parts)

pub prepare_all-requires-clause-dealt : goal.prepare_all-requires-clause-dealt
prepare_all-requires-clause-dealt g c =
    let same : length c.deal-list.new.rooms ≡ length c.in-Ok.room.rooms.items = c.deal-list.ensures.rooms ∙ ap length c.as_mut_slice.ensures.value in
    rw (lent c.in-Ok.room.rooms.len c.deal-list.new.rooms _ (omega (arith, same, c.in-Ok.room.rooms.ok.0)), ← c.places.ensures, ← c.requires.comps) c.deal-list.ensures.dealt

pub prepare_all-requires-clause-domains : goal.prepare_all-requires-clause-domains
prepare_all-requires-clause-domains g c = rw c.requires.parts c.in-Ok.ensures.domains

pub prepare_all-requires-clause-lists : goal.prepare_all-requires-clause-lists
prepare_all-requires-clause-lists g c = rw c.requires.parts c.in-Ok.ensures.lists

pub gather-requires-clause-there : goal.gather-requires-clause-there
gather-requires-clause-there g c =
    let lists : length c.as_mut_slice-in-Err-prepare_all.result.now ≡ length c.args.parts.now.events = ap length c.as_mut_slice-in-Err-prepare_all.ensures.value ∙ c.in-Err-prepare_all.ensures.count in
    rw (c.places-in-Err-prepare_all.ensures, lists) c.requires.partitioned.partitions.there.below

pub gather-requires-clause-dealing : goal.gather-requires-clause-dealing
gather-requires-clause-dealing g c =
    rw (c.places-in-Err-prepare_all.ensures, c.as_mut_slice-in-Err-prepare_all.ensures.value)
    record {
      comps = c.args.plan.now.comps.value;
      count = ap length (sym c.requires.comps) ∙ sym c.requires.partitioned.places;
      dealt = c.in-Err-prepare_all.ensures.back;
    }

pub returns-in-Ok-prepare_all-clause-prepared : goal.returns-in-Ok-prepare_all-clause-prepared
returns-in-Ok-prepare_all-clause-prepared g c =
    let places : length c.places.result.now ≡ length c.args.plan.now.parts.value.places = ap length (c.places.ensures ∙ ap (λ (p : Partition). p.places) c.requires.parts) in
    let room = c.in-Ok.ensures in
    let all = c.in-Ok-prepare_all.ensures in
    record {
      domains = rw (← c.requires.graph, ← c.requires.parts) all.begun;
      outgoing = room.outgoing;
      times = room.times;
      list = (c.deal-list.ensures.empty, omega (arith, c.deal-list.ensures.room, places));
      lists = rw all.lists room.lists;
      team = room.team;
    }
