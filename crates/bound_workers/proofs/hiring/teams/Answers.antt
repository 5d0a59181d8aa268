-- One worker more is free.
use Rattle.std.proofs.Common.{rules, List, All, sym, subst, arith}
use Rattle.std.specs.Prelude.{Option}
use Rattle.std.proofs.lemmas.List.Elements.{All-push}
use Rattle.parts_table.specs.Places.{PlacesState}
use Rattle.bound_workers.specs.Team.{HasPlaces, IsFree, Team}
use Rattle.bound_workers.proofs.hiring.teams.Goals as goal

pub loop-preserved : goal.loop-preserved
loop-preserved c =
    let before = c.loop.invariant in
    let old : List Team = c.loop.teams.items in
    let one : Team = c.in_ok-with_room.field-0 in
    let made = c.in_ok-with_room.ensures in
    let places = c.in_ok-places.ensures in
    record {
      count = search rules;
      free = subst (All (IsFree c.args.cores)) (sym {A = List Team} c.push_reserved.ensures.items)
          (All-push (IsFree c.args.cores) old one before.free (record {
            none = made.none;
            room = (let room = made.room in let is = c.from-in-loop.ensures in omega (arith, room, is));
            places = subst (HasPlaces c.args.cores) (sym {A = Option PlacesState} made.tools) (record { count = places.cores; empty = places.empty });
          }));
      room = search rules;
      within = search rules;
    }
