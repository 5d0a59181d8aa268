use Rattle.std.proofs.Common.{sym, ◌∙◌, ap, subst}
use Rattle.profile.specs.Series.{AreSeries, no_sums, with_room}
use Rattle.profile.proofs.SeriesMore.{room_made, room_there}
use Rattle.profile.proofs.series.make_room.Goals as goal

pub returns-then-has_room-clause-rows : goal.returns-then-has_room-clause-rows
returns-then-has_room-clause-rows c = λ sums are. room_there c.args.comps c.args.every c.ranges.every.fits sums c.args.rows.now.items are (sym c.has_room.ensures ∙ c.if-has_room.true)

pub returns-clause-rows : goal.returns-clause-rows
returns-clause-rows c = λ sums are.
    subst (AreSeries (with_room c.args.comps c.args.every sums)) (sym c.in_ok-push.ensures.items)
    (room_made c.args.comps c.args.every c.ranges.every.fits sums c.args.rows.now.items are (sym c.has_room.ensures ∙ c.if-has_room.false) c.in_ok-row.row
    (c.in_ok-row.ensures ∙ ap (no_sums c.args.comps) c.next_first.ensures))
