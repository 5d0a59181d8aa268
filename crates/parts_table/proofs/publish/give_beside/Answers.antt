use Rattle.std.proofs.Common.{◌≡◌, List, subst}
use Rattle.parts_table.specs.declared.view.Hold.{Hold}
use Rattle.parts_table.specs.declared.view.Made.{Made}
use Rattle.parts_table.specs.Seats.{hand_of, left_in}
use Rattle.parts_table.specs.Views.{given}
use Rattle.parts_table.proofs.publish.give_beside.Goals as goal

pub returns-clause-gave : goal.returns-clause-gave
returns-clause-gave g c = λ slots log at lone.
    let left : List Hold = left_in (hand_of c.args.place.now.me.0.cores c.args._places.now c.args._home.now) c.args.number c.args.place.now.me.0.holds in
    subst (λ (l : List Made). c.give.new.place.me ≡ (given c.args.place.now.me.0 log l left, slots)) c.requires.list
    (subst (λ (l : List Hold). c.give.new.place.me ≡ (given c.args.place.now.me.0 log g.E.Ends.list l, slots)) c.requires.left
    (c.give.ensures.gave slots log at lone))
