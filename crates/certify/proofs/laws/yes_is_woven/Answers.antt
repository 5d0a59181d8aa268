-- By the laws of the weave.
use Rattle.certify.proofs.WeaveLaws.{WeaveLaws}
use Rattle.certify.proofs.Yes.{yes_is_woven}
use Rattle.certify.proofs.laws.yes_is_woven.Goals as goal

pub returns : goal.returns
returns c comps file count events said =
    let laws : WeaveLaws = record {
      one_solution = c.weave_is_the_one_solution.ensures;
      fires_in_order = c.events_fire_in_order.ensures;
      fires_once = c.each_event_fires_once.ensures;
      own_events = c.components_serve_their_own_events.ensures;
    } in
    yes_is_woven laws comps file count events said
