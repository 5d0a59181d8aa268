-- By the laws of the weave.
use Rattle.certify.proofs.WeaveLaws.{WeaveLaws}
use Rattle.certify.proofs.Accepted.{woven_is_accepted}
use Rattle.certify.proofs.laws.woven_is_accepted.Goals as goal

pub returns : goal.returns
returns c comps intervals can are =
    let laws : WeaveLaws = record {
      one_solution = c.weave_is_the_one_solution.ensures;
      fires_in_order = c.events_fire_in_order.ensures;
      fires_once = c.each_event_fires_once.ensures;
      own_events = c.components_serve_their_own_events.ensures;
    } in
    woven_is_accepted laws comps intervals can are
