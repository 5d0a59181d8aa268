-- The solution is the weave's, and in the weave's order no event that is left starts before the limit.
use Rattle.weave_core.proofs.FromLaws.{raised_bounds}
use Rattle.weave_core.proofs.laws.raised_bounds_hold.Goals as goal

pub returns : goal.returns
returns g c = λ events p comps timed solution domain own x bound d sound may.
    raised_bounds g.C.Component.serves g.C.Component.floor g.C.Component.stepped g.met.C.Component.floor_at_least_one g.met.C.Component.floor_holds events comps d.numbered
    (c.each_event_fires_once.ensures events comps d.numbered d.fits)
    (c.events_fire_in_order.ensures events comps d.numbered d.fits)
    (λ index x h. c.the_least_ready_event_fires.ensures events comps index x d.numbered d.fits h)
    (λ firings l. c.each_firing_is_of_the_next_event.ensures events comps firings d.numbered d.fits l)
    (λ firings. c.firings_are_of_the_first_events.ensures events comps firings d.numbered d.fits)
    (λ firings number. c.components_serve_their_own_events.ensures events comps firings number d.numbered d.fits)
    (λ firings. c.graphs_keep_fitting.ensures events comps firings d.numbered d.fits)
    p d timed solution ((c.weave_is_the_one_solution.ensures events comps timed d.numbered d.fits).0 solution) domain own x bound sound may
