use Rattle.std.proofs.Common.{◌≡◌, ℕ, ◌^◌, ◌<◌, ◌≤◌, List, length, All, sym, subst}
use Rattle.event_graph.specs.Timely.{AreTimely}
use Rattle.run.proofs.IntervalWeave.{is_woven}
use Rattle.run.proofs.weaving.woven_of.Goals as goal

pub delays-requires-clause-finished : goal.delays-requires-clause-finished
delays-requires-clause-finished c =
    let graph = c.args.graph in
    let fired = c.args.fired in
    let h = c.requires.fired.3 in
    let timely : AreTimely graph fired = subst (AreTimely graph) (sym h.fired_are) (c.events_take_their_time.ensures graph c.requires.fired.0 h.events.numbered h.events.fits h.events.small) in
    c.timely_events_have_finished.ensures graph fired h.events.numbered timely

pub returns : goal.returns
returns c = λ comps entries after h.
    let machine = c.args.machine.now in
    let graph = c.args.graph in
    let fired = c.args.fired in
    let delays = c.in_ok-delays.delays in
    let ready = h.events in
    let timely : AreTimely graph fired = subst (AreTimely graph) (sym h.fired_are) (c.events_take_their_time.ensures graph comps ready.numbered ready.fits ready.small) in
    let small = c.delays_are_small.ensures graph fired machine.cores ready.numbered timely in
    record {
      is = is_woven machine comps entries graph fired delays ready.are h.fired_are c.in_ok-delays.ensures;
      timely = timely;
      delays = subst (λ (d : List ℕ). length d ≡ machine.cores) (sym c.in_ok-delays.ensures) small.0;
      delays_small = subst (All (λ (d : ℕ). d ≤ 2 ^ 62)) (sym c.in_ok-delays.ensures) small.1;
      there = subst (λ (n : ℕ). All (λ e. e.component < n) graph) h.components.count (c.fitting_events_are_there.ensures graph comps ready.fits);
      few = ready.few;
    }
