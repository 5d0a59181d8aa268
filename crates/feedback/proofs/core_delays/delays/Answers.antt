use Rattle.std.proofs.Common.{◌<◌, length, length-set, sym, ◌∙◌, arith, ap, List}
use Rattle.std.proofs.lemmas.List.{take_all}
use Rattle.std.proofs.lemmas.List.FromFn.{fill_by_all}
use Rattle.event_graph.specs.declared.event.Event.{Event}
use Rattle.event_graph.specs.declared.fired.Fired.{Fired}
use Rattle.feedback.specs.FeedbackDelay.{delay_of}
use Rattle.feedback.proofs.Steps.{kept_by_all, written}
use Rattle.feedback.proofs.core_delays.delays.Goals as goal
use Rattle.feedback.proofs.core_delays.delays.Goals.{then-awaited, else-awaited}

pub loop-i-preserved : goal.loop-i-preserved
loop-i-preserved c =
    let events = c.events-event-items.ensures.events in
    let below = rw events at c.loop-i-test.true in
    elim c.if-awaited.branch [
      | then-awaited w ↦
          let critical = rw events at w.if-awaited.true in
          let there : c.loop-i.i < length c.args.fired.now = omega (arith, c.requires.finished.count, below) in
          let all = written c.the_last_critical_event_moves_on.ensures c.args.graph.now c.args.fired.now c.loop-i.i _ below c.loop-i.list.items c.args.cores _ c.events-event-items.ensures.numbered there c.loop-i.invariant.0 critical c.loop-i.invariant.1 in
          rw (w.list-is, w.from-then-awaited.ensures, events, c.as_slice-finishes.ensures) (length-set _ _ _ ∙ c.loop-i.invariant.0, all)
      | else-awaited w ↦
          let critical = rw events at w.if-awaited.false in
          let same = kept_by_all c.the_last_critical_event_moves_on.ensures c.args.graph.now c.args.fired.now c.loop-i.i _ below critical in
          rw w.list-is (c.loop-i.invariant.0, λ core h. c.loop-i.invariant.1 core h ∙ sym (same core))
    ]

pub returns : goal.returns
returns c =
    let events = c.events-event-items.ensures.events in
    let past = rw events at c.loop-i-test.false in
    let g : List Event = c.args.graph.now in
    let fired : List Fired = c.args.fired.now in
    c.of.ensures
    ∙ fill_by_all (delay_of g fired) c.loop-i.list.items c.args.cores 0 c.loop-i.invariant.0
    (λ core h. c.loop-i.invariant.1 core h ∙ ap (λ (seen : List Event). delay_of seen fired core) (take_all c.loop-i.i g past))
