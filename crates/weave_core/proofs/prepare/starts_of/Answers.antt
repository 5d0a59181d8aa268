use Rattle.std.proofs.Common.{List, ℕ, ◌∷◌, ◌++◌, [], get_or, map, sym, ◌∙◌, ap}
use Rattle.std.proofs.lemmas.List.{map_more, take_all}
use Rattle.event_graph.specs.declared.event.Event.{Event}
use Rattle.weave_core.specs.Layout.{no_event}
use Rattle.weave_core.proofs.prepare.starts_of.Goals as goal

pub loop-event-preserved : goal.loop-event-preserved
loop-event-preserved c =
    let event : Event = get_or c.args.here.now c.loop-event.event-index no_event in
    c.in_ok-push.ensures.items
    ∙ ap (λ (starts : List ℕ). starts ++ event.min_start ∷ []) c.loop-event.invariant
    ∙ sym (map_more (λ (e : Event). e.min_start) c.args.here.now c.loop-event.event-index no_event c.loop-event-test.true)

pub returns : goal.returns
returns c = c.loop-event.invariant ∙ ap (map (λ (e : Event). e.min_start)) (take_all c.loop-event.event-index c.args.here.now c.loop-event-test.false)
