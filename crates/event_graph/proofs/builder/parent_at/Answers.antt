use Rattle.std.proofs.Common.{◌+◌, ap, sym}
use Rattle.std.specs.Option.{option_map}
use Rattle.std.proofs.lemmas.Option.{slice_get-get_or}
use Rattle.event_graph.specs.declared.event.Event.{Event}
use Rattle.event_graph.specs.EventGraph.{parent_of}
use Rattle.event_graph.proofs.builder.parent_at.Goals as goal

pub returns-in-Some : goal.returns-in-Some
returns-in-Some c =
    let there = slice_get-get_or c.args.events.now (c.args.base + c.in-Some.i) _ (c.requires c.in-Some.i c.in-Some.is) in
    rw (c.saturating_sub.ensures, c.from.ensures, c.in-Some.is) (ap (option_map (λ (q : Event). parent_of q.number q.min_finish c.args.start)) (sym there))
