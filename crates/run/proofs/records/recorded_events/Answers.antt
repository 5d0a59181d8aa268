use Rattle.std.proofs.Common.{◌^◌, ◌<◌, ◌≤◌, List, length, All, sym, ◌∙◌, ap, subst, arith}
use Rattle.zs_num.specs.declared.entry.Entry.{Entry}
use Rattle.run.specs.IntervalWeave.{AreEventsOf}
use Rattle.run.proofs.GoneOn.{small_room}
use Rattle.run.proofs.RecordedWeave.{events_in_order}
use Rattle.run.proofs.records.recorded_events.Goals as goal

pub events_of-requires-clause-cores : goal.events_of-requires-clause-cores
events_of-requires-clause-cores c =
    subst (All (λ (e : Entry). e.core < c.args.machine.now.cores)) (sym (c.of-entries.ensures ∙ c.in_ok-list.ensures)) c.requires.recorded.kept.recorded_cores

pub events_of-requires-clause-starts : goal.events_of-requires-clause-starts
events_of-requires-clause-starts c =
    subst (All (λ (e : Entry). e.start ≤ 2 ^ 34)) (sym (c.of-entries.ensures ∙ c.in_ok-list.ensures)) c.requires.recorded.kept.recorded_starts

pub events_of-requires-clause-few : goal.events_of-requires-clause-few
events_of-requires-clause-few c =
    let rec = c.requires.recorded in
    omega (arith, ap length (c.of-entries.ensures ∙ c.in_ok-list.ensures), rec.kept.recorded_few, rec.few, small_room c.args.machine.now c.requires.machine)

pub returns : goal.returns
returns c =
    let machine = c.args.machine.now in
    let r = c.args.recorder.now in
    events_in_order machine r c.requires.recorded c.args.comps.now c.in_ok-graph.graph
    (subst (λ (es : List Entry). AreEventsOf machine c.args.comps.now es c.in_ok-graph.graph) (c.of-entries.ensures ∙ c.in_ok-list.ensures) c.in_ok-graph.ensures)
