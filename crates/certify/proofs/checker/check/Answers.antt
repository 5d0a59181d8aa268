use Rattle.std.proofs.Common.{◌≡◌, List, Ok, length, ap, sym, subst, ◌∙◌}
use Rattle.std.specs.List.{sum_by}
use Rattle.component.specs.declared.comp.Comp.{Comp}
use Rattle.event_graph.specs.OneListWeave.{FiredEvent}
use Rattle.certify.specs.declared.reader.Counts.{Counts}
use Rattle.certify.specs.EventsFile.{events_of}
use Rattle.certify.proofs.Reading.{is_kept}
use Rattle.certify.proofs.checker.check.Goals as goal

pub judge_all-requires-clause-read : goal.judge_all-requires-clause-read
judge_all-requires-clause-read c =
    let read = is_kept (events_of c.as_slice.result.now c.args.file.now) (λ (is : List (List FiredEvent)). let n : Counts = record { intervals = length is; events = sum_by length is } in n) c.in_ok-counts.counts c.in_ok-counts.ensures in
    (read.0, subst (λ (cs : List Comp). events_of cs c.args.file.now ≡ Ok read.0) (c.as_slice.ensures ∙ sym c.as_mut_slice.ensures.value) read.1, ap (λ (n : Counts). n.intervals) read.2, ap (λ (n : Counts). n.events) read.2)
