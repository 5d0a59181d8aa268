use Rattle.std.proofs.Common.{◌<◌, length, ◌∙◌, arith}
use Rattle.std.specs.List.{zip}
use Rattle.std.proofs.lemmas.Option.{slice_get-get_or}
use Rattle.stats.proofs.Events.{no_event, event_fits, event_counted, all_events}
use Rattle.stats.proofs.comp_counts.count_events.Goals as goal

pub loop-i-init : goal.loop-i-init
loop-i-init c = λ n d there. no_event _ n (zip c.args.events.now c.args.fired.now)

pub count_event-requires-clause-took : goal.count_event-requires-clause-took
count_event-requires-clause-took c =
    let there : c.loop-i.i < length c.args.fired.now = omega (arith, c.requires.took.count, c.loop-i-test.true) in
    c.requires.took.each c.loop-i.i _ _ (slice_get-get_or c.args.events.now c.loop-i.i _ c.loop-i-test.true) (slice_get-get_or c.args.fired.now c.loop-i.i _ there)

pub count_event-requires-clause-fits : goal.count_event-requires-clause-fits
count_event-requires-clause-fits c =
    event_fits c.args.counts.now c.loop-i.counts c.args.events.now c.args.fired.now c.loop-i.i _ _ c.loop-i-test.true c.requires.took.count c.from.result c.from.ensures
    (rw c.from.ensures (c.requires.components c.loop-i.i _ c.loop-i-test.true))
    c.loop-i.invariant c.requires.fits _

pub loop-i-preserved : goal.loop-i-preserved
loop-i-preserved c =
    event_counted c.args.counts.now c.loop-i.counts c.args.events.now c.args.fired.now c.loop-i.i _ _ c.loop-i-test.true c.requires.took.count c.from.result c.from.ensures
    (rw c.from.ensures (c.requires.components c.loop-i.i _ c.loop-i-test.true))
    c.loop-i.invariant c.loop-i.auto.counts _ c.count_event.new.count c.count_event.ensures

pub returns : goal.returns
returns c = λ n d there.
    c.loop-i.invariant n d there ∙ all_events _ n c.args.events.now c.args.fired.now c.loop-i.i c.loop-i-test.false c.requires.took.count
