-- What is known of the crossing.
use Rattle.std.proofs.Common.{◌≡◌, get_or, sym, ap, ◌∙◌, refl, arith}
use Rattle.std.proofs.lemmas.Option.{get_or_from_slice_get}
use Rattle.weave_core.specs.DomainMachine.{latency_of}
use Rattle.weave_core.specs.Layout.{no_event}
use Rattle.weave_core.proofs.Joined.{latency_there}
use Rattle.weave_core.proofs.prepare.stub_of.Goals as goal

pub returns : goal.returns
returns c =
    let r = c.requires.crossed in
    let small = c.requires.small.each c.args.crossing.parent r.parent r.parent_there in
    let read : get_or c.args.events.now c.args.crossing.parent no_event ≡ r.parent = get_or_from_slice_get c.args.events.now c.args.crossing.parent r.parent no_event r.parent_there in
    let latency : c.latency.result ≡ latency_of r.parent = c.latency.ensures ∙ ap latency_of read in
    record {
      number_is = refl;
      delay = refl;
      latency = latency ∙ sym (latency_there c.args.events.now c.args.crossing.parent r.parent r.parent_there);
      word = refl;
      child = c.in-Some.ensures.some;
      small = record { delay = r.delay; latency = omega (arith, latency, small.finish); cycle = omega arith };
    }
