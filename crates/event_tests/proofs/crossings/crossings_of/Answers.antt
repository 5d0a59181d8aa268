-- The seats are those of domain 0 and domain 1, at a finish of 10.
use Rattle.std.proofs.Common.{length, subst}
use Rattle.std.specs.Prelude.{IfOk}
use Rattle.component.specs.ComponentStep.{bank_step}
use Rattle.crossing.specs.Seats.{AreSeats, finishes_of, sources_of}
use Rattle.event_tests.proofs.Pairs.{pair_fits, pair_of_seats}
use Rattle.event_tests.proofs.crossings.crossings_of.Goals as goal

pub make-requires-clause-fits : goal.make-requires-clause-fits
make-requires-clause-fits g c = pair_fits c.args.graph.now c.args.parts.now c.args.comps.now c.requires.pair

pub returns : goal.returns
returns g c =
    let graph = c.args.graph.now in
    let parts = c.args.parts.now in
    let banks = c.args.comps.now in
    pair_of_seats graph parts banks c.expect.result.0 c.expect.result.1.items c.requires.pair
    (subst (λ (r : _). IfOk r (λ made. AreSeats made.0 (finishes_of bank_step graph parts banks) (sources_of parts) (length parts.events) made.1.items)) c.expect.ensures c.make.ensures)
