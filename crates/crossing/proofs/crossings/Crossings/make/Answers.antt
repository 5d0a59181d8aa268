-- The words and the first seat are as many as the crossings ask.
use Rattle.std.proofs.Common.{◌≡◌, ℕ, length, ap, subst, arith}
use Rattle.std.proofs.lemmas.List.{length-map}
use Rattle.crossing.specs.Seats.{AreSeats, finishes_of, sources_of}
use Rattle.crossing.proofs.crossings.Crossings.make.Goals as goal

pub seated-seats-requires-clause-count : goal.seated-seats-requires-clause-count
seated-seats-requires-clause-count g c =
    let sources : length (sources_of c.args.parts.now) ≡ length c.args.parts.now.crossings = length-map c.args.parts.now.crossings (λ x. x.source) in
    omega (arith, sources, c.in_ok-words.ensures.0, c.deref.ensures.len, c.in_ok-zeros.ensures.len, ap length c.crossings-count.ensures)

pub seated-seats-requires-clause-key : goal.seated-seats-requires-clause-key
seated-seats-requires-clause-key g c =
    let sources : length (sources_of c.args.parts.now) ≡ length c.args.parts.now.crossings = length-map c.args.parts.now.crossings (λ x. x.source) in
    omega (arith, sources, c.in_ok-words.ensures.5, ap length c.crossings-count.ensures)

pub seated-seats-requires-clause-room : goal.seated-seats-requires-clause-room
seated-seats-requires-clause-room g c = omega (arith, c.in_ok-seats.ensures.capacity, c.from.ensures)

pub returns : goal.returns
returns g c =
    subst (λ (n : ℕ). AreSeats c.in_ok-words.words.shared.table_id (finishes_of g.C.Component.stepped c.args.graph.now c.args.parts.now c.args.comps.now) (sources_of c.args.parts.now) n c.seated-seats.result.items)
    c.domains-domains.ensures.count c.seated-seats.ensures
