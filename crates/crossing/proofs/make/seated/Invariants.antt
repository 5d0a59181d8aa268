-- The domains so far have their seats, and the first is about to make the next.
use Rattle.std.proofs.Common.{◌≡◌, ◌≤◌, true, []}
use Rattle.std.specs.Vec.{vec_capacity}
use Rattle.crossing.specs.Rule.{fresh}
use Rattle.crossing.specs.Seats.{AreSeats}
use Rattle.crossing.proofs.make.seated.Given as goal

abbrev pub invariant-loop-domain : goal.invariant-loop-domain
invariant-loop-domain g l = record {
  table : l.first.table_id ≡ l.words.shared.table_id;
  next : l.first.me ≡ (fresh g.F.Finishes.finishes g.F.Finishes.sources true l.domain, []);
  room : l.domains ≤ vec_capacity l.seats;
  seats : AreSeats l.words.shared.table_id g.F.Finishes.finishes g.F.Finishes.sources l.domain l.seats.items;
}
