use Rattle.std.proofs.Common.{rules, ◌≡◌, List, arith}
use Rattle.std.specs.Prelude.{Option}
use Rattle.parts_table.specs.declared.part.TimedPart.{TimedPart}
use Rattle.parts_table.proofs.Seating.{splits}
use Rattle.parts_table.proofs.seat.CoreSeat.next.Goals as goal

pub split_seat-requires : goal.split_seat-requires
split_seat-requires c =
    let place = c.self.inside.place in
    let key = c.args.bench.now.key in
    let parts : List (Option TimedPart) = key.parts.value.items in
    let counts = c.requires.counts in
    let made : place.me.0.made ≡ c.args.core = search rules in (
      search rules,
      c.requires.words,
      splits parts key.cores key.banks key.room place.id place.me.0 c.self.invariant.holds (omega (arith, counts.0, made)) (omega (arith, made, counts.2)),
    )
