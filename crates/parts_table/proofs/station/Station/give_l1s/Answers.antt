use Rattle.std.proofs.Common.{◌≡◌, ℕ, List, [], ◌∷◌, refl, sym, ◌∙◌, subst}
use Rattle.mesi_dir.specs.CoreSets.{cores_in}
use Rattle.parts_table.specs.Seats.{HasParts}
use Rattle.parts_table.specs.Stations.{desk_of, seat_of}
use Rattle.parts_table.specs.World.{no_part}
use Rattle.parts_table.proofs.DeskGives.{rests}
use Rattle.parts_table.proofs.L1Loops.{giving_begins, giving_goes_on}
use Rattle.parts_table.proofs.StationSteps.{seat_again}
use Rattle.parts_table.proofs.station.Station.give_l1s.Goals as goal

pub loop-core-init : goal.loop-core-init
loop-core-init c = giving_begins c.args.self.now c.args.places.now (cores_in c.args.cores.words) c.requires.has

pub give_l1-requires-clause-at : goal.give_l1-requires-clause-at
give_l1-requires-clause-at c = seat_again c.args.table.now (seat_of c.args.self.now) (seat_of c.loop-core.self) c.requires.at c.loop-core.invariant.same.0

pub give_l1-requires-clause-has : goal.give_l1-requires-clause-has
give_l1-requires-clause-has c = (
  cores_in c.take_first.new.self.words,
  c.loop-core.self.made.list,
  [],
  subst (λ (cs : List ℕ). HasParts (desk_of c.loop-core.self) c.loop-core.places no_part [] cs c.loop-core.self.made.list []) c.in-Some.ensures.some.1 c.loop-core.invariant.has,
)

pub loop-core-preserved : goal.loop-core-preserved
loop-core-preserved c =
    giving_goes_on c.args.self.now c.loop-core.self c.give_l1.new.self c.loop-core.places c.give_l1.new.places (cores_in c.loop-core.left.words) (cores_in c.take_first.new.self.words) c.in-Some.core c.loop-core.invariant c.in-Some.ensures.some.1
    c.give_l1.ensures.left c.give_l1.ensures.same

pub returns-clause-rest : goal.returns-clause-rest
returns-clause-rest c = rests (desk_of c.loop-core.self) c.loop-core.places (subst (λ (cs : List ℕ). HasParts (desk_of c.loop-core.self) c.loop-core.places no_part [] cs c.loop-core.self.made.list []) c.in_default.ensures.none.0 c.loop-core.invariant.has)

pub returns-clause-places : goal.returns-clause-places
returns-clause-places c =
    let has = subst (λ (cs : List ℕ). HasParts (desk_of c.loop-core.self) c.loop-core.places no_part [] cs c.loop-core.self.made.list []) c.in_default.ensures.none.0 c.loop-core.invariant.has in
    (has.count ∙ (c.loop-core.invariant.same.0.cores ∙ c.requires.at.cores), has.filled)
