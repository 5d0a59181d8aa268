use Rattle.std.proofs.Common.{◌≡◌, List, [], refl, sym, ◌∙◌, subst}
use Rattle.parts_table.specs.declared.view.Made.{Made}
use Rattle.parts_table.specs.Seats.{HasParts}
use Rattle.parts_table.specs.Stations.{desk_of}
use Rattle.parts_table.specs.World.{no_part}
use Rattle.parts_table.proofs.DeskGives.{rests}
use Rattle.parts_table.proofs.station.Station.give_own.Goals as goal

empty : (c : goal.After-give_l1) → HasParts (desk_of c.give_l1.new.self) c.give_l1.new.places no_part [] [] c.give_l1.new.self.made.list []
empty c =
    subst (λ (list : List Made). HasParts (desk_of c.give_l1.new.self) c.give_l1.new.places no_part [] [] list []) (sym c.give_l1.ensures.same.1)
    (c.give_l1.ensures.left [] c.requires.work.done c.requires.work.list c.requires.work.has)

pub returns-clause-rest : goal.returns-clause-rest
returns-clause-rest c = rests (desk_of c.give_l1.new.self) c.give_l1.new.places (empty c)

pub returns-clause-places : goal.returns-clause-places
returns-clause-places c = let has = empty c in (has.count ∙ (c.give_l1.ensures.same.0.cores ∙ c.requires.at.cores), has.filled)
