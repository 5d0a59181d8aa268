use Rattle.std.proofs.Common.{◌≡◌, ℕ, ◌+◌, ◌++◌, List, [], ◌∷◌, refl, sym, ◌∙◌, ap, subst}
use Rattle.parts_table.specs.Seats.{Desk, IsAtWork, slot_of}
use Rattle.parts_table.specs.Stations.{desk_of}
use Rattle.parts_table.specs.Views.{holding}
use Rattle.parts_table.proofs.DeskTakes.{own_taken}
use Rattle.parts_table.proofs.station.Station.take_own.Goals as goal

pub returns-clause-work : goal.returns-clause-work
returns-clause-work g c =
    let s = c.args.self.now in
    let took = c.take_l1.ensures.took in
    let desk : desk_of c.take_l1.new.self ≡ record { me = (holding s.place.me.0 s.core took.value, s.place.me.1 ++ slot_of s.core ∷ []); core = s.core; blocks = s.blocks; made = s.made.list } =
    λ i. record { me = took.me i; core = c.take_l1.ensures.same.0.core i; blocks = c.take_l1.ensures.blocks i; made = c.take_l1.ensures.same.1 i } in
    subst (λ (d : Desk). IsAtWork d c.take_l1.new.places) (sym desk)
    (own_taken s.place.me s.core s.blocks s.made.list s.core took.value took.taken c.requires.rest refl c.take_l1.new.places took.there
    (took.count ∙ (c.requires.places.0 ∙ sym c.requires.at.cores)) (took.filled ∙ ap (λ (n : ℕ). n + 1) c.requires.places.1))
