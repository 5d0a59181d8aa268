use Rattle.std.proofs.Common.{◌≡◌, ℕ, ◌<◌, List, [], ◌∷◌, length, refl, sym, ◌∙◌, ap, subst, arith}
use Rattle.std.specs.Prelude.{Option}
use Rattle.std.proofs.lemmas.List.Elements.{All-head}
use Rattle.parts_table.specs.declared.part.TimedPart.{TimedPart}
use Rattle.parts_table.specs.declared.view.CoreAccesses.{CoreAccesses}
use Rattle.parts_table.specs.declared.view.Made.{Made}
use Rattle.parts_table.specs.Seats.{hand_of, left_in, slot_of, unpublished}
use Rattle.parts_table.specs.Steps.{MayGive}
use Rattle.parts_table.specs.Stations.{seat_of}
use Rattle.parts_table.specs.Views.{given}
use Rattle.parts_table.proofs.DeskGives.{gave_l1, may_give_l1}
use Rattle.parts_table.proofs.StationSteps.{same_gave}
use Rattle.parts_table.proofs.station.Station.give_l1.Goals as goal

pub take_out-part-requires-clause-core : goal.take_out-part-requires-clause-core
take_out-part-requires-clause-core c =
    let has = c.requires.has.3 in
    let known : c.args.core < c.args.self.now.place.me.0.cores = All-head (λ (k : ℕ). k < c.args.self.now.place.me.0.cores) c.args.core c.requires.has.0 has.known in
    let count = has.count in
    omega (arith, known, count)

pub give_back-requires-clause-may : goal.give_back-requires-clause-may
give_back-requires-clause-may c =
    let me = c.args.self.now.place.me in
    let made : List Made = c.args.self.now.made.list in
    let out = c.take_out-part.ensures in
    subst (λ (n : ℕ). MayGive me.0 n c.take_out-part.result (unpublished me.0 made) (left_in (hand_of me.0.cores c.take_out-part.new.self c.take_out-part.result) n me.0.holds)) (sym c.from-number.ensures)
    (may_give_l1 c.machine_laws.ensures me c.args.self.now.core c.args.self.now.blocks made c.args.places.now c.take_out-part.new.self c.args.core c.take_out-part.result out.was out.others out.count out.filled
    c.requires.has.0 c.requires.has.1 c.requires.has.2 c.requires.has.3)

-- what the seat is told, by the core's number
gave : (c : goal.After-give_back) → (slots : List (ℕ × Option TimedPart)) (log : CoreAccesses) → c.args.self.now.place.me.1 ≡ slot_of c.args.core ∷ slots → c.args.self.now.place.me.0.logs ≡ log ∷ []
    → c.give_back.new.place.me ≡ (given c.args.self.now.place.me.0 log (unpublished c.args.self.now.place.me.0 c.args.self.now.made.list) (left_in (hand_of c.args.self.now.place.me.0.cores c.take_out-part.new.self c.take_out-part.result) c.args.core c.args.self.now.place.me.0.holds), slots)
gave c =
    let me = c.args.self.now.place.me in
    subst (λ (n : ℕ). (slots : List (ℕ × Option TimedPart)) (log : CoreAccesses) → me.1 ≡ slot_of n ∷ slots → me.0.logs ≡ log ∷ []
    → c.give_back.new.place.me ≡ (given me.0 log (unpublished me.0 c.args.self.now.made.list) (left_in (hand_of me.0.cores c.take_out-part.new.self c.take_out-part.result) n me.0.holds), slots))
    c.from-number.ensures c.give_back.ensures.gave

pub returns-clause-left : goal.returns-clause-left
returns-clause-left c = λ rest done list has.
    let out = c.take_out-part.ensures in
    gave_l1 c.machine_laws.ensures c.args.self.now.place.me c.args.self.now.core c.args.self.now.blocks c.args.self.now.made.list c.args.places.now c.take_out-part.new.self c.args.core c.take_out-part.result out.was out.others out.count out.filled
    rest done list has c.give_back.new.place.me (gave c)

pub returns-clause-same : goal.returns-clause-same
returns-clause-same c =
    let me = c.args.self.now.place.me in
    let has = c.requires.has.3 in
    let log : CoreAccesses = record { core = c.args.self.now.core; list = c.requires.has.1 } in
    let is = gave c (Rattle.std.proofs.Common.map slot_of c.requires.has.0) log has.slots has.hand.lone in (
      same_gave (seat_of c.args.self.now) (seat_of (record { place = c.give_back.new.place; core = c.args.self.now.core; blocks = c.args.self.now.blocks; made = c.args.self.now.made })) log
          (unpublished me.0 c.args.self.now.made.list) (left_in (hand_of me.0.cores c.take_out-part.new.self c.take_out-part.result) c.args.core me.0.holds) c.give_back.ensures.table.0 refl (ap (λ m. m.0) is),
      refl,
    )
