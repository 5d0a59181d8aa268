use Rattle.std.proofs.Common.{◌≡◌, ℕ, ◌<◌, List, [], ◌∷◌, length, refl, sym, ◌∙◌, ap, subst, arith}
use Rattle.std.specs.Prelude.{Option}
use Rattle.atomic_table.specs.Table.{Me, turned}
use Rattle.parts_table.specs.declared.part.TimedPart.{TimedPart}
use Rattle.parts_table.specs.declared.view.CoreAccesses.{CoreAccesses}
use Rattle.parts_table.specs.declared.view.Hold.{Hold}
use Rattle.parts_table.specs.declared.view.Made.{Made}
use Rattle.parts_table.specs.declared.view.View.{View}
use Rattle.parts_table.specs.Seats.{hand_of, left_in, slot_of, unpublished}
use Rattle.parts_table.specs.Steps.{MayGive}
use Rattle.parts_table.specs.Stations.{seat_of}
use Rattle.parts_table.specs.Views.{given}
use Rattle.parts_table.proofs.DeskGives.{gave_beside, may_give_beside}
use Rattle.parts_table.proofs.StationSteps.{same_gave}
use Rattle.parts_table.proofs.station.Station.give_own_beside.Goals as goal

-- the seat with the home's slot behind the own one
turned_is : (me me' : Me (Option TimedPart) View) (core number : ℕ) → me' ≡ (me.0, turned me.1) → me.1 ≡ slot_of number ∷ slot_of core ∷ [] → me' ≡ (me.0, slot_of core ∷ slot_of number ∷ [])
turned_is me me' core number is slots = is ∙ ap (λ (ss : List (ℕ × Option TimedPart)). (me.0, turned ss)) slots

pub give_beside-requires-clause-slot : goal.give_beside-requires-clause-slot
give_beside-requires-clause-slot c =
    (slot_of c.args.number ∷ [], ap (λ (m : Me (Option TimedPart) View). m.1) (turned_is c.args.self.now.place.me c.turn.new.self.me c.args.self.now.core c.args.number c.turn.ensures.2 c.requires.has.2.slots) ∙ ap (λ (n : ℕ). slot_of n ∷ slot_of c.args.number ∷ []) (sym c.from-own.ensures))

pub give_beside-requires-clause-may : goal.give_beside-requires-clause-may
give_beside-requires-clause-may c =
    let me = c.args.self.now.place.me in
    let made : List Made = c.args.self.now.made.list in
    let out = c.take_out-part.ensures in
    subst (λ (v : View). MayGive v c.from-own.result c.take_out-part.result (unpublished v made) (left_in (hand_of v.cores c.take_out-part.new.self c.args.home.now) c.from-own.result v.holds)) (sym (ap (λ (m : Me (Option TimedPart) View). m.0) c.turn.ensures.2))
    (subst (λ (n : ℕ). MayGive me.0 n c.take_out-part.result (unpublished me.0 made) (left_in (hand_of me.0.cores c.take_out-part.new.self c.args.home.now) n me.0.holds)) (sym c.from-own.ensures)
    (may_give_beside c.machine_laws.ensures me c.args.self.now.core c.args.self.now.blocks made c.args.places.now c.take_out-part.new.self c.args.self.now.core c.take_out-part.result out.was out.others out.count out.filled
    c.args.number c.args.home.now c.requires.has.0 c.requires.has.1 c.requires.has.2))

gave : (c : goal.After-give_beside) → c.give_beside.new.place.me
    ≡ (given c.args.self.now.place.me.0 (record { core = c.args.self.now.core; list = c.requires.has.0 }) (unpublished c.args.self.now.place.me.0 c.args.self.now.made.list) (left_in (hand_of c.args.self.now.place.me.0.cores c.take_out-part.new.self c.args.home.now) c.args.self.now.core c.args.self.now.place.me.0.holds), slot_of c.args.number ∷ [])
gave c =
    let v0 = c.args.self.now.place.me.0 in
    let log : CoreAccesses = record { core = c.args.self.now.core; list = c.requires.has.0 } in
    let knows : c.turn.new.self.me.0 ≡ v0 = ap (λ (m : Me (Option TimedPart) View). m.0) c.turn.ensures.2 in
    let slots = turned_is c.args.self.now.place.me c.turn.new.self.me c.args.self.now.core c.args.number c.turn.ensures.2 c.requires.has.2.slots in
    let lone : c.turn.new.self.me.0.logs ≡ log ∷ [] = ap (λ (v : View). v.logs) knows ∙ c.requires.has.2.hand.lone in
    let front : c.turn.new.self.me.1 ≡ slot_of c.from-own.result ∷ slot_of c.args.number ∷ [] =
    ap (λ (m : Me (Option TimedPart) View). m.1) slots ∙ ap (λ (n : ℕ). slot_of n ∷ slot_of c.args.number ∷ []) (sym c.from-own.ensures) in
    c.give_beside.ensures.gave (slot_of c.args.number ∷ []) log front lone
    ∙ (ap (λ (v : View). (given v log (unpublished v c.args.self.now.made.list) (left_in (hand_of v.cores c.take_out-part.new.self c.args.home.now) c.from-own.result v.holds), slot_of c.args.number ∷ [])) knows
    ∙ ap (λ (n : ℕ). (given v0 log (unpublished v0 c.args.self.now.made.list) (left_in (hand_of v0.cores c.take_out-part.new.self c.args.home.now) n v0.holds), slot_of c.args.number ∷ [])) c.from-own.ensures)

pub returns-clause-left : goal.returns-clause-left
returns-clause-left c =
    let out = c.take_out-part.ensures in
    gave_beside c.machine_laws.ensures c.args.self.now.place.me c.args.self.now.core c.args.self.now.blocks c.args.self.now.made.list c.args.places.now c.take_out-part.new.self c.args.self.now.core c.take_out-part.result out.was out.others out.count out.filled
    c.args.number c.args.home.now c.requires.has.0 c.requires.has.1 c.requires.has.2 c.give_beside.new.place.me (gave c)

pub returns-clause-same : goal.returns-clause-same
returns-clause-same c =
    let me = c.args.self.now.place.me in (
      same_gave (seat_of c.args.self.now) (seat_of (record { place = c.give_beside.new.place; core = c.args.self.now.core; blocks = c.args.self.now.blocks; made = c.args.self.now.made })) (record { core = c.args.self.now.core; list = c.requires.has.0 })
          (unpublished me.0 c.args.self.now.made.list) (left_in (hand_of me.0.cores c.take_out-part.new.self c.args.home.now) c.args.self.now.core me.0.holds) (c.give_beside.ensures.table.0 ∙ c.turn.ensures.0) refl (ap (λ (m : Me (Option TimedPart) View). m.0) (gave c)),
      refl,
    )
