use Rattle.std.proofs.Common.{◌≡◌, ℕ, ◌+◌, ◌*◌, ◌≤◌, List, [], ◌∷◌, refl, sym, ◌∙◌, ap, subst, arith}
use Rattle.home.specs.HomeState.{HomeState}
use Rattle.mesi_dir.specs.CoreSets.{cores_in}
use Rattle.parts_table.specs.declared.part.Part.{Part}
use Rattle.parts_table.specs.declared.part.TimedPart.{TimedPart}
use Rattle.parts_table.specs.declared.view.Made.{Made}
use Rattle.parts_table.specs.Places.{is_in}
use Rattle.parts_table.specs.Seats.{AreTouched, HasParts, IsTimely, hand_of}
use Rattle.parts_table.specs.Stations.{desk_of, seat_of}
use Rattle.parts_table.proofs.SharedSteps.{home_time, timely_alone}
use Rattle.parts_table.proofs.StationSteps.{access_after, ask_again, seat_again}
use Rattle.parts_table.proofs.station.Station.serve_by_others.Goals as goal

pub give_own_beside-requires-clause-has : goal.give_own_beside-requires-clause-has
give_own_beside-requires-clause-has g c = (c.requires.has.done, c.requires.has.list, c.requires.has.has)

pub serve_by_all-requires-clause-at : goal.serve_by_all-requires-clause-at
serve_by_all-requires-clause-at g c = seat_again c.args.table.now (seat_of c.args.self.now) (seat_of c.give_own_beside.new.self) c.requires.at c.give_own_beside.ensures.same.0

pub serve_by_all-requires-clause-ask : goal.serve_by_all-requires-clause-ask
serve_by_all-requires-clause-ask g c = ask_again c.args.table.now (seat_of c.args.self.now) (seat_of c.give_own_beside.new.self) c.args.request c.requires.ask c.give_own_beside.ensures.same.0 c.give_own_beside.ensures.same.1

pub serve_by_all-requires-clause-touched : goal.serve_by_all-requires-clause-touched
serve_by_all-requires-clause-touched g c =
    subst (λ (n : ℕ). (state : HomeState) → c.args.home.part ≡ Part.Home state → AreTouched c.args.table.now.cores state n c.args.request (cores_in c.args.cores.words)) (sym c.give_own_beside.ensures.same.0.core) c.requires.touched

pub serve_by_all-requires-clause-own : goal.serve_by_all-requires-clause-own
serve_by_all-requires-clause-own g c = subst (λ (n : ℕ). is_in (cores_in c.args.cores.words) n) (sym c.give_own_beside.ensures.same.0.core) c.requires.own

pub serve_by_all-requires-clause-has : goal.serve_by_all-requires-clause-has
serve_by_all-requires-clause-has g c =
    subst (λ (list : List Made). HasParts (desk_of c.give_own_beside.new.self) c.give_own_beside.new.places c.args.home (c.args.number ∷ []) [] list []) (sym c.give_own_beside.ensures.same.1) c.give_own_beside.ensures.left

pub serve_by_all-requires-clause-timely : goal.serve_by_all-requires-clause-timely
serve_by_all-requires-clause-timely g c =
    let s = c.args.self.now in
    let s1 = c.give_own_beside.new.self in
    let same = c.give_own_beside.ensures.same.0 in
    let low = home_time (desk_of s) c.args.places.now c.args.home c.args.number (s.core ∷ []) c.requires.has.done c.requires.has.list c.requires.has.has c.requires.has.timely in
    let later : c.args.home.time ≤ s1.place.me.0.cores * s1.place.me.0.room + s1.place.me.0.room =
    subst (λ (n : ℕ). c.args.home.time ≤ n * s1.place.me.0.room + s1.place.me.0.room) (sym same.cores)
    (subst (λ (n : ℕ). c.args.home.time ≤ s.place.me.0.cores * n + n) (sym same.room) low) in
    subst (λ (n : ℕ). IsTimely (desk_of s1) (hand_of n c.give_own_beside.new.places c.args.home)) (same.cores ∙ c.requires.at.cores)
    (timely_alone (desk_of s1) c.give_own_beside.new.places c.args.home c.args.number s.made.list [] c.give_own_beside.ensures.left later)

pub returns-clause-access : goal.returns-clause-access
returns-clause-access g c =
    access_after (seat_of c.args.self.now) (seat_of c.give_own_beside.new.self) (seat_of c.serve_by_all.new.self) c.args.start c.args.request c.serve_by_all.result
    c.give_own_beside.ensures.same.0 c.give_own_beside.ensures.same.1 c.serve_by_all.ensures.access
