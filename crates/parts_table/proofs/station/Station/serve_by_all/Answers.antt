use Rattle.std.proofs.Common.{◌≡◌, ℕ, List, [], ◌∷◌, refl, sym, ◌∙◌, subst}
use Rattle.mesi_dir.specs.CoreSets.{cores_in}
use Rattle.home.specs.HomeState.{HomeState}
use Rattle.parts_table.specs.declared.part.Part.{Part}
use Rattle.parts_table.specs.Places.{is_in}
use Rattle.parts_table.specs.Seats.{AreTouched, IsTimely, hand_of}
use Rattle.parts_table.specs.Stations.{desk_of, seat_of}
use Rattle.parts_table.proofs.SharedSteps.{can_serve}
use Rattle.parts_table.proofs.StationSteps.{access_after, access_before, ask_again, seat_again, seats_twice}
use Rattle.parts_table.proofs.station.Station.serve_by_all.Goals as goal

pub serve_held-entry-requires-clause-at : goal.serve_held-entry-requires-clause-at
serve_held-entry-requires-clause-at g c = seat_again c.args.table.now (seat_of c.args.self.now) (seat_of c.take_l1s.new.self) c.requires.at c.take_l1s.ensures.same.0

pub serve_held-entry-requires-clause-can : goal.serve_held-entry-requires-clause-can
serve_held-entry-requires-clause-can g c =
    let t = c.args.table.now in
    let s1 = c.take_l1s.new.self in
    let same = c.take_l1s.ensures.same in
    let cores : t.cores ≡ s1.place.me.0.cores = sym (same.0.cores ∙ c.requires.at.cores) in
    can_serve t s1 c.take_l1s.new.places c.args.home c.args.number (cores_in c.args.cores.words) c.args.self.now.made.list [] c.args.request
    (seat_again t (seat_of c.args.self.now) (seat_of s1) c.requires.at same.0) (ask_again t (seat_of c.args.self.now) (seat_of s1) c.args.request c.requires.ask same.0 same.1) c.requires.number c.take_l1s.ensures.has
    (subst (λ (n : ℕ). IsTimely (desk_of s1) (hand_of n c.take_l1s.new.places c.args.home)) cores c.take_l1s.ensures.timely)
    (subst (λ (n : ℕ). is_in (cores_in c.args.cores.words) n) (sym same.0.core) c.requires.own)
    (subst (λ (n : ℕ). (state : HomeState) → c.args.home.part ≡ Part.Home state → AreTouched t.cores state n c.args.request (cores_in c.args.cores.words)) (sym same.0.core) c.requires.touched)

pub give_l1s-requires-clause-at : goal.give_l1s-requires-clause-at
give_l1s-requires-clause-at g c =
    let t = c.args.table.now in
    seat_again t (seat_of c.take_l1s.new.self) (seat_of c.serve_held-entry.new.self) (seat_again t (seat_of c.args.self.now) (seat_of c.take_l1s.new.self) c.requires.at c.take_l1s.ensures.same.0) c.serve_held-entry.ensures.access.same

pub take_own-requires-clause-at : goal.take_own-requires-clause-at
take_own-requires-clause-at g c =
    let t = c.args.table.now in
    seat_again t (seat_of c.serve_held-entry.new.self) (seat_of c.give_l1s.new.self)
    (seat_again t (seat_of c.take_l1s.new.self) (seat_of c.serve_held-entry.new.self) (seat_again t (seat_of c.args.self.now) (seat_of c.take_l1s.new.self) c.requires.at c.take_l1s.ensures.same.0) c.serve_held-entry.ensures.access.same)
    c.give_l1s.ensures.same.0

pub returns-clause-access : goal.returns-clause-access
returns-clause-access g c =
    let s = seat_of c.args.self.now in
    let s1 = seat_of c.take_l1s.new.self in
    let s2 = seat_of c.serve_held-entry.new.self in
    let s3 = seat_of c.give_l1s.new.self in
    let s4 = seat_of c.take_own.new.self in
    access_before s s2 s4 c.args.start c.args.request c.serve_held-entry.result
    (access_after s s1 s2 c.args.start c.args.request c.serve_held-entry.result c.take_l1s.ensures.same.0 c.take_l1s.ensures.same.1 c.serve_held-entry.ensures.access)
    (seats_twice s2 s3 s4 c.give_l1s.ensures.same.0 c.take_own.ensures.same.0) (c.take_own.ensures.same.1 ∙ c.give_l1s.ensures.same.1)
