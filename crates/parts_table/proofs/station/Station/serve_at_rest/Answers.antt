use Rattle.std.proofs.Common.{◌≡◌, ℕ, ◌+◌, ◌<◌, ◌≤◌, List, [], ◌∷◌, refl, sym, ◌∙◌, ap, subst, arith}
use Rattle.std.specs.Prelude.{Option}
use Rattle.atomic_table.specs.Table.{Me}
use Rattle.zs_num.specs.Request.{bank_of}
use Rattle.parts_table.specs.declared.part.TimedPart.{TimedPart}
use Rattle.parts_table.specs.declared.station.Station.{Station}
use Rattle.parts_table.specs.declared.view.View.{View}
use Rattle.parts_table.specs.Access.{IsSameSeat, IsSeatOf, TableState}
use Rattle.parts_table.specs.Seats.{Desk, HasParts, IsTimely, hand_of, slot_of}
use Rattle.parts_table.specs.Stations.{desk_of, seat_of}
use Rattle.parts_table.proofs.DeskTakes.{home_taken}
use Rattle.parts_table.proofs.StationSteps.{access_after, ask_again, same_took, seat_again}
use Rattle.parts_table.proofs.station.Station.serve_at_rest.Goals as goal

pub take-home-requires-clause-part : goal.take-home-requires-clause-part
take-home-requires-clause-part g c =
    let low : bank_of c.args.table.now.banks c.args.request < c.args.table.now.banks = c.requires.ask.1.0 in
    let is : c.args.number ≡ c.args.table.now.cores + bank_of c.args.table.now.banks c.args.request = c.requires.number in
    let cores : c.table.inside.words.shared.key.cores ≡ c.args.table.now.cores = ap (λ (t : TableState). t.cores) c.table.view_is in
    let banks : c.table.inside.words.shared.key.banks ≡ c.args.table.now.banks = ap (λ (t : TableState). t.banks) c.table.view_is in
    omega (arith, low, is, cores, banks)

pub take-home-requires-clause-log : goal.take-home-requires-clause-log
take-home-requires-clause-log g c = (record { core = c.args.self.now.core; list = c.args.self.now.made.list }, c.requires.rest.lone, refl)

pub cores_touched-cores-requires : goal.cores_touched-cores-requires
cores_touched-cores-requires g c =
    let known = c.requires.rest.core_is in
    let few = c.requires.rest.few_cores in
    let is = c.requires.at.cores in
    record { core = (subst (λ (n : ℕ). c.args.self.now.core < n) is known, omega (arith, known, few)) }

pub serve_by_all-requires-clause-at : goal.serve_by_all-requires-clause-at
serve_by_all-requires-clause-at g c =
    let s = c.args.self.now in
    seat_again c.args.table.now (seat_of s) (seat_of (record { place = c.take-home.new.place; core = s.core; blocks = s.blocks; made = s.made })) c.requires.at
    (same_took (seat_of s) (seat_of (record { place = c.take-home.new.place; core = s.core; blocks = s.blocks; made = s.made })) c.args.number c.take-home.result c.take-home.ensures.table.0 refl (ap (λ (m : Me (Option TimedPart) View). m.0) c.take-home.ensures.took.0))

pub serve_by_all-requires-clause-ask : goal.serve_by_all-requires-clause-ask
serve_by_all-requires-clause-ask g c =
    let s = c.args.self.now in
    ask_again c.args.table.now (seat_of s) (seat_of (record { place = c.take-home.new.place; core = s.core; blocks = s.blocks; made = s.made })) c.args.request c.requires.ask
    (same_took (seat_of s) (seat_of (record { place = c.take-home.new.place; core = s.core; blocks = s.blocks; made = s.made })) c.args.number c.take-home.result c.take-home.ensures.table.0 refl (ap (λ (m : Me (Option TimedPart) View). m.0) c.take-home.ensures.took.0)) refl

pub serve_by_all-requires-clause-has : goal.serve_by_all-requires-clause-has
serve_by_all-requires-clause-has g c =
    let s = c.args.self.now in
    let took = c.take-home.ensures.took in
    let past : s.place.me.0.cores ≤ c.args.number = (let is = c.requires.number in let cores = c.requires.at.cores in omega (arith, is, cores)) in
    subst (λ (m : Me (Option TimedPart) View). HasParts (record { me = m; core = s.core; blocks = s.blocks; made = s.made.list }) c.args.places.now c.take-home.result (c.args.number ∷ []) [] s.made.list []) (sym took.0)
    (home_taken s.place.me s.core s.blocks s.made.list c.args.number c.take-home.result took.1 c.requires.rest past c.args.places.now (c.requires.places.0 ∙ sym c.requires.at.cores) c.requires.places.1).0

pub serve_by_all-requires-clause-timely : goal.serve_by_all-requires-clause-timely
serve_by_all-requires-clause-timely g c =
    let s = c.args.self.now in
    let took = c.take-home.ensures.took in
    let past : s.place.me.0.cores ≤ c.args.number = (let is = c.requires.number in let cores = c.requires.at.cores in omega (arith, is, cores)) in
    subst (λ (n : ℕ). IsTimely (record { me = c.take-home.new.place.me; core = s.core; blocks = s.blocks; made = s.made.list }) (hand_of n c.args.places.now c.take-home.result)) c.requires.at.cores
    (subst (λ (m : Me (Option TimedPart) View). IsTimely (record { me = m; core = s.core; blocks = s.blocks; made = s.made.list }) (hand_of s.place.me.0.cores c.args.places.now c.take-home.result)) (sym took.0)
    (home_taken s.place.me s.core s.blocks s.made.list c.args.number c.take-home.result took.1 c.requires.rest past c.args.places.now (c.requires.places.0 ∙ sym c.requires.at.cores) c.requires.places.1).1)

pub returns-clause-access : goal.returns-clause-access
returns-clause-access g c =
    let s = c.args.self.now in
    access_after (seat_of s) (seat_of (record { place = c.take-home.new.place; core = s.core; blocks = s.blocks; made = s.made })) (seat_of c.serve_by_all.new.self) c.args.start c.args.request c.serve_by_all.result
    (same_took (seat_of s) (seat_of (record { place = c.take-home.new.place; core = s.core; blocks = s.blocks; made = s.made })) c.args.number c.take-home.result c.take-home.ensures.table.0 refl (ap (λ (m : Me (Option TimedPart) View). m.0) c.take-home.ensures.took.0)) refl c.serve_by_all.ensures.access
