use Rattle.std.proofs.Common.{◌≡◌, ℕ, ◌+◌, ◌<◌, ◌≤◌, List, [], ◌∷◌, refl, sym, ◌∙◌, ap, subst, arith}
use Rattle.std.specs.Prelude.{Option}
use Rattle.atomic_table.specs.Table.{Me}
use Rattle.zs_num.specs.Request.{bank_of}
use Rattle.parts_table.specs.declared.part.TimedPart.{TimedPart}
use Rattle.parts_table.specs.declared.view.View.{View}
use Rattle.parts_table.specs.Access.{TableState}
use Rattle.parts_table.specs.Seats.{HasHomeBeside, IsAtWork}
use Rattle.parts_table.specs.Stations.{desk_of, seat_of}
use Rattle.parts_table.proofs.DeskTakes.{home_beside}
use Rattle.parts_table.proofs.StationSteps.{access_after, ask_again, same_took, seat_again}
use Rattle.parts_table.proofs.station.Station.serve.Goals as goal

pub home_number-number-requires : goal.home_number-number-requires
home_number-number-requires g c = let low : bank_of c.args.table.now.banks c.args.request < c.args.table.now.banks = c.requires.ask.1.0 in omega (arith, low)

pub try_take-requires-clause-part : goal.try_take-requires-clause-part
try_take-requires-clause-part g c =
    let low : bank_of c.args.table.now.banks c.args.request < c.args.table.now.banks = c.requires.ask.1.0 in
    let cores : c.table.inside.words.shared.key.cores ≡ c.args.table.now.cores = ap (λ (t : TableState). t.cores) c.table.view_is in
    let banks : c.table.inside.words.shared.key.banks ≡ c.args.table.now.banks = ap (λ (t : TableState). t.banks) c.table.view_is in
    omega (arith, low, c.home_number-number.ensures, cores, banks)

pub try_take-requires-clause-log : goal.try_take-requires-clause-log
try_take-requires-clause-log g c = (record { core = c.args.self.now.core; list = c.requires.work.done }, c.requires.work.has.hand.lone, refl)

pub serve_at_once-requires-clause-at : goal.serve_at_once-requires-clause-at
serve_at_once-requires-clause-at g c =
    let s = c.args.self.now in
    seat_again c.args.table.now (seat_of s) (seat_of (record { place = c.try_take.new.place; core = s.core; blocks = s.blocks; made = s.made })) c.requires.at
    (same_took (seat_of s) (seat_of (record { place = c.try_take.new.place; core = s.core; blocks = s.blocks; made = s.made })) c.home_number-number.result c.in-Some.home c.try_take.ensures.table.0 refl (ap (λ (m : Me (Option TimedPart) View). m.0) c.in-Some.ensures.took.0))

pub serve_at_once-requires-clause-ask : goal.serve_at_once-requires-clause-ask
serve_at_once-requires-clause-ask g c =
    let s = c.args.self.now in
    ask_again c.args.table.now (seat_of s) (seat_of (record { place = c.try_take.new.place; core = s.core; blocks = s.blocks; made = s.made })) c.args.request c.requires.ask
    (same_took (seat_of s) (seat_of (record { place = c.try_take.new.place; core = s.core; blocks = s.blocks; made = s.made })) c.home_number-number.result c.in-Some.home c.try_take.ensures.table.0 refl (ap (λ (m : Me (Option TimedPart) View). m.0) c.in-Some.ensures.took.0)) refl

pub serve_at_once-requires-clause-has : goal.serve_at_once-requires-clause-has
serve_at_once-requires-clause-has g c =
    let s = c.args.self.now in
    let past : s.place.me.0.cores ≤ c.home_number-number.result = (let cores = c.requires.at.cores in omega (arith, c.home_number-number.ensures, cores)) in
    subst (λ (m : Me (Option TimedPart) View). HasHomeBeside (record { me = m; core = s.core; blocks = s.blocks; made = s.made.list }) c.args.places.now c.home_number-number.result c.in-Some.home) (sym c.in-Some.ensures.took.0)
    (home_beside s.place.me s.core s.blocks s.made.list c.home_number-number.result c.in-Some.home c.in-Some.ensures.took.1 c.machine_laws.ensures c.args.places.now c.requires.work past)

pub returns-in-Some-clause-access : goal.returns-in-Some-clause-access
returns-in-Some-clause-access g c =
    let s = c.args.self.now in
    access_after (seat_of s) (seat_of (record { place = c.try_take.new.place; core = s.core; blocks = s.blocks; made = s.made })) (seat_of c.serve_at_once.new.self) c.args.start c.args.request c.serve_at_once.result
    (same_took (seat_of s) (seat_of (record { place = c.try_take.new.place; core = s.core; blocks = s.blocks; made = s.made })) c.home_number-number.result c.in-Some.home c.try_take.ensures.table.0 refl (ap (λ (m : Me (Option TimedPart) View). m.0) c.in-Some.ensures.took.0)) refl c.serve_at_once.ensures.access

pub give_own-requires-clause-at : goal.give_own-requires-clause-at
give_own-requires-clause-at g c =
    let s = c.args.self.now in
    seat_again c.args.table.now (seat_of s) (seat_of (record { place = c.try_take.new.place; core = s.core; blocks = s.blocks; made = s.made })) c.requires.at
    (record { table = c.try_take.ensures.table.0; core = refl; opening = ap (λ (m : Me (Option TimedPart) View). m.0.opening) c.in-None.ensures.took; cores = ap (λ (m : Me (Option TimedPart) View). m.0.cores) c.in-None.ensures.took; banks = ap (λ (m : Me (Option TimedPart) View). m.0.banks) c.in-None.ensures.took; room = ap (λ (m : Me (Option TimedPart) View). m.0.room) c.in-None.ensures.took })

pub give_own-requires-clause-work : goal.give_own-requires-clause-work
give_own-requires-clause-work g c =
    let s = c.args.self.now in
    subst (λ (m : Me (Option TimedPart) View). IsAtWork (record { me = m; core = s.core; blocks = s.blocks; made = s.made.list }) c.args.places.now) (sym c.in-None.ensures.took) c.requires.work

pub serve_at_rest-requires-clause-at : goal.serve_at_rest-requires-clause-at
serve_at_rest-requires-clause-at g c =
    let s = c.args.self.now in
    seat_again c.args.table.now (seat_of (record { place = c.try_take.new.place; core = s.core; blocks = s.blocks; made = s.made })) (seat_of c.give_own.new.self)
    (seat_again c.args.table.now (seat_of s) (seat_of (record { place = c.try_take.new.place; core = s.core; blocks = s.blocks; made = s.made })) c.requires.at
    (record { table = c.try_take.ensures.table.0; core = refl; opening = ap (λ (m : Me (Option TimedPart) View). m.0.opening) c.in-None.ensures.took; cores = ap (λ (m : Me (Option TimedPart) View). m.0.cores) c.in-None.ensures.took; banks = ap (λ (m : Me (Option TimedPart) View). m.0.banks) c.in-None.ensures.took; room = ap (λ (m : Me (Option TimedPart) View). m.0.room) c.in-None.ensures.took })) c.give_own.ensures.same.0

pub serve_at_rest-requires-clause-ask : goal.serve_at_rest-requires-clause-ask
serve_at_rest-requires-clause-ask g c =
    let s = c.args.self.now in
    ask_again c.args.table.now (seat_of (record { place = c.try_take.new.place; core = s.core; blocks = s.blocks; made = s.made })) (seat_of c.give_own.new.self) c.args.request
    (ask_again c.args.table.now (seat_of s) (seat_of (record { place = c.try_take.new.place; core = s.core; blocks = s.blocks; made = s.made })) c.args.request c.requires.ask
    (record { table = c.try_take.ensures.table.0; core = refl; opening = ap (λ (m : Me (Option TimedPart) View). m.0.opening) c.in-None.ensures.took; cores = ap (λ (m : Me (Option TimedPart) View). m.0.cores) c.in-None.ensures.took; banks = ap (λ (m : Me (Option TimedPart) View). m.0.banks) c.in-None.ensures.took; room = ap (λ (m : Me (Option TimedPart) View). m.0.room) c.in-None.ensures.took }) refl) c.give_own.ensures.same.0 c.give_own.ensures.same.1

pub returns-in-None-clause-access : goal.returns-in-None-clause-access
returns-in-None-clause-access g c =
    let s = c.args.self.now in
    access_after (seat_of s) (seat_of (record { place = c.try_take.new.place; core = s.core; blocks = s.blocks; made = s.made })) (seat_of c.serve_at_rest.new.self) c.args.start c.args.request c.serve_at_rest.result
    (record { table = c.try_take.ensures.table.0; core = refl; opening = ap (λ (m : Me (Option TimedPart) View). m.0.opening) c.in-None.ensures.took; cores = ap (λ (m : Me (Option TimedPart) View). m.0.cores) c.in-None.ensures.took; banks = ap (λ (m : Me (Option TimedPart) View). m.0.banks) c.in-None.ensures.took; room = ap (λ (m : Me (Option TimedPart) View). m.0.room) c.in-None.ensures.took }) refl
    (access_after (seat_of (record { place = c.try_take.new.place; core = s.core; blocks = s.blocks; made = s.made })) (seat_of c.give_own.new.self) (seat_of c.serve_at_rest.new.self) c.args.start c.args.request c.serve_at_rest.result c.give_own.ensures.same.0 c.give_own.ensures.same.1 c.serve_at_rest.ensures.access)
