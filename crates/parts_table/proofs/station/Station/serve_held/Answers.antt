use Rattle.std.proofs.Common.{◌≡◌, ℕ, ◌+◌, ◌*◌, ◌^◌, ◌<◌, Bool, true, false, cond, List, [], ◌∷◌, ◌++◌, length, refl, sym, ◌∙◌, ap, subst, arith}
use Rattle.std.specs.Prelude.{Option}
use Rattle.atomic_table.specs.Table.{Me}
use Rattle.home.specs.HomeState.{HomeState}
use Rattle.mesi_dir.specs.CoreSets.{cores_in}
use Rattle.zs_num.specs.Request.{bank_of}
use Rattle.parts_table.specs.declared.part.Part.{Part}
use Rattle.parts_table.specs.declared.part.TimedPart.{TimedPart}
use Rattle.parts_table.specs.declared.view.CoreAccesses.{CoreAccesses}
use Rattle.parts_table.specs.declared.view.Made.{Made}
use Rattle.parts_table.specs.declared.view.View.{View}
use Rattle.parts_table.specs.Access.{IsAccess, SeatState, TableState}
use Rattle.parts_table.specs.Places.{IsMetAlone, IsMetByAll, PlacesState, is_in, time_at}
use Rattle.parts_table.specs.Rest.{ArePast}
use Rattle.parts_table.specs.Seats.{Desk, HasParts, hand_of, left_in, slot_of, unpublished}
use Rattle.parts_table.specs.Stations.{desk_of, seat_of}
use Rattle.parts_table.specs.Steps.{MayGive}
use Rattle.parts_table.specs.Views.{given}
use Rattle.parts_table.specs.World.{no_part}
use Rattle.parts_table.proofs.Finish.{accessed, gave_home, is_home, its_core, its_request, its_stamp, its_start, key_alone, key_shared, l1s_known, low_home, low_l1, low_time, may_give_home, own_later, past_then, room_left, touched_here}
use Rattle.parts_table.proofs.station.Station.serve_held.Goals as goal

pub home_of-time-requires : goal.home_of-time-requires
home_of-time-requires c =
    let s = c.args.self.now in
    is_home c.machine_laws.ensures s.place.me s.core s.blocks s.made.list c.args.places.now c.args.number c.args.home (cores_in c.args.cores.words) c.args.request c.requires.can

-- the home is one, by its parts
state_is : (home : TimedPart) (time : ℕ) (state : HomeState) → home ≡ record { time = time; part = Part.Home state } → home.part ≡ Part.Home state
state_is home time state is = ap (λ (x : TimedPart). x.part) is

pub serve-made-requires-clause-some : goal.serve-made-requires-clause-some
serve-made-requires-clause-some c = c.requires.can.asks.1.servable.some

pub serve-made-requires-clause-few : goal.serve-made-requires-clause-few
serve-made-requires-clause-few c = c.requires.can.asks.1.servable.few

pub serve-made-requires-clause-within : goal.serve-made-requires-clause-within
serve-made-requires-clause-within c = c.requires.can.asks.1.servable.in_line

pub serve-made-requires-clause-touched : goal.serve-made-requires-clause-touched
serve-made-requires-clause-touched c = λ shared.
    let s = c.args.self.now in
    touched_here c.machine_laws.ensures s.place.me s.core s.blocks s.made.list c.args.places.now c.args.number c.args.home (cores_in c.args.cores.words) c.args.request c.requires.can
    c.home_of-time.result.1 (ap (λ (x : TimedPart). x.part) c.home_of-time.ensures) shared

pub serve-made-requires-clause-own : goal.serve-made-requires-clause-own
serve-made-requires-clause-own c = c.requires.can.own

pub serve-made-requires-clause-known : goal.serve-made-requires-clause-known
serve-made-requires-clause-known c = λ k is.
    let s = c.args.self.now in
    subst (λ (n : ℕ). k < n) (sym c.requires.can.has.count)
    (l1s_known c.machine_laws.ensures s.place.me s.core s.blocks s.made.list c.args.places.now c.args.number c.args.home (cores_in c.args.cores.words) c.args.request c.requires.can k is)

pub serve-made-requires-clause-low : goal.serve-made-requires-clause-low
serve-made-requires-clause-low c =
    let s = c.args.self.now in
    let low = low_home c.machine_laws.ensures s.place.me s.core s.blocks s.made.list c.args.places.now c.args.number c.args.home (cores_in c.args.cores.words) c.args.request c.requires.can in
    let time = ap (λ (x : TimedPart). x.time) c.home_of-time.ensures in (
      omega (arith, low, time),
      (λ k is. let low_too = low_l1 c.machine_laws.ensures s.place.me s.core s.blocks s.made.list c.args.places.now c.args.number c.args.home (cores_in c.args.cores.words) c.args.request c.requires.can k is in omega (arith, low_too)),
    )

pub note-requires-clause-room : goal.note-requires-clause-room
note-requires-clause-room c =
    let s = c.args.self.now in
    let m : Made = c.serve-made.result in
    let now : PlacesState = c.serve-made.new.self in
    let left : HomeState = c.serve-made.new.home in
    let home_is : c.args.home.part ≡ Part.Home c.home_of-time.result.1 = ap (λ (x : TimedPart). x.part) c.home_of-time.ensures in
    let time_is : c.args.home.time ≡ c.home_of-time.result.0 = ap (λ (x : TimedPart). x.time) c.home_of-time.ensures in
    let alone : m.shared ≡ false → IsMetAlone c.args.places.now s.core c.args.start c.args.request m now × (left ≡ c.home_of-time.result.1) = c.serve-made.ensures.alone in
    let shared : m.shared ≡ true → IsMetByAll c.args.places.now c.home_of-time.result.1 c.args.home.time (cores_in c.args.cores.words) s.core c.args.start c.args.request m now left =
    λ is. subst (λ (t : ℕ). IsMetByAll c.args.places.now c.home_of-time.result.1 t (cores_in c.args.cores.words) s.core c.args.start c.args.request m now left) (sym time_is) (c.serve-made.ensures.shared is) in
    room_left c.machine_laws.ensures s.place.me s.core s.blocks s.made.list c.args.places.now c.args.number c.args.home (cores_in c.args.cores.words) c.args.request c.requires.can c.home_of-time.result.1 home_is c.args.start now left m c.serve-made.ensures.count c.serve-made.ensures.filled alone shared

pub note-requires-clause-alone : goal.note-requires-clause-alone
note-requires-clause-alone c =
    let s = c.args.self.now in
    let m : Made = c.serve-made.result in
    let now : PlacesState = c.serve-made.new.self in
    let left : HomeState = c.serve-made.new.home in
    let home_is : c.args.home.part ≡ Part.Home c.home_of-time.result.1 = ap (λ (x : TimedPart). x.part) c.home_of-time.ensures in
    let time_is : c.args.home.time ≡ c.home_of-time.result.0 = ap (λ (x : TimedPart). x.time) c.home_of-time.ensures in
    let alone : m.shared ≡ false → IsMetAlone c.args.places.now s.core c.args.start c.args.request m now × (left ≡ c.home_of-time.result.1) = c.serve-made.ensures.alone in
    let shared : m.shared ≡ true → IsMetByAll c.args.places.now c.home_of-time.result.1 c.args.home.time (cores_in c.args.cores.words) s.core c.args.start c.args.request m now left =
    λ is. subst (λ (t : ℕ). IsMetByAll c.args.places.now c.home_of-time.result.1 t (cores_in c.args.cores.words) s.core c.args.start c.args.request m now left) (sym time_is) (c.serve-made.ensures.shared is) in
    key_alone c.machine_laws.ensures s.place.me s.core s.blocks s.made.list c.args.places.now c.args.number c.args.home (cores_in c.args.cores.words) c.args.request c.requires.can c.home_of-time.result.1 home_is c.args.start now left m c.serve-made.ensures.count c.serve-made.ensures.filled alone shared

pub note-requires-clause-shared : goal.note-requires-clause-shared
note-requires-clause-shared c =
    let s = c.args.self.now in
    let m : Made = c.serve-made.result in
    let now : PlacesState = c.serve-made.new.self in
    let left : HomeState = c.serve-made.new.home in
    let home_is : c.args.home.part ≡ Part.Home c.home_of-time.result.1 = ap (λ (x : TimedPart). x.part) c.home_of-time.ensures in
    let time_is : c.args.home.time ≡ c.home_of-time.result.0 = ap (λ (x : TimedPart). x.time) c.home_of-time.ensures in
    let alone : m.shared ≡ false → IsMetAlone c.args.places.now s.core c.args.start c.args.request m now × (left ≡ c.home_of-time.result.1) = c.serve-made.ensures.alone in
    let shared : m.shared ≡ true → IsMetByAll c.args.places.now c.home_of-time.result.1 c.args.home.time (cores_in c.args.cores.words) s.core c.args.start c.args.request m now left =
    λ is. subst (λ (t : ℕ). IsMetByAll c.args.places.now c.home_of-time.result.1 t (cores_in c.args.cores.words) s.core c.args.start c.args.request m now left) (sym time_is) (c.serve-made.ensures.shared is) in
    key_shared c.machine_laws.ensures s.place.me s.core s.blocks s.made.list c.args.places.now c.args.number c.args.home (cores_in c.args.cores.words) c.args.request c.requires.can c.home_of-time.result.1 home_is c.args.start now left m c.serve-made.ensures.count c.serve-made.ensures.filled alone shared

pub note-requires-clause-low : goal.note-requires-clause-low
note-requires-clause-low c =
    let s = c.args.self.now in
    let m : Made = c.serve-made.result in
    let now : PlacesState = c.serve-made.new.self in
    let left : HomeState = c.serve-made.new.home in
    let home_is : c.args.home.part ≡ Part.Home c.home_of-time.result.1 = ap (λ (x : TimedPart). x.part) c.home_of-time.ensures in
    let time_is : c.args.home.time ≡ c.home_of-time.result.0 = ap (λ (x : TimedPart). x.time) c.home_of-time.ensures in
    let alone : m.shared ≡ false → IsMetAlone c.args.places.now s.core c.args.start c.args.request m now × (left ≡ c.home_of-time.result.1) = c.serve-made.ensures.alone in
    let shared : m.shared ≡ true → IsMetByAll c.args.places.now c.home_of-time.result.1 c.args.home.time (cores_in c.args.cores.words) s.core c.args.start c.args.request m now left =
    λ is. subst (λ (t : ℕ). IsMetByAll c.args.places.now c.home_of-time.result.1 t (cores_in c.args.cores.words) s.core c.args.start c.args.request m now left) (sym time_is) (c.serve-made.ensures.shared is) in
    low_time c.machine_laws.ensures s.place.me s.core s.blocks s.made.list c.args.places.now c.args.number c.args.home (cores_in c.args.cores.words) c.args.request c.requires.can c.home_of-time.result.1 home_is c.args.start now left m c.serve-made.ensures.count c.serve-made.ensures.filled alone shared

pub give_back-requires-clause-part : goal.give_back-requires-clause-part
give_back-requires-clause-part c =
    let s = c.args.self.now in
    let may = c.requires.can.asks.0 in
    let is = c.requires.can.number_is in
    let cores : c.table.inside.words.shared.key.cores ≡ s.place.me.0.cores = ap (λ (t : TableState). t.cores) c.table.view_is ∙ sym c.requires.at.cores in
    let banks : c.table.inside.words.shared.key.banks ≡ s.place.me.0.banks = ap (λ (t : TableState). t.banks) c.table.view_is ∙ sym c.requires.at.banks in
    let low : bank_of s.place.me.0.banks c.args.request < s.place.me.0.banks = may in
    let at : c.args.number ≡ s.place.me.0.cores + bank_of s.place.me.0.banks c.args.request = is in
    omega (arith, low, at, cores, banks)

pub give_back-requires-clause-slot : goal.give_back-requires-clause-slot
give_back-requires-clause-slot c =
    (Rattle.std.proofs.Common.map slot_of (cores_in c.args.cores.words), ap (λ p. p.me.1) c.note.ensures.place.0 ∙ c.requires.can.has.slots)

pub give_back-requires-clause-may : goal.give_back-requires-clause-may
give_back-requires-clause-may c =
    let s = c.args.self.now in
    let m : Made = c.serve-made.result in
    let now : PlacesState = c.serve-made.new.self in
    let left : HomeState = c.serve-made.new.home in
    let home_is : c.args.home.part ≡ Part.Home c.home_of-time.result.1 = ap (λ (x : TimedPart). x.part) c.home_of-time.ensures in
    let time_is : c.args.home.time ≡ c.home_of-time.result.0 = ap (λ (x : TimedPart). x.time) c.home_of-time.ensures in
    let alone : m.shared ≡ false → IsMetAlone c.args.places.now s.core c.args.start c.args.request m now × (left ≡ c.home_of-time.result.1) = c.serve-made.ensures.alone in
    let shared : m.shared ≡ true → IsMetByAll c.args.places.now c.home_of-time.result.1 c.args.home.time (cores_in c.args.cores.words) s.core c.args.start c.args.request m now left =
    λ is. subst (λ (t : ℕ). IsMetByAll c.args.places.now c.home_of-time.result.1 t (cores_in c.args.cores.words) s.core c.args.start c.args.request m now left) (sym time_is) (c.serve-made.ensures.shared is) in
    let s' = c.note.new.self in
    let made' : List Made = s'.made.list in
    let value : TimedPart = record { time = cond m.shared m.time c.args.home.time; part = Part.Home left } in
    let value_is : c.home_after-part.result ≡ value = c.home_after-part.ensures ∙ ap (λ (t : ℕ). record { time = cond m.shared m.time t; part = Part.Home left }) (sym time_is) in
    let me_is : s'.place.me ≡ s.place.me = ap (λ p. p.me) c.note.ensures.place.0 in
    subst (λ (v : View). MayGive v c.args.number c.home_after-part.result (unpublished v made') (left_in (hand_of v.cores now c.home_after-part.result) c.args.number v.holds)) (sym (ap (λ (y : Me (Option TimedPart) View). y.0) me_is))
    (subst (λ (x : TimedPart). MayGive s.place.me.0 c.args.number x (unpublished s.place.me.0 made') (left_in (hand_of s.place.me.0.cores now x) c.args.number s.place.me.0.holds)) (sym value_is)
    (may_give_home c.machine_laws.ensures s.place.me s.core s.blocks s.made.list c.args.places.now c.args.number c.args.home (cores_in c.args.cores.words) c.args.request c.requires.can c.home_of-time.result.1 home_is c.args.start now left m c.serve-made.ensures.count c.serve-made.ensures.filled alone shared s'.blocks made' c.note.ensures.blocks c.note.ensures.made))

pub returns-clause-has : goal.returns-clause-has
returns-clause-has c =
    let s = c.args.self.now in
    let m : Made = c.serve-made.result in
    let now : PlacesState = c.serve-made.new.self in
    let left : HomeState = c.serve-made.new.home in
    let home_is : c.args.home.part ≡ Part.Home c.home_of-time.result.1 = ap (λ (x : TimedPart). x.part) c.home_of-time.ensures in
    let time_is : c.args.home.time ≡ c.home_of-time.result.0 = ap (λ (x : TimedPart). x.time) c.home_of-time.ensures in
    let alone : m.shared ≡ false → IsMetAlone c.args.places.now s.core c.args.start c.args.request m now × (left ≡ c.home_of-time.result.1) = c.serve-made.ensures.alone in
    let shared : m.shared ≡ true → IsMetByAll c.args.places.now c.home_of-time.result.1 c.args.home.time (cores_in c.args.cores.words) s.core c.args.start c.args.request m now left =
    λ is. subst (λ (t : ℕ). IsMetByAll c.args.places.now c.home_of-time.result.1 t (cores_in c.args.cores.words) s.core c.args.start c.args.request m now left) (sym time_is) (c.serve-made.ensures.shared is) in
    let me' : Me (Option TimedPart) View = c.give_back.new.place.me in
    let s' = c.note.new.self in
    let made' : List Made = s'.made.list in
    let value : TimedPart = record { time = cond m.shared m.time c.args.home.time; part = Part.Home left } in
    let value_is : c.home_after-part.result ≡ value = c.home_after-part.ensures ∙ ap (λ (t : ℕ). record { time = cond m.shared m.time t; part = Part.Home left }) (sym time_is) in
    let me_is : s'.place.me ≡ s.place.me = ap (λ p. p.me) c.note.ensures.place.0 in
    let gave : (slots : List (ℕ × Option TimedPart)) (log : CoreAccesses) → s.place.me.1 ≡ slot_of c.args.number ∷ slots → s.place.me.0.logs ≡ log ∷ []
    → me' ≡ (given s.place.me.0 log (unpublished s.place.me.0 made') (left_in (hand_of s.place.me.0.cores now value) c.args.number s.place.me.0.holds), slots) =
    subst (λ (x : TimedPart). (slots : List (ℕ × Option TimedPart)) (log : CoreAccesses) → s.place.me.1 ≡ slot_of c.args.number ∷ slots → s.place.me.0.logs ≡ log ∷ []
    → me' ≡ (given s.place.me.0 log (unpublished s.place.me.0 made') (left_in (hand_of s.place.me.0.cores now x) c.args.number s.place.me.0.holds), slots)) value_is
    (subst (λ (y : Me (Option TimedPart) View). (slots : List (ℕ × Option TimedPart)) (log : CoreAccesses) → y.1 ≡ slot_of c.args.number ∷ slots → y.0.logs ≡ log ∷ []
    → me' ≡ (given y.0 log (unpublished y.0 made') (left_in (hand_of y.0.cores now c.home_after-part.result) c.args.number y.0.holds), slots)) me_is c.give_back.ensures.gave) in
    subst (λ (n : ℕ). HasParts (record { me = me'; core = n; blocks = s'.blocks; made = made' }) now no_part [] (cores_in c.args.cores.words) made' []) (sym c.note.ensures.place.1)
    (gave_home c.machine_laws.ensures s.place.me s.core s.blocks s.made.list c.args.places.now c.args.number c.args.home (cores_in c.args.cores.words) c.args.request c.requires.can c.home_of-time.result.1 home_is c.args.start now left m c.serve-made.ensures.count c.serve-made.ensures.filled alone shared s'.blocks made' c.note.ensures.blocks c.note.ensures.made me' gave)

pub returns-clause-past : goal.returns-clause-past
returns-clause-past c =
    let s = c.args.self.now in
    let m : Made = c.serve-made.result in
    let now : PlacesState = c.serve-made.new.self in
    let left : HomeState = c.serve-made.new.home in
    let home_is : c.args.home.part ≡ Part.Home c.home_of-time.result.1 = ap (λ (x : TimedPart). x.part) c.home_of-time.ensures in
    let time_is : c.args.home.time ≡ c.home_of-time.result.0 = ap (λ (x : TimedPart). x.time) c.home_of-time.ensures in
    let alone : m.shared ≡ false → IsMetAlone c.args.places.now s.core c.args.start c.args.request m now × (left ≡ c.home_of-time.result.1) = c.serve-made.ensures.alone in
    let shared : m.shared ≡ true → IsMetByAll c.args.places.now c.home_of-time.result.1 c.args.home.time (cores_in c.args.cores.words) s.core c.args.start c.args.request m now left =
    λ is. subst (λ (t : ℕ). IsMetByAll c.args.places.now c.home_of-time.result.1 t (cores_in c.args.cores.words) s.core c.args.start c.args.request m now left) (sym time_is) (c.serve-made.ensures.shared is) in
    subst (λ (n : ℕ). ArePast c.note.new.self.made.list (time_at now n)) (sym c.note.ensures.place.1)
    (subst (λ (list : List Made). ArePast list (time_at now s.core)) (sym c.note.ensures.made) (past_then c.machine_laws.ensures s.place.me s.core s.blocks s.made.list c.args.places.now c.args.number c.args.home (cores_in c.args.cores.words) c.args.request c.requires.can c.home_of-time.result.1 home_is c.args.start now left m c.serve-made.ensures.count c.serve-made.ensures.filled alone shared))

pub returns-clause-low : goal.returns-clause-low
returns-clause-low c =
    let s = c.args.self.now in
    let m : Made = c.serve-made.result in
    let now : PlacesState = c.serve-made.new.self in
    let left : HomeState = c.serve-made.new.home in
    let home_is : c.args.home.part ≡ Part.Home c.home_of-time.result.1 = ap (λ (x : TimedPart). x.part) c.home_of-time.ensures in
    let time_is : c.args.home.time ≡ c.home_of-time.result.0 = ap (λ (x : TimedPart). x.time) c.home_of-time.ensures in
    let alone : m.shared ≡ false → IsMetAlone c.args.places.now s.core c.args.start c.args.request m now × (left ≡ c.home_of-time.result.1) = c.serve-made.ensures.alone in
    let shared : m.shared ≡ true → IsMetByAll c.args.places.now c.home_of-time.result.1 c.args.home.time (cores_in c.args.cores.words) s.core c.args.start c.args.request m now left =
    λ is. subst (λ (t : ℕ). IsMetByAll c.args.places.now c.home_of-time.result.1 t (cores_in c.args.cores.words) s.core c.args.start c.args.request m now left) (sym time_is) (c.serve-made.ensures.shared is) in
    subst (λ (n : ℕ). time_at now n < 2 ^ 54) (sym c.note.ensures.place.1) (subst (λ (t : ℕ). t < 2 ^ 54) (own_later c.machine_laws.ensures s.place.me s.core s.blocks s.made.list c.args.places.now c.args.number c.args.home (cores_in c.args.cores.words) c.args.request c.requires.can c.home_of-time.result.1 home_is c.args.start now left m c.serve-made.ensures.count c.serve-made.ensures.filled alone shared) (low_time c.machine_laws.ensures s.place.me s.core s.blocks s.made.list c.args.places.now c.args.number c.args.home (cores_in c.args.cores.words) c.args.request c.requires.can c.home_of-time.result.1 home_is c.args.start now left m c.serve-made.ensures.count c.serve-made.ensures.filled alone shared))

pub returns-clause-access : goal.returns-clause-access
returns-clause-access c =
    let s = c.args.self.now in
    let m : Made = c.serve-made.result in
    let now : PlacesState = c.serve-made.new.self in
    let left : HomeState = c.serve-made.new.home in
    let home_is : c.args.home.part ≡ Part.Home c.home_of-time.result.1 = ap (λ (x : TimedPart). x.part) c.home_of-time.ensures in
    let time_is : c.args.home.time ≡ c.home_of-time.result.0 = ap (λ (x : TimedPart). x.time) c.home_of-time.ensures in
    let alone : m.shared ≡ false → IsMetAlone c.args.places.now s.core c.args.start c.args.request m now × (left ≡ c.home_of-time.result.1) = c.serve-made.ensures.alone in
    let shared : m.shared ≡ true → IsMetByAll c.args.places.now c.home_of-time.result.1 c.args.home.time (cores_in c.args.cores.words) s.core c.args.start c.args.request m now left =
    λ is. subst (λ (t : ℕ). IsMetByAll c.args.places.now c.home_of-time.result.1 t (cores_in c.args.cores.words) s.core c.args.start c.args.request m now left) (sym time_is) (c.serve-made.ensures.shared is) in
    let me' : Me (Option TimedPart) View = c.give_back.new.place.me in
    let s' = c.note.new.self in
    let made' : List Made = s'.made.list in
    let value : TimedPart = record { time = cond m.shared m.time c.args.home.time; part = Part.Home left } in
    let value_is : c.home_after-part.result ≡ value = c.home_after-part.ensures ∙ ap (λ (t : ℕ). record { time = cond m.shared m.time t; part = Part.Home left }) (sym time_is) in
    let me_is : s'.place.me ≡ s.place.me = ap (λ p. p.me) c.note.ensures.place.0 in
    let gave : (slots : List (ℕ × Option TimedPart)) (log : CoreAccesses) → s.place.me.1 ≡ slot_of c.args.number ∷ slots → s.place.me.0.logs ≡ log ∷ []
    → me' ≡ (given s.place.me.0 log (unpublished s.place.me.0 made') (left_in (hand_of s.place.me.0.cores now value) c.args.number s.place.me.0.holds), slots) =
    subst (λ (x : TimedPart). (slots : List (ℕ × Option TimedPart)) (log : CoreAccesses) → s.place.me.1 ≡ slot_of c.args.number ∷ slots → s.place.me.0.logs ≡ log ∷ []
    → me' ≡ (given s.place.me.0 log (unpublished s.place.me.0 made') (left_in (hand_of s.place.me.0.cores now x) c.args.number s.place.me.0.holds), slots)) value_is
    (subst (λ (y : Me (Option TimedPart) View). (slots : List (ℕ × Option TimedPart)) (log : CoreAccesses) → y.1 ≡ slot_of c.args.number ∷ slots → y.0.logs ≡ log ∷ []
    → me' ≡ (given y.0 log (unpublished y.0 made') (left_in (hand_of y.0.cores now c.home_after-part.result) c.args.number y.0.holds), slots)) me_is c.give_back.ensures.gave) in
    let log : CoreAccesses = record { core = s.core; list = c.requires.can.done } in
    let is = gave (Rattle.std.proofs.Common.map slot_of (cores_in c.args.cores.words)) log c.requires.can.has.slots c.requires.can.has.hand.lone in
    let later : record { table = c.give_back.new.place.table_id; core = s'.core; made = made'; knows = me'.0 } ≡ record { table = s.place.table_id; core = s.core; made = s.made.list ++ m ∷ []; knows = me'.0 } =
    λ i. record { table = (c.give_back.ensures.table.0 ∙ ap (λ p. p.table_id) c.note.ensures.place.0) i; core = c.note.ensures.place.1 i; made = c.note.ensures.made i; knows = me'.0 } in
    subst (λ (x : SeatState). IsAccess (seat_of s) x c.args.start c.args.request m.entry) (sym later)
    (accessed s.place.table_id s.core c.args.start c.args.request s.made.list m s.place.me.0 me'.0
    (ap (λ (y : Me (Option TimedPart) View). y.0.opening) is) (ap (λ (y : Me (Option TimedPart) View). y.0.cores) is) (ap (λ (y : Me (Option TimedPart) View). y.0.banks) is) (ap (λ (y : Me (Option TimedPart) View). y.0.room) is)
    (its_core c.machine_laws.ensures s.place.me s.core s.blocks s.made.list c.args.places.now c.args.number c.args.home (cores_in c.args.cores.words) c.args.request c.requires.can c.home_of-time.result.1 home_is c.args.start now left m c.serve-made.ensures.count c.serve-made.ensures.filled alone shared) (its_start c.machine_laws.ensures s.place.me s.core s.blocks s.made.list c.args.places.now c.args.number c.args.home (cores_in c.args.cores.words) c.args.request c.requires.can c.home_of-time.result.1 home_is c.args.start now left m c.serve-made.ensures.count c.serve-made.ensures.filled alone shared) (its_request c.machine_laws.ensures s.place.me s.core s.blocks s.made.list c.args.places.now c.args.number c.args.home (cores_in c.args.cores.words) c.args.request c.requires.can c.home_of-time.result.1 home_is c.args.start now left m c.serve-made.ensures.count c.serve-made.ensures.filled alone shared) (its_stamp c.machine_laws.ensures s.place.me s.core s.blocks s.made.list c.args.places.now c.args.number c.args.home (cores_in c.args.cores.words) c.args.request c.requires.can c.home_of-time.result.1 home_is c.args.start now left m c.serve-made.ensures.count c.serve-made.ensures.filled alone shared))
