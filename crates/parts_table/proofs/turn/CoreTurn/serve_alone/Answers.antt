use Rattle.std.proofs.Common.{◌≡◌, ℕ, ◌+◌, ◌<◌, List, [], ◌∷◌, ◌++◌, length, true, false, refl, sym, ◌∙◌, ap, subst, arith}
use Rattle.zs_num.specs.declared.request.Request.{Request}
use Rattle.parts_table.specs.declared.view.Made.{Made}
use Rattle.parts_table.specs.Access.{IsAccess, SeatState}
use Rattle.parts_table.specs.Seats.{Desk, IsAtWork}
use Rattle.parts_table.specs.Stations.{desk_of, seat_of}
use Rattle.parts_table.specs.World.{MayAsk, world_of}
use Rattle.parts_table.proofs.Alone.{alone_key, alone_low, alone_room, alone_work}
use Rattle.parts_table.proofs.Finish.{accessed}
use Rattle.parts_table.proofs.turn.CoreTurn.serve_alone.Goals as goal

may : (before now : SeatState) (request : Request) → now ≡ before → MayAsk before.knows.cores before.knows.banks (world_of before.knows.opening) before.core request → MayAsk now.knows.cores now.knows.banks (world_of now.knows.opening) now.core request
may before now request is ask = subst (λ (x : SeatState). MayAsk x.knows.cores x.knows.banks (world_of x.knows.opening) x.core request) (sym is) ask

more : (before now : SeatState) → now ≡ before → length before.made < before.knows.room → length now.made < now.knows.room
more before now is room = subst (λ (x : SeatState). length x.made < x.knows.room) (sym is) room

pub serve_alone-requires-clause-core : goal.serve_alone-requires-clause-core
serve_alone-requires-clause-core g c = subst (λ (n : ℕ). c.self.inside.station.core < n) (sym c.self.invariant.has.count) c.self.invariant.has.kept.core_is

pub serve_alone-requires-clause-some : goal.serve_alone-requires-clause-some
serve_alone-requires-clause-some g c = c.requires.ask.1.servable.some

pub serve_alone-requires-clause-few : goal.serve_alone-requires-clause-few
serve_alone-requires-clause-few g c = c.requires.ask.1.servable.few

pub serve_alone-requires-clause-within : goal.serve_alone-requires-clause-within
serve_alone-requires-clause-within g c = c.requires.ask.1.servable.in_line

pub note-requires-clause-room : goal.note-requires-clause-room
note-requires-clause-room g c =
    let s = c.self.inside.station in
    let before = c.args.self.now in
    alone_room c.machine_laws.ensures s.place.me s.core s.blocks s.made.list c.self.inside.places c.self.invariant c.args.start c.args.request (may before (seat_of s) c.args.request c.self.view_is c.requires.ask) (more before (seat_of s) c.self.view_is c.requires.room)
    c.in_ok-made.made c.serve_alone.new.self c.in_ok-made.ensures.met c.serve_alone.ensures.count c.serve_alone.ensures.filled

pub note-requires-clause-alone : goal.note-requires-clause-alone
note-requires-clause-alone g c = λ is.
    let s = c.self.inside.station in
    let before = c.args.self.now in
    alone_key c.machine_laws.ensures s.place.me s.core s.blocks s.made.list c.self.inside.places c.self.invariant c.args.start c.args.request (may before (seat_of s) c.args.request c.self.view_is c.requires.ask) (more before (seat_of s) c.self.view_is c.requires.room)
    c.in_ok-made.made c.serve_alone.new.self c.in_ok-made.ensures.met c.serve_alone.ensures.count c.serve_alone.ensures.filled

pub note-requires-clause-shared : goal.note-requires-clause-shared
note-requires-clause-shared g c = λ is. absurd (let no : c.in_ok-made.made.shared ≡ false = ap (λ (m : Made). m.shared) c.in_ok-made.ensures.met.made_is in let bad : true ≡ false = sym is ∙ no in cc)

pub note-requires-clause-low : goal.note-requires-clause-low
note-requires-clause-low g c =
    let s = c.self.inside.station in
    let before = c.args.self.now in
    alone_low c.machine_laws.ensures s.place.me s.core s.blocks s.made.list c.self.inside.places c.self.invariant c.args.start c.args.request (may before (seat_of s) c.args.request c.self.view_is c.requires.ask) (more before (seat_of s) c.self.view_is c.requires.room)
    c.in_ok-made.made c.serve_alone.new.self c.in_ok-made.ensures.met c.serve_alone.ensures.count c.serve_alone.ensures.filled

pub invariant_of-self-2 : goal.invariant_of-self-2
invariant_of-self-2 g c =
    let s = c.self.inside.station in
    let s' = c.note.new.self in
    let before = c.args.self.now in
    let desk : desk_of s' ≡ record { me = s.place.me; core = s.core; blocks = s'.blocks; made = s'.made.list } = λ i. record { me = (c.note.ensures.place.0 i).me; core = c.note.ensures.place.1 i; blocks = s'.blocks; made = s'.made.list } in
    subst (λ (d : Desk). IsAtWork d c.serve_alone.new.self) (sym desk)
    (alone_work c.machine_laws.ensures s.place.me s.core s.blocks s.made.list c.self.inside.places c.self.invariant c.args.start c.args.request (may before (seat_of s) c.args.request c.self.view_is c.requires.ask) (more before (seat_of s) c.self.view_is c.requires.room)
    c.in_ok-made.made c.serve_alone.new.self c.in_ok-made.ensures.met c.serve_alone.ensures.count c.serve_alone.ensures.filled s'.blocks s'.made.list c.note.ensures.blocks c.note.ensures.made)

pub returns-clause-access : goal.returns-clause-access
returns-clause-access g c =
    let s = c.self.inside.station in
    let s' = c.note.new.self in
    let m : Made = c.in_ok-made.made in
    let is = c.in_ok-made.ensures.met.made_is in
    let later : seat_of s' ≡ record { table = s.place.table_id; core = s.core; made = s.made.list ++ m ∷ []; knows = s.place.me.0 } =
    λ i. record { table = (c.note.ensures.place.0 i).table_id; core = c.note.ensures.place.1 i; made = c.note.ensures.made i; knows = (c.note.ensures.place.0 i).me.0 } in
    subst (λ (x : SeatState). IsAccess x (seat_of s') c.args.start c.args.request m.entry) c.self.view_is
    (subst (λ (x : SeatState). IsAccess (seat_of s) x c.args.start c.args.request m.entry) (sym later)
    (accessed s.place.table_id s.core c.args.start c.args.request s.made.list m s.place.me.0 s.place.me.0 refl refl refl refl
    (ap (λ (x : Made). x.entry.core) is) (ap (λ (x : Made). x.entry.start) is) (ap (λ (x : Made). x.entry.request) is) (ap (λ (x : Made). x.entry.stamp) is)))

pub returns-clause-hit : goal.returns-clause-hit
returns-clause-hit g c = ap (λ (x : Made). x.entry.outcome) c.in_ok-made.ensures.met.made_is
