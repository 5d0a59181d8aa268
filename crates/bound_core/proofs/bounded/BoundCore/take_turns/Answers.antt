use Rattle.std.proofs.Common.{◌≡◌, ◌≤◌, ◌<◌, ◌+◌, ◌∙◌, ℕ, Bool, true, false, IsTrue, ap, arith, refl, subst, sym}
use Rattle.reference.specs.IntervalBounds.{latest_clock, most_accesses}
use Rattle.bound_core.proofs.TheseTurns.{these_few, these_taken}
use Rattle.bound_core.proofs.Turns.{all_taken, one_more}
use Rattle.bound_core.proofs.bounded.BoundCore.take_turns.Goals as goal

pub take_turn-requires-clause-l1i : goal.take_turn-requires-clause-l1i
take_turn-requires-clause-l1i g c fetches =
    let hits = c.go_by_hits-met.ensures in
    subst IsTrue (sym hits.port_l1i) (c.requires.l1i (subst IsTrue hits.fetching fetches))

pub take_turn-requires-clause-room : goal.take_turn-requires-clause-room
take_turn-requires-clause-room g c =
    let (entries, (many, these)) = c.go_by_hits-met.ensures.these in
    let few = these_few (g.X.Expand.time c.args.expansion.now) (g.P.Program.image c.args.program.now) c.args.end g.Q.Port.gives g.Q.Port.logged c.args.self.now.number entries c.args.port.now c.go_by_hits-met.new.port c.args.self.now.timed c.go_by_hits-met.new.self.timed these in
    omega (arith, many, few, c.requires.room, c.go_by_hits-met.ensures.port_room)

pub returns-clause-taken : goal.returns-clause-taken
returns-clause-taken g c took =
    let end = c.args.end in
    let before = c.args.self.now.timed in
    let hits = c.go_by_hits-met.ensures in
    let (entries, (many, these)) = hits.these in
    let taken = these_taken (g.X.Expand.time c.args.expansion.now) (g.P.Program.image c.args.program.now) end g.Q.Port.gives g.Q.Port.logged c.args.self.now.number entries c.args.port.now c.go_by_hits-met.new.port before c.go_by_hits-met.new.self.timed these in
    let one = c.take_turn.ensures.took took in
    let start : one.entry.start ≤ latest_clock end before = omega (arith, one.starts, hits.latest) in
    one_more (g.X.Expand.time c.args.expansion.now) (g.P.Program.image c.args.program.now) end g.Q.Port.gives g.Q.Port.logged c.args.self.now.number c.args.port.now c.go_by_hits-met.new.port c.take_turn.new.port before c.go_by_hits-met.new.self.timed c.take_turn.new.self.timed one.entry
    taken one.turn (one.core ∙ hits.number) start one.fewer one.logged

pub returns-clause-fewer : goal.returns-clause-fewer
returns-clause-fewer g c took =
    let (entries, (many, these)) = c.go_by_hits-met.ensures.these in
    let few = these_few (g.X.Expand.time c.args.expansion.now) (g.P.Program.image c.args.program.now) c.args.end g.Q.Port.gives g.Q.Port.logged c.args.self.now.number entries c.args.port.now c.go_by_hits-met.new.port c.args.self.now.timed c.go_by_hits-met.new.self.timed these in
    let one = c.take_turn.ensures.took took in
    omega (arith, one.fewer, few)

pub returns-clause-ended : goal.returns-clause-ended
returns-clause-ended g c ended =
    let (entries, (many, these)) = c.go_by_hits-met.ensures.these in
    let taken = these_taken (g.X.Expand.time c.args.expansion.now) (g.P.Program.image c.args.program.now) c.args.end g.Q.Port.gives g.Q.Port.logged c.args.self.now.number entries c.args.port.now c.go_by_hits-met.new.port c.args.self.now.timed c.go_by_hits-met.new.self.timed these in
    all_taken (g.X.Expand.time c.args.expansion.now) (g.P.Program.image c.args.program.now) c.args.end g.Q.Port.gives g.Q.Port.logged c.args.self.now.number c.args.port.now c.go_by_hits-met.new.port c.take_turn.new.port c.args.self.now.timed c.go_by_hits-met.new.self.timed c.take_turn.new.self.timed
    taken (c.take_turn.ensures.ended ended)

pub returns-clause-port_room : goal.returns-clause-port_room
returns-clause-port_room g c took =
    let (entries, (many, these)) = c.go_by_hits-met.ensures.these in
    let few = these_few (g.X.Expand.time c.args.expansion.now) (g.P.Program.image c.args.program.now) c.args.end g.Q.Port.gives g.Q.Port.logged c.args.self.now.number entries c.args.port.now c.go_by_hits-met.new.port c.args.self.now.timed c.go_by_hits-met.new.self.timed these in
    let one = c.take_turn.ensures.took took in
    omega (arith, one.fewer, many, few, c.go_by_hits-met.ensures.port_room, c.take_turn.ensures.port_room)

-- a turn that took no entry leaves the room as it is
left_by : (took : Bool) (old middle new most left fewer : ℕ) → old + left ≤ middle + most → middle ≤ new + 1 → (took ≡ true → fewer < left) → (took ≡ false → new ≡ middle) → old ≤ new + most
left_by true old middle new most left fewer hits turn some same = omega (arith, hits, turn, some refl)
left_by false old middle new most left fewer hits turn some same = omega (arith, hits, same refl)

pub returns-clause-room_left : goal.returns-clause-room_left
returns-clause-room_left g c =
    let end = c.args.end in
    let (entries, (many, these)) = c.go_by_hits-met.ensures.these in
    let few = these_few (g.X.Expand.time c.args.expansion.now) (g.P.Program.image c.args.program.now) end g.Q.Port.gives g.Q.Port.logged c.args.self.now.number entries c.args.port.now c.go_by_hits-met.new.port c.args.self.now.timed c.go_by_hits-met.new.self.timed these in
    let turn = c.take_turn.ensures in
    left_by c.take_turn.result (g.Q.Port.room c.args.port.now) (g.Q.Port.room c.go_by_hits-met.new.port) (g.Q.Port.room c.take_turn.new.port) (most_accesses end c.args.self.now.timed) (most_accesses end c.go_by_hits-met.new.self.timed)
    (most_accesses end c.take_turn.new.self.timed) (omega (arith, many, few, c.go_by_hits-met.ensures.port_room)) turn.port_room (λ took. (turn.took took).fewer) (λ ended. ap g.Q.Port.room (turn.ended ended).same)
