use Rattle.std.proofs.Common.{◌≤◌, ◌+◌, ◌-◌, ◌^◌, ◌∙◌, IsTrue, refl, sym, subst, arith, rules, max}
use Rattle.reference.specs.IntervalBounds.{latest_clock, most_accesses}
use Rattle.bound_core.specs.Taken.{HasTaken}
use Rattle.reference.specs.Turn.{RunsToEnd}
use Rattle.reference.proofs.Accesses.{clock_within, latest_small, left_few, most_few}
use Rattle.bound_core.proofs.Turns.{none_taken, taken_both, taken_to_end}
use Rattle.bound_core.proofs.bounded.BoundCore.run_one.Goals as goal

pub loop-init : goal.loop-init
loop-init g c =
    let end = c.args.end in
    let core = c.args.self.now.timed in
    let few : most_accesses end core ≤ end - core.clock + 257 = most_few end core (λ late. left_few core.core c.keeps_sound.ensures.sound) in
    record {
      taken = none_taken (g.X.Expand.time c.args.expansion.now) (g.P.Program.image c.args.program.now) end g.Q.Port.gives g.Q.Port.logged c.args.self.now.number c.args.port.now core;
      core = c.requires.core;
      base = c.requires.base;
      size = c.requires.size;
      room = omega (arith, few, c.requires.room);
      spare = omega (arith, few, c.requires.spare);
      begun = omega arith;
      latest = omega arith;
      number = refl;
      memory = refl;
      fetching = refl;
      spare_left = omega arith;
      port_core = refl;
      port_base = refl;
      port_size = refl;
      port_l1i = refl;
      room_left = omega arith;
    }

pub take_turns-requires-clause-clock : goal.take_turns-requires-clause-clock
take_turns-requires-clause-clock g c =
    let end = c.args.end in
    let first = c.args.self.now.timed in
    let small : latest_clock end first ≤ max first.clock end + 2 ^ 30 = latest_small end first (left_few first.core c.keeps_sound.ensures.sound) in
    omega (arith, clock_within end c.loop.self.timed, c.loop.invariant.latest, small, c.requires.clock, c.requires.end)

pub take_turns-requires-clause-l1i : goal.take_turns-requires-clause-l1i
take_turns-requires-clause-l1i g c fetches =
    let was = c.loop.invariant in
    subst IsTrue (sym was.port_l1i) (c.requires.l1i (subst IsTrue was.fetching fetches))

pub loop-preserved : goal.loop-preserved
loop-preserved g c =
    let end = c.args.end in
    let first = c.args.self.now.timed in
    let now = c.loop.self.timed in
    let was = c.loop.invariant in
    let did = c.take_turns.ensures in
    let taken = subst (λ n. HasTaken (g.X.Expand.time c.args.expansion.now) (g.P.Program.image c.args.program.now) end g.Q.Port.gives g.Q.Port.logged n c.loop.port c.take_turns.new.port now c.take_turns.new.self.timed) was.number (did.taken (search rules)) in
    let fewer = did.fewer (search rules) in
    let room = did.port_room (search rules) in
    record {
      taken = taken_both (g.X.Expand.time c.args.expansion.now) (g.P.Program.image c.args.program.now) end g.Q.Port.gives g.Q.Port.logged c.args.self.now.number c.args.port.now c.loop.port c.take_turns.new.port first now c.take_turns.new.self.timed
          was.taken was.latest taken;
      core = search rules;
      base = search rules;
      size = search rules;
      room = omega (arith, was.room, room);
      spare = omega (arith, was.spare, fewer, did.spare);
      begun = omega (arith, was.begun, did.begun);
      latest = omega (arith, was.latest, did.latest);
      number = did.number ∙ was.number;
      memory = did.memory ∙ was.memory;
      fetching = did.fetching ∙ was.fetching;
      spare_left = omega (arith, was.spare_left, fewer, did.spare);
      port_core = did.port_core ∙ was.port_core;
      port_base = did.port_base ∙ was.port_base;
      port_size = did.port_size ∙ was.port_size;
      port_l1i = did.port_l1i ∙ was.port_l1i;
      room_left = omega (arith, was.room_left, room);
    }

pub returns-clause-turns : goal.returns-clause-turns
returns-clause-turns g c =
    let was = c.loop.invariant in
    let ended = subst (λ n. RunsToEnd (g.X.Expand.time c.args.expansion.now) (g.P.Program.image c.args.program.now) c.args.end g.Q.Port.gives g.Q.Port.logged n c.loop.port c.take_turns.new.port c.loop.self.timed c.take_turns.new.self.timed) was.number (c.take_turns.ensures.ended (search rules)) in
    taken_to_end (g.X.Expand.time c.args.expansion.now) (g.P.Program.image c.args.program.now) c.args.end g.Q.Port.gives g.Q.Port.logged c.args.self.now.number c.args.port.now c.loop.port c.take_turns.new.port c.args.self.now.timed c.loop.self.timed c.take_turns.new.self.timed
    was.taken was.latest ended

pub returns-clause-spare : goal.returns-clause-spare
returns-clause-spare g c =
    omega (arith, c.loop.invariant.spare_left, c.take_turns.ensures.same_spare (search rules))

pub returns-clause-few : goal.returns-clause-few
returns-clause-few g c =
    let core = c.args.self.now.timed in
    most_few c.args.end core (λ late. left_few core.core c.keeps_sound.ensures.sound)

pub returns-clause-within : goal.returns-clause-within
returns-clause-within g c =
    let end = c.args.end in
    let first = c.args.self.now.timed in
    let small : latest_clock end first ≤ max first.clock end + 2 ^ 30 = latest_small end first (left_few first.core c.keeps_sound.ensures.sound) in
    omega (arith, clock_within end c.take_turns.new.self.timed, c.take_turns.ensures.latest, c.loop.invariant.latest, small)
