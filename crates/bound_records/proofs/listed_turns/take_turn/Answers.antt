use Rattle.std.proofs.Common.{◌-◌, ◌≤◌, length, min, refl, sym, ◌∙◌, ap, subst, arith}
use Rattle.bound_core.specs.ShardPort.{base_of, l1i_of, room_of, size_of}
use Rattle.reference.proofs.Accesses.{clock_within}
use Rattle.weave_chains.specs.Listed.{list_of}
use Rattle.bound_records.specs.Recorders.{TurnPortState}
use Rattle.bound_records.specs.Turns.{TakesAccess, TakesNone, time_by_net}
use Rattle.bound_records.proofs.listed_turns.take_turn.Goals as goal

pub turn-requires-clause-core : goal.turn-requires-clause-core
turn-requires-clause-core c = ap (λ (p : TurnPortState). p.core) c.choose.ensures ∙ sym c.requires.number

pub turn-requires-clause-base : goal.turn-requires-clause-base
turn-requires-clause-base c = ap (λ (p : TurnPortState). base_of p.recorder.world) c.choose.ensures ∙ sym c.requires.way.2.base_is

pub turn-requires-clause-size : goal.turn-requires-clause-size
turn-requires-clause-size c = ap (λ (p : TurnPortState). size_of p.recorder.world) c.choose.ensures ∙ sym c.requires.way.2.size_is

pub turn-requires-clause-l1i : goal.turn-requires-clause-l1i
turn-requires-clause-l1i c = λ fetching. ap (λ (p : TurnPortState). l1i_of p.recorder.world) c.choose.ensures ∙ c.requires.way.2.fetches fetching

pub turn-requires-clause-room : goal.turn-requires-clause-room
turn-requires-clause-room c =
    subst (λ (p : TurnPortState). 1 ≤ min (room_of p.recorder.world) (p.recorder.room - length (list_of p.recorder.lists p.core))) (sym c.choose.ensures) c.requires.room

pub turn-requires-clause-spare : goal.turn-requires-clause-spare
turn-requires-clause-spare c = omega (arith, c.requires.way.2.spare)

pub turn-requires-clause-clock : goal.turn-requires-clause-clock
turn-requires-clause-clock c = omega (arith, c.requires.way.2.clock, clock_within c.args.end c.args.core.now.timed)

pub returns-in-Took-clause-took : goal.returns-in-Took-clause-took
returns-in-Took-clause-took c = λ is.
    let did = c.in-Took.ensures in
    let port : TurnPortState = c.turn.new.port in
    let core = c.args.core.now in
    let after = c.turn.new.self in
    let e = c.in-Took._entry in
    let time = time_by_net c.args.net.now in
    let found : TakesAccess time c.args.program.now c.args.end c.choose.new.self port core after e = record {
      turn = did.turn;
      own = did.core;
      start = did.starts_by_latest;
      begun = did.begun;
      fewer = did.fewer;
      not_later = did.latest;
      number = did.number;
      memory = did.memory;
      fetching = did.fetching;
      spare = did.spare;
    }
    in
    (e, subst (λ (p : TurnPortState). TakesAccess time c.args.program.now c.args.end p port core after e) c.choose.ensures found)

pub returns-in-Ended-clause-none : goal.returns-in-Ended-clause-none
returns-in-Ended-clause-none c = λ is.
    let did = c.in-Ended.ensures in
    let port : TurnPortState = c.turn.new.port in
    let core = c.args.core.now in
    let after = c.turn.new.self in
    let found : TakesNone c.args.program.now c.args.end c.choose.new.self port core after = record {
      ends = did.turn;
      over = did.over refl;
      not_later = did.latest;
      number = did.number;
      memory = did.memory;
      fetching = did.fetching;
      spare = did.same_spare refl;
    }
    in
    subst (λ (p : TurnPortState). TakesNone c.args.program.now c.args.end p port core after) c.choose.ensures found
