use Rattle.std.proofs.Common.{◌≡◌, ◌<◌, ℕ, ◌++◌, List, Err, All, length, sym, ◌∙◌, ap, subst, arith}
use Rattle.bound_core.specs.ReferenceMachine.{bound_phase}
use Rattle.bound_core.specs.ShardWorld.{shards_serve}
use Rattle.bound_records.specs.Turns.{time_by_net}
use Rattle.reference.specs.ReferenceRun.{Illegal, time_of}
use Rattle.replay.specs.Replay.{IfIllegal}
use Rattle.replay.specs.declared.replay_fail.ReplayFail.{ReplayFail}
use Rattle.replay.specs.declared.replay_fail.ReplayFail.TheVariants as fail
use Rattle.replay.proofs.HandedOn.{handed_on, of_place}
use Rattle.trace.specs.Port.{phase_of}
use Rattle.trace.specs.Trace.{Step}
use Rattle.trace.proofs.TurnsBegin.{all_most}
use Rattle.trace.proofs.TimelyTurns.{begin, timely, timely_steps, turned}
use Rattle.trace.proofs.interval.run_turns.Goals as goal

pub take_turns-requires-clause-cores : goal.take_turns-requires-clause-cores
take_turns-requires-clause-cores g c = omega (arith, c.reserve_all.auto.cores, c.requires.count, c.requires.machine.cores.1)

pub take_turns-requires-clause-begins : goal.take_turns-requires-clause-begins
take_turns-requires-clause-begins g c =
    let machine = c.args.machine.now in
    let did = c.in_ok-reserve_all.ensures in (
      all_most machine,
      begin machine c.args.program.now c.args.end c.args.net.now c.requires.net c.args.cores.now c.reserve_all.new.cores did.timed c.args.port.now
          c.requires.machine c.requires.end c.requires.ready did.spare (c.reserve_all.auto.cores ∙ c.requires.count) (did.numbered c.requires.numbered) c.requires.stamps c.requires.none c.requires.room,
    )

pub returns-clause-turned : goal.returns-clause-turned
returns-clause-turned g c =
    let machine = c.args.machine.now in
    let image = c.args.program.now in
    let end = c.args.end in
    let net = c.args.net.now in
    let cores = c.reserve_all.new.cores in
    let port = c.args.port.now in
    let reserved = c.in_ok-reserve_all.ensures in
    let did = c.in_ok-take_turns.ensures in
    let first = begin machine image end net c.requires.net c.args.cores.now cores reserved.timed port
    c.requires.machine c.requires.end c.requires.ready reserved.spare (c.reserve_all.auto.cores ∙ c.requires.count) (reserved.numbered c.requires.numbered) c.requires.stamps c.requires.none c.requires.room
    in
    turned machine image end net c.requires.net c.args.cores.now cores reserved.timed port c.args.turns.now c.take_turns.new.cores c.take_turns.new.port
    (did.taken (all_most machine) first) did.legal did.over (did.count ∙ c.reserve_all.auto.cores)

pub returns-clause-told : goal.returns-clause-told
returns-clause-told g c =
    let before = g.T.Tracer.steps c.args.tracer.now in
    c.in_ok-take_turns.ensures.told
    ∙ ap (λ (steps : List Step). before ++ steps)
    (timely_steps c.args.machine.now c.args.program.now c.args.end c.args.net.now c.requires.net c.args.cores.now c.reserve_all.new.cores c.in_ok-reserve_all.ensures.timed c.args.port.now c.args.turns.now)

pub take_turns-requires-clause-known : goal.take_turns-requires-clause-known
take_turns-requires-clause-known g c =
    let many : length c.reserve_all.new.cores ≡ c.args.machine.now.cores = c.reserve_all.auto.cores ∙ c.requires.count in
    subst (λ (n : ℕ). All (λ (number : ℕ). number < n) c.args.turns.now) (sym many) c.requires.known

pub returns-in_err-reserve_all-clause-illegal : goal.returns-in_err-reserve_all-clause-illegal
returns-in_err-reserve_all-clause-illegal g c =
    let Place : Illegal → Type 0 = λ at.
    (at.interval ≡ c.args.interval)
    × (bound_phase shards_serve (time_of c.args.machine.now) c.args.program.now c.args.end c.args.turns.now (phase_of c.args.cores.now c.args.port.now) ≡ Err at.place)
    in
    handed_on (λ (why : ReplayFail). IfIllegal why Place) fail.NoMemory c.from_residual.result c.from_residual.ensures.1 tt

pub returns-in_err-take_turns-clause-illegal : goal.returns-in_err-take_turns-clause-illegal
returns-in_err-take_turns-clause-illegal g c =
    let machine = c.args.machine.now in
    let image = c.args.program.now in
    let end = c.args.end in
    let net = c.args.net.now in
    let cores = c.reserve_all.new.cores in
    let port = c.args.port.now in
    let turns = c.args.turns.now in
    let Found : Illegal → Type 0 = λ at. (at.interval ≡ c.args.interval) × (bound_phase shards_serve (time_by_net net) image end turns (phase_of cores port) ≡ Err at.place) in
    let Place : Illegal → Type 0 = λ at. (at.interval ≡ c.args.interval) × (bound_phase shards_serve (time_of machine) image end turns (phase_of c.args.cores.now port) ≡ Err at.place) in
    let here : (at : Illegal) → Found at → Place at = λ at found.
    (found.0, timely machine image end net c.requires.net c.args.cores.now cores c.in_ok-reserve_all.ensures.timed port turns (Err at.place) found.1)
    in
    handed_on (λ (why : ReplayFail). IfIllegal why Place) _ c.from_residual-in_err-take_turns.result c.from_residual-in_err-take_turns.ensures.1 (of_place _ Found Place here c.in_err-take_turns.ensures.illegal)
