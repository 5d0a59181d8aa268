-- A stretch more was taken.
use Rattle.std.proofs.Common.{◌≡◌, ◌<◌, ◌≤◌, ◌+◌, ℕ, List, get_or, length, take, true, false, sym, ap, subst, arith, rules}
use Rattle.std.specs.Prelude.{is_some}
use Rattle.std.proofs.lemmas.List.{take_all}
use Rattle.bound_core.specs.ReferenceMachine.{BoundState}
use Rattle.bound_core.specs.ShardWorld.{ShardWorld}
use Rattle.bound_records.specs.CoreRuns.{phase_in}
use Rattle.bound_records.specs.Turns.{HaveTaken, time_by_net}
use Rattle.bound_records.proofs.Lists.{has_at}
use Rattle.bound_records.proofs.TakingHits.{named, part}
use Rattle.bound_records.proofs.TakingTurns.{no_access, over_asks}
use Rattle.bound_records.proofs.listed_turns.take_turns.Goals as goal

pub take_stretch-taken-requires-clause-taken : goal.take_stretch-taken-requires-clause-taken
take_stretch-taken-requires-clause-taken c =
    let most = c.requires.begins.0 in
    (most, c.args.port.now.recorder, phase_in c.args.cores.now c.args.port.now.recorder, take c.loop-place.place c.args.turns.now, c.loop-place.invariant.way most c.requires.begins.1)

pub returns-then-taken-count-clause-illegal : goal.returns-then-taken-count-clause-illegal
returns-then-taken-count-clause-illegal c =
    let time = time_by_net c.args.net.now in
    let image = c.args.program.now in
    let end = c.args.end in
    let turns = c.args.turns.now in
    let r = c.args.port.now.recorder in
    let first : BoundState ShardWorld = phase_in c.args.cores.now r in
    let most = c.requires.begins.0 in
    let place = c.loop-place.place in
    let number : ℕ = get_or turns place 0 in
    let count = c.stretch-count.result in
    let taken = c.take_stretch-taken.result in
    let cores = c.take_stretch-taken.new.cores in
    let within = c.stretch-count.ensures.within in
    let same = c.stretch-count.ensures.same in
    let fewer : taken < count = c.if-taken-count.true in
    let known = c.requires.known place 0 c.loop-place-test.true in
    let core = has_at cores number (omega (arith, known, c.take_stretch-taken.ensures.count, c.loop-place.invariant.count)) in
    let all : HaveTaken time image end most r first (take (place + taken) turns) cores c.take_stretch-taken.new.port.recorder =
    subst (λ (ns : List ℕ). HaveTaken time image end most r first ns cores c.take_stretch-taken.new.port.recorder) (sym (part turns place count number within same taken (omega (arith, fewer))))
    (c.take_stretch-taken.ensures.taken most r first (take place turns) (c.loop-place.invariant.way most c.requires.begins.1))
    in
    let none = over_asks image end core.0.timed (c.take_stretch-taken.ensures.over fewer core.0 core.1) in
    no_access time image end most r first cores c.take_stretch-taken.new.port.recorder number core.0 core.1 turns (place + taken) (omega (arith, within, fewer)) (named turns place count number within same taken fewer) all (ap is_some none)

pub end_all-requires-clause-taken : goal.end_all-requires-clause-taken
end_all-requires-clause-taken c =
    let turns = c.args.turns.now in
    let first : BoundState ShardWorld = phase_in c.args.cores.now c.args.port.now.recorder in
    let past : length turns ≤ c.loop-place.place = omega (arith, c.loop-place-test.false) in
    let most = c.requires.begins.0 in (
      most,
      c.args.port.now.recorder,
      first,
      turns,
      subst (λ (ns : List ℕ). HaveTaken (time_by_net c.args.net.now) c.args.program.now c.args.end most c.args.port.now.recorder first ns c.loop-place.cores c.loop-place.port.recorder)
          (take_all c.loop-place.place turns past) (c.loop-place.invariant.way most c.requires.begins.1),
    )

pub returns-then-end_all-clause-taken : goal.returns-then-end_all-clause-taken
returns-then-end_all-clause-taken c = λ most begins.
    let turns = c.args.turns.now in
    let first : BoundState ShardWorld = phase_in c.args.cores.now c.args.port.now.recorder in
    let past : length turns ≤ c.loop-place.place = omega (arith, c.loop-place-test.false) in
    let whole : HaveTaken (time_by_net c.args.net.now) c.args.program.now c.args.end most c.args.port.now.recorder first turns c.loop-place.cores c.loop-place.port.recorder =
    subst (λ (ns : List ℕ). HaveTaken (time_by_net c.args.net.now) c.args.program.now c.args.end most c.args.port.now.recorder first ns c.loop-place.cores c.loop-place.port.recorder)
    (take_all c.loop-place.place turns past) (c.loop-place.invariant.way most begins)
    in
    let ended : c.end_all.result ≡ true = search rules in
    c.end_all.ensures.taken ended most c.args.port.now.recorder first turns whole

pub returns-else-end_all-clause-illegal : goal.returns-else-end_all-clause-illegal
returns-else-end_all-clause-illegal c =
    let turns = c.args.turns.now in
    let first : BoundState ShardWorld = phase_in c.args.cores.now c.args.port.now.recorder in
    let past : length turns ≤ c.loop-place.place = omega (arith, c.loop-place-test.false) in
    let most = c.requires.begins.0 in
    let whole : HaveTaken (time_by_net c.args.net.now) c.args.program.now c.args.end most c.args.port.now.recorder first turns c.loop-place.cores c.loop-place.port.recorder =
    subst (λ (ns : List ℕ). HaveTaken (time_by_net c.args.net.now) c.args.program.now c.args.end most c.args.port.now.recorder first ns c.loop-place.cores c.loop-place.port.recorder)
    (take_all c.loop-place.place turns past) (c.loop-place.invariant.way most c.requires.begins.1)
    in
    let still : c.end_all.result ≡ false = search rules in
    c.end_all.ensures.illegal still most c.args.port.now.recorder first turns whole
