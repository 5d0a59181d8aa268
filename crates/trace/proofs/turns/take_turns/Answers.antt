-- A stretch more was taken.
use Rattle.std.proofs.Common.{◌≡◌, ◌<◌, ◌≤◌, ◌+◌, ℕ, List, [], ◌++◌, get_or, length, take, true, false, Err, append_assoc, refl, sym, ◌∙◌, ap, subst, arith, rules}
use Rattle.std.specs.Prelude.{is_some, replicate}
use Rattle.std.proofs.lemmas.List.{append-nil, take_all}
use Rattle.bound_core.specs.ReferenceMachine.{BoundState, bound_phase}
use Rattle.bound_core.specs.ShardWorld.{ShardWorld, shards_serve}
use Rattle.reference.proofs.Reaching.{whole_phase}
use Rattle.trace.specs.Port.{leaves_shards, phase_of}
use Rattle.trace.specs.Turns.{HaveTaken}
use Rattle.bound_records.specs.Turns.{time_by_net}
use Rattle.reference.specs.ReferenceRun.{Illegal}
use Rattle.replay.specs.Replay.{IfIllegal}
use Rattle.replay.specs.declared.replay_fail.ReplayFail.{ReplayFail}
use Rattle.replay.specs.declared.replay_fail.ReplayFail.TheVariants as fail
use Rattle.replay.proofs.HandedOn.{handed_on}
use Rattle.bound_records.proofs.Lists.{has_at}
use Rattle.trace.specs.Trace.{phase_steps}
use Rattle.trace.proofs.Stretches.{named, part}
use Rattle.trace.proofs.TakingTurns.{no_access, over_asks}
use Rattle.trace.proofs.turns.take_turns.Goals as goal

pub take_stretch-requires-clause-taken : goal.take_stretch-requires-clause-taken
take_stretch-requires-clause-taken g c =
    let most = c.requires.begins.0 in
    (most, phase_of c.args.cores.now c.args.port.now, take c.loop-place.place c.args.turns.now, c.loop-place.invariant.way most c.requires.begins.1)

pub returns-then-taken-count-clause-illegal : goal.returns-then-taken-count-clause-illegal
returns-then-taken-count-clause-illegal g c =
    let time = time_by_net c.args.net.now in
    let image = c.args.program.now in
    let end = c.args.end in
    let turns = c.args.turns.now in
    let first : BoundState ShardWorld = phase_of c.args.cores.now c.args.port.now in
    let most = c.requires.begins.0 in
    let place = c.loop-place.place in
    let number : ℕ = get_or turns place 0 in
    let count = c.stretch-count.result in
    let taken = c.in_ok-taken.taken in
    let cores = c.take_stretch.new.cores in
    let within = c.stretch-count.ensures.within in
    let same = c.stretch-count.ensures.same in
    let fewer : taken < count = c.if-taken-count.true in
    let known = c.requires.known place 0 c.loop-place-test.true in
    let core = has_at cores number (omega (arith, known, c.take_stretch.ensures.count, c.loop-place.invariant.count)) in
    let all : HaveTaken time image end most first (take (place + taken) turns) cores c.take_stretch.new.port =
    subst (λ (ns : List ℕ). HaveTaken time image end most first ns cores c.take_stretch.new.port) (sym (part turns place count number within same taken (omega (arith, fewer))))
    (c.in_ok-taken.ensures.taken most first (take place turns) (c.loop-place.invariant.way most c.requires.begins.1))
    in
    let none = over_asks image end core.0.timed (c.in_ok-taken.ensures.over fewer core.0 core.1) in (
      refl,
      no_access time image end most first cores c.take_stretch.new.port number core.0 core.1 turns (place + taken) (omega (arith, within, fewer)) (named turns place count number within same taken fewer) all (ap is_some none),
    )

pub loop-place-preserved : goal.loop-place-preserved
loop-place-preserved g c =
    let time = time_by_net c.args.net.now in
    let image = c.args.program.now in
    let end = c.args.end in
    let turns = c.args.turns.now in
    let first : BoundState ShardWorld = phase_of c.args.cores.now c.args.port.now in
    let place = c.loop-place.place in
    let number : ℕ = get_or turns place 0 in
    let count = c.stretch-count.result in
    let taken = c.in_ok-taken.taken in
    let within = c.stretch-count.ensures.within in
    let same = c.stretch-count.ensures.same in
    let all : taken ≡ count = omega (arith, c.in_ok-taken.ensures.few, c.if-taken-count.false) in
    let list : take place turns ++ replicate taken number ≡ take (place + taken) turns = sym (part turns place count number within same taken c.in_ok-taken.ensures.few) in
    let old = g.T.Tracer.steps c.args.tracer.now in
    record {
      way = λ most begins.
          subst (λ (ns : List ℕ). HaveTaken time image end most first ns c.take_stretch.new.cores c.take_stretch.new.port) list
          (c.in_ok-taken.ensures.taken most first (take place turns) (c.loop-place.invariant.way most begins));
      told = λ rest.
          c.in_ok-taken.ensures.told all rest
          ∙ (c.loop-place.invariant.told (replicate count number ++ rest)
          ∙ ap (λ (ns : List ℕ). old ++ phase_steps shards_serve leaves_shards image end time ns first)
          (sym (append_assoc (take place turns) (replicate count number) rest)
          ∙ (ap (λ (k : ℕ). (take place turns ++ replicate k number) ++ rest) (sym all) ∙ ap (λ (ns : List ℕ). ns ++ rest) list)));
      count = c.take_stretch.ensures.count ∙ c.loop-place.invariant.count;
      within = omega (arith, within, all);
      fixed = c.take_stretch.ensures.fixed ∙ c.loop-place.invariant.fixed;
    }

pub end_all-requires-clause-few : goal.end_all-requires-clause-few
end_all-requires-clause-few g c = omega (arith, c.requires.cores, c.loop-place.invariant.count)

pub end_all-requires-clause-taken : goal.end_all-requires-clause-taken
end_all-requires-clause-taken g c =
    let turns = c.args.turns.now in
    let first : BoundState ShardWorld = phase_of c.args.cores.now c.args.port.now in
    let past : length turns ≤ c.loop-place.place = omega (arith, c.loop-place-test.false) in
    let most = c.requires.begins.0 in (
      most,
      first,
      turns,
      subst (λ (ns : List ℕ). HaveTaken (time_by_net c.args.net.now) c.args.program.now c.args.end most first ns c.loop-place.cores c.loop-place.port)
          (take_all c.loop-place.place turns past) (c.loop-place.invariant.way most c.requires.begins.1),
    )

pub returns-then-ended-clause-legal : goal.returns-then-ended-clause-legal
returns-then-ended-clause-legal g c =
    let time = time_by_net c.args.net.now in
    let image = c.args.program.now in
    let end = c.args.end in
    let turns = c.args.turns.now in
    let first : BoundState ShardWorld = phase_of c.args.cores.now c.args.port.now in
    let past : length turns ≤ c.loop-place.place = omega (arith, c.loop-place-test.false) in
    let most = c.requires.begins.0 in
    let whole : HaveTaken time image end most first turns c.loop-place.cores c.loop-place.port =
    subst (λ (ns : List ℕ). HaveTaken time image end most first ns c.loop-place.cores c.loop-place.port) (take_all c.loop-place.place turns past) (c.loop-place.invariant.way most c.requires.begins.1)
    in
    let ended : c.in_ok-ended.ended ≡ true = search rules in
    let h = c.in_ok-ended.ensures.taken ended most first turns whole in
    whole_phase shards_serve time image end first (phase_of c.end_all.new.cores c.end_all.new.port) turns h.reaches (c.in_ok-ended.ensures.over ended)

pub returns-then-ended-clause-taken : goal.returns-then-ended-clause-taken
returns-then-ended-clause-taken g c = λ most begins.
    let turns = c.args.turns.now in
    let first : BoundState ShardWorld = phase_of c.args.cores.now c.args.port.now in
    let past : length turns ≤ c.loop-place.place = omega (arith, c.loop-place-test.false) in
    let whole : HaveTaken (time_by_net c.args.net.now) c.args.program.now c.args.end most first turns c.loop-place.cores c.loop-place.port =
    subst (λ (ns : List ℕ). HaveTaken (time_by_net c.args.net.now) c.args.program.now c.args.end most first ns c.loop-place.cores c.loop-place.port)
    (take_all c.loop-place.place turns past) (c.loop-place.invariant.way most begins)
    in
    let ended : c.in_ok-ended.ended ≡ true = search rules in
    c.in_ok-ended.ensures.taken ended most first turns whole

pub returns-else-ended-clause-illegal : goal.returns-else-ended-clause-illegal
returns-else-ended-clause-illegal g c =
    let turns = c.args.turns.now in
    let first : BoundState ShardWorld = phase_of c.args.cores.now c.args.port.now in
    let past : length turns ≤ c.loop-place.place = omega (arith, c.loop-place-test.false) in
    let most = c.requires.begins.0 in
    let whole : HaveTaken (time_by_net c.args.net.now) c.args.program.now c.args.end most first turns c.loop-place.cores c.loop-place.port =
    subst (λ (ns : List ℕ). HaveTaken (time_by_net c.args.net.now) c.args.program.now c.args.end most first ns c.loop-place.cores c.loop-place.port)
    (take_all c.loop-place.place turns past) (c.loop-place.invariant.way most c.requires.begins.1)
    in
    let still : c.in_ok-ended.ended ≡ false = search rules in
    (refl, c.in_ok-ended.ensures.illegal still most first turns whole)

pub returns-then-ended-clause-told : goal.returns-then-ended-clause-told
returns-then-ended-clause-told g c =
    let time = time_by_net c.args.net.now in
    let image = c.args.program.now in
    let end = c.args.end in
    let turns = c.args.turns.now in
    let first : BoundState ShardWorld = phase_of c.args.cores.now c.args.port.now in
    let past : length turns ≤ c.loop-place.place = omega (arith, c.loop-place-test.false) in
    let ended : c.in_ok-ended.ended ≡ true = search rules in
    let all : take c.loop-place.place turns ++ [] ≡ turns = append-nil (take c.loop-place.place turns) ∙ take_all c.loop-place.place turns past in
    c.in_ok-ended.ensures.told ended ∙ c.loop-place.invariant.told []
    ∙ ap (λ (ns : List ℕ). g.T.Tracer.steps c.args.tracer.now ++ phase_steps shards_serve leaves_shards image end time ns first) all

pub returns-in_err-taken-clause-illegal : goal.returns-in_err-taken-clause-illegal
returns-in_err-taken-clause-illegal g c =
    let Place : Illegal → Type 0 = λ at.
    (at.interval ≡ c.args.interval)
    × (bound_phase shards_serve (time_by_net c.args.net.now) c.args.program.now c.args.end c.args.turns.now (phase_of c.args.cores.now c.args.port.now) ≡ Err at.place)
    in
    handed_on (λ (why : ReplayFail). IfIllegal why Place) fail.NoMemory c.from_residual.result c.from_residual.ensures.1 tt

pub returns-in_err-ended-clause-illegal : goal.returns-in_err-ended-clause-illegal
returns-in_err-ended-clause-illegal g c =
    let Place : Illegal → Type 0 = λ at.
    (at.interval ≡ c.args.interval)
    × (bound_phase shards_serve (time_by_net c.args.net.now) c.args.program.now c.args.end c.args.turns.now (phase_of c.args.cores.now c.args.port.now) ≡ Err at.place)
    in
    handed_on (λ (why : ReplayFail). IfIllegal why Place) fail.NoMemory c.from_residual-in_err-ended.result c.from_residual-in_err-ended.ensures.1 tt
