use Rattle.std.proofs.Common.{◌≡◌, ℕ, Err, length, map, refl, sym, subst}
use Rattle.bound_core.specs.History.{begun_over_shards}
use Rattle.bound_core.specs.ReferenceMachine.{bound_phase}
use Rattle.bound_core.specs.ShardWorld.{restarted, shards_serve}
use Rattle.reference.specs.ReferenceRun.{Illegal, RunState, after_interval, time_of}
use Rattle.replay.specs.Replay.{IfIllegal}
use Rattle.run.specs.Simulation.{HasNextInterval, cores_of}
use Rattle.replay.specs.declared.replay_fail.ReplayFail.{ReplayFail}
use Rattle.replay.proofs.HandedOn.{of_turn}
use Rattle.run.proofs.NextInterval.{not_legal}
use Rattle.replay.proofs.under.interval_under.Goals as goal

pub weave_under-requires-clause-recorded : goal.weave_under-requires-clause-recorded
weave_under-requires-clause-recorded c = (c.args.program.now, c.args.end, c.args.simulation, c.requires.goes_on.0, c.requires.goes_on.1, c.in-Ok.ensures.recorded)

pub returns-in-Err-clause-illegal : goal.returns-in-Err-clause-illegal
returns-in-Err-clause-illegal c =
    let machine = c.args.machine.now in
    let image = c.args.program.now in
    let end = c.args.end in
    let turns = c.args.turns.now in
    let before = c.args.simulation in
    let Found : (place : ℕ) → Type 0 = λ place.
    bound_phase shards_serve (time_of machine) image end turns (begun_over_shards (cores_of before) (map restarted before.recorder.world.shards)) ≡ Err place
    in
    let Place : Illegal → Type 0 = λ at.
    (at.interval ≡ c.args.interval) × ((s : RunState) → HasNextInterval machine end s before → after_interval machine image s turns ≡ Err (record { interval = length s.intervals; place = at.place }))
    in
    subst (λ (why : ReplayFail). IfIllegal why Place) (sym c.fail_in.ensures)
    (of_turn c.args.interval c.in-Err.fail Found Place (λ place found. (refl, λ s g. not_legal machine image end s before g turns (c.shards_do_as_the_machine.ensures (time_of machine) image end) place found)) c.in-Err.ensures.illegal)
