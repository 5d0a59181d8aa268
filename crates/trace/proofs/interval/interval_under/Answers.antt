use Rattle.std.proofs.Common.{◌≡◌, ℕ, Err, List, length, map}
use Rattle.bound_core.specs.History.{begun_over_shards}
use Rattle.bound_core.specs.ReferenceMachine.{bound_phase}
use Rattle.bound_core.specs.ShardWorld.{restarted, shards_serve}
use Rattle.reference.specs.ReferenceRun.{Illegal, RunState, after_interval, time_of}
use Rattle.reference.proofs.CoreKept.{CoreLaws}
use Rattle.replay.specs.Replay.{IfIllegal}
use Rattle.replay.specs.declared.replay_fail.ReplayFail.{ReplayFail}
use Rattle.replay.specs.declared.replay_fail.ReplayFail.TheVariants as fail
use Rattle.replay.proofs.HandedOn.{handed_on, of_place}
use Rattle.run.specs.Simulation.{HasNextInterval, cores_of}
use Rattle.run.proofs.NextInterval.{not_legal}
use Rattle.zs_num.specs.declared.entry.Entry.{Entry}
use Rattle.trace.specs.TracedRun.{HasBounded, as_run}
use Rattle.trace.proofs.MachineSteps.{StepLaws, all_told, leave_alike}
use Rattle.trace.proofs.interval.interval_under.Goals as goal

pub returns-in_err-entries-clause-illegal : goal.returns-in_err-entries-clause-illegal
returns-in_err-entries-clause-illegal g c =
    let machine = c.args.machine.now in
    let image = c.args.program.now in
    let end = c.args.end in
    let turns = c.args.turns.now in
    let before = as_run machine c.args.run.now in
    let Found : Illegal → Type 0 = λ at.
    (at.interval ≡ c.args.interval) × (bound_phase shards_serve (time_of machine) image end turns (begun_over_shards (cores_of before) (map restarted (before.recorder.world.shards))) ≡ Err at.place)
    in
    let Place : Illegal → Type 0 = λ at.
    (at.interval ≡ c.args.interval) × ((s : RunState) → HasNextInterval machine end s before → after_interval machine image s turns ≡ Err (record { interval = length s.intervals; place = at.place }))
    in
    handed_on (λ (why : ReplayFail). IfIllegal why Place) _ c.from_residual.result c.from_residual.ensures.1
    (of_place _ Found Place (λ at found. (found.0, λ s g. not_legal machine image end s before g turns (c.shards_do_as_the_machine.ensures (time_of machine) image end) at.place found.1)) c.in_err-entries.ensures.illegal)

pub returns-in_err-weave_interval-clause-illegal : goal.returns-in_err-weave_interval-clause-illegal
returns-in_err-weave_interval-clause-illegal g c =
    let machine = c.args.machine.now in
    let Place : Illegal → Type 0 = λ at.
    (at.interval ≡ c.args.interval)
    × ((s : RunState) → HasNextInterval machine c.args.end s (as_run machine c.args.run.now) → after_interval machine c.args.program.now s c.args.turns.now ≡ Err (record { interval = length s.intervals; place = at.place }))
    in
    handed_on (λ (why : ReplayFail). IfIllegal why Place) fail.NoMemory c.from_residual-in_err-weave_interval.result c.from_residual-in_err-weave_interval.ensures.1 tt

pub weave_interval-requires-clause-bounded : goal.weave_interval-requires-clause-bounded
weave_interval-requires-clause-bounded g c =
    let machine = c.args.machine.now in
    let ran = c.in_ok-entries.ensures in
    let goes = c.requires.goes_on in (
      c.args.program.now,
      goes.0,
      c.args.turns.now,
      record { end = c.args.end; before = as_run machine c.args.run.now; goes_on = goes.1; room = c.requires.room; bounded = ran.bounded; comps = ran.comps; counters = ran.counters },
    )

pub returns-clause-leads : goal.returns-clause-leads
returns-clause-leads g c = λ s goes.
    let machine = c.args.machine.now in
    let image = c.args.program.now in
    let turns = c.args.turns.now in
    let ran = c.in_ok-entries.ensures in
    let bounded : HasBounded machine image s turns (as_run machine c.bound_under.new.run) c.in_ok-entries.entries =
    record { end = c.args.end; before = as_run machine c.args.run.now; goes_on = goes; room = c.requires.room; bounded = ran.bounded; comps = ran.comps; counters = ran.counters }
    in
    c.in_ok-weave_interval.ensures.leads image s turns bounded

pub returns-clause-told : goal.returns-clause-told
returns-clause-told g c = λ s goes.
    let machine = c.args.machine.now in
    let image = c.args.program.now in
    let end = c.args.end in
    let turns : List ℕ = c.args.turns.now in
    let ran = c.in_ok-entries.ensures in
    let entries : List Entry = c.in_ok-entries.entries in
    let p = as_run machine c.args.run.now in
    let cores : CoreLaws = record {
      advanced_sound = c.cores_stay_sound.ensures.advanced;
      advanced_memory = c.cores_stay_sound.ensures.advanced_memory;
      advanced_pairing = c.cores_stay_sound.ensures.advanced_pairing;
      advanced_fetching = c.cores_stay_sound.ensures.advanced_fetching;
      answered_sound = c.cores_stay_sound.ensures.answered;
      answered_memory = c.cores_stay_sound.ensures.answered_memory;
      answered_pairing = c.cores_stay_sound.ensures.answered_pairing;
      answered_fetching = c.cores_stay_sound.ensures.answered_fetching;
      paired_right = c.accesses_are_paired_right.ensures.next;
    }
    in
    let laws : StepLaws image end = record { cores = cores; shards = c.shards_stand_for_a_machine.ensures; marks = c.marks.ensures; leaves = leave_alike c.leaving_is_the_machines.ensures image end } in
    let bounded : HasBounded machine image s turns (as_run machine c.bound_under.new.run) entries =
    record { end = end; before = p; goes_on = goes; room = c.requires.room; bounded = ran.bounded; comps = ran.comps; counters = ran.counters }
    in
    all_told machine image end s p goes turns laws (c.shards_do_as_the_machine.ensures (time_of machine) image end) ran.bounded.left ran.bounded.phase entries ran.bounded.in_order
    (g.T.Tracer.steps c.args.tracer.now) (g.T.Tracer.steps c.bound_under.new.tracer) (g.T.Tracer.steps c.weave_interval.new.tracer) ran.told (c.in_ok-weave_interval.ensures.told image s turns bounded)
