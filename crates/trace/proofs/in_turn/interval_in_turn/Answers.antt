use Rattle.std.proofs.Common.{ℕ, List}
use Rattle.reference.specs.ReferenceRun.{time_of}
use Rattle.reference.proofs.CoreKept.{CoreLaws}
use Rattle.zs_num.specs.declared.entry.Entry.{Entry}
use Rattle.trace.specs.TracedRun.{HasBounded, as_run}
use Rattle.trace.proofs.MachineSteps.{StepLaws, all_told, leave_alike}
use Rattle.trace.proofs.in_turn.interval_in_turn.Goals as goal

pub weave_interval-requires-clause-bounded : goal.weave_interval-requires-clause-bounded
weave_interval-requires-clause-bounded g c =
    let machine = c.args.machine.now in
    let ran = c.in_ok-entries.ensures in
    let goes = c.requires.goes_on in (
      c.args.program.now,
      goes.0,
      c.in_ok-entries.field-0.turns.items,
      record { end = c.args.end; before = as_run machine c.args.run.now; goes_on = goes.1; room = c.requires.room; bounded = ran.bounded; comps = ran.comps; counters = ran.counters },
    )

pub returns-clause-leads : goal.returns-clause-leads
returns-clause-leads g c = λ s goes.
    let machine = c.args.machine.now in
    let image = c.args.program.now in
    let turns : List ℕ = c.in_ok-entries.field-0.turns.items in
    let ran = c.in_ok-entries.ensures in
    let bounded : HasBounded machine image s turns (as_run machine c.bound_in_turn.new.run) c.in_ok-entries.field-0.entries =
    record { end = c.args.end; before = as_run machine c.args.run.now; goes_on = goes; room = c.requires.room; bounded = ran.bounded; comps = ran.comps; counters = ran.counters }
    in
    c.in_ok-list.ensures.leads image s turns bounded

pub returns-clause-told : goal.returns-clause-told
returns-clause-told g c = λ s goes.
    let machine = c.args.machine.now in
    let image = c.args.program.now in
    let end = c.args.end in
    let turns : List ℕ = c.in_ok-entries.field-0.turns.items in
    let ran = c.in_ok-entries.ensures in
    let entries : List Entry = c.in_ok-entries.field-0.entries in
    let p = as_run machine c.args.run.now in
    let cores : CoreLaws = record {
      advanced_sound = c.cores_stay_sound.ensures.advanced;
      advanced_memory = c.cores_stay_sound.ensures.advanced_memory;
      advanced_pairing = c.cores_stay_sound.ensures.advanced_pairing;
      advanced_fetching = c.cores_stay_sound.ensures.advanced_fetching;
      answered_sound = c.cores_stay_sound.ensures.answered;
      answered_memory = c.cores_stay_sound.ensures.answered_memory;
      answered_pairing = c.cores_stay_sound.ensures.answered_pairing;
      answered_fetching = c.cores_stay_sound.ensures.answered_fetching;
      paired_right = c.accesses_are_paired_right.ensures.next;
    }
    in
    let laws : StepLaws image end = record { cores = cores; shards = c.shards_stand_for_a_machine.ensures; marks = c.marks.ensures; leaves = leave_alike c.leaving_is_the_machines.ensures image end } in
    let bounded : HasBounded machine image s turns (as_run machine c.bound_in_turn.new.run) entries =
    record { end = end; before = p; goes_on = goes; room = c.requires.room; bounded = ran.bounded; comps = ran.comps; counters = ran.counters }
    in
    all_told machine image end s p goes turns laws (c.shards_do_as_the_machine.ensures (time_of machine) image end) ran.bounded.left ran.bounded.phase entries ran.bounded.in_order
    (g.T.Tracer.steps c.args.tracer.now) (g.T.Tracer.steps c.bound_in_turn.new.tracer) (g.T.Tracer.steps c.weave_interval.new.tracer) ran.told (c.in_ok-list.ensures.told image s turns bounded)
