use Rattle.std.proofs.Common.{◌≡◌, List, length, map, Err, refl, sym, subst, ap, ◌∙◌, arith}
use Rattle.std.specs.Prelude.{slice_get}
use Rattle.std.specs.Vec.{with_items}
use Rattle.std.proofs.lemmas.List.{with_items_is}
use Rattle.bound_core.specs.History.{begun_over_shards}
use Rattle.bound_core.specs.ReferenceMachine.{bound_phase}
use Rattle.bound_core.specs.NumberedCores.{NumberedCore, timed_of}
use Rattle.bound_core.specs.ShardWorld.{restarted, shards_serve}
use Rattle.bound_records.specs.Intervals.{IfIllegalTurn}
use Rattle.run.specs.declared.simulation.Simulation.{Simulation}
use Rattle.reference.specs.ReferenceRun.{time_of}
use Rattle.run.proofs.RecordedPhase.{by_turns}
use Rattle.replay.proofs.under.bound_under.Goals as goal

pub run_under-requires-clause-count : goal.run_under-requires-clause-count
run_under-requires-clause-count c = ap length c.deref_mut.ensures.value ∙ c.requires.room.count

pub run_under-requires-clause-ready : goal.run_under-requires-clause-ready
run_under-requires-clause-ready c = λ i core here.
    c.requires.room.ready i core (ap (λ (cores : List NumberedCore). slice_get cores i) (sym c.deref_mut.ensures.value) ∙ here)

pub run_under-requires-clause-numbered : goal.run_under-requires-clause-numbered
run_under-requires-clause-numbered c = λ i core here.
    c.requires.room.numbered i core (ap (λ (cores : List NumberedCore). slice_get cores i) (sym c.deref_mut.ensures.value) ∙ here)

pub returns-in-Ok-clause-recorded : goal.returns-in-Ok-clause-recorded
returns-in-Ok-clause-recorded c =
    let p = c.args.simulation in
    let cores = c.deref_mut.result.now in
    let after = c.run_under.new.cores in
    let long : length after ≡ p.cores.len = omega (arith, c.run_under.auto.cores, ap length c.deref_mut.ensures.value, p.cores.ok.0) in
    let q : Simulation = record { cores = with_items p.cores after; recorder = c.in-Ok.recorder; comps = p.comps; counters = p.counters } in
    by_turns c.args.machine.now c.args.program.now c.args.end p q cores after (sym c.deref_mut.ensures.value) (with_items_is p.cores after long) c.in-Ok.ensures.kept refl refl c.args.turns.now c.in-Ok.ensures.run

pub returns-in-Err-clause-illegal : goal.returns-in-Err-clause-illegal
returns-in-Err-clause-illegal c =
    let p = c.args.simulation in
    let machine = c.args.machine.now in
    subst
    (λ (cores : List NumberedCore).
    IfIllegalTurn c.in-Err.fail (λ place. bound_phase shards_serve (time_of machine) c.args.program.now c.args.end c.args.turns.now (begun_over_shards (timed_of cores) (map restarted p.recorder.world.shards)) ≡ Err place))
    c.deref_mut.ensures.value c.in-Err.ensures.illegal
