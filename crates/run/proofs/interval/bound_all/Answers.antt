use Rattle.std.proofs.Common.{◌≡◌, length, refl, sym, ap, ◌∙◌, List, arith}
use Rattle.std.specs.Prelude.{slice_get}
use Rattle.std.specs.Vec.{with_items}
use Rattle.std.proofs.lemmas.List.{with_items_is}
use Rattle.bound_core.specs.NumberedCores.{NumberedCore}
use Rattle.run.specs.declared.simulation.Simulation.{Simulation}
use Rattle.run.proofs.RecordedPhase.{by_turns, core_by_core}
use Rattle.run.proofs.interval.bound_all.Goals as goal

pub run-requires-clause-count : goal.run-requires-clause-count
run-requires-clause-count g c κs within = ap length c.deref_mut.ensures.value ∙ c.requires.room.count

pub run-requires-clause-ready : goal.run-requires-clause-ready
run-requires-clause-ready g c κs within = λ i core here.
    c.requires.room.ready i core (ap (λ (cores : List NumberedCore). slice_get cores i) (sym c.deref_mut.ensures.value) ∙ here)

pub run-requires-clause-numbered : goal.run-requires-clause-numbered
run-requires-clause-numbered g c κs within = λ i core here.
    c.requires.room.numbered i core (ap (λ (cores : List NumberedCore). slice_get cores i) (sym c.deref_mut.ensures.value) ∙ here)

pub returns-then-workers-eq1-clause-recorded : goal.returns-then-workers-eq1-clause-recorded
returns-then-workers-eq1-clause-recorded g c =
    let p = c.args.simulation in
    let cores = c.deref_mut.result.now in
    let after = c.run.new.cores in
    let long : length after ≡ p.cores.len = omega (arith, c.run.auto.cores, ap length c.deref_mut.ensures.value, p.cores.ok.0) in
    let q : Simulation = record { cores = with_items p.cores after; recorder = c.in_ok-recorder.recorder; comps = p.comps; counters = p.counters } in
    core_by_core c.args.context.now.machine.now c.args.context.now.program.now c.args.end p q cores after (sym c.deref_mut.ensures.value) (with_items_is p.cores after long) c.in_ok-recorder.ensures.kept refl refl c.in_ok-recorder.ensures.run

pub returns-clause-recorded : goal.returns-clause-recorded
returns-clause-recorded g c =
    let p = c.args.simulation in
    let back = c.in_ok-cores in
    let q : Simulation = record { cores = back.cores; recorder = back.recorder; comps = p.comps; counters = p.counters } in
    by_turns c.args.context.now.machine.now c.args.context.now.program.now c.args.end p q p.cores.items back.cores.items refl refl back.ensures.kept refl refl back.turns.items back.ensures.run
