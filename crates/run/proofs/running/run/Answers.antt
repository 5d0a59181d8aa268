use Rattle.std.proofs.Common.{sym, subst}
use Rattle.std.specs.Prelude.{IfOk}
use Rattle.elf_load.specs.MemoryImage.{MemoryImage}
use Rattle.run.specs.Recording.{IsRecordedRun}
use Rattle.reference.specs.ReferenceRun.{IsKeptInOrder, IsRunOf}
use Rattle.run.specs.Simulation.{IsAtStart}
use Rattle.reference.proofs.FirstIntervals.{nothing_run}
use Rattle.run.proofs.running.run.Goals as goal

pub returns-in_err-places-clause-in_order : goal.returns-in_err-places-clause-in_order
returns-in_err-places-clause-in_order g c =
    let machine = c.args.machine.now in
    let there = c.fresh_components_are_there.ensures machine c.requires.machine in
    nothing_run machine c.args.image.now c.args.schedule.now.lists c.requires.empty there.0 there.1

pub returns-in_err-program-clause-in_order : goal.returns-in_err-program-clause-in_order
returns-in_err-program-clause-in_order g c =
    let machine = c.args.machine.now in
    let there = c.fresh_components_are_there.ensures machine c.requires.machine in
    nothing_run machine c.args.image.now c.args.schedule.now.lists c.requires.empty there.0 there.1

pub returns-in_err-simulation-clause-in_order : goal.returns-in_err-simulation-clause-in_order
returns-in_err-simulation-clause-in_order g c =
    let machine = c.args.machine.now in
    let there = c.fresh_components_are_there.ensures machine c.requires.machine in
    nothing_run machine c.args.image.now c.args.schedule.now.lists c.requires.empty there.0 there.1

pub run_by_crew-requires-clause-starts : goal.run_by_crew-requires-clause-starts
run_by_crew-requires-clause-starts g c κs within =
    subst (λ (i : MemoryImage). IsAtStart c.args.machine.now i c.in_ok-simulation.simulation) (sym c.in_ok-program.ensures) c.in_ok-simulation.ensures

pub returns-clause-ok : goal.returns-clause-ok
returns-clause-ok g c =
    subst (λ (i : MemoryImage). IfOk c.run_by_crew.result (IsRunOf c.args.machine.now i c.run_by_crew.new.schedule.lists)) c.in_ok-program.ensures c.run_by_crew.ensures.ok

pub returns-clause-recorded : goal.returns-clause-recorded
returns-clause-recorded g c =
    subst (λ (i : MemoryImage). IfOk c.run_by_crew.result (λ r. IsRecordedRun c.args.machine.now i c.run_by_crew.new.schedule.lists c.run_by_crew.new.recording)) c.in_ok-program.ensures c.run_by_crew.ensures.recorded

pub returns-clause-in_order : goal.returns-clause-in_order
returns-clause-in_order g c =
    subst (λ (i : MemoryImage). IsKeptInOrder c.args.machine.now i c.run_by_crew.new.schedule.lists) c.in_ok-program.ensures c.run_by_crew.ensures.in_order
