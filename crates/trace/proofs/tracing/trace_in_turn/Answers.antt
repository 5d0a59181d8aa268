use Rattle.std.proofs.Common.{◌≡◌, ◌++◌, List, sym, subst}
use Rattle.std.specs.Prelude.{IfOk}
use Rattle.elf_load.specs.MemoryImage.{MemoryImage}
use Rattle.reference.specs.ReferenceRun.{IsRunOf}
use Rattle.run.specs.Simulation.{IsAtStart}
use Rattle.trace.specs.InTurn.{IsInTurn}
use Rattle.trace.specs.Trace.{IsTraceOf, Step}
use Rattle.trace.specs.TracedRun.{as_run}
use Rattle.trace.proofs.KeptInTurn.{nothing_in_turn}
use Rattle.trace.proofs.tracing.trace_in_turn.Goals as goal

pub returns-in_err-program-clause-in_turn : goal.returns-in_err-program-clause-in_turn
returns-in_err-program-clause-in_turn g c =
    let machine = c.args.machine.now in
    let there = c.fresh_components_are_there.ensures machine c.requires.machine in
    nothing_in_turn machine c.args.image.now c.args.schedule.now.lists c.requires.empty there.0 there.1

pub returns-in_err-traced-clause-in_turn : goal.returns-in_err-traced-clause-in_turn
returns-in_err-traced-clause-in_turn g c =
    let machine = c.args.machine.now in
    let there = c.fresh_components_are_there.ensures machine c.requires.machine in
    nothing_in_turn machine c.args.image.now c.args.schedule.now.lists c.requires.empty there.0 there.1

pub trace_turns-requires-clause-starts : goal.trace_turns-requires-clause-starts
trace_turns-requires-clause-starts g c =
    subst (λ (i : MemoryImage). IsAtStart c.args.machine.now i (as_run c.args.machine.now c.in_ok-traced.traced)) (sym c.in_ok-program.ensures) c.in_ok-traced.ensures

pub returns-clause-ran : goal.returns-clause-ran
returns-clause-ran g c =
    subst (λ (i : MemoryImage). IfOk c.trace_turns.result (IsRunOf c.args.machine.now i c.trace_turns.new.schedule.lists)) c.in_ok-program.ensures c.trace_turns.ensures.ran

pub returns-clause-in_turn : goal.returns-clause-in_turn
returns-clause-in_turn g c =
    subst (λ (i : MemoryImage). IsInTurn c.args.machine.now i c.trace_turns.new.schedule.lists) c.in_ok-program.ensures c.trace_turns.ensures.in_turn

pub returns-clause-told : goal.returns-clause-told
returns-clause-told g c =
    subst
    (λ (i : MemoryImage).
    IfOk c.trace_turns.result (λ _. (steps : List Step) × IsTraceOf c.args.machine.now i c.trace_turns.new.schedule.lists steps × (g.T.Tracer.steps c.trace_turns.new.tracer ≡ g.T.Tracer.steps c.args.tracer.now ++ steps)))
    c.in_ok-program.ensures c.trace_turns.ensures.told
