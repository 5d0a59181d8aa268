use Rattle.std.proofs.Common.{sym, subst}
use Rattle.elf_load.specs.MemoryImage.{MemoryImage}
use Rattle.replay.specs.Replay.{Replays}
use Rattle.run.specs.Simulation.{IsAtStart}
use Rattle.replay.specs.declared.replay_fail.ReplayFail.TheVariants as fail
use Rattle.replay.proofs.HandedOn.{replay_failed}
use Rattle.replay.proofs.replaying.replay.Goals as goal

pub returns-in_err-places-clause-gives : goal.returns-in_err-places-clause-gives
returns-in_err-places-clause-gives c =
    replay_failed c.args.machine.now c.args.image.now c.args.schedule.now.lists fail.NoMemory c.from_residual.result c.from_residual.ensures.1 tt

pub returns-in_err-program-clause-gives : goal.returns-in_err-program-clause-gives
returns-in_err-program-clause-gives c =
    replay_failed c.args.machine.now c.args.image.now c.args.schedule.now.lists fail.NoMemory c.from_residual-in_err-program.result c.from_residual-in_err-program.ensures.1 tt

pub returns-in_err-simulation-clause-gives : goal.returns-in_err-simulation-clause-gives
returns-in_err-simulation-clause-gives c =
    replay_failed c.args.machine.now c.args.image.now c.args.schedule.now.lists fail.NoMemory c.from_residual-in_err-simulation.result c.from_residual-in_err-simulation.ensures.1 tt

pub replay_on-requires-clause-starts : goal.replay_on-requires-clause-starts
replay_on-requires-clause-starts c =
    subst (λ (i : MemoryImage). IsAtStart c.args.machine.now i c.in_ok-simulation.simulation) (sym c.in_ok-program.ensures) c.in_ok-simulation.ensures

pub returns-clause-gives : goal.returns-clause-gives
returns-clause-gives c =
    subst (λ (i : MemoryImage). Replays c.args.machine.now i c.args.schedule.now.lists c.replay_on.result) c.in_ok-program.ensures c.replay_on.ensures.gives
