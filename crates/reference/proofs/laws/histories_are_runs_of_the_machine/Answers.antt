use Rattle.reference.proofs.MachineRuns.{run_of_machine}
use Rattle.reference.proofs.laws.histories_are_runs_of_the_machine.Goals as goal

pub returns : goal.returns
returns c time image end cores shards entries m history stand =
    run_of_machine time image end
    (c.histories_are_phases.ensures time image end)
    (c.recorded_order_is_a_history.ensures time image end)
    (c.shards_do_as_the_machine.ensures time image end)
    cores shards entries m history stand
