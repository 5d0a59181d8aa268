use Rattle.bound_phase.proofs.Machine.{are_phases, of_the_machine}
use Rattle.bound_phase.proofs.laws.bounds_are_of_the_machine.Goals as goal

pub returns : goal.returns
returns c = record {
  machine = λ time image end. of_the_machine time image end (c.histories_are_runs_of_the_machine.ensures time image end);
  shards = λ time image end. are_phases time image end (c.histories_are_phases.ensures time image end);
}
