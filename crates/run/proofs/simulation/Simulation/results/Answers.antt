use Rattle.std.proofs.Common.{refl, ◌∙◌}
use Rattle.reference.specs.ReferenceRun.{have_halted}
use Rattle.run.specs.Simulation.{cores_of}
use Rattle.run.proofs.RunEnds.{results_are}
use Rattle.run.proofs.simulation.Simulation.results.Goals as goal

pub returns-clause-results : goal.returns-clause-results
returns-clause-results c = λ machine s come length_is.
    c.of.ensures ∙ results_are machine s c.args.self come (have_halted (cores_of c.args.self)) refl c.args.interval length_is
