use Rattle.std.proofs.Common.{refl, ◌∙◌}
use Rattle.reference.specs.ReferenceRun.{have_halted}
use Rattle.bound_core.specs.NumberedCores.{timed_of}
use Rattle.run.proofs.RunEnds.{results_are}
use Rattle.trace.specs.TracedRun.{as_run}
use Rattle.trace.proofs.traced_run.TracedRun.results.Goals as goal

pub returns-clause-results : goal.returns-clause-results
returns-clause-results c = λ machine s come length_is.
    c.of.ensures ∙ results_are machine s (as_run machine c.args.self) come (have_halted (timed_of c.args.self.cores.items)) refl c.args.interval length_is
