use Rattle.std.proofs.Common.{sym, ◌∙◌, ap}
use Rattle.stats.specs.Counts.{counts_of}
use Rattle.reference.specs.Results.{Results}
use Rattle.trace.proofs.RunCounts.{counts_told}
use Rattle.trace.proofs.laws.intervals_are_the_runs.Goals as goal

pub returns-clause-intervals : goal.returns-clause-intervals
returns-clause-intervals c machine image lists steps results trace run =
    counts_told machine image (λ comps others one other. c.fresh_components_are_one.ensures machine others comps other one) lists steps results trace run

pub returns-clause-counts : goal.returns-clause-counts
returns-clause-counts c machine image lists steps results trace run =
    let told = counts_told machine image (λ comps others one other. c.fresh_components_are_one.ensures machine others comps other one) lists steps results trace run in
    (told.0.comps, ap (λ (r : Results). r.counts) told.1.gives ∙ ap (counts_of machine.cores told.0.comps) (sym told.2))
