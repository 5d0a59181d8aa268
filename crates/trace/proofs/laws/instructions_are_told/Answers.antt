use Rattle.trace.proofs.RunCounts.{all_told, instructions_told}
use Rattle.trace.proofs.laws.instructions_are_told.Goals as goal

pub returns-clause-each : goal.returns-clause-each
returns-clause-each c machine image lists steps results trace run core timed here =
    instructions_told machine image (λ comps others one other. c.fresh_components_are_one.ensures machine others comps other one) lists steps results trace run core timed here

pub returns-clause-all : goal.returns-clause-all
returns-clause-all c machine image lists steps results trace run =
    all_told machine image (λ comps others one other. c.fresh_components_are_one.ensures machine others comps other one) lists steps results trace run
