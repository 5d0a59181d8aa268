-- The line was said by the step that says it.
use Rattle.zsim.proofs.top.zsim.Goals as goal

pub returns-clause-error_line : goal.returns-clause-error_line
returns-clause-error_line g c = c.say-said.ensures.line

pub returns-clause-silent : goal.returns-clause-silent
returns-clause-silent g c = c.say-said.ensures.silent
