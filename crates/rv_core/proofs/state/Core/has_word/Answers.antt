use Rattle.std.proofs.Common.{sym}
use Rattle.rv_core.proofs.Words.{an-instruction-inside}
use Rattle.rv_core.proofs.state.Core.has_word.Goals as goal

pub returns-in-Some-clause-value : goal.returns-in-Some-clause-value
returns-in-Some-clause-value g c = sym (an-instruction-inside _ _ _ c.in-Some.ensures.value)
