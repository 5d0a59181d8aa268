use Rattle.rv_core.proofs.Words.{fetches-where-a-word-is}
use Rattle.rv_core.proofs.laws.fetches_where_a_word_is.Goals as goal

pub returns : goal.returns
returns c = fetches-where-a-word-is
