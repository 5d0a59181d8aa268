use Rattle.rv_decode.proofs.TableLemmas as lemmas
use Rattle.rv_decode.proofs.laws.one_row.Goals as goal

pub returns : goal.returns
returns c = lemmas.one_row
