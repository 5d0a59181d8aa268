use Rattle.rv_decode.proofs.TableLemmas.{decoded_by_row, row_from_decoded, no_row_from_decoded, decoded_by_no_row}
use Rattle.rv_decode.proofs.laws.words_are_by_rows.Goals as goal

pub returns-clause-matching : goal.returns-clause-matching
returns-clause-matching c = decoded_by_row

pub returns-clause-matched : goal.returns-clause-matched
returns-clause-matched c = row_from_decoded

pub returns-clause-none : goal.returns-clause-none
returns-clause-none c word = (no_row_from_decoded word, decoded_by_no_row word)
