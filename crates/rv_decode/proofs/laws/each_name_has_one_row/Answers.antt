use Rattle.rv_decode.proofs.RangeLemmas.{names_once, name_with_format, value_of_listed, format_of_listed, instruction-name}
use Rattle.rv_decode.proofs.laws.each_name_has_one_row.Goals as goal

pub returns-clause-once : goal.returns-clause-once
returns-clause-once c = names_once

pub returns-clause-listed : goal.returns-clause-listed
returns-clause-listed c row listed = (value_of_listed row listed, format_of_listed row listed)

pub returns-clause-each : goal.returns-clause-each
returns-clause-each c = name_with_format

pub returns-clause-kept : goal.returns-clause-kept
returns-clause-kept c = instruction-name
