use Rattle.std.proofs.Common.{sym, ◌∙◌}
use Rattle.rv_decode.proofs.TableLemmas.{decoded_by_row, no_row_from_decoded, decoded_by_no_row}
use Rattle.rv_decode.proofs.RangeLemmas.{instruction_by_row, instruction_in_range, instruction_registers}
use Rattle.rv_decode.proofs.decoder.decode.Goals as goal

pub returns-clause-matching : goal.returns-clause-matching
returns-clause-matching c row listed matched = c.by_opcode.ensures ∙ decoded_by_row c.args.word row listed matched

pub returns-clause-matched : goal.returns-clause-matched
returns-clause-matched c = instruction_by_row c.args.word c.by_opcode.result c.by_opcode.ensures

pub returns-clause-none : goal.returns-clause-none
returns-clause-none c = (λ e. no_row_from_decoded c.args.word (sym c.by_opcode.ensures ∙ e), λ h. c.by_opcode.ensures ∙ decoded_by_no_row c.args.word h)

pub returns-clause-registers : goal.returns-clause-registers
returns-clause-registers c = instruction_registers c.args.word c.by_opcode.result c.by_opcode.ensures

pub returns-clause-ranges : goal.returns-clause-ranges
returns-clause-ranges c = instruction_in_range c.args.word c.by_opcode.result c.by_opcode.ensures
