use Rattle.shard.proofs.CoherentApart.{fetched_lines_are_there, fetches_change_no_letter, fetches_take_letters_of_one_line, others_leave_instruction_caches, others_take_one_line}
use Rattle.shard.proofs.laws.instructions_are_apart.Goals as goal

pub returns-clause-letters : goal.returns-clause-letters
returns-clause-letters c = fetches_change_no_letter

pub returns-clause-instructions : goal.returns-clause-instructions
returns-clause-instructions c = others_leave_instruction_caches

pub returns-clause-letter : goal.returns-clause-letter
returns-clause-letter c = fetches_take_letters_of_one_line

pub returns-clause-instruction : goal.returns-clause-instruction
returns-clause-instruction c = others_take_one_line

pub returns-clause-there : goal.returns-clause-there
returns-clause-there c = fetched_lines_are_there
