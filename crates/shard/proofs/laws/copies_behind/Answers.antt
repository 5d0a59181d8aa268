use Rattle.shard.proofs.CopiesBehind.{copies_behind, instructions_are_behind}
use Rattle.shard.proofs.LinesBehind.{lines_behind}
use Rattle.shard.proofs.laws.copies_behind.Goals as goal

pub returns-clause-data : goal.returns-clause-data
returns-clause-data c = copies_behind

pub returns-clause-instructions : goal.returns-clause-instructions
returns-clause-instructions c = instructions_are_behind

pub returns-clause-shared : goal.returns-clause-shared
returns-clause-shared c = lines_behind
