use Rattle.std.proofs.Common.{arith}
use Rattle.schedule_file.proofs.reader.turns.Goals as goal

pub field-requires-clause-count : goal.field-requires-clause-count
field-requires-clause-count c = omega arith
