use Rattle.rv_core.proofs.Reached.{asks-paired, next-paired}
use Rattle.rv_core.proofs.laws.accesses_are_paired_right.Goals as goal

pub returns : goal.returns
returns c = record {
  next = λ core now sound here. next-paired core now sound here;
  lists = λ core last requests sound asked. (asks-paired c.fields_are_in_range.ensures.registers asked sound).0;
  pairing = λ core last requests sound asked. (asks-paired c.fields_are_in_range.ensures.registers asked sound).1;
}
