use Rattle.reference.proofs.InstructionLaws.{loads-whole, stores-whole}
use Rattle.reference.proofs.laws.loads_and_stores_are_whole.Goals as goal

pub returns : goal.returns
returns c = record {
  loads = loads-whole c.accesses_are_little_endian.ensures.loads;
  stores = stores-whole c.accesses_are_little_endian.ensures.stores;
}
