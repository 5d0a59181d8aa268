use Rattle.reference.proofs.Pairs.{store_between-ends_pair, write-ends_pair}
use Rattle.reference.proofs.laws.a_write_between_ends_a_pair.Goals as goal

pub returns : goal.returns
returns c = record {
  store = store_between-ends_pair c.others_end_by_writes.ensures c.accesses_are_little_endian.ensures.stores;
  others = write-ends_pair c.others_end_by_writes.ensures c.accesses_are_little_endian.ensures.stores;
}
