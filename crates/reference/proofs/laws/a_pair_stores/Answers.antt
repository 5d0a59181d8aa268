use Rattle.reference.proofs.Pairs.{pair-stores, pair_alone-stores}
use Rattle.reference.proofs.laws.a_pair_stores.Goals as goal

pub returns : goal.returns
returns c = record {
  alone = pair_alone-stores c.others_end_by_writes.ensures c.accesses_are_little_endian.ensures.stores;
  others = pair-stores c.others_end_by_writes.ensures c.accesses_are_little_endian.ensures.stores;
}
