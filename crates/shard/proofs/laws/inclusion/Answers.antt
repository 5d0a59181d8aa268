use Rattle.shard.proofs.CoherentRuns.{from_empty}
use Rattle.shard.proofs.laws.inclusion.Goals as goal

pub returns-clause-data : goal.returns-clause-data
returns-clause-data c cores shards l1_sets l1_ways fetchers l1i_sets l1i_ways l2_sets l2_ways accesses some1 ways1 some2 ways2 fetch known =
    (from_empty cores shards l1_sets l1_ways fetchers l1i_sets l1i_ways l2_sets l2_ways accesses some1 ways1 some2 ways2 fetch known).inclusive

pub returns-clause-instructions : goal.returns-clause-instructions
returns-clause-instructions c cores shards l1_sets l1_ways fetchers l1i_sets l1i_ways l2_sets l2_ways accesses some1 ways1 some2 ways2 fetch known =
    (from_empty cores shards l1_sets l1_ways fetchers l1i_sets l1i_ways l2_sets l2_ways accesses some1 ways1 some2 ways2 fetch known).l1i_inclusive
