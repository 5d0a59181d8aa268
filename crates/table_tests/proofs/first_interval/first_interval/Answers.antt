use Rattle.machine_desc.specs.InstructionCaches.{has_l1i}
use Rattle.bound_core.specs.ShardPort.{l1i_in}
use Rattle.table_tests.proofs.FirstCores.{all_may}
use Rattle.table_tests.proofs.first_interval.first_interval.Goals as goal

pub bound-requires-clause-can : goal.bound-requires-clause-can
bound-requires-clause-can g c κs within =
    let cores = c.in_ok-cores.ensures in
    let shards = c.in_ok-shards.ensures in
    record {
      count = cores.count;
      numbers = cores.numbers;
      at_start = cores.at_start;
      shards_are = shards.are;
      banks = shards.count;
      fetches = all_may (l1i_in c.in_ok-shards.shards.items) (has_l1i c.args.machine.now) c.in_ok-cores.cores.items shards.l1i cores.fetching;
    }
