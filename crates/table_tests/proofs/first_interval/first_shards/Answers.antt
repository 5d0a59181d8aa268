use Rattle.std.proofs.Common.{ℕ, List, length, sym, ap, subst, ◌∙◌}
use Rattle.shard.specs.Served.{ShardState}
use Rattle.shard.specs.StandsFor.{new_shards}
use Rattle.bound_core.specs.ShardPort.{AreShardsOf, l1i_in}
use Rattle.bound_core.proofs.NewShards.{new_count, placed_shards}
use Rattle.table_tests.proofs.FirstCores.{shards_l1i}
use Rattle.table_tests.proofs.first_interval.first_shards.Goals as goal

pub returns-clause-are : goal.returns-clause-are
returns-clause-are c =
    let machine = c.args.machine.now in
    let image = c.args.image.now in
    subst (λ (shards : List ShardState). AreShardsOf machine.cores shards machine.memory.base machine.memory.size) (sym c.in_ok-shards.ensures)
    (subst (λ (base : ℕ). AreShardsOf machine.cores (new_shards machine image) base machine.memory.size) c.requires.base
    (subst (λ (size : ℕ). AreShardsOf machine.cores (new_shards machine image) image.base size) c.requires.size (placed_shards machine image c.requires.machine)))

pub returns-clause-l1i : goal.returns-clause-l1i
returns-clause-l1i c =
    let machine = c.args.machine.now in
    ap l1i_in c.in_ok-shards.ensures ∙ shards_l1i machine c.args.image.now c.requires.machine

pub returns-clause-count : goal.returns-clause-count
returns-clause-count c = ap length c.in_ok-shards.ensures ∙ new_count c.args.machine.now c.args.image.now
