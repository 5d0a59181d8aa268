use Rattle.std.proofs.Common.{◌≡◌, ◌+◌, ℕ, List, [], length, refl, sym, ◌∙◌, ap, arith}
use Rattle.std.specs.Prelude.{slice_get, replicate}
use Rattle.std.proofs.lemmas.List.{length-map, length-replicate}
use Rattle.stats.specs.declared.counts.CoreCount.{CoreCount}
use Rattle.stats.specs.Counted.{no_core_count}
use Rattle.bound_core.specs.ShardWorld.{ShardWorld, restarted}
use Rattle.bound_core.proofs.NewShards.{new_count}
use Rattle.shard.specs.StandsFor.{new_shards}
use Rattle.bound_records.proofs.ByCore.{first_kept, none_counted, none_first}
use Rattle.bound_records.proofs.recorder.Recorder.new.Goals as goal

pub invariant_of-result : goal.invariant_of-result
invariant_of-result c =
    let machine = c.args.machine.now in
    let image = c.args.image.now in
    let room : ℕ = machine.interval + 258 in
    let logs = c.in_ok-empty_logs.field-0.items in
    let stamps : length c.in_ok-port.port.world.stamps ≡ machine.cores = ap (λ (w : ShardWorld). length w.stamps) c.in_ok-port.ensures ∙ length-replicate machine.cores 0 in
    let shards : length c.in_ok-port.port.world.shards ≡ machine.l2.banks = ap (λ (w : ShardWorld). length w.shards) c.in_ok-port.ensures ∙ (length-map (new_shards machine image) restarted ∙ new_count machine image) in
    let counts = c.in_ok-vec.field-0.items in
    let counts_are : counts ≡ replicate machine.cores no_core_count = c.in_ok-vec.ensures.items_if_clones_equal (λ y e. e) ∙ ap (λ (n : ℕ). replicate n no_core_count) c.from.ensures in
    let base = c.requires.machine.memory.base in
    let some = c.requires.machine.l2.banks.0 in
    first_kept machine.cores machine.l2.banks machine.memory.base room c.in_ok-port.port.world logs c.in_ok-empty_records.field-0.items counts c.requires.machine.cores.1 (omega (arith, some)) (omega (arith, base)) stamps shards
    c.in_ok-empty_logs.ensures c.in_ok-empty_records.ensures (ap length counts_are ∙ length-replicate machine.cores no_core_count) (λ i n at. none_counted machine.cores i n (ap (λ (ns : List CoreCount). slice_get ns i) (sym counts_are) ∙ at))

pub returns-clause-lists : goal.returns-clause-lists
returns-clause-lists c =
    let machine = c.args.machine.now in
    let image = c.args.image.now in
    let room : ℕ = machine.interval + 258 in
    let logs = c.in_ok-empty_logs.field-0.items in
    let stamps : length c.in_ok-port.port.world.stamps ≡ machine.cores = ap (λ (w : ShardWorld). length w.stamps) c.in_ok-port.ensures ∙ length-replicate machine.cores 0 in
    none_first machine.l2.banks room machine.cores logs c.in_ok-empty_logs.ensures

pub returns-clause-recorder : goal.returns-clause-recorder
returns-clause-recorder c =
    let machine = c.args.machine.now in
    let image = c.args.image.now in
    let room : ℕ = machine.interval + 258 in
    let logs = c.in_ok-empty_logs.field-0.items in
    let stamps : length c.in_ok-port.port.world.stamps ≡ machine.cores = ap (λ (w : ShardWorld). length w.stamps) c.in_ok-port.ensures ∙ length-replicate machine.cores 0 in
    record {
      stamps = stamps;
      lists = ap length (none_first machine.l2.banks room machine.cores logs c.in_ok-empty_logs.ensures) ∙ length-replicate machine.cores [];
      room = omega arith;
      base = refl;
    }
