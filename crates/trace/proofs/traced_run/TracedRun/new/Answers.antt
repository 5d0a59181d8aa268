use Rattle.std.proofs.Common.{◌≡◌, ℕ, List, [], map, length, refl, sym, ap, ◌∙◌, subst, arith}
use Rattle.std.specs.List.{range_with_len}
use Rattle.std.proofs.lemmas.List.{length-replicate}
use Rattle.std.proofs.lemmas.List.FromFn.{length-map-range_with_len}
use Rattle.shard.specs.Served.{ShardState}
use Rattle.shard.specs.StandsFor.{new_shards}
use Rattle.bound_core.specs.MachineOfShards.{StandForMachine}
use Rattle.bound_core.specs.MachineWorld.{first_world}
use Rattle.bound_core.specs.ShardPort.{AreShardsOf}
use Rattle.bound_core.specs.ShardWorld.{ShardWorld, begun_world, restarted}
use Rattle.bound_core.specs.TimedCore.{first_core}
use Rattle.run.proofs.Cores.{numbered_from}
use Rattle.run.proofs.NextInterval.{all_first_over, first_counted}
use Rattle.bound_core.proofs.NewShards.{new_again, new_count, placed_shards}
use Rattle.trace.proofs.traced_run.TracedRun.new.Goals as goal

pub returns : goal.returns
returns c =
    let machine = c.args.machine.now in
    let image = c.args.image.now in
    let comps = c.in_ok-components.field-0 in
    let fresh = c.in_ok-components.ensures in
    let cores = c.in_ok-first_cores.ensures in
    let port = c.in_ok-new.field-0 in
    let new : List ShardState = new_shards machine image in
    let stand : StandForMachine (map (first_core machine image) (range_with_len 0 machine.cores)) (begun_world machine.cores new) (first_world machine image) =
    c.intervals_begin.ensures.first machine image c.requires.machine c.base-sound.ensures.sound c.requires.base c.requires.size
    in
    let shards : port.world.shards ≡ new = ap (λ (w : ShardWorld). w.shards) c.in_ok-new.ensures ∙ new_again machine image in
    let at : map restarted port.world.shards ≡ new = ap (map restarted) shards ∙ new_again machine image in (
      comps,
      fresh,
      record {
        cores = sym cores.timed;
        count = length-map-range_with_len (first_core machine image) 0 machine.cores;
        numbered = numbered_from machine.cores (c.in_ok-first_cores.field-0).items cores.numbered;
        stamps = record {
          stamps = ap (λ (w : ShardWorld). length w.stamps) c.in_ok-new.ensures ∙ length-replicate machine.cores 0;
          lists = length-replicate machine.cores [];
          room = omega arith;
          base = refl;
        };
        banks = ap length shards ∙ new_count machine image;
        placed =
            subst (λ (ss : List ShardState). AreShardsOf machine.cores ss machine.memory.base machine.memory.size) (sym shards)
            (subst (λ (base : ℕ). AreShardsOf machine.cores new base machine.memory.size) c.requires.base
            (subst (λ (size : ℕ). AreShardsOf machine.cores new image.base size) c.requires.size (placed_shards machine image c.requires.machine)));
        stand = subst (λ (ss : List ShardState). StandForMachine (map (first_core machine image) (range_with_len 0 machine.cores)) (begun_world machine.cores ss) (first_world machine image)) (sym at) stand;
        comps = refl;
        counters = c.in_ok-new-2.ensures ∙ sym (c.nothing_is_counted_first.ensures machine comps fresh);
        over = all_first_over machine image;
        counted = first_counted machine image comps fresh;
      },
    )
