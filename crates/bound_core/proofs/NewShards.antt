-- The shards of a machine before its first interval are the shards of that machine.
use Rattle.std.proofs.Common.{◌≡◌, ℕ, zero, suc, ◌+◌, ◌<◌, ◌∷◌, get_or, map, length, Some, refl, sym, ◌∙◌, ap, subst, arith}
use Rattle.std.specs.Prelude.{slice_get}
use Rattle.std.specs.List.{range_with_len}
use Rattle.std.proofs.lemmas.List.{length-replicate}
use Rattle.std.proofs.lemmas.List.FromFn.{get_or-map-range_with_len, length-map-range_with_len}
use Rattle.std.proofs.lemmas.Option.{get_or_from_slice_get, slice_get_within}
use Rattle.elf_load.specs.MemoryImage.{MemoryImage}
use Rattle.machine_desc.specs.declared.machine.Machine.{Machine}
use Rattle.machine_desc.specs.Machine.{IsMachine}
use Rattle.shard.specs.Served.{ShardState, new_caches_of_shard, new_shard, no_shard}
use Rattle.shard.specs.StandsFor.{new_shards}
use Rattle.shard.specs.HaveL1i.{have_l1i}
use Rattle.bound_core.specs.ShardPort.{AreShardsOf, base_in, size_in}
use Rattle.reference.specs.ShardWorld.{restarted}
use Rattle.bound_core.proofs.Alike.{alike_by}

module _ (machine : Machine) (image : MemoryImage) where
  again_from : (a n : ℕ) → map restarted (map (λ number. new_shard machine number image) (range_with_len a n)) ≡ map (λ number. new_shard machine number image) (range_with_len a n)
  again_from a zero = refl
  again_from a (suc n) = ap (λ shards. new_shard machine a image ∷ shards) (again_from (a + 1) n)

  -- their last stamps are 0
  pub new_again : map restarted (new_shards machine image) ≡ new_shards machine image
  new_again = again_from 0 machine.l2.banks

  pub new_count : length (new_shards machine image) ≡ machine.l2.banks
  new_count = length-map-range_with_len (λ number. new_shard machine number image) 0 machine.l2.banks

  new_at : (i : ℕ) (d : ShardState) → i < machine.l2.banks → get_or (new_shards machine image) i d ≡ new_shard machine i image
  new_at i d below = get_or-map-range_with_len (λ number. new_shard machine number image) 0 machine.l2.banks i i d below (omega arith)

  new_each : (i : ℕ) (shard : ShardState) → slice_get (new_shards machine image) i ≡ Some shard → shard ≡ new_shard machine i image
  new_each i shard here =
      let below : i < length (new_shards machine image) = slice_get_within (new_shards machine image) i shard here in
      sym (get_or_from_slice_get (new_shards machine image) i shard no_shard here) ∙ new_at i no_shard (omega (arith, below, new_count))

  module _ (is : IsMachine machine) where
    first_base : base_in (new_shards machine image) ≡ image.base
    first_base = ap (λ (shard : ShardState). shard.base) (new_at 0 no_shard (omega (arith, is.l2.banks.0)))

    first_size : size_in (new_shards machine image) ≡ image.size
    first_size = ap (λ (shard : ShardState). shard.size) (new_at 0 no_shard (omega (arith, is.l2.banks.0)))

    pub placed_shards : AreShardsOf machine.cores (new_shards machine image) image.base image.size
    placed_shards = record {
      some = omega (arith, new_count, is.l2.banks.0);
      each = λ i shard here.
          let made = new_each i shard here in
          record {
            number_is = ap (λ (s : ShardState). s.number) made;
            count = ap (λ (s : ShardState). s.caches.shards) made ∙ sym new_count;
            cores_known = ap (λ (s : ShardState). length s.marks) made ∙ length-replicate machine.cores _;
            base_is = ap (λ (s : ShardState). s.base) made;
            size_is = ap (λ (s : ShardState). s.size) made;
          };
      alike = alike_by (have_l1i (new_caches_of_shard machine)) (new_shards machine image) (omega (arith, new_count, is.l2.banks.0))
          (λ i shard here. ap (λ (s : ShardState). have_l1i s.caches) (new_each i shard here));
    }

    pub are_shards : AreShardsOf machine.cores (new_shards machine image) (base_in (new_shards machine image)) (size_in (new_shards machine image))
    are_shards =
        subst (λ (base : ℕ). AreShardsOf machine.cores (new_shards machine image) base (size_in (new_shards machine image))) (sym first_base)
        (subst (λ (size : ℕ). AreShardsOf machine.cores (new_shards machine image) image.base size) (sym first_size) placed_shards)
