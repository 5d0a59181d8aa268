use Rattle.std.proofs.Common.{◌≡◌, ℕ, ◌*◌, ◌/◌, arith, ap, ap₂, length, sym, ◌∙◌}
use Rattle.std.proofs.lemmas.List.{length-replicate}
use Rattle.home.specs.FirstBytes.{first_bytes}
use Rattle.home.specs.NewHome.{new_home}
use Rattle.home.specs.RowChunks.{rows_in}
use Rattle.home.specs.Layout.{lines_in}
use Rattle.cache_set.proofs.Empty.{empty_aged, empty_sets}
use Rattle.home.proofs.Homes.{same_home}
use Rattle.home.proofs.KnownWays.{nothing_known}
use Rattle.home.proofs.home.Home.new.Goals as goal

pub invariant_of-result-3 : goal.invariant_of-result-3
invariant_of-result-3 c = record {
  shards_are = omega arith;
  sets_are = (omega (arith, c.in_ok-tags.ensures.sets), omega (arith, c.in_ok-tags.ensures.sets));
  below_are = ap₂ (λ (base shards : ℕ). base / 64 / shards) (c.base-2.ensures.value ∙ sym c.base.ensures.value) (c.from-4.ensures ∙ sym c.from-3.ensures);
  ways_are = record {
    few = omega (arith, c.in_ok-tags.ensures.ways);
    some = λ _. omega (arith, c.in_ok-tags.ensures.ways);
    early = omega (arith, c.in_ok-tags.ensures.tick);
    aged = rw (c.in_ok-tags.ensures.sets, c.in_ok-tags.ensures.ways, c.in_ok-tags.ensures.ages)
        (empty_aged c.args.sets c.args.ways c.in_ok-tags.tags.tick c.in_ok-tags.tags.tags.items (ap length c.in_ok-tags.ensures.tags ∙ length-replicate {A = ℕ} (c.args.sets * c.args.ways) 0));
  };
  rows_are =
      let size : c.in_ok-tags.tags.sets * c.in_ok-tags.tags.ways ≡ c.args.sets * c.from.result
      = ap₂ (λ (sets ways : ℕ). sets * ways) c.in_ok-tags.ensures.sets (c.in_ok-tags.ensures.ways ∙ sym c.from.ensures) in
      ap length c.rows.view_is ∙ c.in_ok-rows.ensures ∙ sym size;
  last_is = tt;
  known_are = nothing_known _ _ c.in_ok-tags.ensures.ages (c.in_ok-known.ensures.items_if_clones_equal (λ y e. e));
}

pub returns : goal.returns
unfolding new_home
returns c =
    same_home c.args.number c.from-3.ensures c.base.ensures.value c.size.ensures c.in_ok-tags.ensures.ways
    (rw (c.in_ok-tags.ensures.sets, c.in_ok-tags.ensures.ways, c.in_ok-tags.ensures.ages) (empty_sets c.args.sets c.args.ways c.in_ok-tags.tags.tags.items (lines_in c.args.sets c.args.ways (rows_in c.rows.inside.count c.rows.inside.chunks.places.items c.rows.inside.chunks.rows.items))))
    (c.bytes.view_is ∙ c.in_ok-bytes.ensures ∙ ap (λ (shards : ℕ). first_bytes shards c.args.number c.args.image.now) c.from-2.ensures)
    c.in_ok-new.ensures
