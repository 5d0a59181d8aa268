use Rattle.std.proofs.Common.{rules, ◌≡◌, ℕ, ◌*◌, List, [], length, replicate, ap, ◌∙◌, arith}
use Rattle.std.proofs.lemmas.List.{length-replicate}
use Rattle.l1_cache.specs.Layout.{copies_in, no_near, nothings_in}
use Rattle.cache_set.proofs.Empty.{empty_aged, empty_sets}
use Rattle.l1_cache.proofs.Empty.{empty_near, same_l1}
use Rattle.l1_cache.proofs.l1.L1.new.Goals as goal

pub invariant_of-result : goal.invariant_of-result
invariant_of-result c =
    let ways = c.in_ok-tags.tags in
    let l1i = c.in_ok-new.field-0 in
    let all : length ways.ages.items ≡ c.args.sets * c.args.ways = ap length c.in_ok-tags.ensures.ages ∙ length-replicate {A = ℕ} (c.args.sets * c.args.ways) 0 in
    let size : ways.sets * ways.ways ≡ c.args.sets * c.args.ways = rw (c.in_ok-tags.ensures.sets, c.in_ok-tags.ensures.ways) (omega arith) in
    let near : c.in_ok-vec-2.field-0.items ≡ replicate c.args.near no_near = search rules in
    let l1i_near : c.in_ok-vec-4.field-0.items ≡ replicate c.if-l1i_sets-eq0.l1i_near no_near = search rules in
    record {
      ways = record {
        shards_are = (omega arith, omega arith);
        sets_are = (omega (arith, c.in_ok-tags.ensures.sets), omega (arith, c.in_ok-tags.ensures.sets));
        tags = record {
          few = omega (arith, c.in_ok-tags.ensures.ways);
          some = λ _. omega (arith, c.in_ok-tags.ensures.ways);
          early = omega (arith, c.in_ok-tags.ensures.tick);
          aged = rw (c.in_ok-tags.ensures.sets, c.in_ok-tags.ensures.ways, c.in_ok-tags.ensures.ages)
              (empty_aged c.args.sets c.args.ways ways.tick ways.tags.items (ap length c.in_ok-tags.ensures.tags ∙ length-replicate {A = ℕ} (c.args.sets * c.args.ways) 0));
        };
        kept_are = omega (arith, all, size, c.in_ok-vec.ensures.len);
        mask_is = omega arith;
        near = rw near (empty_near c.from.result ways.sets ways.ways c.from-2.result c.args.near ways.ages.items ways.tags.items c.in_ok-vec.field-0.items (omega arith));
      };
      bytes_are = omega (arith, all, size, c.in_ok-vec-3.ensures.len);
      instructions = record {
        few_sets = omega (arith, c.in_ok-new.ensures.sets, c.shape_of-l1i_sets.ensures.sets);
        tags = record {
          few = omega (arith, c.in_ok-new.ensures.ways, c.shape_of-l1i_sets.ensures.few);
          some = λ b. omega (arith, c.in_ok-new.ensures.ways, c.shape_of-l1i_sets.ensures.some (omega (arith, b, c.in_ok-new.ensures.sets)));
          early = omega (arith, c.in_ok-new.ensures.tick);
          aged = rw (c.in_ok-new.ensures.sets, c.in_ok-new.ensures.ways, c.in_ok-new.ensures.ages)
              (empty_aged c.shape_of-l1i_sets.result.0 c.shape_of-l1i_sets.result.1 l1i.tick l1i.tags.items (ap length c.in_ok-new.ensures.tags ∙ length-replicate {A = ℕ} (c.shape_of-l1i_sets.result.0 * c.shape_of-l1i_sets.result.1) 0));
        };
        mask_is = omega arith;
        near = rw l1i_near (empty_near c.from.result l1i.sets l1i.ways c.from-3.result c.if-l1i_sets-eq0.l1i_near l1i.ages.items l1i.tags.items [] (omega arith));
      };
    }

pub returns : goal.returns
returns c =
    let ways = c.in_ok-tags.tags in
    let l1i = c.in_ok-new.field-0 in
    let copies = copies_in c.in_ok-vec.field-0.items c.in_ok-vec-3.field-0.items in
    same_l1 c.from.ensures c.in_ok-tags.ensures.ways (c.in_ok-new.ensures.ways ∙ ap (λ (s : ℕ × ℕ). s.1) c.shape_of-l1i_sets.ensures.value)
    (rw (c.in_ok-tags.ensures.sets, c.in_ok-tags.ensures.ways, c.in_ok-tags.ensures.ages) (empty_sets c.args.sets c.args.ways ways.tags.items copies))
    (rw (c.in_ok-new.ensures.sets, c.in_ok-new.ensures.ways, c.in_ok-new.ensures.ages) (empty_sets c.shape_of-l1i_sets.result.0 c.shape_of-l1i_sets.result.1 l1i.tags.items (nothings_in (replicate (c.shape_of-l1i_sets.result.0 * c.shape_of-l1i_sets.result.1) 0)))
    ∙ ap (λ (s : ℕ × ℕ). replicate {A = List (ℕ × Unit {0})} s.0 []) c.shape_of-l1i_sets.ensures.value)
