use Rattle.std.proofs.Common.{arith}
use Rattle.l1_cache.proofs.Table.{near_as, tags_as}
use Rattle.l1_cache.proofs.Instructions.{aged_after, filled_now, near_taken, next_small, no_fill}
use Rattle.l1_cache.proofs.l1.L1.take_instruction.Goals as goal

pub returns-then-self-eq0 : goal.returns-then-self-eq0
returns-then-self-eq0 c = rw (← c.self.view_is) (no_fill c.self.invariant c.args.line c.if-self-eq0.true)

pub near_of-requires : goal.near_of-requires
near_of-requires c =
    next_small c.self.invariant c.args.line (omega (arith, c.if-self-eq0.false)) c.put_in-place.ensures.put.anew c.put_in-place.result.0 c.put_in-place.ensures.put.next

pub invariant_of-self : goal.invariant_of-self
invariant_of-self c =
    let was = c.self.invariant in
    let put = c.put_in-place.ensures.put in
    let sets = c.put_in-place.ensures.sets in
    let ways = c.put_in-place.ensures.ways in
    let p = c.put_in-place.result.0 in
    let age = c.put_in-place.new.self.tick in
    let absent = rw (← c.self.view_is) at c.requires in
    record {
      ways = was.ways;
      bytes_are = was.bytes_are;
      instructions = record {
        few_sets = rw sets was.instructions.few_sets;
        tags = tags_as sets ways put.ages_are put.tags_are
            (record {
              few = was.instructions.tags.few;
              some = was.instructions.tags.some;
              early = put.early;
              aged = aged_after was c.args.line (omega (arith, c.if-self-eq0.false)) p age put.anew put.order put.long put.later put.next absent;
            });
        mask_is = was.instructions.mask_is;
        near = near_as sets ways put.ages_are put.tags_are
            (rw c.near_of.ensures
            (near_taken was c.args.line (omega (arith, c.if-self-eq0.false)) p age put.anew put.order put.long put.later put.next c.put_in-place.result.1 c.put_in-place.ensures.had c.near_index-left.result c.near_index-left.ensures.value c.near_index-index.result c.near_index-index.ensures.value));
      };
    }

pub returns : goal.returns
returns c =
    let was = c.self.invariant in
    let put = c.put_in-place.ensures.put in
    rw (← c.self.view_is, c.put_in-place.ensures.sets, c.put_in-place.ensures.ways, put.ages_are, put.tags_are)
    (filled_now was c.args.line (omega (arith, c.if-self-eq0.false)) c.put_in-place.result.0 c.put_in-place.new.self.tick put.anew put.order put.long put.later put.next)
