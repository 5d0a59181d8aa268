use Rattle.std.proofs.Common.{false, ◌∙◌}
use Rattle.std.proofs.lemmas.List.{length-set}
use Rattle.l1_cache.specs.declared.near.Kept.{Kept}
use Rattle.l1_cache.proofs.Table.{near_as, tags_as}
use Rattle.l1_cache.proofs.Views.{aged_after, filled_now, near_taken, next_small}
use Rattle.l1_cache.proofs.l1.L1.take_in.Goals as goal

pub near_of-requires : goal.near_of-requires
near_of-requires c = next_small c.self.invariant c.args.line c.put_in-place.ensures.put.anew c.put_in-place.result.0 c.put_in-place.ensures.put.next

pub invariant_of-self : goal.invariant_of-self
invariant_of-self c =
    let was = c.self.invariant in
    let w = c.self.inside.ways in
    let line = c.args.line in
    let p = c.put_in-place.result.0 in
    let age = c.put_in-place.new.self.tick in
    let put = c.put_in-place.ensures.put in
    let k : Kept = record { letter = c.args.letter; free = false } in
    let absent = rw (← c.self.view_is) at c.requires.absent in
    let sets = c.put_in-place.ensures.sets in
    let ways = c.put_in-place.ensures.ways in
    record {
      ways = record {
        shards_are = was.ways.shards_are;
        sets_are = rw sets was.ways.sets_are;
        tags = tags_as sets ways put.ages_are put.tags_are
            (record { few = was.ways.tags.few; some = was.ways.tags.some; early = put.early; aged = aged_after was line p age put.anew put.order put.long put.later put.next absent });
        kept_are = rw (sets, ways) (length-set w.kept.items p k ∙ was.ways.kept_are);
        mask_is = was.ways.mask_is;
        near = near_as sets ways put.ages_are put.tags_are
            (rw c.near_of.ensures
            (near_taken was line p age put.anew put.order put.long put.later put.next k c.put_in-place.result.1 c.put_in-place.ensures.had c.near_index.result c.near_index.ensures.value c.near_index-2.result c.near_index-2.ensures.value));
      };
      bytes_are = rw (sets, ways) (length-set c.self.inside.bytes.items p c.copy_from_slice.new.self ∙ was.bytes_are);
      instructions = was.instructions;
    }

pub returns : goal.returns
returns c =
    let was = c.self.invariant in
    let p = c.put_in-place.result.0 in
    let put = c.put_in-place.ensures.put in
    let k : Kept = record { letter = c.args.letter; free = false } in
    rw (← c.self.view_is, c.put_in-place.ensures.sets, c.put_in-place.ensures.ways, put.ages_are, put.tags_are)
    (filled_now was c.args.line p c.put_in-place.new.self.tick put.anew put.order put.long put.later put.next
    k c.copy_from_slice.new.self c.args.bytes.now c.copy_from_slice.ensures.after)
