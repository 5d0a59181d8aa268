use Rattle.std.proofs.Common.{ℕ, ◌/◌, ◌%◌, List, sym, ap, ◌∙◌, arith}
use Rattle.flat_memory.specs.FlatMemory.{number_in}
use Rattle.cache_set.proofs.SetsInArrays.{all_past}
use Rattle.l1_cache.proofs.Copies.{bytes_read}
use Rattle.l1_cache.proofs.Private.{load_after, load_reply, load_some}
use Rattle.l1_cache.proofs.Views.{aged_then, copy_there, near_then, used_now, within}
use Rattle.l1_cache.proofs.l1.L1.load_near.Goals as goal

pub next_age-age-requires-clause-past : goal.next_age-age-requires-clause-past
next_age-age-requires-clause-past g c = all_past c.self.invariant.ways.tags.aged

pub invariant_of-self : goal.invariant_of-self
invariant_of-self g c =
    let was = c.self.invariant in
    let ways = was.ways in
    let line = c.args.addr / 64 in
    let p = c.in_ok-place.place in
    let at = c.in_ok-place.ensures in
    rw (c.next_age-age.ensures.tick)
    (record {
      ways = record {
        shards_are = ways.shards_are;
        sets_are = ways.sets_are;
        tags = record {
          few = ways.tags.few;
          some = ways.tags.some;
          early = c.next_age-age.ensures.early;
          aged = aged_then was line p at c.next_age-age.result c.next_age-age.new.ages.items c.next_age-age.ensures.order c.next_age-age.ensures.all c.next_age-age.ensures.later;
        };
        kept_are = ways.kept_are;
        mask_is = ways.mask_is;
        near = near_then was line p at c.next_age-age.result c.next_age-age.new.ages.items c.next_age-age.ensures.order c.next_age-age.ensures.all c.next_age-age.ensures.later;
      };
      bytes_are = was.bytes_are;
      instructions = was.instructions;
    })

pub returns-clause-private : goal.returns-clause-private
returns-clause-private g c =
    rw (← c.self.view_is) (load_some _ c.args.addr c.args.width _ (copy_there c.self.invariant (c.args.addr / 64) c.in_ok-place.place c.in_ok-place.ensures))

pub returns-clause-reply : goal.returns-clause-reply
returns-clause-reply g c =
    let was = c.self.invariant in
    let line = c.args.addr / 64 in
    let p = c.in_ok-place.place in
    let at = c.in_ok-place.ensures in
    let below = within was line p at in
    let read = bytes_read c.self.inside.bytes.items p c.index.result.now (omega (arith, below, was.bytes_are)) c.index.ensures in
    rw (← c.self.view_is)
    (c.read.ensures ∙ (ap (λ (b : List ℕ). number_in b (c.args.addr % 64) c.args.width) (sym read)
    ∙ sym (load_reply _ c.args.addr c.args.width _ (copy_there was line p at))))

pub returns-clause-after : goal.returns-clause-after
returns-clause-after g c =
    let was = c.self.invariant in
    let line = c.args.addr / 64 in
    let p = c.in_ok-place.place in
    let at = c.in_ok-place.ensures in
    rw (← c.self.view_is)
    (used_now was line p at c.next_age-age.result c.next_age-age.new.ages.items c.next_age-age.ensures.order c.next_age-age.ensures.all c.next_age-age.ensures.later
    ∙ sym (load_after _ c.args.addr c.args.width))
