use Rattle.std.proofs.Common.{ℕ, ◌/◌, ◌%◌, List, sym, ap, ◌∙◌, arith}
use Rattle.std.specs.Prelude.{is_some}
use Rattle.flat_memory.specs.FlatMemory.{number_in}
use Rattle.cache_set.proofs.SetsInArrays.{all_past}
use Rattle.l1_cache.specs.L1State.{used_in}
use Rattle.l1_cache.proofs.Copies.{bytes_read}
use Rattle.l1_cache.proofs.Private.{load_after, load_none, load_reply, load_some}
use Rattle.l1_cache.proofs.Views.{aged_then, at_met, copy_nowhere, copy_there, near_then, parts_met, used_now, view_met, within}
use Rattle.l1_cache.proofs.l1.L1.load.Goals as goal

pub returns-in_err-place-clause-private : goal.returns-in_err-place-clause-private
returns-in_err-place-clause-private g c =
    rw (← c.self.view_is) (ap is_some c.from_residual.ensures ∙ sym (load_none _ c.args.addr c.args.width (copy_nowhere c.self.invariant (c.args.addr / 64) c.in_err-place.ensures.none)))

pub returns-in_err-place-clause-after : goal.returns-in_err-place-clause-after
returns-in_err-place-clause-after g c =
    rw (← c.self.view_is, load_none _ c.args.addr c.args.width (copy_nowhere c.self.invariant (c.args.addr / 64) c.in_err-place.ensures.none))
    (view_met c.self.invariant c.in_err-place.ensures.ways c.in_err-place.ensures.same)

pub next_age-age-requires-clause-past : goal.next_age-age-requires-clause-past
next_age-age-requires-clause-past g c = all_past c.in_ok-place.ensures.ways.tags.aged

pub invariant_of-self-2 : goal.invariant_of-self-2
invariant_of-self-2 g c =
    let was = c.self.invariant in
    let ways = c.in_ok-place.ensures.ways in
    let same = c.in_ok-place.ensures.same in
    let line = c.args.addr / 64 in
    let p = c.in_ok-place.place in
    let now = parts_met was ways same in
    let at = at_met was ways same line p c.in_ok-place.ensures.here in
    rw (c.next_age-age.ensures.tick)
    (record {
      ways = record {
        shards_are = ways.shards_are;
        sets_are = ways.sets_are;
        tags = record {
          few = ways.tags.few;
          some = ways.tags.some;
          early = c.next_age-age.ensures.early;
          aged = aged_then now line p at c.next_age-age.result c.next_age-age.new.ages.items c.next_age-age.ensures.order c.next_age-age.ensures.all c.next_age-age.ensures.later;
        };
        kept_are = ways.kept_are;
        mask_is = ways.mask_is;
        near = near_then now line p at c.next_age-age.result c.next_age-age.new.ages.items c.next_age-age.ensures.order c.next_age-age.ensures.all c.next_age-age.ensures.later;
      };
      bytes_are = now.bytes_are;
      instructions = now.instructions;
    })

pub returns-clause-private : goal.returns-clause-private
returns-clause-private g c =
    rw (← c.self.view_is) (sym (load_some _ c.args.addr c.args.width _ (copy_there c.self.invariant (c.args.addr / 64) c.in_ok-place.place c.in_ok-place.ensures.here)))

pub returns-clause-reply : goal.returns-clause-reply
returns-clause-reply g c =
    let was = c.self.invariant in
    let line = c.args.addr / 64 in
    let p = c.in_ok-place.place in
    let below = within was line p c.in_ok-place.ensures.here in
    let read = bytes_read c.self.inside.bytes.items p c.index.result.now (omega (arith, below, was.bytes_are)) c.index.ensures in
    rw (← c.self.view_is)
    (c.read.ensures ∙ (ap (λ (b : List ℕ). number_in b (c.args.addr % 64) c.args.width) (sym read)
    ∙ sym (load_reply _ c.args.addr c.args.width _ (copy_there was line p c.in_ok-place.ensures.here))))

pub returns-clause-after : goal.returns-clause-after
returns-clause-after g c =
    let was = c.self.invariant in
    let ways = c.in_ok-place.ensures.ways in
    let same = c.in_ok-place.ensures.same in
    let line = c.args.addr / 64 in
    let p = c.in_ok-place.place in
    let now = parts_met was ways same in
    let at = at_met was ways same line p c.in_ok-place.ensures.here in
    rw (← c.self.view_is, load_some _ c.args.addr c.args.width _ (copy_there was line p c.in_ok-place.ensures.here))
    (used_now now line p at c.next_age-age.result c.next_age-age.new.ages.items c.next_age-age.ensures.order c.next_age-age.ensures.all c.next_age-age.ensures.later
    ∙ (ap (used_in line) (view_met was ways same) ∙ sym (load_after _ c.args.addr c.args.width)))
