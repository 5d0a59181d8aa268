use Rattle.std.proofs.Common.{◌/◌, sym, ap, ◌∙◌}
use Rattle.std.specs.Prelude.{is_some}
use Rattle.cache_set.proofs.SetsInArrays.{all_past}
use Rattle.l1_cache.specs.L1State.{instruction_used_in}
use Rattle.l1_cache.proofs.Private.{fetch_after, fetch_by, fetch_reply}
use Rattle.l1_cache.proofs.Instructions.{aged_then, at_met, has_none, has_some, near_then, parts_met, some_met, used_now, view_met}
use Rattle.l1_cache.proofs.l1.L1.fetch.Goals as goal

pub returns-in_err-place-clause-private : goal.returns-in_err-place-clause-private
returns-in_err-place-clause-private g c =
    rw (← c.self.view_is) (ap is_some c.from_residual.ensures ∙ sym (fetch_by _ c.args.addr ∙ has_none c.self.invariant (c.args.addr / 64) c.in_err-place.ensures.none))

pub returns-in_err-place-clause-after : goal.returns-in_err-place-clause-after
returns-in_err-place-clause-after g c =
    rw (← c.self.view_is, fetch_by _ c.args.addr ∙ has_none c.self.invariant (c.args.addr / 64) c.in_err-place.ensures.none)
    (view_met c.self.invariant c.in_err-place.ensures.ways c.in_err-place.ensures.same)

pub next_age-age-requires-clause-past : goal.next_age-age-requires-clause-past
next_age-age-requires-clause-past g c = all_past c.in_ok-place.ensures.ways.tags.aged

pub invariant_of-self-2 : goal.invariant_of-self-2
invariant_of-self-2 g c =
    let was = c.self.invariant in
    let ways = c.in_ok-place.ensures.ways in
    let same = c.in_ok-place.ensures.same in
    let line = c.args.addr / 64 in
    let p = c.in_ok-place.place in
    let now = parts_met was ways same in
    let some = some_met was ways same c.in_ok-place.ensures.some in
    let at = at_met was ways same line p c.in_ok-place.ensures.here in
    let age = c.next_age-age.result in
    let anew = c.next_age-age.new.ages.items in
    let order = c.next_age-age.ensures.order in
    let all = c.next_age-age.ensures.all in
    let later = c.next_age-age.ensures.later in
    rw (c.next_age-age.ensures.tick)
    (record {
      ways = was.ways;
      bytes_are = was.bytes_are;
      instructions = record {
        few_sets = ways.few_sets;
        tags = record {
          few = ways.tags.few;
          some = ways.tags.some;
          early = c.next_age-age.ensures.early;
          aged = aged_then now line some p at age anew order all later;
        };
        mask_is = ways.mask_is;
        near = near_then now line some p at age anew order all later;
      };
    })

pub returns-clause-private : goal.returns-clause-private
returns-clause-private g c =
    rw (← c.self.view_is) (sym (fetch_by _ c.args.addr ∙ has_some c.self.invariant (c.args.addr / 64) c.in_ok-place.ensures.some c.in_ok-place.place c.in_ok-place.ensures.here))

pub returns-clause-reply : goal.returns-clause-reply
returns-clause-reply g c = rw (← c.self.view_is) (sym (fetch_reply _ c.args.addr))

pub returns-clause-after : goal.returns-clause-after
returns-clause-after g c =
    let was = c.self.invariant in
    let ways = c.in_ok-place.ensures.ways in
    let same = c.in_ok-place.ensures.same in
    let line = c.args.addr / 64 in
    let p = c.in_ok-place.place in
    let here = c.in_ok-place.ensures.here in
    let now = parts_met was ways same in
    let some = some_met was ways same c.in_ok-place.ensures.some in
    let at = at_met was ways same line p here in
    rw (← c.self.view_is, fetch_by _ c.args.addr ∙ has_some was line c.in_ok-place.ensures.some p here)
    (used_now now line some p at c.next_age-age.result c.next_age-age.new.ages.items c.next_age-age.ensures.order c.next_age-age.ensures.all c.next_age-age.ensures.later
    ∙ (ap (instruction_used_in line) (view_met was ways same) ∙ sym (fetch_after _ c.args.addr)))
