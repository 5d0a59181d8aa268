use Rattle.cache_set.proofs.SetsInArrays.{all_past}
use Rattle.l1_cache.proofs.Views.{aged_then, at_written, copy_nowhere, kept_then, near_then, parts_written}
use Rattle.l1_cache.proofs.l1.L1.keep_first.Goals as goal

pub next_age-age-requires-clause-past : goal.next_age-age-requires-clause-past
next_age-age-requires-clause-past c = all_past c.set_letter.ensures.ways.tags.aged

pub invariant_of-self : goal.invariant_of-self
invariant_of-self c =
    let was = c.self.invariant in
    let ways = c.set_letter.ensures.ways in
    let same = c.set_letter.ensures.same in
    let line = c.args.line in
    let p = c.in-Some.place in
    let now = parts_written was ways same in
    let at = at_written was ways same line p c.in-Some.ensures.here in
    let age = c.next_age-age.result in
    let anew = c.next_age-age.new.ages.items in
    let order = c.next_age-age.ensures.order in
    let all = c.next_age-age.ensures.all in
    let later = c.next_age-age.ensures.later in
    rw (c.next_age-age.ensures.tick)
    (record {
      ways = record {
        shards_are = ways.shards_are;
        sets_are = ways.sets_are;
        tags = record {
          few = ways.tags.few;
          some = ways.tags.some;
          early = c.next_age-age.ensures.early;
          aged = aged_then now line p at age anew order all later;
        };
        kept_are = ways.kept_are;
        mask_is = ways.mask_is;
        near = near_then now line p at age anew order all later;
      };
      bytes_are = now.bytes_are;
      instructions = now.instructions;
    })

pub returns-in-Some : goal.returns-in-Some
returns-in-Some c =
    rw (← c.self.view_is)
    (kept_then c.self.invariant c.set_letter.ensures.ways c.set_letter.ensures.same c.args.line c.in-Some.place c.next_age-age.result c.args.letter c.next_age-age.new.ages.items c.in-Some.ensures.here
    c.set_letter.ensures.kept c.next_age-age.ensures.order c.next_age-age.ensures.all c.next_age-age.ensures.later)

pub returns-in_default : goal.returns-in_default
returns-in_default c =
    let there = rw (← c.self.view_is, copy_nowhere c.self.invariant c.args.line c.in_default.ensures.none) at c.requires in
    absurd cc
