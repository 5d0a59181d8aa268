use Rattle.std.proofs.Common.{ℕ, List, ap, arith}
use Rattle.cache_set.proofs.Rows.{place_here, none_here, kept_no_next, touched_rows, touched_ways}
use Rattle.cache_set.proofs.set.Set.touch.Goals as goal

pub invariant_of-self : goal.invariant_of-self
invariant_of-self c =
    rw (c.next_age-age.ensures.tick)
    (touched_rows c.self.invariant c.next_age-age.result c.next_age-age.new.ages.items c.next_age-age.ensures.order
    (λ j l. c.next_age-age.ensures.later j (omega (arith, c.self.invariant.aged.ages_are))) c.next_age-age.ensures.early c.args.line c.in-Some.place (place_here c.args.line c.in-Some.place c.deref.ensures.value c.deref-2.ensures.value c.in-Some.ensures.here))

pub invariant_of-self-in_default : goal.invariant_of-self-in_default
invariant_of-self-in_default c =
    let none = kept_no_next c.self.invariant c.next_age-age.result c.next_age-age.new.ages.items c.next_age-age.ensures.order
    (λ j l. c.next_age-age.ensures.later j (omega (arith, c.self.invariant.aged.ages_are))) c.next_age-age.ensures.early c.args.line (none_here c.args.line c.deref.ensures.value c.deref-2.ensures.value c.in_default.ensures.none) in
    let there = rw (← c.self.view_is, none) at c.requires in
    absurd cc

pub returns-in-Some : goal.returns-in-Some
returns-in-Some c =
    let e = touched_ways c.self.invariant c.next_age-age.result c.next_age-age.new.ages.items c.next_age-age.ensures.order
    (λ j l. c.next_age-age.ensures.later j (omega (arith, c.self.invariant.aged.ages_are))) c.next_age-age.ensures.early c.args.line c.in-Some.place (place_here c.args.line c.in-Some.place c.deref.ensures.value c.deref-2.ensures.value c.in-Some.ensures.here) in
    rw (← c.self.view_is) (ap (λ (es : List (ℕ × ℕ)). record { ways = c.self.inside.ways; list = es }) e)

pub returns-in_default : goal.returns-in_default
returns-in_default c =
    let none = kept_no_next c.self.invariant c.next_age-age.result c.next_age-age.new.ages.items c.next_age-age.ensures.order
    (λ j l. c.next_age-age.ensures.later j (omega (arith, c.self.invariant.aged.ages_are))) c.next_age-age.ensures.early c.args.line (none_here c.args.line c.deref.ensures.value c.deref-2.ensures.value c.in_default.ensures.none) in
    let there = rw (← c.self.view_is, none) at c.requires in
    absurd cc
