use Rattle.std.proofs.Common.{ℕ, List, ap}
use Rattle.cache_set.proofs.Rows.{place_here, none_here, rows_changed, changed_some, kept_no}
use Rattle.cache_set.proofs.set.Set.change.Goals as goal

pub invariant_of-self : goal.invariant_of-self
invariant_of-self c = rows_changed c.self.invariant c.args.line c.in-Some.place (place_here c.args.line c.in-Some.place c.deref.ensures.value c.deref-2.ensures.value c.in-Some.ensures.here) c.args.mark

pub returns-in-Some : goal.returns-in-Some
returns-in-Some c =
    let e = changed_some c.self.invariant c.args.line c.in-Some.place (place_here c.args.line c.in-Some.place c.deref.ensures.value c.deref-2.ensures.value c.in-Some.ensures.here) c.args.mark in
    rw (← c.self.view_is) (ap (λ (es : List (ℕ × ℕ)). record { ways = c.self.inside.ways; list = es }) e)

pub returns-in_default : goal.returns-in_default
returns-in_default c =
    let none = kept_no c.self.invariant c.args.line (none_here c.args.line c.deref.ensures.value c.deref-2.ensures.value c.in_default.ensures.none) in
    let there = rw (← c.self.view_is, none) at c.requires in
    absurd cc
