use Rattle.std.proofs.Common.{ℕ, List, Some, sym, ap, ◌∙◌, arith}
use Rattle.cache_set.proofs.Rows.{place_here, none_here, kept_no, kept_some, rows_without, value_at, without_no, without_some}
use Rattle.cache_set.proofs.set.Set.take_out.Goals as goal

pub returns-in_err-place-clause-mark : goal.returns-in_err-place-clause-mark
returns-in_err-place-clause-mark c =
    let none = kept_no c.self.invariant c.args.line (none_here c.args.line c.deref.ensures.value c.deref-2.ensures.value c.in_err-place.ensures.none) in
    rw (← c.self.view_is) (c.from_residual.ensures ∙ sym none)

pub returns-in_err-place-clause-after : goal.returns-in_err-place-clause-after
returns-in_err-place-clause-after c =
    let e = without_no c.self.invariant c.args.line (none_here c.args.line c.deref.ensures.value c.deref-2.ensures.value c.in_err-place.ensures.none) in
    rw (← c.self.view_is) (ap (λ (es : List (ℕ × ℕ)). record { ways = c.self.inside.ways; list = es }) (sym e))

pub invariant_of-self : goal.invariant_of-self
invariant_of-self c = rows_without c.self.invariant c.args.line c.in_ok-place.place (place_here c.args.line c.in_ok-place.place c.deref.ensures.value c.deref-2.ensures.value c.in_ok-place.ensures.here)

pub returns-clause-mark : goal.returns-clause-mark
returns-clause-mark c =
    let mark = value_at c.self.inside.marks.items c.in_ok-place.place c.index.result.now (omega (arith, c.self.invariant.marks_are, c.self.invariant.aged.tags_are, (place_here c.args.line c.in_ok-place.place c.deref.ensures.value c.deref-2.ensures.value c.in_ok-place.ensures.here).within)) c.index.ensures in
    rw (← c.self.view_is) (ap (λ (m : ℕ). Some m) (sym mark) ∙ sym (kept_some c.self.invariant c.args.line c.in_ok-place.place (place_here c.args.line c.in_ok-place.place c.deref.ensures.value c.deref-2.ensures.value c.in_ok-place.ensures.here)))

pub returns-clause-after : goal.returns-clause-after
returns-clause-after c =
    let e = without_some c.self.invariant c.args.line c.in_ok-place.place (place_here c.args.line c.in_ok-place.place c.deref.ensures.value c.deref-2.ensures.value c.in_ok-place.ensures.here) in
    rw (← c.self.view_is) (ap (λ (es : List (ℕ × ℕ)). record { ways = c.self.inside.ways; list = es }) e)
