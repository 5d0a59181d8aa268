use Rattle.std.proofs.Common.{ℕ, ◌∙◌, ap, sym, subst, Option}
use Rattle.sparse_table.specs.Next.{IsNextIn, earlier}
use Rattle.execution_counts.specs.Counted.{Counts, counted, no_stretch}
use Rattle.execution_counts.proofs.NextCounted.{next_far, none_behind}
use Rattle.execution_counts.proofs.counts.ExecutionCounts.next.Goals as goal

pub returns-then-from-clause-last : goal.returns-then-from-clause-last
returns-then-from-clause-last c = λ n over.
    let inside = c.self.inside in
    let counts : Counts = record { singles = inside.singles.items; stretches = inside.stretches.items } in
    ap (λ (all : Counts). counted all c.args.core n) (sym c.self.view_is)
    ∙ none_behind counts c.self.invariant.0 c.args.core (c.next_set-single.ensures.last 0 c.self.invariant.0.none_single) n over

pub returns-in-Some-clause-last : goal.returns-in-Some-clause-last
returns-in-Some-clause-last c = λ n over.
    let inside = c.self.inside in
    let counts : Counts = record { singles = inside.singles.items; stretches = inside.stretches.items } in
    ap (λ (all : Counts). counted all c.args.core n) (sym c.self.view_is)
    ∙ none_behind counts c.self.invariant.0 c.args.core (c.next_set-single.ensures.last 0 c.self.invariant.0.none_single) n over

pub returns-in-None-clause-last : goal.returns-in-None-clause-last
returns-in-None-clause-last c = λ n over.
    let inside = c.self.inside in
    let counts : Counts = record { singles = inside.singles.items; stretches = inside.stretches.items } in
    ap (λ (all : Counts). counted all c.args.core n) (sym c.self.view_is)
    ∙ none_behind counts c.self.invariant.0 c.args.core (c.next_set-single.ensures.last 0 c.self.invariant.0.none_single) n over

pub returns-in-None-clause-next : goal.returns-in-None-clause-next
returns-in-None-clause-next c =
    let inside = c.self.inside in
    let counts : Counts = record { singles = inside.singles.items; stretches = inside.stretches.items } in
    let core = c.args.core in
    let from = c.args.from in
    let invariant = c.self.invariant.0 in
    subst (λ (next : Option ℕ). IsNextIn 0 (counted c.args.self.now core) from next) (sym c.earlier.ensures)
    (subst (λ (all : Counts). IsNextIn 0 (counted all core) from (earlier c.next_set-single.result c.next_set-stretch.result)) c.self.view_is
    (next_far counts invariant core from c.next_set-single.result c.next_set-stretch.result
    (c.next_set-single.ensures.next 0 invariant.none_single) (c.next_set-stretch.ensures.next no_stretch invariant.none_stretch)
    (λ m le lt. ap (λ (all : Counts). counted all core m) c.self.view_is ∙ c.in-None.ensures.near m le lt)))
