use Rattle.std.proofs.Common.{◌∙◌, ℕ, ◌+◌, ◌==◌, ap, refl}
use Rattle.std.specs.Prelude.{◌&&◌, OnErr, Result, Ok, Err}
use Rattle.sparse_table.specs.ByCore.{value_at}
use Rattle.execution_counts.specs.Counted.{Counts, capped, counted, no_stretch, one_if, sum_below, times_as}
use Rattle.execution_counts.proofs.Counting.{one_more}
use Rattle.execution_counts.proofs.counts.ExecutionCounts.add.Goals as goal

pub returns-clause-ok : goal.returns-clause-ok
returns-clause-ok c = λ core n.
    let inside = c.self.inside in
    one_more (value_at 0 inside.singles.items) (value_at 0 c.change_at.new.tables.items) (value_at no_stretch inside.stretches.items) c.args.core c.args.pc (capped (value_at 0 inside.singles.items c.args.core c.args.pc + 1)) refl c.in_ok-change_at.ensures.ok core n
    ∙ ap (λ (counts : Counts). capped (counted counts core n + one_if (c.args.core == core && c.args.pc == n))) c.self.view_is

failed : {A B P : Type 0} (result : Result A B) → P → OnErr result P
failed (Ok x) holds = tt
failed (Err e) holds = holds

pub returns-in_err-change_at-clause-err : goal.returns-in_err-change_at-clause-err
returns-in_err-change_at-clause-err c =
    let together = value_at no_stretch c.self.inside.stretches.items in
    failed c.from_residual.result (λ core n.
    ap (λ (single : ℕ). capped (single + sum_below (times_as (together core) n) 128)) (c.in_err-change_at.ensures.err core n)
    ∙ ap (λ (counts : Counts). counted counts core n) c.self.view_is)
