use Rattle.std.proofs.Common.{◌≡◌, ◌∙◌, ℕ, ◌+◌, ◌==◌, ap, sym, subst}
use Rattle.std.specs.Prelude.{◌&&◌, OnOk}
use Rattle.sparse_table.specs.ByCore.{value_at}
use Rattle.execution_counts.specs.declared.stretch.Stretch.{Stretch}
use Rattle.execution_counts.specs.Counted.{Counts, capped, counted, is_in_stretch, no_stretch, one_if}
use Rattle.execution_counts.proofs.counts.ExecutionCounts.add_stretch.Goals as goal

pub returns-then-count-gt0 : goal.returns-then-count-gt0
returns-then-count-gt0 c =
    let as_many : (value_at no_stretch c.args.self.now.stretches c.args.core c.args.pc).count ≡ c.args.count =
    ap (λ (counts : Counts). (value_at no_stretch counts.stretches c.args.core c.args.pc).count) (sym c.self.view_is) ∙ ap (λ (s : Stretch). s.count) (sym c.value_at-was.ensures) ∙ c.if-was-count.true in
    subst (λ count. OnOk c.add_again.result ((core n : ℕ) → counted c.add_again.new.self core n ≡ capped (counted c.args.self.now core n + one_if (c.args.core == core && is_in_stretch c.args.pc count n)))) as_many c.add_again.ensures
