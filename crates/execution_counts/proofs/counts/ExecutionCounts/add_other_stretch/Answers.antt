use Rattle.std.proofs.Common.{◌≡◌, ◌∙◌, ℕ, ◌+◌, ◌==◌, ap, arith, sym}
use Rattle.std.specs.Prelude.{◌&&◌, OnOk, Result, Ok, Err}
use Rattle.sparse_table.specs.ByCore.{value_at}
use Rattle.execution_counts.specs.declared.stretch.Stretch.{Stretch}
use Rattle.execution_counts.specs.Counted.{Counts, capped, counted, is_in_stretch, no_stretch, one_if}
use Rattle.execution_counts.proofs.Counting.{both_parts}
use Rattle.execution_counts.proofs.counts.ExecutionCounts.add_other_stretch.Goals as goal

follows : {A B P Q : Type 0} (result : Result A B) → (P → Q) → OnOk result P → OnOk result Q
follows (Ok x) so holds = so holds
follows (Err e) so holds = tt

pub returns-in_ok-add_again : goal.returns-in_ok-add_again
returns-in_ok-add_again c =
    let was : Stretch = c.value_at-was.result in
    let as_many : (value_at no_stretch c.args.self.now.stretches c.args.core c.args.pc).count ≡ was.count =
    ap (λ (counts : Counts). (value_at no_stretch counts.stretches c.args.core c.args.pc).count) (sym c.self.view_is) ∙ ap (λ (s : Stretch). s.count) (sym c.value_at-was.ensures) in
    let begun : (core n : ℕ) → counted c.add_again.new.self core n ≡ capped (counted c.args.self.now core n + one_if (c.args.core == core && is_in_stretch c.args.pc was.count n)) =
    λ core n. c.in_ok-add_again.ensures core n ∙ ap (λ count. capped (counted c.args.self.now core n + one_if (c.args.core == core && is_in_stretch c.args.pc count n))) as_many in
    follows c.add_one_by_one.result
    (λ behind core n. both_parts (counted c.args.self.now core n) (counted c.add_again.new.self core n) (counted c.add_one_by_one.new.self core n) c.args.pc was.count c.args.count n (c.args.core == core) (omega (arith, c.if-was-count.true)) (begun core n) (behind core n))
    c.add_one_by_one.ensures
