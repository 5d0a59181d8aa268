use Rattle.std.proofs.Common.{◌≡◌, ◌+◌, ◌∙◌, ap, arith}
use Rattle.sparse_table.specs.ByCore.{value_at}
use Rattle.execution_counts.specs.Counted.{Counts, capped, counted, no_stretch, sum_below, times_as}
use Rattle.execution_counts.proofs.NextCounted.{sum_short}
use Rattle.execution_counts.proofs.counts.ExecutionCounts.get.Goals as goal

pub returns : goal.returns
returns c =
    let inside = c.self.inside in
    let all : c.loop-place.place ≡ inside.longest = omega (arith, c.loop-place-test.false, c.loop-place.auto.place-end) in
    let together = value_at no_stretch inside.stretches.items c.args.core in
    c.loop-place.invariant.so_far
    ∙ ap (λ m. capped (value_at 0 inside.singles.items c.args.core c.args.pc + sum_below (times_as together c.args.pc) m)) all
    ∙ ap (λ k. capped (value_at 0 inside.singles.items c.args.core c.args.pc + k)) (sum_short together c.args.pc inside.longest (c.self.invariant.1.short c.args.core) 128 c.self.invariant.1.few)
    ∙ ap (λ (counts : Counts). counted counts c.args.core c.args.pc) c.self.view_is
