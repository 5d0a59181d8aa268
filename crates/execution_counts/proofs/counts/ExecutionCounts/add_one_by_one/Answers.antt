use Rattle.std.proofs.Common.{◌∙◌, ◌+◌, ◌==◌, ap, arith}
use Rattle.std.specs.Prelude.{◌&&◌}
use Rattle.execution_counts.specs.Counted.{capped, counted, is_in_stretch, one_if}
use Rattle.execution_counts.proofs.Counting.{none_yet, one_further}
use Rattle.execution_counts.proofs.counts.ExecutionCounts.add_one_by_one.Goals as goal

pub loop-place-init : goal.loop-place-init
loop-place-init c = record { so_far = λ core n. none_yet (counted c.args.self.now core n) c.args.pc n (c.args.core == core) (omega arith) }

pub loop-place-preserved : goal.loop-place-preserved
loop-place-preserved c = record {
  so_far = λ core n. one_further (counted c.args.self.now core n) (counted c.loop-place.self core n) (counted c.add.new.self core n) c.args.pc c.loop-place.place n (c.args.core == core) (c.loop-place.invariant.so_far core n) (c.in_ok-add.ensures.ok core n);
}

pub returns : goal.returns
returns c = λ core n.
    c.loop-place.invariant.so_far core n
    ∙ ap (λ place. capped (counted c.args.self.now core n + one_if (c.args.core == core && is_in_stretch c.args.pc place n))) (omega (arith, c.loop-place-test.false, c.loop-place.auto.place-end))
