use Rattle.std.proofs.Common.{◌∙◌, inr, refl, ◌+◌, ◌==◌, ap, arith}
use Rattle.std.specs.Prelude.{◌&&◌}
use Rattle.sparse_table.specs.ByCore.{value_at}
use Rattle.execution_counts.specs.declared.stretch.Stretch.{Stretch}
use Rattle.execution_counts.specs.Counted.{Counts, capped, counted, is_in_stretch, no_stretch, one_if}
use Rattle.execution_counts.proofs.Counting.{stretch_more}
use Rattle.execution_counts.proofs.Sound.{short_more, short_same, sound_more, sound_same}
use Rattle.execution_counts.proofs.counts.ExecutionCounts.add_again.Goals as goal

pub returns : goal.returns
returns c = λ core n.
    let inside = c.self.inside in
    let was : Stretch = value_at no_stretch inside.stretches.items c.args.core c.args.pc in
    let more : Stretch = record { count = was.count; times = capped (was.times + 1) } in
    let few = c.self.invariant.1.short c.args.core c.args.pc in
    stretch_more (value_at no_stretch inside.stretches.items) (value_at no_stretch c.change_at.new.tables.items) c.args.core c.args.pc more c.in_ok-change_at.ensures.ok refl (inr refl) (omega (arith, few, c.self.invariant.1.few)) (value_at 0 inside.singles.items) core n
    ∙ ap (λ (counts : Counts). capped (counted counts core n + one_if (c.args.core == core && is_in_stretch c.args.pc (value_at no_stretch counts.stretches c.args.core c.args.pc).count n))) c.self.view_is

pub invariant_of-self : goal.invariant_of-self
invariant_of-self c =
    let inside = c.self.inside in (
      sound_same inside.singles.items inside.stretches.items c.change_at.new.tables.items c.self.invariant.0 c.change_at.ensures.none c.in_err-change_at.ensures.err,
      short_same inside.longest inside.longest inside.stretches.items c.change_at.new.tables.items c.self.invariant.1 (omega arith) c.self.invariant.1.few c.in_err-change_at.ensures.err,
    )

pub invariant_of-self-2 : goal.invariant_of-self-2
invariant_of-self-2 c =
    let inside = c.self.inside in
    let was : Stretch = value_at no_stretch inside.stretches.items c.args.core c.args.pc in
    let more : Stretch = record { count = was.count; times = capped (was.times + 1) } in (
      sound_more inside.singles.items inside.stretches.items c.change_at.new.tables.items c.self.invariant.0 c.change_at.ensures.none c.args.core c.args.pc more (c.self.invariant.0.within c.args.core c.args.pc) c.in_ok-change_at.ensures.ok,
      short_more inside.longest inside.longest inside.stretches.items c.change_at.new.tables.items c.self.invariant.1 (omega arith) c.self.invariant.1.few c.args.core c.args.pc more (c.self.invariant.1.short c.args.core c.args.pc) c.in_ok-change_at.ensures.ok,
    )
