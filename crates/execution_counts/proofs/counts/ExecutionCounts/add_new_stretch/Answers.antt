use Rattle.std.proofs.Common.{◌≡◌, ◌∙◌, inl, ◌+◌, ◌==◌, ap, arith}
use Rattle.std.specs.Prelude.{◌&&◌}
use Rattle.sparse_table.specs.ByCore.{value_at}
use Rattle.execution_counts.specs.declared.stretch.Stretch.{Stretch}
use Rattle.execution_counts.specs.Counted.{Counts, capped, counted, is_in_stretch, no_stretch, one_if}
use Rattle.execution_counts.proofs.Counting.{stretch_more}
use Rattle.execution_counts.proofs.Sound.{short_more, short_same, sound_more, sound_same}
use Rattle.execution_counts.proofs.counts.ExecutionCounts.add_new_stretch.Goals as goal

pub returns : goal.returns
returns c = λ core n.
    let inside = c.self.inside in
    let more : Stretch = record { count = c.args.count; times = 1 } in
    let never : (value_at no_stretch inside.stretches.items c.args.core c.args.pc).times ≡ 0 =
    ap (λ (counts : Counts). (value_at no_stretch counts.stretches c.args.core c.args.pc).times) c.self.view_is ∙ c.requires.never in
    stretch_more (value_at no_stretch inside.stretches.items) (value_at no_stretch c.set_at.new.tables.items) c.args.core c.args.pc more c.in_ok-set_at.ensures.ok (omega (arith, never)) (inl never) c.requires.few (value_at 0 inside.singles.items) core n
    ∙ ap (λ (counts : Counts). capped (counted counts core n + one_if (c.args.core == core && is_in_stretch c.args.pc c.args.count n))) c.self.view_is

pub invariant_of-self : goal.invariant_of-self
invariant_of-self c =
    let inside = c.self.inside in
    let grows = c.max-self-inside.ensures in (
      sound_same inside.singles.items inside.stretches.items c.set_at.new.tables.items c.self.invariant.0 c.set_at.ensures.none c.in_err-set_at.ensures.err,
      short_same inside.longest c.max-self-inside.result inside.stretches.items c.set_at.new.tables.items c.self.invariant.1 (omega (arith, grows)) (omega (arith, grows, c.self.invariant.1.few, c.requires.few)) c.in_err-set_at.ensures.err,
    )

pub invariant_of-self-2 : goal.invariant_of-self-2
invariant_of-self-2 c =
    let inside = c.self.inside in
    let grows = c.max-self-inside.ensures in
    let more : Stretch = record { count = c.args.count; times = 1 } in (
      sound_more inside.singles.items inside.stretches.items c.set_at.new.tables.items c.self.invariant.0 c.set_at.ensures.none c.args.core c.args.pc more (λ place lt. omega (arith, lt, c.requires.fits)) c.in_ok-set_at.ensures.ok,
      short_more inside.longest c.max-self-inside.result inside.stretches.items c.set_at.new.tables.items c.self.invariant.1 (omega (arith, grows)) (omega (arith, grows, c.self.invariant.1.few, c.requires.few)) c.args.core c.args.pc more (omega (arith, grows)) c.in_ok-set_at.ensures.ok,
    )
