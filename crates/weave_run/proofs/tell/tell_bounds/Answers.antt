-- The crossings so far are told.
use Rattle.std.proofs.Common.{arith}
use Rattle.weave_run.proofs.Rounding.{learned_nothing, learned_twice}
use Rattle.weave_run.proofs.tell.tell_bounds.Goals as goal

pub returns-then-count-gt-MOST_RAISED : goal.returns-then-count-gt-MOST_RAISED
returns-then-count-gt-MOST_RAISED g c = learned_nothing g.C.Component.stepped c.args.plan.now c.args.domains.now c.requires.kept

pub loop-index-init : goal.loop-index-init
loop-index-init g c = learned_nothing g.C.Component.stepped c.args.plan.now c.args.domains.now c.requires.kept

pub tell_bound_at-requires-clause-kept : goal.tell_bound_at-requires-clause-kept
tell_bound_at-requires-clause-kept g c = c.loop-index.invariant.kept

pub tell_bound_at-requires-clause-source : goal.tell_bound_at-requires-clause-source
tell_bound_at-requires-clause-source g c = let a = c.requires.kept.count in let b = c.loop-index.invariant.kept.count in let l = c.requires.source in omega (arith, a, b, l)

pub loop-index-preserved : goal.loop-index-preserved
loop-index-preserved g c = learned_twice g.C.Component.stepped c.args.plan.now c.args.domains.now c.loop-index.domains c.tell_bound_at.new.domains c.loop-index.invariant c.tell_bound_at.ensures
