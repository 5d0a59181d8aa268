-- The words of the crossings so far were raised.
use Rattle.weave_run.proofs.Raises.{raised_more, raised_nothing, seated_still}
use Rattle.weave_run.proofs.raise.raise_all.Goals as goal

pub returns-then-count-gt-MOST_RAISED : goal.returns-then-count-gt-MOST_RAISED
returns-then-count-gt-MOST_RAISED g c = raised_nothing g.C.Component.stepped c.args.plan.now c.args.crossings.now c.args.post.now c.requires.post

pub loop-index-init : goal.loop-index-init
loop-index-init g c = raised_nothing g.C.Component.stepped c.args.plan.now c.args.crossings.now c.args.post.now c.requires.post

pub raise_at-requires-clause-post : goal.raise_at-requires-clause-post
raise_at-requires-clause-post g c = seated_still g.C.Component.stepped c.args.plan.now c.args.crossings.now c.args.post.now c.loop-index.post c.requires.post c.loop-index.invariant

pub loop-index-preserved : goal.loop-index-preserved
loop-index-preserved g c =
    raised_more g.C.Component.stepped c.args.plan.now c.args.crossings.now c.args.post.now c.loop-index.post c.raise_at.new.post c.loop-index.invariant c.raise_at.ensures
