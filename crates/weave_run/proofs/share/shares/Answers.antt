-- One share more.
use Rattle.std.proofs.Common.{rules, ◌∙◌}
use Rattle.std.specs.Arc.{arc_value}
use Rattle.weave_run.proofs.AtWork.{one_share, same_plan, share_of}
use Rattle.weave_run.proofs.share.shares.Goals as goal

pub loop-worker-preserved : goal.loop-worker-preserved
loop-worker-preserved g c =
    let i = c.loop-worker.invariant in
    let r = c.requires in
    let o = c.of.ensures in
    record {
      so_far = one_share c.args.plan.now (arc_value c.args.crossings.now) c.loop-worker.worker c.loop-worker.shares.items _ c.push_reserved.new.self.items i.so_far
          (share_of c.args.plan.now (arc_value c.args.crossings.now) _ _ (same_plan _ c.args.plan.now (o.graph ∙ r.graph) (o.parts ∙ r.parts) (o.comps ∙ r.comps)) c.in_ok-try_clone-2.ensures c.in_ok-try_clone.ensures r.outgoing r.some) c.push_reserved.ensures.items;
      room = search rules;
    }
