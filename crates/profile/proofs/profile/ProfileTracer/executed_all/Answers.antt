use Rattle.profile.proofs.Right.{begun, executed_all}
use Rattle.profile.proofs.profile.ProfileTracer.executed_all.Goals as goal

pub invariant_of-self : goal.invariant_of-self
invariant_of-self c =
    let p = c.self.inside in
    executed_all p.net.path p.cores p.comps p.every p.told.steps c.then_executed_all-self-inside.result.steps p.instructions p.parts p.series c.self.invariant
    c.args.core c.args.pc c.args.count c.add_stretch.new.self c.executed.new.self c.then_executed_all-self-inside.ensures c.in-Ok.ensures c.executed.ensures.begun c.executed.ensures.rows

pub invariant_of-self-in-Err : goal.invariant_of-self-in-Err
invariant_of-self-in-Err c =
    let p = c.self.inside in
    begun p.net.path p.cores p.comps p.every c.forget.new.told.steps c.forget.new.instructions c.forget.new.parts c.forget.new.series
    c.forget.ensures.told c.forget.ensures.instructions c.forget.ensures.parts c.forget.ensures.series
