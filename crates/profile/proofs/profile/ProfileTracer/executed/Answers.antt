use Rattle.profile.proofs.Right.{executed, recounted}
use Rattle.profile.proofs.profile.ProfileTracer.executed.Goals as goal

pub invariant_of-self : goal.invariant_of-self
invariant_of-self c =
    let p = c.self.inside in
    recounted p.net.path p.cores p.comps p.every p.told.steps p.instructions c.add.new.self p.parts p.series c.in_err-add.ensures.err c.self.invariant

pub invariant_of-self-2 : goal.invariant_of-self-2
invariant_of-self-2 c =
    let p = c.self.inside in
    executed p.net.path p.cores p.comps p.every p.told.steps c.then_executed-self-inside.result.steps p.instructions p.parts p.series c.self.invariant
    c.args.core c.args.pc c.add.new.self c.executed.new.self c.then_executed-self-inside.ensures c.in_ok-add.ensures.ok c.executed.ensures.begun c.executed.ensures.rows
