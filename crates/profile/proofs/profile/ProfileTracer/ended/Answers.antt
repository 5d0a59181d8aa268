use Rattle.noc_mesh.specs.NetTiming.{net_time}
use Rattle.profile.proofs.Right.{begun, ended}
use Rattle.profile.proofs.profile.ProfileTracer.ended.Goals as goal

pub invariant_of-self : goal.invariant_of-self
invariant_of-self c =
    let p = c.self.inside in
    ended p.net.path p.cores p.comps p.every p.told.steps c.then_ended-self-inside.result.steps p.instructions p.parts p.series c.self.invariant
    c.args.entries.now c.args.delays.now c.args.graph.now c.events.result.now c.args.fired.now c.as_slice.result.now c.end_interval-ended.new.parts c.end_interval-ended.new.series
    c.events.ensures.events c.as_slice.ensures c.then_ended-self-inside.ensures
    (c.in-Ok.ensures.parts (net_time p.net.path) p.cores p.told.steps c.args.entries.now c.args.delays.now) c.in-Ok.ensures.series

pub invariant_of-self-in-Err : goal.invariant_of-self-in-Err
invariant_of-self-in-Err c =
    let p = c.self.inside in
    begun p.net.path p.cores p.comps p.every c.forget.new.told.steps c.forget.new.instructions c.forget.new.parts c.forget.new.series
    c.forget.ensures.told c.forget.ensures.instructions c.forget.ensures.parts c.forget.ensures.series
