use Rattle.std.proofs.Common.{refl}
use Rattle.noc_mesh.specs.NetTiming.{net_time}
use Rattle.profile.specs.Contributions.{access_adds}
use Rattle.profile.specs.CopyTables.{copies_in}
use Rattle.profile.proofs.Right.{accessed, begun}
use Rattle.profile.proofs.profile.ProfileTracer.accessed.Goals as goal

pub invariant_of-self : goal.invariant_of-self
invariant_of-self c =
    let p = c.self.inside in
    accessed p.net.path p.cores p.comps p.every p.told.steps c.then_accessed-self-inside.result.steps p.instructions p.parts p.series c.self.invariant
    c.args.pc c.args.entry.now c.args.leaving (access_adds (net_time p.net.path) p.cores (copies_in p.parts.copies.of_data.items p.parts.copies.of_instructions.items) c.args.pc c.args.entry.now).tally
    c.hit-passed.new.parts c.hit-passed.new.series c.then_accessed-self-inside.ensures
    (c.in-Ok.ensures.parts p.cores p.told.steps c.self.invariant.parts) refl (c.in-Ok.ensures.series p.cores)

pub invariant_of-self-in-Err : goal.invariant_of-self-in-Err
invariant_of-self-in-Err c =
    let p = c.self.inside in
    begun p.net.path p.cores p.comps p.every c.forget.new.told.steps c.forget.new.instructions c.forget.new.parts c.forget.new.series
    c.forget.ensures.told c.forget.ensures.instructions c.forget.ensures.parts c.forget.ensures.series
