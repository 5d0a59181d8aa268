use Rattle.std.proofs.Common.{rules, ◌<◌, sym, subst, arith}
use Rattle.bound_phase.specs.Crew.{CanWork}
use Rattle.bound_phase.proofs.crew.work_all.Goals as goal

pub for_each_mut-requires-clause-accepts : goal.for_each_mut-requires-clause-accepts
for_each_mut-requires-clause-accepts g c κs within = λ i p inside is.
    let can : CanWork c.args.table.now c.args.memory.now c.args.end p.now = subst (CanWork c.args.table.now c.args.memory.now c.args.end) (sym is) (c.requires.can i p.now inside) in
    let few = c.requires.few in
    let low : i < 64 = omega (arith, inside, few) in
    search rules
