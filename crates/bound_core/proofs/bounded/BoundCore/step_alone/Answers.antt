use Rattle.std.proofs.Common.{◌≡◌, true, ap, arith, rules}
use Rattle.reference.specs.TimedCore.{TimedCore, goes_on_alone}
use Rattle.bound_core.proofs.AloneSteps.{counts, step_no_more, step_not_later}
use Rattle.reference.proofs.Instructions.{nearer_alone, not_earlier}
use Rattle.bound_core.proofs.bounded.BoundCore.step_alone.Goals as goal

pub overflow_sub-counted : goal.overflow_sub-counted
overflow_sub-counted g c =
    let counts = counts (g.P.Program.image c.args.program.now) c.args.self.now.timed in
    omega (arith, ap (λ (t : TimedCore). t.instructions) c.step_any.ensures.value, counts.0, c.instructions.ensures.value, c.instructions-before.ensures.value)

pub returns-clause-counted : goal.returns-clause-counted
returns-clause-counted g c =
    let counts = counts (g.P.Program.image c.args.program.now) c.args.self.now.timed in
    omega (arith, ap (λ (t : TimedCore). t.instructions) c.step_any.ensures.value, counts.0, c.instructions.ensures.value, c.instructions-before.ensures.value)

pub returns-clause-few : goal.returns-clause-few
returns-clause-few g c =
    let counts = counts (g.P.Program.image c.args.program.now) c.args.self.now.timed in
    omega (arith, ap (λ (t : TimedCore). t.instructions) c.step_any.ensures.value, counts.1, c.instructions.ensures.value, c.instructions-before.ensures.value)

pub returns-clause-nearer : goal.returns-clause-nearer
returns-clause-nearer g c =
    let goes : goes_on_alone c.args.end c.args.self.now.timed ≡ true = search rules in
    rw c.step_any.ensures.value (nearer_alone (g.P.Program.image c.args.program.now) c.args.end c.args.self.now.timed goes)

pub returns-clause-begun : goal.returns-clause-begun
returns-clause-begun g c = rw c.step_any.ensures.value (not_earlier (g.P.Program.image c.args.program.now) c.args.self.now.timed)

pub returns-clause-latest : goal.returns-clause-latest
returns-clause-latest g c =
    let goes : goes_on_alone c.args.end c.args.self.now.timed ≡ true = search rules in
    rw c.step_any.ensures.value (step_not_later (g.P.Program.image c.args.program.now) c.args.end c.args.self.now.timed c.keeps_sound.ensures.soon goes)

pub returns-clause-no_more : goal.returns-clause-no_more
returns-clause-no_more g c =
    let goes : goes_on_alone c.args.end c.args.self.now.timed ≡ true = search rules in
    rw c.step_any.ensures.value (step_no_more (g.P.Program.image c.args.program.now) c.args.end c.args.self.now.timed c.keeps_sound.ensures.soon goes)
