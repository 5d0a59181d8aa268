use Rattle.std.proofs.Common.{◌∙◌, ap, arith, sym}
use Rattle.reference.specs.TimedCore.{TimedCore}
use Rattle.bound_core.specs.Met.{begun_in_time}
use Rattle.reference.proofs.Instructions.{ran_later, ran_stays, ran_within}
use Rattle.bound_core.proofs.bounded.BoundCore.run_by_kind.Goals as goal

pub returns-then-is_some-clause-begun : goal.returns-then-is_some-clause-begun
returns-then-is_some-clause-begun g c =
    let clock = ap (λ (t : TimedCore). t.clock) c.run_paced.ensures.value in
    omega (arith, clock, ran_later (g.P.Program.image c.args.program.now) c.args.end c.args.self.now.timed)

pub returns-then-is_some-clause-within : goal.returns-then-is_some-clause-within
returns-then-is_some-clause-within g c =
    let clock = ap (λ (t : TimedCore). t.clock) c.run_paced.ensures.value in
    omega (arith, clock, (ran_within (g.P.Program.image c.args.program.now) c.args.end c.args.self.now.timed c.keeps_sound.ensures.soon).within)

pub returns-then-is_fetching-clause-begun : goal.returns-then-is_fetching-clause-begun
returns-then-is_fetching-clause-begun g c =
    let clock = ap (λ (t : TimedCore). t.clock) c.run_fetching.ensures.value in
    omega (arith, clock, ran_later (g.P.Program.image c.args.program.now) c.args.end c.args.self.now.timed)

pub returns-then-is_fetching-clause-within : goal.returns-then-is_fetching-clause-within
returns-then-is_fetching-clause-within g c =
    let clock = ap (λ (t : TimedCore). t.clock) c.run_fetching.ensures.value in
    omega (arith, clock, (ran_within (g.P.Program.image c.args.program.now) c.args.end c.args.self.now.timed c.keeps_sound.ensures.soon).within)

pub returns-else-is_fetching-clause-value : goal.returns-else-is_fetching-clause-value
returns-else-is_fetching-clause-value g c =
    sym (ran_stays (g.P.Program.image c.args.program.now) c.args.end (begun_in_time c.run_in_blocks.result c.run_in_blocks.new.self.timed) c.run_in_blocks.ensures.stops) ∙ c.run_in_blocks.ensures.same_end
