use Rattle.std.proofs.Common.{◌≡◌, ℕ, ◌+◌, ◌-◌, ◌≤◌, ◌∙◌, true, false, Option, Some, None, IfSome, ap, arith}
use Rattle.rv_core.specs.declared.single.Single.{Single}
use Rattle.rv_core.specs.CoreState.{CoreState}
use Rattle.rv_core.specs.Executions.{LiesIn}
use Rattle.rv_core.specs.Step.{is_free}
use Rattle.reference.specs.Ahead.{ahead}
use Rattle.bound_core.specs.Met.{begun_in_time, met_count}
use Rattle.bound_core.specs.NumberedCores.{NumberedCore}
use Rattle.reference.specs.TimedCore.{TimedCore, ran_to}
use Rattle.bound_core.proofs.LedOn.{anywhere, led_and_met, met_fits}
use Rattle.bound_core.proofs.bounded.BoundCore.run_blocks.Goals as goal

anyhow : (met : Option Single) (pc : ℕ) → IfSome met (λ single. LiesIn None pc)
anyhow None pc = tt
anyhow (Some single) pc = tt

pub counted_of-requires : goal.counted_of-requires
counted_of-requires g c =
    let ran = c.run_blocks-ran in
    let fits = met_fits ran.result.met ran.result.count (c.args.most - c.args.counted.now) ran.ensures.few ran.ensures.early in
    omega (arith, fits)

pub overflow_add-counted : goal.overflow_add-counted
overflow_add-counted g c =
    let ran = c.run_blocks-ran in
    let fits = met_fits ran.result.met ran.result.count (c.args.most - c.args.counted.now) ran.ensures.few ran.ensures.early in
    omega (arith, fits, c.counted_of.ensures, c.requires.few)

pub returns-clause-few : goal.returns-clause-few
returns-clause-few g c =
    let ran = c.run_blocks-ran in
    let fits = met_fits ran.result.met ran.result.count (c.args.most - c.args.counted.now) ran.ensures.few ran.ensures.early in
    omega (arith, fits, c.counted_of.ensures, c.requires.few)

pub returns-clause-same_end : goal.returns-clause-same_end
returns-clause-same_end g c =
    let image = g.P.Program.image c.args.program.now in
    let inside = c.self.inside in
    let ran = c.run_blocks-ran in
    let met = ran.result.met in
    let now : TimedCore = record { core = inside.core; clock = inside.clock; instructions = inside.instructions; console = inside.console.items; pace = inside.pace } in
    let next : TimedCore = record now { core = ran.new.self } in
    let is : now ≡ c.args.self.now.timed = ap (λ (n : NumberedCore). n.timed) c.self.view_is in
    let none : now.pace ≡ None = ap (λ (t : TimedCore). t.pace) is ∙ c.requires.pace in
    let fetches : now.core.fetching ≡ false = ap (λ (t : TimedCore). t.core.fetching) is ∙ c.requires.fetching in
    let free : is_free now.core ≡ true = ap (λ (t : TimedCore). is_free t.core) is ∙ c.requires.free in
    let fetched : now.core.is_fetched ≡ false = ap (λ (t : TimedCore). t.core.is_fetched) is ∙ c.requires.unfetched in
    let clock : now.clock ≡ c.args.self.now.timed.clock = ap (λ (t : TimedCore). t.clock) is in
    let fits = met_fits met ran.result.count (c.args.most - c.args.counted.now) ran.ensures.few ran.ensures.early in
    let room : now.clock + (c.args.counted.now + (ran.result.count + met_count met)) ≤ c.args._end = omega (arith, clock, c.requires.end, c.requires.few, fits) in
    ap (λ (n : ℕ). ran_to image c.args._end (begun_in_time met (ahead (c.args.counted.now + n) next))) c.counted_of.ensures
    ∙ led_and_met image c.args._end c.args.counted.now ran.result.count None now next ran.new.self.registers ran.new.self.pc met none (anywhere image now.core fetches) free fetched room
    (ap (λ (core : CoreState). record now { core = core }) ran.ensures.same) ran.ensures.ran (anyhow met ran.new.self.pc) ran.ensures.met
    ∙ ap (λ (t : TimedCore). ran_to image c.args._end (ahead c.args.counted.now t)) is
