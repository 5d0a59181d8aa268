use Rattle.std.proofs.Common.{◌≡◌, ◌+◌, ◌∙◌, ◌<◌, Option, ap, arith, subst, sym, true}
use Rattle.rv_core.specs.declared.single.Single.{Single}
use Rattle.rv_core.specs.Single.{comes_to_next, met_by}
use Rattle.rv_core.specs.Step.{is_free}
use Rattle.rv_core.proofs.Fetches.{never-needs}
use Rattle.reference.specs.TimedCore.{TimedCore, after_instruction, ran_to}
use Rattle.reference.specs.Ahead.{ahead, going}
use Rattle.bound_core.specs.Met.{begun_in_time}
use Rattle.reference.proofs.Instructions.{cycle_at_most, goes_on_by, nearer, same_end}
use Rattle.bound_core.proofs.Meeting.{begun_waits}
use Rattle.bound_core.proofs.bounded.BoundCore.advance.Goals as goal

pub returns-in-Some-clause-next : goal.returns-in-Some-clause-next
returns-in-Some-clause-next g c = sym (begun_waits c.in-Some.single c.run_blocks.new.self.timed.core)

pub step-requires-clause-there : goal.step-requires-clause-there
step-requires-clause-there g c = never-needs (g.P.Program.image c.args.program.now) c.run_blocks.new.self.timed.core c.run_blocks.ensures.fetching

pub returns-then-counted-most-clause-same_end : goal.returns-then-counted-most-clause-same_end
returns-then-counted-most-clause-same_end g c =
    let image = g.P.Program.image c.args.program.now in
    let core = ahead c.run_blocks.new.counted c.run_blocks.new.self.timed in
    let next : begun_in_time (met_by c.step.result) (ahead c.step.new.counted c.step.new.self.timed) ≡ after_instruction image core = c.step.ensures.value in
    let free : is_free core.core ≡ true = c.run_blocks.ensures.free in
    let early : core.clock < c.args.end = omega (arith, c.if-counted-most.true, c.run_blocks.ensures.clock, c.requires.end) in
    let Met : Option Single → Type 0 = λ met. ran_to image c.args.end (begun_in_time met core) ≡ ran_to image c.args.end (ahead c.args.counted.now c.args.self.now.timed) in
    ap (ran_to image c.args.end) next ∙ same_end image c.args.end core (goes_on_by c.args.end core free early) ∙ subst Met c.in_default.is c.run_blocks.ensures.same_end

pub returns-then-counted-most-clause-few : goal.returns-then-counted-most-clause-few
returns-then-counted-most-clause-few g c =
    let image = g.P.Program.image c.args.program.now in
    let core = ahead c.run_blocks.new.counted c.run_blocks.new.self.timed in
    let clock : c.step.new.self.timed.clock + c.step.new.counted ≡ (after_instruction image core).clock = ap (λ (t : TimedCore). t.clock) c.step.ensures.value in
    omega (arith, clock, c.step.ensures.clock, (cycle_at_most image core c.run_blocks.ensures.pace).1, c.if-counted-most.true)

pub returns-then-counted-most-clause-nearer : goal.returns-then-counted-most-clause-nearer
returns-then-counted-most-clause-nearer g c =
    let image = g.P.Program.image c.args.program.now in
    let core = ahead c.run_blocks.new.counted c.run_blocks.new.self.timed in
    let next : begun_in_time (met_by c.step.result) (ahead c.step.new.counted c.step.new.self.timed) ≡ after_instruction image core = c.step.ensures.value in
    let free : is_free core.core ≡ true = c.run_blocks.ensures.free in
    let last = c.run_blocks.new.self.timed.clock + c.args.most in
    let early : core.clock < last = omega (arith, c.if-counted-most.true) in
    let clock : c.step.new.self.timed.clock + c.step.new.counted ≡ (after_instruction image core).clock = ap (λ (t : TimedCore). t.clock) next in
    let still : going (comes_to_next c.step.result) ≡ going (is_free (after_instruction image core).core) = ap going (c.step.ensures.next ∙ ap (λ (t : TimedCore). is_free t.core) next) in
    omega (arith, clock, still, c.step.ensures.clock, c.run_blocks.ensures.more, c.run_blocks.ensures.few, nearer image last core free early)
