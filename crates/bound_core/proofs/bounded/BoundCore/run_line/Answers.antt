use Rattle.std.proofs.Common.{◌≡◌, ◌+◌, ◌-◌, ◌≤◌, ◌∙◌, ℕ, true, false, Option, Some, None, ap, arith, refl, sym}
use Rattle.zs_num.specs.Request.{line_at}
use Rattle.rv_core.specs.declared.single.Single.{Single}
use Rattle.rv_core.specs.CoreState.{CoreState}
use Rattle.rv_core.specs.Single.{begun_if, comes_to_next}
use Rattle.rv_core.specs.Step.{is_free, is_latest}
use Rattle.reference.specs.Ahead.{ahead, going}
use Rattle.bound_core.specs.Met.{begun_in_time, met_count}
use Rattle.bound_core.specs.NumberedCores.{NumberedCore}
use Rattle.reference.specs.TimedCore.{TimedCore, ran_to}
use Rattle.reference.proofs.Instructions.{going_small}
use Rattle.bound_core.proofs.LedOn.{in_line, led_and_met, met_fits}
use Rattle.bound_core.proofs.Meeting.{comes_on}
use Rattle.bound_core.proofs.bounded.BoundCore.run_line.Goals as goal

pub counted_of-requires : goal.counted_of-requires
counted_of-requires g c =
    let ran = c.run_in_line-ran in
    let fits = met_fits ran.result.met ran.result.count (c.args.most - c.args.counted.now) ran.ensures.few ran.ensures.early in
    omega (arith, fits)

pub overflow_add-counted : goal.overflow_add-counted
overflow_add-counted g c =
    let ran = c.run_in_line-ran in
    let fits = met_fits ran.result.met ran.result.count (c.args.most - c.args.counted.now) ran.ensures.few ran.ensures.early in
    omega (arith, fits, c.counted_of.ensures, c.requires.few)

pub returns-then-is_there-clause-few : goal.returns-then-is_there-clause-few
returns-then-is_there-clause-few g c =
    let ran = c.run_in_line-ran in
    let fits = met_fits ran.result.met ran.result.count (c.args.most - c.args.counted.now) ran.ensures.few ran.ensures.early in
    omega (arith, fits, c.counted_of.ensures, c.requires.few)

pub returns-then-is_there-clause-nearer : goal.returns-then-is_there-clause-nearer
returns-then-is_there-clause-nearer g c =
    let ran = c.run_in_line-ran in
    let is = ap (λ (n : NumberedCore). n.timed) c.self.view_is in
    let free : is_free c.args.self.now.timed.core ≡ true = ap (λ (t : TimedCore). is_free t.core) (sym is) ∙ sym c.is_free-free.ensures ∙ c.if-free.true in
    let was : going (is_free c.args.self.now.timed.core) ≡ 1 = ap going free in
    let few : going (comes_to_next c.did_by.result) ≤ 1 = going_small (comes_to_next c.did_by.result) in
    let fits = met_fits ran.result.met ran.result.count (c.args.most - c.args.counted.now) ran.ensures.few ran.ensures.early in
    omega (arith, was, few, fits, c.counted_of.ensures, c.requires.few)

pub returns-then-is_there-clause-next : goal.returns-then-is_there-clause-next
returns-then-is_there-clause-next g c =
    let ran = c.run_in_line-ran in
    let free : is_free ran.new.self ≡ true = ap is_free ran.ensures.same ∙ sym c.is_free-free.ensures ∙ c.if-free.true in
    c.did_by.ensures.next ∙ comes_on ran.result.met ran.new.self free ∙ ap (λ (m : Option Single). is_free (begun_if m ran.new.self)) (sym c.did_by.ensures.met)

pub returns-then-is_there-clause-same_end : goal.returns-then-is_there-clause-same_end
returns-then-is_there-clause-same_end g c =
    let image = g.P.Program.image c.args.program.now in
    let inside = c.self.inside in
    let ran = c.run_in_line-ran in
    let met = ran.result.met in
    let now : TimedCore = record { core = inside.core; clock = inside.clock; instructions = inside.instructions; console = inside.console.items; pace = inside.pace } in
    let next : TimedCore = record now { core = ran.new.self } in
    let is : now ≡ c.args.self.now.timed = ap (λ (n : NumberedCore). n.timed) c.self.view_is in
    let none : now.pace ≡ None = ap (λ (t : TimedCore). t.pace) is ∙ c.requires.pace in
    let latest : is_latest now.core.fetched_line (line_at now.core.pc) ≡ true = ap (λ (t : TimedCore). is_latest t.core.fetched_line (line_at t.core.pc)) is ∙ c.if-is_there.ensures.latest refl in
    let free : is_free now.core ≡ true = sym c.is_free-free.ensures ∙ c.if-free.true in
    let fetched : now.core.is_fetched ≡ false = ap (λ (t : TimedCore). t.core.is_fetched) is ∙ c.requires.unfetched in
    let clock : now.clock ≡ c.args.self.now.timed.clock = ap (λ (t : TimedCore). t.clock) is in
    let fits = met_fits met ran.result.count (c.args.most - c.args.counted.now) ran.ensures.few ran.ensures.early in
    let room : now.clock + (c.args.counted.now + (ran.result.count + met_count met)) ≤ c.args._end = omega (arith, clock, c.requires.end c.if-counted-most.true, c.requires.few, fits) in
    ap (λ (m : Option Single). ran_to image c.args._end (begun_in_time m (ahead (c.args.counted.now + c.counted_of.result) next))) c.did_by.ensures.met
    ∙ ap (λ (n : ℕ). ran_to image c.args._end (begun_in_time met (ahead (c.args.counted.now + n) next))) c.counted_of.ensures
    ∙ led_and_met image c.args._end c.args.counted.now ran.result.count (Some (line_at now.core.pc)) now next ran.new.self.registers ran.new.self.pc met none (in_line image now.core latest) free fetched room
    (ap (λ (core : CoreState). record now { core = core }) ran.ensures.same) ran.ensures.ran ran.ensures.lies ran.ensures.met
    ∙ ap (λ (t : TimedCore). ran_to image c.args._end (ahead c.args.counted.now t)) is
