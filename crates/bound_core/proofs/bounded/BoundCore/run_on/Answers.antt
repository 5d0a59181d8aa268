use Rattle.std.proofs.Common.{◌≡◌, ◌<◌, ◌≤◌, ◌+◌, ◌∙◌, Option, None, ap, sym, subst, arith, rules, true}
use Rattle.rv_core.specs.declared.single.Single.{Single}
use Rattle.rv_core.specs.Single.{begun_if, comes_to_next, met_by}
use Rattle.rv_core.specs.Step.{is_free}
use Rattle.reference.specs.TimedCore.{TimedCore, after_instruction, ran_to}
use Rattle.reference.specs.Ahead.{ahead, going}
use Rattle.bound_core.specs.Met.{begun_in_time}
use Rattle.reference.proofs.Instructions.{cycle_at_most, goes_on_by, nearer, same_end}
use Rattle.bound_core.proofs.LedOn.{from_none_ahead}
use Rattle.bound_core.proofs.Meeting.{none_met}
use Rattle.bound_core.proofs.bounded.BoundCore.run_on.Goals as goal

pub loop-self-init : goal.loop-self-init
loop-self-init g c =
    let image = g.P.Program.image c.args.program.now in
    let did = c.run_line-did.ensures in
    let now = ahead c.run_line-did.new.counted c.run_line-did.new.self.timed in
    record {
      free = did.next;
      fetching = did.fetching;
      unfetched = did.unfetched;
      same_end = from_none_ahead image c.args.end c.args.self.now.timed (begun_in_time (met_by c.run_line-did.result) now) did.same_end;
      nearer = omega (arith, did.nearer);
      few = did.few;
      most = search rules;
      clock = did.clock;
      number = did.number;
      memory = did.memory;
      spare = did.spare;
      pace = did.pace;
    }

pub loop-self-smaller : goal.loop-self-smaller
loop-self-smaller g c =
    let image = g.P.Program.image c.args.program.now in
    let was = c.loop-self.invariant in
    let core = ahead c.loop-self.counted c.loop-self.self.timed in
    let next : begun_in_time (met_by c.step-did.result) (ahead c.step-did.new.counted c.step-did.new.self.timed) ≡ after_instruction image core = c.step-did.ensures.value in
    let on : comes_to_next c.loop-self.did ≡ true = search rules in
    let none : met_by c.loop-self.did ≡ None = none_met c.loop-self.did on in
    let is_free_now : comes_to_next c.loop-self.did ≡ is_free core.core = subst (λ (met : Option Single). comes_to_next c.loop-self.did ≡ is_free (begun_if met core.core)) none was.free in
    let free : is_free core.core ≡ true = sym is_free_now ∙ on in
    let early : core.clock < c.args.end = omega (arith, c.if-counted-most.true, was.most, was.clock) in
    let clock : c.step-did.new.self.timed.clock + c.step-did.new.counted ≡ (after_instruction image core).clock = ap (λ (t : TimedCore). t.clock) next in
    let still : going (comes_to_next c.step-did.result) ≡ going (is_free (after_instruction image core).core) =
    ap going (c.step-did.ensures.next ∙ ap (λ (t : TimedCore). is_free t.core) next) in
    let was_going : going (comes_to_next c.loop-self.did) ≡ 1 = ap going on in
    omega (arith, clock, still, was_going, was.most, was.clock, c.step-did.ensures.clock, nearer image c.args.end core free early)

pub loop-self-preserved : goal.loop-self-preserved
loop-self-preserved g c =
    let image = g.P.Program.image c.args.program.now in
    let was = c.loop-self.invariant in
    let core = ahead c.loop-self.counted c.loop-self.self.timed in
    let next : begun_in_time (met_by c.step-did.result) (ahead c.step-did.new.counted c.step-did.new.self.timed) ≡ after_instruction image core = c.step-did.ensures.value in
    let on : comes_to_next c.loop-self.did ≡ true = search rules in
    let none : met_by c.loop-self.did ≡ None = none_met c.loop-self.did on in
    let is_free_now : comes_to_next c.loop-self.did ≡ is_free core.core = subst (λ (met : Option Single). comes_to_next c.loop-self.did ≡ is_free (begun_if met core.core)) none was.free in
    let free : is_free core.core ≡ true = sym is_free_now ∙ on in
    let early : core.clock < c.args.end = omega (arith, c.if-counted-most.true, was.most, was.clock) in
    let clock : c.step-did.new.self.timed.clock + c.step-did.new.counted ≡ (after_instruction image core).clock = ap (λ (t : TimedCore). t.clock) next in
    let bounds : (core.clock ≤ (after_instruction image core).clock) × ((after_instruction image core).clock ≤ core.clock + 1) = cycle_at_most image core was.pace in
    let still : going (comes_to_next c.step-did.result) ≡ going (is_free (after_instruction image core).core) =
    ap going (c.step-did.ensures.next ∙ ap (λ (t : TimedCore). is_free t.core) next) in
    let was_going : going (comes_to_next c.loop-self.did) ≡ 1 = ap going on in
    let left : ran_to image c.args.end (begun_in_time (met_by c.step-did.result) (ahead c.step-did.new.counted c.step-did.new.self.timed)) ≡ ran_to image c.args.end core =
    ap (ran_to image c.args.end) next ∙ same_end image c.args.end core (goes_on_by c.args.end core free early) in
    let was_end : ran_to image c.args.end core ≡ ran_to image c.args.end c.args.self.now.timed =
    subst (λ (met : Option Single). ran_to image c.args.end (begun_in_time met core) ≡ ran_to image c.args.end c.args.self.now.timed) none was.same_end in
    record {
      free = c.step-did.ensures.next;
      fetching = c.step-did.ensures.fetching ∙ was.fetching;
      unfetched = c.step-did.ensures.unfetched;
      same_end = left ∙ was_end;
      nearer = omega (arith, clock, still, was_going, was.nearer, was.most, was.clock, c.step-did.ensures.clock, nearer image c.args.end core free early);
      few = omega (arith, clock, c.step-did.ensures.clock, bounds.1, c.if-counted-most.true);
      most = was.most;
      clock = c.step-did.ensures.clock ∙ was.clock;
      number = c.step-did.ensures.number ∙ was.number;
      memory = c.step-did.ensures.memory ∙ was.memory;
      spare = c.step-did.ensures.spare ∙ was.spare;
      pace = c.step-did.ensures.pace;
    }
