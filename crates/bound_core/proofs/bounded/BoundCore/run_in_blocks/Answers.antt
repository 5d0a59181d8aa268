use Rattle.std.proofs.Common.{◌≡◌, ◌∙◌, Option, None, ap, subst, arith, rules, true}
use Rattle.rv_core.specs.declared.single.Single.{Single}
use Rattle.rv_core.specs.Single.{comes_to_next, met_by}
use Rattle.reference.specs.TimedCore.{ran_to}
use Rattle.reference.specs.Ahead.{ahead, going}
use Rattle.bound_core.specs.Met.{begun_in_time}
use Rattle.bound_core.proofs.Meeting.{none_met}
use Rattle.bound_core.proofs.bounded.BoundCore.run_in_blocks.Goals as goal

pub loop-did-smaller : goal.loop-did-smaller
loop-did-smaller g c =
    let on : comes_to_next c.loop-did.did ≡ true = search rules in
    let was_going : going (comes_to_next c.loop-did.did) ≡ 1 = ap going on in
    omega (arith, was_going, c.advance-did.ensures.nearer)

pub loop-did-preserved : goal.loop-did-preserved
loop-did-preserved g c =
    let image = g.P.Program.image c.args.program.now in
    let was = c.loop-did.invariant in
    let did = c.advance-did.ensures in
    let core = ahead c.loop-did.counted c.loop-did.self.timed in
    let on : comes_to_next c.loop-did.did ≡ true = search rules in
    let none : met_by c.loop-did.did ≡ None = none_met c.loop-did.did on in
    let was_end : ran_to image c.args.end core ≡ ran_to image c.args.end c.args.self.now.timed =
    subst (λ (met : Option Single). ran_to image c.args.end (begun_in_time met core) ≡ ran_to image c.args.end c.args.self.now.timed) none was.same_end in
    record {
      free = did.next;
      fetching = did.fetching;
      unfetched = did.unfetched;
      same_end = did.same_end ∙ was_end;
      few = did.few;
      cycles = was.cycles;
      clock = did.clock ∙ was.clock;
      number = did.number ∙ was.number;
      memory = did.memory ∙ was.memory;
      spare = did.spare ∙ was.spare;
      pace = did.pace;
    }
