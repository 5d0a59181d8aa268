use Rattle.std.proofs.Common.{◌≡◌, ◌∙◌, ap, max, arith, rules, true, false, true≢false, sym}
use Rattle.reference.specs.TimedCore.{goes_on_alone, ran_to}
use Rattle.reference.proofs.Instructions.{nearer_alone, not_past, ran_stays, same_end}
use Rattle.bound_core.proofs.bounded.BoundCore.run_paced.Goals as goal

pub step_paced-requires-clause-clock : goal.step_paced-requires-clause-clock
step_paced-requires-clause-clock g c =
    let end = c.args.end in
    let core = c.loop-self.self.timed in
    let goes : goes_on_alone end core ≡ true = search rules in
    omega (arith, c.requires, not_past end (max c.args.self.now.timed.clock end) core (omega arith) c.loop-self.invariant.fetched goes)

pub loop-self-smaller : goal.loop-self-smaller
loop-self-smaller g c =
    let core = c.loop-self.self.timed in
    let goes : goes_on_alone c.args.end core ≡ true = search rules in
    rw c.step_paced.ensures.value (nearer_alone (g.P.Program.image c.args.program.now) c.args.end core goes)

pub loop-self-preserved : goal.loop-self-preserved
loop-self-preserved g c =
    let image = g.P.Program.image c.args.program.now in
    let was = c.loop-self.invariant in
    let core = c.loop-self.self.timed in
    let did = c.step_paced.ensures in
    let goes : goes_on_alone c.args.end core ≡ true = search rules in
    let before = not_past c.args.end (max c.args.self.now.timed.clock c.args.end) core (omega arith) was.fetched goes in
    record {
      same_end = ap (ran_to image c.args.end) did.value ∙ same_end image c.args.end core goes ∙ was.same_end;
      clock = omega (arith, before, did.within);
      fetched = λ fetched. absurd (true≢false (sym fetched ∙ did.unfetched));
      number = did.number ∙ was.number;
      memory = did.memory ∙ was.memory;
      fetching = did.fetching ∙ was.fetching;
      spare = did.spare ∙ was.spare;
    }

pub returns-clause-value : goal.returns-clause-value
returns-clause-value g c =
    let core = c.loop-self.self.timed in
    let stops : goes_on_alone c.args.end core ≡ false = search rules in
    sym (ran_stays (g.P.Program.image c.args.program.now) c.args.end core stops) ∙ c.loop-self.invariant.same_end
