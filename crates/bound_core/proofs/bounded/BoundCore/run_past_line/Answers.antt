use Rattle.std.proofs.Common.{◌≡◌, ◌≤◌, ◌<◌, ◌+◌, ◌∙◌, ◌⊎◌, Option, None, ap, inl, inr, max, arith, true, false, true≢false, subst, sym, rules}
use Rattle.rv_core.specs.declared.single.Single.{Single}
use Rattle.rv_core.specs.Single.{begun_if}
use Rattle.rv_core.specs.Step.{is_free}
use Rattle.reference.specs.Ahead.{going}
use Rattle.bound_core.specs.Met.{begun_in_time}
use Rattle.reference.specs.TimedCore.{TimedCore, after_instruction, goes_on_alone, ran_to}
use Rattle.reference.proofs.Instructions.{IsWithin, goes_on_by, goes_on_fetched, nearer_fetching, next_within, same_end}
use Rattle.bound_core.proofs.bounded.BoundCore.run_past_line.Goals as goal
use Rattle.bound_core.proofs.bounded.BoundCore.run_past_line.Goals.{then-is_fetched, else-is_fetched}

pub loop-self-smaller : goal.loop-self-smaller
loop-self-smaller g c =
    let image = g.P.Program.image c.args.program.now in
    let core = c.loop-self.self.timed in
    let after = c.step_fetching.new.self.timed in
    let next : after ≡ after_instruction image core = c.step_fetching.ensures.value in
    let none : c.loop-self.met ≡ None = search rules in
    let free : is_free core.core ≡ true = search rules in
    let on : (core.core.is_fetched ≡ true) ⊎ (core.clock < c.args.end) = elim c.if-is_fetched.branch [ then-is_fetched w ↦ inl (search rules) | else-is_fetched w ↦ inr (search rules) ] in
    let clock : after.clock ≡ (after_instruction image core).clock = ap (λ (t : TimedCore). t.clock) next in
    let frees : going (is_free after.core) ≡ going (is_free (after_instruction image core).core) = ap (λ (t : TimedCore). going (is_free t.core)) next in
    let fetched : going after.core.is_fetched ≡ going (after_instruction image core).core.is_fetched = ap (λ (t : TimedCore). going t.core.is_fetched) next in
    let later : going c.run_in_line-met.new.self.timed.core.is_fetched ≡ going after.core.is_fetched = ap going c.run_in_line-met.ensures.fetched in
    let was : going (is_free (begun_if c.loop-self.met core.core)) ≡ going (is_free core.core) = ap (λ (met : Option Single). going (is_free (begun_if met core.core))) none in
    omega (arith, clock, frees, fetched, later, was, c.run_in_line-met.ensures.nearer, nearer_fetching image c.args.end core free on)

pub loop-self-preserved : goal.loop-self-preserved
loop-self-preserved g c =
    let image = g.P.Program.image c.args.program.now in
    let was = c.loop-self.invariant in
    let core = c.loop-self.self.timed in
    let most = max c.args.self.now.timed.clock c.args.end in
    let next : c.step_fetching.new.self.timed ≡ after_instruction image core = c.step_fetching.ensures.value in
    let none : c.loop-self.met ≡ None = search rules in
    let free : is_free core.core ≡ true = search rules in
    let on : (core.core.is_fetched ≡ true) ⊎ (core.clock < c.args.end) = elim c.if-is_fetched.branch [ then-is_fetched w ↦ inl (search rules) | else-is_fetched w ↦ inr (search rules) ] in
    let goes : goes_on_alone c.args.end core ≡ true = elim on [ inl fetched ↦ goes_on_fetched c.args.end core free fetched | inr early ↦ goes_on_by c.args.end core free early ] in
    let within : IsWithin most (after_instruction image core) = next_within image c.args.end most core was.pace (omega arith) on (record { clock = was.clock; fetched = was.fetched }) in
    let clock : c.step_fetching.new.self.timed.clock ≤ most + 1 = rw next within.clock in
    let unfetched : c.run_in_line-met.new.self.timed.core.is_fetched ≡ false = c.run_in_line-met.ensures.fetched ∙ c.step_fetching.ensures.unfetched in
    let was_end : ran_to image c.args.end core ≡ ran_to image c.args.end c.args.self.now.timed =
    subst (λ (met : Option Single). ran_to image c.args.end (begun_in_time met core) ≡ ran_to image c.args.end c.args.self.now.timed) none was.same_end in
    record {
      same_end = c.run_in_line-met.ensures.same_end ∙ ap (ran_to image c.args.end) next ∙ same_end image c.args.end core goes ∙ was_end;
      fetching = c.run_in_line-met.ensures.fetching;
      clock = omega (arith, clock, c.run_in_line-met.ensures.within);
      fetched = λ fetched. absurd (true≢false (sym fetched ∙ unfetched));
      number = c.run_in_line-met.ensures.number ∙ c.step_fetching.ensures.number ∙ was.number;
      memory = c.run_in_line-met.ensures.memory ∙ c.step_fetching.ensures.memory ∙ was.memory;
      spare = c.run_in_line-met.ensures.spare ∙ c.step_fetching.ensures.spare ∙ was.spare;
      pace = c.run_in_line-met.ensures.pace;
    }
