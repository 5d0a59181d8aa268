use Rattle.std.proofs.Common.{◌≡◌, false, List, ◌++◌, sym, ◌∙◌, ap, arith, rules}
use Rattle.std.proofs.lemmas.List.{append-nil}
use Rattle.reference.proofs.Instructions.{ran_stays}
use Rattle.bound_core.specs.TimedCore.{goes_on_alone}
use Rattle.trace.specs.EachCore.{untold_steps}
use Rattle.trace.specs.Trace.{Step}
use Rattle.trace.proofs.AloneTold.{none_alone}
use Rattle.trace.proofs.alone.run_alone.Goals as goal

pub run_more-requires-clause-clock : goal.run_more-requires-clause-clock
run_more-requires-clause-clock c = omega (arith, c.loop-goes_on.invariant.latest, c.requires.clock)

pub loop-goes_on-preserved : goal.loop-goes_on-preserved
loop-goes_on-preserved c =
    let was = c.loop-goes_on.invariant in
    let did = c.in_ok-more.ensures in
    record {
      same_end = did.same_end ∙ was.same_end;
      tells = λ number. did.tells number ∙ was.tells number;
      fits = λ before. did.fits (was.fits before);
      stopped = did.stopped;
      latest = omega (arith, did.latest, was.latest);
      no_more = omega (arith, did.no_more, was.no_more);
      number_is = did.number ∙ was.number_is;
      memory = did.memory ∙ was.memory;
      fetching = did.fetching ∙ was.fetching;
      spare = did.spare ∙ was.spare;
    }

pub returns-clause-ran : goal.returns-clause-ran
returns-clause-ran c =
    let stops : goes_on_alone c.args.end c.loop-goes_on.core.timed ≡ false = c.loop-goes_on.invariant.stopped (search rules) in
    sym (ran_stays c.args.program.now c.args.end c.loop-goes_on.core.timed stops) ∙ c.loop-goes_on.invariant.same_end

pub returns-clause-tells : goal.returns-clause-tells
returns-clause-tells c = λ number.
    let stops : goes_on_alone c.args.end c.loop-goes_on.core.timed ≡ false = c.loop-goes_on.invariant.stopped (search rules) in
    let told : List Step = untold_steps number c.loop-goes_on.way.items in
    sym (append-nil told) ∙ sym (ap (λ (steps : List Step). told ++ steps) (none_alone c.args.program.now c.args.end number c.loop-goes_on.core.timed stops)) ∙ c.loop-goes_on.invariant.tells number
