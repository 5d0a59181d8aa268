-- The event is not ready.
use Rattle.std.proofs.Common.{length, arith, ap, ◌∙◌}
use Rattle.std.specs.Prelude.{slice_index}
use Rattle.weave_seq.proofs.StateSteps.{kept}
use Rattle.weave_seq.proofs.state.State.keep.Goals as goal

pub invariant_of-self : goal.invariant_of-self
invariant_of-self c =
    kept c.self.inside.times.items c.self.inside.waits.items c.self.inside.ready c.self.invariant c.args.fired
    (omega (arith, ap (λ v. length v.times) c.self.view_is, c.requires.within)) (ap (λ v. slice_index v.waits c.args.fired.number) c.self.view_is ∙ c.requires.taken)
