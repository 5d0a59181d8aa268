use Rattle.std.proofs.Common.{◌≡◌, true, refl, subst, sym}
use Rattle.rv_core.specs.CoreState.{CoreState}
use Rattle.rv_core.specs.Asked.{is_idle}
use Rattle.rv_core.proofs.Going.{went-sound}
use Rattle.rv_core.proofs.state.Core.run_told_hits.Goals as goal

pub invariant_of-self : goal.invariant_of-self
invariant_of-self g c =
    let idle = subst (λ (s : CoreState). is_idle s ≡ true) (sym c.self.view_is) c.requires.idle in
    let gone = c.run_told_hits-came.ensures.gone.1.gone in (
      went-sound c.fields_are_in_range.ensures.registers (g.P.Program.image c.args.program.now) _ idle c.args.stint.now g.Q.Port.gives g.Q.Port.core g.Q.Port.logged
          c.run_told_hits-came.result.accesses _ _ gone.path refl refl c.self.invariant.0 c.if-self-2.self,
      c.self.invariant.1,
    )

pub returns-clause-sound : goal.returns-clause-sound
returns-clause-sound g c = (invariant_of-self g c).0
