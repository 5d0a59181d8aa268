use Rattle.std.proofs.Common.{◌≡◌, true, Some, refl, subst, sym}
use Rattle.zs_num.specs.Request.{line_at}
use Rattle.rv_core.specs.CoreState.{CoreState}
use Rattle.rv_core.specs.Asked.{is_idle}
use Rattle.rv_core.proofs.Leading.{led-sound, meets-now}
use Rattle.rv_core.proofs.state.Core.run_in_line.Goals as goal

pub invariant_of-self : goal.invariant_of-self
invariant_of-self g c =
    let image = g.P.Program.image c.args.program.now in
    let idle = subst (λ (s : CoreState). is_idle s ≡ true) (sym c.self.view_is) c.requires in
    let ran = c.run_in_line-ran in
    (led-sound c.fields_are_in_range.ensures.registers image (Some (line_at c.self.inside.pc)) ran.result.count _ ran.new.registers ran.result.pc idle c.self.invariant.0 ran.ensures.ran, c.self.invariant.1)

pub returns-clause-met : goal.returns-clause-met
returns-clause-met g c =
    let image = g.P.Program.image c.args.program.now in
    let ran = c.run_in_line-ran in
    meets-now image c.self.inside.memory ran.result.met _ ran.ensures.met refl

pub returns-clause-sound : goal.returns-clause-sound
returns-clause-sound g c = (invariant_of-self g c).0
