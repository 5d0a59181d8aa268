use Rattle.std.proofs.Common.{◌≡◌, ℕ, ◌<◌, List, [], ◌∷◌, false, true, refl, sym, ◌∙◌, subst, arith}
use Rattle.std.specs.Prelude.{IsTrue}
use Rattle.home.specs.HomeState.{HomeState}
use Rattle.mesi_dir.specs.CoreSets.{HasOtherCore, cores_in}
use Rattle.parts_table.specs.declared.part.Part.{Part}
use Rattle.parts_table.specs.Seats.{AreTouched}
use Rattle.parts_table.proofs.SharedSteps.{touched_alone}
use Rattle.parts_table.proofs.station.Station.serve_at_once.Goals as goal

pub cores_touched-cores-requires : goal.cores_touched-cores-requires
cores_touched-cores-requires g c =
    let known = c.requires.has.has.kept.core_is in
    let few = c.requires.has.has.kept.few_cores in
    record { core = (subst (λ (n : ℕ). c.args.self.now.core < n) c.requires.at.cores known, omega (arith, known, few)) }

pub serve_kept-requires-clause-touched : goal.serve_kept-requires-clause-touched
serve_kept-requires-clause-touched g c = λ state is.
    touched_alone c.args.table.now.cores c.cores_touched-cores.result.words c.args.self.now.core state c.args.request (c.args.self.now.core ∷ []) refl c.cores_touched-cores.ensures.own
    (λ other. (let yes_it : IsTrue c.any_other-shared.result = c.any_other-shared.ensures.1 other in let never = c.if-shared.false in let bad : true ≡ false = sym yes_it ∙ never in cc))
    (c.cores_touched-cores.ensures.touched state is)
