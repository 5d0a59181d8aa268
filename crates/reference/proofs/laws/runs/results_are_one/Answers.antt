use Rattle.std.proofs.Common.{◌≡◌, List, Ok, sym, ◌∙◌, ap}
use Rattle.component.specs.declared.comp.Comp.{Comp}
use Rattle.reference.specs.ReferenceRun.{reference_run}
use Rattle.reference.proofs.laws.runs.results_are_one.Goals as goal

pub returns : goal.returns
returns c = λ machine image lists first second one other.
    let comps : one.comps ≡ other.comps = c.fresh_components_are_one.ensures machine one.comps other.comps one.fresh other.fresh in
    let same : Ok first ≡ Ok second = sym one.gives ∙ ap (λ (parts : List Comp). reference_run machine image parts lists) comps ∙ other.gives in
    cc
