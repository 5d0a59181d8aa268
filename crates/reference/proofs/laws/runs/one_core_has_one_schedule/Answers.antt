use Rattle.std.proofs.Common.{◌≡◌, List, Ok, ap, ◌∙◌}
use Rattle.component.specs.declared.comp.Comp.{Comp}
use Rattle.reference.specs.ReferenceRun.{reference_run}
use Rattle.reference.proofs.OneSchedule.{schedule_is_one, schedule_there}
use Rattle.reference.proofs.laws.runs.one_core_has_one_schedule.Goals as goal

pub returns-clause-there : goal.returns-clause-there
returns-clause-there c = λ machine image is one.
    let fresh = c.fresh_components_are_there.ensures machine is in
    schedule_there machine image is one fresh.0 fresh.1

pub returns-clause-one : goal.returns-clause-one
returns-clause-one c = λ machine image lists others results other_results one first second.
    let comps : first.comps ≡ second.comps = c.fresh_components_are_one.ensures machine first.comps second.comps first.fresh second.fresh in
    let from : reference_run machine image first.comps others ≡ Ok other_results = ap (λ (parts : List Comp). reference_run machine image parts others) comps ∙ second.gives in
    schedule_is_one machine image first.comps lists others results other_results one first.gives from
