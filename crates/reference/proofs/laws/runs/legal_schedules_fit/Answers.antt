use Rattle.reference.proofs.LegalSchedules.{fits_run}
use Rattle.reference.proofs.laws.runs.legal_schedules_fit.Goals as goal

pub returns : goal.returns
returns c = λ machine image lists results run. fits_run machine image run.comps lists results run.gives
