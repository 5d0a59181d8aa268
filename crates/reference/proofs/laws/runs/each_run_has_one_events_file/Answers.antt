use Rattle.reference.proofs.RunEventsFile.{has_file, one_file}
use Rattle.reference.proofs.laws.runs.each_run_has_one_events_file.Goals as goal

pub returns-clause-there : goal.returns-clause-there
returns-clause-there c = λ machine image lists results run. has_file machine image lists results run

pub returns-clause-one : goal.returns-clause-one
returns-clause-one c = λ machine image lists first second a b. one_file c.fresh_components_are_one.ensures machine image lists first second a b
