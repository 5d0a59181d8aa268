use Rattle.feedback.proofs.TimelyEvents.{timely_have_finished}
use Rattle.feedback.proofs.laws.timely_events_have_finished.Goals as goal

pub returns : goal.returns
returns c = λ events fired numbered timely. timely_have_finished events fired timely numbered
