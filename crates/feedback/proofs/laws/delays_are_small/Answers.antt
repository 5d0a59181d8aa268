use Rattle.std.proofs.lemmas.List.FromFn.{length-map-range_with_len}
use Rattle.feedback.specs.FeedbackDelay.{delay_of}
use Rattle.feedback.proofs.TimelyEvents.{delays_small}
use Rattle.feedback.proofs.laws.delays_are_small.Goals as goal

pub returns : goal.returns
returns c = λ events fired cores numbered timely.
    (length-map-range_with_len (delay_of events fired) 0 cores, delays_small events fired timely cores)
