-- A core waits for the same event, which has finished at the same time.
use Rattle.feedback.proofs.Renumbered.{delays_same}
use Rattle.feedback.proofs.laws.delays_are_of_the_cores.Goals as goal

pub returns : goal.returns
returns c = λ to events others timed moved cores numbered other_numbers re timed_are moved_are times.
    delays_same to events others timed moved numbered
    (λ core e is. c.cores_wait_for_the_same_event.ensures.there core events e numbered is)
    (λ core. c.cores_wait_for_the_same_event.ensures.same core to events others numbered other_numbers re)
    timed_are times cores
