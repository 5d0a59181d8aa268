use Rattle.reference.proofs.FetchSteps.{SoundLaws, done_the_same}
use Rattle.reference.proofs.laws.fetches_change_times_and_outcomes_alone.Goals as goal

pub returns : goal.returns
returns c m image time time_without numbers is =
    let laws : SoundLaws = record { advanced_sound = c.cores_stay_sound.ensures.advanced; answered_sound = c.cores_stay_sound.ensures.answered } in
    done_the_same laws m image time time_without numbers is c.reached_cores_are_sound.ensures
