use Rattle.reference.proofs.CoreKept.{CoreLaws}
use Rattle.trace.proofs.RunPlaces.{run_fits}
use Rattle.trace.proofs.laws.steps_fit.Goals as goal

pub returns : goal.returns
returns c machine image lists steps results is image_is trace run =
    let laws : CoreLaws = record {
      advanced_sound = c.cores_stay_sound.ensures.advanced;
      advanced_memory = c.cores_stay_sound.ensures.advanced_memory;
      advanced_pairing = c.cores_stay_sound.ensures.advanced_pairing;
      advanced_fetching = c.cores_stay_sound.ensures.advanced_fetching;
      answered_sound = c.cores_stay_sound.ensures.answered;
      answered_memory = c.cores_stay_sound.ensures.answered_memory;
      answered_pairing = c.cores_stay_sound.ensures.answered_pairing;
      answered_fetching = c.cores_stay_sound.ensures.answered_fetching;
      paired_right = c.accesses_are_paired_right.ensures.next;
    } in
    run_fits image image_is laws machine c.reached_cores_are_sound.ensures is
    (λ comps others one other. c.fresh_components_are_one.ensures machine others comps other one) lists steps results trace run
