use Rattle.reference.proofs.CoreKept.{CoreLaws}
use Rattle.reference.proofs.PairedPhases.{histories_are_paired, phases_are_paired}
use Rattle.reference.proofs.laws.accesses_are_paired_right.Goals as goal

pub returns : goal.returns
returns c =
    let laws : CoreLaws = record {
      advanced_sound = c.cores_stay_sound.ensures.advanced;
      advanced_memory = c.cores_stay_sound.ensures.advanced_memory;
      advanced_pairing = c.cores_stay_sound.ensures.advanced_pairing;
      advanced_fetching = c.cores_stay_sound.ensures.advanced_fetching;
      answered_sound = c.cores_stay_sound.ensures.answered;
      answered_memory = c.cores_stay_sound.ensures.answered_memory;
      answered_pairing = c.cores_stay_sound.ensures.answered_pairing;
      answered_fetching = c.cores_stay_sound.ensures.answered_fetching;
      paired_right = c.accesses_are_paired_right.ensures.next;
    } in
    record {
      phases = λ time image end cores m numbers s sound phase. phases_are_paired laws time image end cores m numbers s sound phase;
      histories = λ time image end cores shards entries sound history. histories_are_paired laws time image end (c.histories_are_phases.ensures time image end) cores shards entries sound history;
    }
