use Rattle.reference.proofs.CoreKept.{CoreLaws}
use Rattle.reference.proofs.ShardsTurn.{shards_do_as_machine}
use Rattle.reference.proofs.laws.shards_do_as_the_machine.Goals as goal

pub returns : goal.returns
returns c time image end s t related numbers place =
    let laws : CoreLaws = record {
      advanced_sound = c.cores_stay_sound.ensures.advanced;
      advanced_memory = c.cores_stay_sound.ensures.advanced_memory;
      advanced_pairing = c.cores_stay_sound.ensures.advanced_pairing;
      advanced_fetching = c.cores_stay_sound.ensures.advanced_fetching;
      answered_sound = c.cores_stay_sound.ensures.answered;
      answered_memory = c.cores_stay_sound.ensures.answered_memory;
      answered_pairing = c.cores_stay_sound.ensures.answered_pairing;
      answered_fetching = c.cores_stay_sound.ensures.answered_fetching;
      paired_right = c.accesses_are_paired_right.ensures.next;
    } in
    shards_do_as_machine laws c.shards_stand_for_a_machine.ensures c.marks.ensures time image end s t related numbers place
