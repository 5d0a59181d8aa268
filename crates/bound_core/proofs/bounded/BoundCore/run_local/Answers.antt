use Rattle.reference.proofs.CoreKept.{CoreLaws}
use Rattle.bound_core.proofs.Meeting.{begun_soundly}
use Rattle.bound_core.proofs.bounded.BoundCore.run_local.Goals as goal

pub returns-clause-begun_sound : goal.returns-clause-begun_sound
returns-clause-begun_sound g c =
    let laws : CoreLaws = record {
      advanced_sound = c.cores_stay_sound.ensures.advanced;
      advanced_memory = c.cores_stay_sound.ensures.advanced_memory;
      advanced_pairing = c.cores_stay_sound.ensures.advanced_pairing;
      advanced_fetching = c.cores_stay_sound.ensures.advanced_fetching;
      answered_sound = c.cores_stay_sound.ensures.answered;
      answered_memory = c.cores_stay_sound.ensures.answered_memory;
      answered_pairing = c.cores_stay_sound.ensures.answered_pairing;
      answered_fetching = c.cores_stay_sound.ensures.answered_fetching;
      paired_right = c.accesses_are_paired_right.ensures.next;
    } in
    begun_soundly laws (g.P.Program.image c.args.program.now) c.args.end c.run_by_kind.result c.args.self.now.timed c.run_by_kind.new.self.timed c.run_by_kind.ensures.sound c.run_by_kind.ensures.value
