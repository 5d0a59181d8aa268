use Rattle.shard.specs.NewCaches.{new_caches}
use Rattle.reference.specs.ReferenceRun.{time_of}
use Rattle.profile.specs.Copies.{no_copies}
use Rattle.profile.proofs.Classes.{classes_add_up}
use Rattle.profile.proofs.CopiesHeld.{find_what_is_held, none_at_first}
use Rattle.profile.proofs.laws.copies_are_the_machines.Goals as goal

pub returns-clause-copies : goal.returns-clause-copies
returns-clause-copies c machine image lists steps results is image_is trace run =
    find_what_is_held c.coherence_stays.ensures c.copies_behind.ensures.«data» c.copies_behind.ensures.instructions no_copies (new_caches machine) steps
    (none_at_first c.new_shards_stand.ensures machine image is)
    (c.accesses_are_met.ensures machine image lists steps results is image_is trace run)

pub returns-clause-classes : goal.returns-clause-classes
returns-clause-classes c machine image lists steps results is image_is trace run test =
    classes_add_up test (time_of machine) machine.cores steps
    (returns-clause-copies c machine image lists steps results is image_is trace run)
