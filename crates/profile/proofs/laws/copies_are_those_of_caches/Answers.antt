use Rattle.shard.specs.NewCaches.{new_caches}
use Rattle.profile.specs.Copies.{no_copies}
use Rattle.profile.proofs.CopiesHeld.{new_cores, none_at_first, stay_of_caches}
use Rattle.profile.proofs.OthersCopies.{all_tell_of_others}
use Rattle.profile.proofs.WhyLeft.{all_leave_for_reasons}
use Rattle.profile.proofs.laws.copies_are_those_of_caches.Goals as goal

pub returns-clause-held : goal.returns-clause-held
returns-clause-held c machine image lists steps results is image_is trace run =
    stay_of_caches c.coherence_stays.ensures c.copies_behind.ensures.«data» c.copies_behind.ensures.instructions no_copies (new_caches machine) steps
    (none_at_first c.new_shards_stand.ensures machine image is)
    (c.accesses_are_met.ensures machine image lists steps results is image_is trace run)

pub returns-clause-others : goal.returns-clause-others
returns-clause-others c machine image lists steps results is image_is trace run =
    all_tell_of_others c.coherence_stays.ensures c.copies_behind.ensures.«data» c.copies_behind.ensures.instructions machine.cores no_copies (new_caches machine) steps
    (none_at_first c.new_shards_stand.ensures machine image is)
    (new_cores machine)
    (c.accesses_are_met.ensures machine image lists steps results is image_is trace run)

pub returns-clause-reasons : goal.returns-clause-reasons
returns-clause-reasons c machine image lists steps results is image_is trace run =
    all_leave_for_reasons c.coherence_stays.ensures c.copies_behind.ensures.«data» c.copies_behind.ensures.instructions c.copies_behind.ensures.shared no_copies (new_caches machine) steps
    (none_at_first c.new_shards_stand.ensures machine image is)
    (c.accesses_are_met.ensures machine image lists steps results is image_is trace run)
