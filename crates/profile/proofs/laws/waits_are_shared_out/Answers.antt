use Rattle.std.proofs.Common.{[], refl}
use Rattle.profile.specs.Contributions.{nothing_before}
use Rattle.profile.proofs.WaitsShared.{each_shares_out}
use Rattle.profile.proofs.laws.waits_are_shared_out.Goals as goal

pub returns : goal.returns
returns c machine image lists steps results is trace run =
    each_shares_out c.net_accesses_beyond_hits_have_events.ensures machine machine.cores [] nothing_before steps refl
    (c.accesses_are_of_intervals.ensures.each machine image lists steps results is trace run)
