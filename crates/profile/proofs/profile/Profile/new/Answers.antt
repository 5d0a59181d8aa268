use Rattle.profile.proofs.Right.{begun}
use Rattle.profile.proofs.profile.Profile.new.Goals as goal

pub invariant_of-result : goal.invariant_of-result
invariant_of-result c =
    begun c.args.net.path c.args.cores c.args.comps c.args.every c.new.result.steps c.new-2.result c.new-3.result c.new-4.result c.new.ensures c.new-2.ensures c.new-3.ensures c.new-4.ensures
