use Rattle.std.proofs.Common.{refl}
use Rattle.l1_cache.proofs.Views.{not_shared, parts_written, shared_then}
use Rattle.l1_cache.proofs.l1.L1.share.Goals as goal

pub invariant_of-self : goal.invariant_of-self
invariant_of-self c = parts_written c.self.invariant c.set_kept.ensures.ways c.set_kept.ensures.same

pub returns-in-Some : goal.returns-in-Some
returns-in-Some c =
    rw (← c.self.view_is)
    (shared_then c.self.invariant c.set_kept.ensures.ways c.set_kept.ensures.same c.args.line c.in-Some.place c.in-Some.ensures.here _ refl c.set_kept.ensures.kept)

pub returns-in_default : goal.returns-in_default
returns-in_default c = rw (← c.self.view_is) (not_shared c.self.invariant c.args.line c.in_default.ensures.none)
