use Rattle.std.proofs.Common.{subst}
use Rattle.profile.specs.Profiled.{Profiled, added_in}
use Rattle.profile.specs.Rows.{IsNext, has_line}
use Rattle.profile.proofs.Right.{profiled}
use Rattle.profile.proofs.profile.Profile.next_line.Goals as goal

pub returns : goal.returns
returns c =
    let p = c.self.inside in
    subst (λ (q : Profiled). IsNext (has_line (added_in q) c.args.core) c.args.from c.next_line.result) c.self.view_is
    (c.next_line.ensures (added_in (profiled p.net.path p.cores p.comps p.every p.told.steps)) c.self.invariant.parts.rows)
