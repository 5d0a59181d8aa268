use Rattle.std.proofs.Common.{◌≡◌, false, Option, ℕ, subst, sym}
use Rattle.profile.specs.Profiled.{Profiled, has_address}
use Rattle.profile.specs.Rows.{IsCandidate}
use Rattle.profile_rows.specs.Tallies.{no_tally}
use Rattle.profile.proofs.AddressesTold.{earlier_is, no_address}
use Rattle.profile.proofs.Right.{profiled}
use Rattle.profile.proofs.profile.Profile.next_place.Goals as goal

pub returns-clause-next : goal.returns-clause-next
returns-clause-next c =
    let p = c.self.inside in
    let q : Profiled = profiled p.net.path p.cores p.comps p.every p.told.steps in
    let right = c.self.invariant in
    subst (λ (s : Profiled). IsCandidate (has_address s c.args.core) c.args.from c.earlier.result) c.self.view_is
    (subst (λ (next : Option ℕ). IsCandidate (has_address q c.args.core) c.args.from next) (sym c.earlier.ensures)
    (earlier_is q p.instructions p.parts p.series right c.args.core c.args.from c.next-executed.result c.next_set-accessed.result
    c.next-executed.ensures.behind c.next_set-accessed.ensures.behind c.next-executed.ensures.next (c.next_set-accessed.ensures.next no_tally right.parts.rows.none_at_addresses)))

pub returns-clause-last : goal.returns-clause-last
returns-clause-last c = λ n le.
    let p = c.self.inside in
    let q : Profiled = profiled p.net.path p.cores p.comps p.every p.told.steps in
    let right = c.self.invariant in
    subst (λ (s : Profiled). has_address s c.args.core n ≡ false) c.self.view_is
    (no_address q p.instructions p.parts p.series right c.args.core n (c.next-executed.ensures.last n le)
    (c.next_set-accessed.ensures.last no_tally right.parts.rows.none_at_addresses n le))
