use Rattle.std.proofs.Common.{◌≡◌, ℕ, sym, subst, ◌≤◌, get_or, Some}
use Rattle.std.specs.List.{position}
use Rattle.std.specs.Prelude.{nat_eq, unwrap_or}
use Rattle.lanes.specs.Words.{least_of}
use Rattle.cache_set.proofs.Oldest.{oldest}
use Rattle.cache_set.proofs.ages.next_place.Goals as goal

pub returns-in-Some-clause-oldest : goal.returns-in-Some-clause-oldest
returns-in-Some-clause-oldest c place within =
    let least : least_of c.args.ages.now ≡ Some c.in-Some.age = cc in
    let is : c.unwrap_or.result ≡ unwrap_or (position (λ y. nat_eq y c.in-Some.age) c.args.ages.now) 0 = cc in
    subst (λ (r : ℕ). get_or c.args.ages.now r 0 ≤ get_or c.args.ages.now place 0) (sym is) (oldest c.args.ages.now c.in-Some.age place least within)
