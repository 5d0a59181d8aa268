use Rattle.std.proofs.Common.{◌≡◌, ℕ, ◌≤◌, List, length, get_or, sym, subst}
use Rattle.cache_set.specs.Ages.{renumbered}
use Rattle.cache_set.proofs.Renumbered.{ranks_are_few}
use Rattle.cache_set.proofs.ages.renumber.Goals as goal

pub returns-clause-most : goal.returns-clause-most
returns-clause-most c place within =
    let is : c.write_ranks.new.ages ≡ renumbered c.args.ages.now = cc in
    subst (λ (l : List ℕ). get_or l place 0 ≤ length l) (sym is) (ranks_are_few c.args.ages.now place within)
