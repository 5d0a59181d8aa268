use Rattle.std.proofs.Common.{◌≡◌, false, refl, sym, ◌∙◌}
use Rattle.profile.specs.Contributions.{access_tally}
use Rattle.profile.specs.Copies.{finds_none}
use Rattle.profile.proofs.met.copy_met.Goals as goal

pub returns-else-finds_none : goal.returns-else-finds_none
unfolding access_tally
returns-else-finds_none c = λ taken cycles.
    let found : finds_none c.args.entry.now.outcome ≡ false = sym c.finds_none.ensures ∙ c.if-finds_none.false in
    rw found refl
