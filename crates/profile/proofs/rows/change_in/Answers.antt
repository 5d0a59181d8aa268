use Rattle.std.proofs.Common.{ℕ, ◌≡◌, ◌==◌, ◌&&◌, if◌then◌else◌, subst}
use Rattle.sparse_table.specs.ByCore.{value_at}
use Rattle.profile_rows.specs.Tallies.{no_tally}
use Rattle.profile.proofs.RowsMore.{changed_there}
use Rattle.profile.proofs.rows.change_in.Goals as goal

pub returns-clause-values : goal.returns-clause-values
returns-clause-values g c =
    let old = value_at no_tally c.args.tables.now.items in
    let new = value_at no_tally c.change_there.new.tables.items in
    let changed = g.C.Change.changed c.args.by.now in
    subst (λ (core : ℕ). (of n : ℕ) → new of n ≡ (if core == of && c.args.number == n then changed (old of n) else old of n)) c.from-place.ensures
    (changed_there c.from-place.result c.args.number old new changed c.in_ok-change_there.ensures.ok)
