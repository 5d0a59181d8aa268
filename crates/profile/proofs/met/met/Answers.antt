use Rattle.std.proofs.Common.{ℕ, ◌∙◌, ap₂, subst}
use Rattle.profile.specs.Added.{Adds, with_met}
use Rattle.profile.specs.Contributions.{access_tally}
use Rattle.profile.specs.Copies.{own_copy}
use Rattle.profile.specs.CopyTables.{copies_in}
use Rattle.profile_rows.specs.declared.tally.Tally.{Tally}
use Rattle.profile.proofs.MetAdds.{met_adds}
use Rattle.profile.proofs.met.met.Goals as goal

pub returns : goal.returns
returns c =
    let e = c.args.entry.now in
    let own = own_copy (copies_in c.args.copies.now.of_data.items c.args.copies.now.of_instructions.items) e in
    subst (λ (more : Tally). Adds (with_met (record { request = e.request; outcome = e.outcome; copy = c.copy_met.result; taken = c.taken_away.result; cycles = c.time.result })) more)
    (c.copy_met.ensures c.taken_away.result c.time.result ∙ ap₂ (λ (taken cycles : ℕ). access_tally e own taken cycles) c.taken_away.ensures c.time.ensures)
    (met_adds e c.copy_met.result c.taken_away.result c.time.result c.requires)
