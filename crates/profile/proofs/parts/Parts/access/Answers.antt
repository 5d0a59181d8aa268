use Rattle.std.proofs.Common.{ℕ, [], ◌∷◌, ◌++◌, Some, refl, subst}
use Rattle.noc_mesh.specs.NetTiming.{net_time}
use Rattle.profile.specs.declared.contribution.Contribution.{Contribution}
use Rattle.profile.specs.declared.parts.Parts.{Parts}
use Rattle.profile.specs.Contributions.{access_adds}
use Rattle.profile.specs.CopyTables.{copies_in}
use Rattle.profile.specs.Rows.{AreRows}
use Rattle.profile.proofs.PartsMore.{access_more}
use Rattle.profile.proofs.parts.Parts.access.Goals as goal

pub returns-clause-parts : goal.returns-clause-parts
returns-clause-parts c = λ steps parts.
    let new : Parts = record { copies = c.pass.new.self; makers = c.put_maker.new.makers; rows = c.add_suffered.new.rows } in
    let e = c.args.entry.now in
    let time = net_time c.args.net.now.path in
    let adds : Contribution = access_adds time c.args.cores (copies_in c.args.self.now.copies.of_data.items c.args.self.now.copies.of_instructions.items) c.args.pc e in
    let changed = c.change.new.self in
    access_more time c.args.cores steps c.args.self.now new parts c.args.pc e c.args.leaving.now adds refl changed
    (λ cs rows.
    subst (λ (n : ℕ). AreRows (cs ++ record { core = e.core; pc = Some c.args.pc; line = n; tally = adds.tally } ∷ []) changed.addresses.items changed.lines.items) c.line.ensures
    (c.in_ok-change.ensures cs adds.tally c.met-met.ensures rows))
    c.in_ok-add_suffered.ensures c.in_ok-pass.ensures c.in_ok-put_maker.ensures
