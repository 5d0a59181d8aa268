use Rattle.profile.specs.declared.contribution.Contribution.{Contribution}
use Rattle.profile.proofs.RowsMore.{rows_more}
use Rattle.profile.proofs.rows.Rows.change.Goals as goal

pub returns : goal.returns
returns g c = λ cs more adds rows.
    let own : Contribution = record { core = c.args.core; pc = c.args.pc; line = c.args.line; tally = more } in
    rows_more cs own c.args.self.now.addresses.items c.change_where.new.tables.items c.args.self.now.lines.items c.change_in.new.tables.items rows
    (g.C.Change.changed c.args.by.now) adds c.in_ok-change_where.ensures.values c.in_ok-change_in.ensures.values c.change_where.ensures.none c.change_in.ensures.none
