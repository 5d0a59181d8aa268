use Rattle.std.proofs.Common.{◌≡◌, Some, None}
use Rattle.std.specs.List.{position}
use Rattle.std.specs.Prelude.{nat_eq}
use Rattle.mesi_dir.proofs.Rows.{row_some, row_none}
use Rattle.mesi_dir.proofs.directory.Directory.found.Goals as goal

pub returns-in-Some-clause-some : goal.returns-in-Some-clause-some
returns-in-Some-clause-some c =
    let at : position (nat_eq c.args.line) c.self.inside.tags.items ≡ Some c.in-Some.place = cc in
    rw (← c.self.view_is) (row_some c.self.invariant c.args.line at c.index.result.now c.index.ensures)

pub returns-in-None-clause-none : goal.returns-in-None-clause-none
returns-in-None-clause-none c =
    let at : position (nat_eq c.args.line) c.self.inside.tags.items ≡ None = cc in
    rw (← c.self.view_is) (row_none c.self.invariant c.args.line at)
