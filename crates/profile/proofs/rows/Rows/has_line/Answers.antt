use Rattle.std.proofs.Common.{ap, ◌∙◌}
use Rattle.profile.specs.Rows.{is_something}
use Rattle.profile.proofs.LinesTold.{line_told}
use Rattle.profile.proofs.rows.Rows.has_line.Goals as goal

pub returns : goal.returns
returns c = λ cs rows.
    c.is_something.ensures ∙ ap is_something c.value_at.ensures ∙ line_told cs c.args.self.now.addresses.items c.args.self.now.lines.items rows c.args.core c.args.line
