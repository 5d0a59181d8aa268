use Rattle.std.proofs.Common.{◌++◌, List, ℕ, ap, string_bytes, append_assoc, rules}
use Rattle.std.proofs.lemmas.Result.{IfOk-equal}
use Rattle.report.specs.ReportText.{core_line, console_line}
use Rattle.report.proofs.core_lines.write_core.Goals as goal

pub returns : goal.returns
returns c =
    let line = core_line c.args.version c.args.number c.args.core.now.timed c.args.count.now in
    let written : List ℕ → List ℕ = λ console. string_bytes c.args.text.now ++ (line ++ console_line c.args.number console) in
    IfOk-equal _ _ _ _ c.write_console_line.ensures (rw (c.in_ok-write_core_line.ensures, append_assoc) (ap written (search rules)))
