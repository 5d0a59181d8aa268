-- what was written and the lines of the rest are all lines
use Rattle.std.proofs.Common.{◌≡◌, ◌++◌, string_bytes, drop}
use Rattle.report.specs.ReportText.{numbered_lines, component_line}
use Rattle.report.proofs.component_lines.write_components.Given as goal

abbrev pub invariant-loop-n : goal.invariant-loop-n
invariant-loop-n l =
    string_bytes l.text ++ numbered_lines (component_line l.kind) l.n (drop l.n l.components)
    ≡ string_bytes l.initial.text ++ numbered_lines (component_line l.kind) 0 l.components
