-- what was written and the fields that are left are all fields
use Rattle.std.proofs.Common.{◌≡◌, ◌++◌, string_bytes, drop, map}
use Rattle.report.specs.ReportText.{labelled}
use Rattle.report.proofs.fields.write_labelled.Given as goal

abbrev pub invariant-loop-label : goal.invariant-loop-label
invariant-loop-label l =
    string_bytes l.text ++ labelled (map (λ field. (field.0.now, field.1)) (drop l.label-index l.fields))
    ≡ string_bytes l.initial.text ++ labelled (map (λ field. (field.0.now, field.1)) l.fields)
