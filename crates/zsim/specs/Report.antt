-- The report of a run.
use Rattle.std.specs.Prelude.{ℕ, Bool, List}
use Rattle.machine_desc.specs.declared.machine.Machine.{Machine}
use Rattle.reference.specs.Results.{Results}
use Rattle.report.specs.ReportText.{report_text}

-- the report of what a run on a machine gave, whole or brief
abbrev pub report_of : Machine → (brief : Bool) → Results → List ℕ
report_of machine brief r = report_text machine r.counts r.cores r.intervals brief
