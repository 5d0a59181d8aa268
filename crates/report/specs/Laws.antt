-- What is true of the text of every report.
use Rattle.std.specs.Prelude.{◌≡◌, ◌<◌, ℕ, List, All}
use Rattle.report.specs.ReportText.{printed}

-- different consoles are printed differently
abbrev pub ConsolesArePrintedApart : Type 0
ConsolesArePrintedApart = (first second : List ℕ) → All (λ b. b < 256) first → All (λ b. b < 256) second → printed first ≡ printed second → first ≡ second
