use Rattle.std.proofs.Common.{ap}
use Rattle.noc_mesh.specs.Passages.{Passage}
use Rattle.noc_mesh.proofs.SameWay.{same_way}
use Rattle.noc_mesh.proofs.laws.events_are_of_lines_and_outcomes.Goals as goal

pub returns : goal.returns
returns c = λ path e other core line fetch outcome. (
    let same = same_way path e other core line fetch outcome in
    (ap (λ (p : Passage). p.pieces) same, ap (λ (p : Passage). p.end) same)
    )
