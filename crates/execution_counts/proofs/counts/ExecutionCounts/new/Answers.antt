use Rattle.std.proofs.Common.{◌∙◌, ℕ, List, ap₂}
use Rattle.sparse_table.specs.Sparse.{Sparse}
use Rattle.execution_counts.specs.declared.stretch.Stretch.{Stretch}
use Rattle.execution_counts.specs.Counted.{counted}
use Rattle.execution_counts.proofs.Counting.{none_counted}
use Rattle.execution_counts.proofs.counts.ExecutionCounts.new.Goals as goal

pub returns : goal.returns
returns c = λ core n.
    ap₂ (λ (singles : List (Sparse ℕ)) (stretches : List (Sparse Stretch)). counted (record { singles = singles; stretches = stretches }) core n) c.new.ensures.items c.new-2.ensures.items
    ∙ none_counted n
