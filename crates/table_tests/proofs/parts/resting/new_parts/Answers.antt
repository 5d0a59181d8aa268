-- The machine has one bank, whose shard has all lines.
use Rattle.std.proofs.Common.{sym, subst, ◌∙◌}
use Rattle.table_tests.specs.PartsTested.{IsOneShard}
use Rattle.table_tests.proofs.PartsAsking.{new_is_one}
use Rattle.table_tests.proofs.parts.resting.new_parts.Goals as goal

pub returns : goal.returns
returns c =
    let m = c.in_ok-machine.ensures in
    let image = c.in_ok-image.ensures in
    subst IsOneShard (sym c.in_ok-parts.ensures)
    (new_is_one c.in_ok-machine.machine c.in_ok-image.image m.cores m.banks (image.base ∙ m.base) (image.size ∙ m.size))
