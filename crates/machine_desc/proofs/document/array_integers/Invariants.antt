use Rattle.std.proofs.Common.{◌≡◌, drop}
use Rattle.toml.specs.View.{items_view}
use Rattle.machine_desc.specs.Text.{integers_of}
use Rattle.machine_desc.proofs.Documents.{before}
use Rattle.machine_desc.proofs.document.array_integers.Given as goal

abbrev pub invariant-loop-element : goal.invariant-loop-element
invariant-loop-element l =
    integers_of (items_view l.element-items) ≡ before l.integers.items (integers_of (items_view (drop l.element-index l.element-items)))
