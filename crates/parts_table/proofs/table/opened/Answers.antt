use Rattle.std.proofs.Common.{◌≡◌, ℕ, List, sym, ap, subst}
use Rattle.std.specs.Prelude.{Option}
use Rattle.atomic_table.specs.Table.{opening}
use Rattle.parts_table.specs.declared.part.TimedPart.{TimedPart}
use Rattle.parts_table.specs.Rule.{AreHoldsAtTable}
use Rattle.parts_table.specs.Views.{first_view}
use Rattle.parts_table.proofs.Seating.{begins}
use Rattle.parts_table.proofs.table.opened.Goals as goal

pub new-requires : goal.new-requires
new-requires c =
    let cores : ℕ = c.args.cores in
    let banks : ℕ = c.args.banks in
    let room : ℕ = c.args.room in
    let slots : List (Option TimedPart) = c.args.slots.items in
    let items : c.of.result.value.items ≡ slots = ap (λ v. v.items) c.of.ensures in
    subst (λ (xs : List (Option TimedPart)). AreHoldsAtTable xs cores banks room (opening c.args.words.now slots (first_view xs cores banks room))) (sym items)
    (subst (λ (ws : List ℕ). AreHoldsAtTable slots cores banks room (opening ws slots (first_view slots cores banks room))) (sym c.requires.words)
    (begins slots cores banks room c.requires.parts c.requires.cores.0))
