use Rattle.std.proofs.Common.{◌≡◌, ℕ, subst, sym}
use Rattle.rv_blocks.specs.Slots.{AreMeant, AreMeantSoFar}
use Rattle.rv_blocks.proofs.making.slots_of.Goals as goal

pub join-requires-clause-meant : goal.join-requires-clause-meant
join-requires-clause-meant c =
    let image = c.args.image.now in
    let slots = c.fill.new.slots.items in
    let value = c.deref_mut.ensures.value in
    let same : c.deref_mut.result.now ≡ slots = cc in
    let P : ℕ → Type 0 = λ count. AreMeantSoFar image (record { first = c.args.first; count = count }) slots in
    subst (AreMeant image c.args.first) (sym same) (subst P (sym c.fill.ensures.count) c.fill.ensures.meant)
