-- Whether the core has reserved the bytes decides what is stored and answered.
use Rattle.std.proofs.Common.{◌≡◌, ◌∙◌, None, ap, arith, get_or, tests}
use Rattle.std.proofs.lemmas.List.{get_or_default, get_or_read}
use Rattle.flat_memory.specs.FlatMemory.{MemoryState, is_reserved, reserving}
use Rattle.flat_memory.proofs.memory.FlatMemory.store_conditional.Goals as goal
use Rattle.flat_memory.proofs.memory.FlatMemory.store_conditional.Goals.{then-stores, else-stores}

pub returns-clause-reply : goal.returns-clause-reply
unfolding is_reserved
returns-clause-reply c = λ paired. grind (arith, tests, get_or_default)

pub returns-clause-after : goal.returns-clause-after
unfolding is_reserved
returns-clause-after c = λ paired.
    let mark : c.index.result.now ≡ get_or c.self.inside.reservations.items c.args.core None =
    get_or_read c.self.inside.reservations.items c.args.core _ (rw (← c.self.view_is) at c.requires.core) (rw c.from.ensures at c.index.ensures) None in
    let reserved : c.is_reserved-stores.result ≡ is_reserved c.args.self.now c.args.core c.args.addr c.args.width =
    rw (← c.self.view_is, ← mark) c.is_reserved-stores.ensures in
    let ended = λ (m : MemoryState). reserving m c.args.core None in
    elim c.if-stores.branch [
      | then-stores w ↦ rw (← reserved, w.if-stores.true, c.from-2.ensures) (ap ended (c.self-2.view_is ∙ (w.self-is ∙ w.write.ensures.value)))
      | else-stores w ↦ rw (← reserved, w.if-stores.false, c.from-2.ensures) (ap ended (c.self-2.view_is ∙ w.self-is))
    ]
