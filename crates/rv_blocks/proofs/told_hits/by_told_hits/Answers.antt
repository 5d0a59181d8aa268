use Rattle.std.proofs.Common.{◌+◌, ◌-◌, ◌*◌, List, None, [], arith, sym, subst}
use Rattle.rv_core.specs.declared.leg.Leg.{Leg}
use Rattle.rv_blocks.specs.Coming.{moment_at}
use Rattle.rv_blocks.specs.Telling.{HasTold}
use Rattle.rv_blocks.proofs.Telling.{has_last, has_no_last, has_told}
use Rattle.rv_blocks.proofs.told_hits.by_told_hits.Goals.{then-last-place, else-last-place}
use Rattle.rv_blocks.proofs.told_hits.by_told_hits.Goals as goal

pub returns-clause-gone : goal.returns-clause-gone
returns-clause-gone g c =
    let stint = c.args.stint.now in
    let last = c.by_legs-last.result in
    let legs = c.by_legs-last.new.way.items in
    let from = c.args.first + 4 * last.from in
    let count = last.gone.place - last.from in
    let P : List Leg → Type 0 = λ legs_after. HasTold c.args.image.now c.args.memory.now stint g.Q.Port.gives g.Q.Port.core g.Q.Port.logged g.Q.Port.room stint.accesses last.gone.left.accesses
    (record { registers = c.args.x.now; pc = c.args.first + 4 * c.args.place; line = None; clock = stint.clock; count = 0; port = c.args.port.now })
    (moment_at stint c.by_legs-last.new.x (c.args.first + 4 * last.gone.place) None last.gone.left c.by_legs-last.new.port) c.args.way.now.items legs_after [] in
    let all : P c.if-last-place.way'.items = elim c.if-last-place.branch [
      | then-last-place w ↦ subst (λ way. P way.items) (sym w.way'-is)
          (has_last c.args.image.now c.args.memory.now stint g.Q.Port.gives g.Q.Port.core g.Q.Port.logged g.Q.Port.room stint.accesses last.gone.left.accesses _ _ _ _ _ from count c.by_legs-last.ensures.told w.tell.ensures.told)
      | else-last-place w ↦ subst (λ way. P way.items) (sym w.way'-is)
          (has_no_last c.args.image.now c.args.memory.now stint g.Q.Port.gives g.Q.Port.core g.Q.Port.logged g.Q.Port.room stint.accesses last.gone.left.accesses _ _ _ _ from count c.by_legs-last.ensures.told (omega (arith, w.if-last-place.false)))
    ] in
    has_told c.args.image.now c.args.memory.now stint g.Q.Port.gives g.Q.Port.core g.Q.Port.logged g.Q.Port.room last.gone.left.accesses _ _ _ _ all
