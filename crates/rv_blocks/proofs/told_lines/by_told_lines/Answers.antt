use Rattle.rv_blocks.proofs.Telling.{has_all, has_told}
use Rattle.rv_blocks.proofs.told_lines.by_told_lines.Goals as goal

pub returns-clause-gone : goal.returns-clause-gone
returns-clause-gone g c =
    let stint = c.args.stint.now in
    let last = c.by_lines-last in
    has_told c.args.image.now c.args.memory.now stint g.Q.Port.gives g.Q.Port.core g.Q.Port.logged g.Q.Port.room last.result.gone.left.accesses _ _ c.args.way.now.items c.tell_rest.new.way.items
    (has_all c.args.image.now c.args.memory.now stint g.Q.Port.gives g.Q.Port.core g.Q.Port.logged g.Q.Port.room stint.accesses last.result.gone.left.accesses _ _ c.args.way.now.items last.new.way.items c.tell_rest.new.way.items _ 0 0 last.ensures.told c.tell_rest.ensures.told)
