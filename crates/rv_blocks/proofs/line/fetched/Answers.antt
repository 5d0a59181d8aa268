use Rattle.rv_blocks.proofs.Coming.{comes_by_fetch}
use Rattle.rv_blocks.proofs.line.fetched.Goals as goal

pub returns-clause-come : goal.returns-clause-come
returns-clause-come g c =
    comes_by_fetch c.args._image.now c.args.memory.now c.args.stint.now g.Q.Port.gives g.Q.Port.core g.Q.Port.logged g.Q.Port.room c.args.latest c.args.pc c.args.left _ _ c.fetched_anew.result
    c.fetched_anew.ensures.made c.fetched_anew.ensures.accesses c.fetched_anew.ensures.port_room
