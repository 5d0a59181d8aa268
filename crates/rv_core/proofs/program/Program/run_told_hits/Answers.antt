use Rattle.std.proofs.Common.{refl}
use Rattle.rv_core.proofs.Nowhere.{told_nowhere}
use Rattle.rv_core.proofs.program.Program.run_told_hits.Goals as goal

pub returns-clause-gone : goal.returns-clause-gone
returns-clause-gone g c =
    let at = c.nowhere.ensures in
    told_nowhere (g.Self.Program.image c.args.self.now) c.args._memory.now c.args._stint.now g.Q.Port.gives g.Q.Port.core g.Q.Port.logged g.Q.Port.room
    c.args._way.now.items c.nowhere.result.accesses _ _ at.accesses refl at.pc at.line at.clock at.count refl c.requires.begins
