use Rattle.std.proofs.Common.{rules}
use Rattle.trace.proofs.Rising.{knows_after}
use Rattle.trace.proofs.logged_port.LoggedPort.log.Goals as goal

pub invariant_of-self : goal.invariant_of-self
invariant_of-self g c =
    knows_after c.self.inside.last c.self.inside.rises c.rises_to-self-inside.result c.self.inside.entries.items c.push_reserved.new.self.items c.args.entry.now
    (record { latest = c.self.invariant.latest; rising = c.self.invariant.rising }) c.rises_to-self-inside.ensures (search rules)
