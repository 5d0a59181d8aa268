use Rattle.std.proofs.Common.{◌∙◌}
use Rattle.l1_cache.proofs.Instructions.{has_by}
use Rattle.l1_cache.proofs.l1.L1.has_instructions.Goals as goal

pub returns : goal.returns
returns c =
    rw (← c.self.view_is)
    (c.is_some.ensures ∙ has_by c.self.invariant c.args.line c.find.result c.find.ensures.some c.find.ensures.here c.find.ensures.none)
