-- The rest of the chain.
use Rattle.weave_core.proofs.Chaining.{IsTelling}
use Rattle.weave_core.proofs.children.tell_children.Given as goal

abbrev pub invariant-loop-next : goal.invariant-loop-next
invariant-loop-next l = IsTelling l.links l.head l.finish l.next l.fn.waiting l.waiting

abbrev pub decreases-loop-next : goal.decreases-loop-next
decreases-loop-next l = l.next
