use Rattle.pipe_core.proofs.Soon.{soon_has_room}
use Rattle.bound_core.proofs.paced.behind.Goals as goal

pub issue-requires-clause-clock : goal.issue-requires-clause-clock
issue-requires-clause-clock c =
    (soon_has_room c.in-Some.pace c.in-Instruction.inst c.args.pc c.args.clock c.args.taken (rw c.in-Some.is at c.requires.soon) c.requires.clock).clock_small

pub issue-requires-clause-ready : goal.issue-requires-clause-ready
issue-requires-clause-ready c =
    (soon_has_room c.in-Some.pace c.in-Instruction.inst c.args.pc c.args.clock c.args.taken (rw c.in-Some.is at c.requires.soon) c.requires.clock).ready_small
