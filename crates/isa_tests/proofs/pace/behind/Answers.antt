use Rattle.std.proofs.Common.{ap}
use Rattle.pipe_core.specs.Pace.{PaceState}
use Rattle.isa_tests.proofs.pace.behind.Goals as goal

pub issue-requires-clause-clock : goal.issue-requires-clause-clock
issue-requires-clause-clock c =
    (c.issues_are_soon.ensures.room c.args.pace.now c.args.i c.args.pc c.args.clock c.args.taken c.requires.goes_on c.requires.small).clock_small

pub issue-requires-clause-ready : goal.issue-requires-clause-ready
issue-requires-clause-ready c =
    (c.issues_are_soon.ensures.room c.args.pace.now c.args.i c.args.pc c.args.clock c.args.taken c.requires.goes_on c.requires.small).ready_small

pub returns : goal.returns
returns c = record {
  goes_on = rw (c.issue.ensures.clock, c.issue.ensures.pace) (c.issues_are_soon.ensures.soon c.args.pace.now c.args.i c.args.pc c.args.clock c.args.taken c.requires.goes_on).goes_on;
  pipe = ap (λ (p : PaceState). p.pipe) c.issue.ensures.pace;
}
