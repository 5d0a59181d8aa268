-- the turns so far, and room for those that are left
use Rattle.std.proofs.Common.{◌≡◌, ◌≤◌, ◌+◌}
use Rattle.reference.specs.IntervalBounds.{latest_clock, most_accesses}
use Rattle.bound_core.specs.Taken.{HasTaken}
use Rattle.bound_core.proofs.bounded.BoundCore.run_one.Given as goal

abbrev pub invariant-loop : goal.invariant-loop
invariant-loop g l =
    let first = l.initial.self in
    record {
      taken : HasTaken (g.X.Expand.time l.expansion) (g.P.Program.image l.program) l.end g.Q.Port.gives g.Q.Port.logged first.number l.initial.port l.port first.timed l.self.timed;
      core : g.Q.Port.core l.port ≡ l.self.number;
      base : g.Q.Port.base l.port ≡ l.self.timed.core.memory.base;
      size : g.Q.Port.size l.port ≡ l.self.timed.core.memory.size;
      room : most_accesses l.end l.self.timed + 1 ≤ g.Q.Port.room l.port;
      spare : most_accesses l.end l.self.timed + 1 ≤ l.self.spare;
      begun : first.timed.clock ≤ l.self.timed.clock;
      latest : latest_clock l.end l.self.timed ≤ latest_clock l.end first.timed;
      number : l.self.number ≡ first.number;
      memory : l.self.timed.core.memory ≡ first.timed.core.memory;
      fetching : l.self.timed.core.fetching ≡ first.timed.core.fetching;
      spare_left : first.spare + most_accesses l.end l.self.timed ≤ l.self.spare + most_accesses l.end first.timed;
      port_core : g.Q.Port.core l.port ≡ g.Q.Port.core l.initial.port;
      port_base : g.Q.Port.base l.port ≡ g.Q.Port.base l.initial.port;
      port_size : g.Q.Port.size l.port ≡ g.Q.Port.size l.initial.port;
      port_l1i : g.Q.Port.l1i l.port ≡ g.Q.Port.l1i l.initial.port;
      room_left : g.Q.Port.room l.initial.port + most_accesses l.end l.self.timed ≤ g.Q.Port.room l.port + most_accesses l.end first.timed;
    }

abbrev pub decreases-loop : goal.decreases-loop
decreases-loop g l = most_accesses l.end l.self.timed
