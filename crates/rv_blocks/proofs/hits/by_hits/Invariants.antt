-- The core has come here, and the port is of the same core and machine.
use Rattle.std.proofs.Common.{◌≡◌, None, ◌+◌, ◌-◌, ◌*◌, ◌<◌, ◌≤◌, length}
use Rattle.std.specs.Prelude.{IsSome}
use Rattle.rv_blocks.specs.Coming.{moment_at, HasCome}
use Rattle.rv_blocks.proofs.hits.by_hits.Given as goal

abbrev pub invariant-next : goal.invariant-next
invariant-next g l =
    let port = g.Q.Port in
    record {
      within : l.here.place < length l.slots;
      paid : l.here.left.cycles + l.here.left.waited ≤ l.stint.end - l.stint.clock;
      come : HasCome l.image l.memory l.stint port.gives port.core port.logged port.room l.stint.accesses l.here.left.accesses
          (record { registers = l.fn.x; pc = l.first + 4 * l.fn.place; line = l.fn.line; clock = l.stint.clock; count = 0; port = l.fn.port })
          (moment_at l.stint l.x (l.first + 4 * l.here.place) l.here.line l.here.left l.port);
      line : IsSome l.fn.line → IsSome l.here.line;
      no_line : l.fn.line ≡ None → l.here.line ≡ None;
      core : port.core l.port ≡ port.core l.fn.port;
      base : port.base l.port ≡ port.base l.fn.port;
      size : port.size l.port ≡ port.size l.fn.port;
      l1i : port.l1i l.port ≡ port.l1i l.fn.port;
    }

abbrev pub decreases-next : goal.decreases-next
decreases-next g l = l.here.left.cycles
