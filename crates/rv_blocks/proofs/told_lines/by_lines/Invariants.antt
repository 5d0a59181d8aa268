-- The core has come here, its legs are told but for the last, and the port is of the same core and machine. Where it may
-- make no access more, it might make none from the start.
use Rattle.std.proofs.Common.{◌≡◌, Some, ◌+◌, ◌-◌, ◌*◌, ◌<◌, ◌≤◌, length, vec_capacity, vec_len}
use Rattle.rv_core.specs.Told.{stretch_told}
use Rattle.rv_blocks.specs.Coming.{moment_at}
use Rattle.rv_blocks.specs.Telling.{HasTold}
use Rattle.rv_blocks.proofs.told_lines.by_lines.Given as goal

abbrev pub invariant-next : goal.invariant-next
invariant-next g l =
    let port = g.Q.Port in
    record {
      within : l.ip < length l.slots;
      from : l.from ≤ l.ip;
      paid : l.left.cycles + l.left.waited ≤ l.stint.end - l.stint.clock;
      ended : l.left.accesses ≡ 0 → l.stint.accesses ≡ 0;
      some : 0 < l.room;
      room : vec_len l.way + l.room ≡ vec_capacity l.way;
      told : HasTold l.image l.memory l.stint port.gives port.core port.logged port.room l.stint.accesses l.left.accesses
          (record { registers = l.fn.x; pc = l.first + 4 * l.fn.place; line = Some l.fn.line; clock = l.stint.clock; count = 0; port = l.fn.port })
          (moment_at l.stint l.x (l.first + 4 * l.ip) (Some l.latest) l.left l.port)
          l.fn.way.items l.way.items (stretch_told (l.first + 4 * l.from) (l.ip - l.from));
      core : port.core l.port ≡ port.core l.fn.port;
      base : port.base l.port ≡ port.base l.fn.port;
      size : port.size l.port ≡ port.size l.fn.port;
      l1i : port.l1i l.port ≡ port.l1i l.fn.port;
    }

abbrev pub decreases-next : goal.decreases-next
decreases-next g l = l.left.cycles + l.left.accesses
