use Rattle.std.proofs.Common.{arith}
use Rattle.zs_host.proofs.mem_sink.MemSinkSink.put.Goals as goal

pub returns-clause-appended : goal.returns-clause-appended
returns-clause-appended c = c.in_ok-extend_from_slice.ensures.items

pub returns-clause-taken : goal.returns-clause-taken
returns-clause-taken c = omega arith
