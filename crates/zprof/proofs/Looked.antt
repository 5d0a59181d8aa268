-- What came of a command whose machine and executable were taken, as the call says it.
use Rattle.std.proofs.Common.{inl, inr}
use Rattle.elf_load.specs.MemoryImage.{MemoryImage}
use Rattle.machine_desc.specs.declared.machine.Machine.{Machine}
use Rattle.zsim.specs.declared.ended.Kept.{Kept}
use Rattle.zsim.specs.declared.ended.Status.{Status}
use Rattle.zsim.specs.Seen.{FilesSeen, SinkSeen}
use Rattle.zprof.specs.CommandLine.{Profiling}
use Rattle.zprof.specs.Ended.{EndsAs, TakesInputs}
use Rattle.zprof.specs.Steps.{LooksAs}

pub ends_as : (s : Status) (machine : Machine) (image : MemoryImage) (c : Profiling) (k : Kept) (files : FilesSeen) (out : SinkSeen)
    → TakesInputs c k files machine image → LooksAs s machine image c c.schedule k.schedule k.sched_file files out → EndsAs s c k files out
ends_as s machine image c k files out inputs (inl (none, silent)) = inr (inr (inl (record { machine = machine; image = image; inputs = inputs; none = none }, silent)))
ends_as s machine image c k files out inputs (inr (order, profiles)) =
    inr (inr (inr (record { machine = machine; image = image; inputs = inputs; order = order; profiles = profiles })))
