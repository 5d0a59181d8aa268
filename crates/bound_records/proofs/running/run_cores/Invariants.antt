-- the cores before this one have run
use Rattle.bound_records.specs.CoreRuns.{HaveRecorded}
use Rattle.bound_records.proofs.running.run_cores.Given as goal

abbrev pub invariant-loop-number : goal.invariant-loop-number
invariant-loop-number g l = HaveRecorded l.machine l.program l.end l.number l.initial.cores l.cores l.initial.recorder l.recorder
