use Rattle.std.proofs.Common.{◌≡◌, max, drop}
use Rattle.pipe_core.specs.Pace.{all_ready}
use Rattle.pipe_core.proofs.latency.latest.Given as goal

abbrev pub invariant-loop-cycle : goal.invariant-loop-cycle
invariant-loop-cycle l = all_ready l.cycles ≡ max l.greatest (all_ready (drop l.cycle-index l.cycles))
