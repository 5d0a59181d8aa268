-- Those that are counted, and the rest.
use Rattle.std.proofs.Common.{◌≡◌, ◌+◌, ◌≤◌, count_by, drop}
use Rattle.weave_run.specs.Rounds.{has_event}
use Rattle.weave_run.proofs.rounds.are_several_ready.Given as goal

abbrev pub invariant-loop-index : goal.invariant-loop-index
invariant-loop-index g l = record {
  so_far : l.ready + count_by has_event (drop l.index l.fn.domains) ≡ count_by has_event l.fn.domains;
  few : l.ready ≤ l.index;
}
