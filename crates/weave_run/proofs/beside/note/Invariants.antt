-- The domains below the index are noted.
use Rattle.std.proofs.Common.{◌≡◌, length}
use Rattle.weave_run.specs.Rounds.{AreNoted}
use Rattle.weave_run.proofs.beside.note.Given as goal

abbrev pub invariant-loop-index : goal.invariant-loop-index
invariant-loop-index g l = record {
  so_far : AreNoted l.fn.domains l.counts l.index;
  count : length l.counts ≡ length l.fn.counts;
}
