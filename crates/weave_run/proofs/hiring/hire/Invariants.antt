-- The domains that are left, and what each worker has of the others.
use Rattle.std.proofs.Common.{◌≡◌, length, vec_capacity, vec_len}
use Rattle.weave_run.proofs.Lots.{HiredSoFar}
use Rattle.weave_run.proofs.hiring.hire.Given as goal

abbrev pub decreases-loop-domain : goal.decreases-loop-domain
decreases-loop-domain g l = vec_len l.domains

abbrev pub invariant-loop-domain : goal.invariant-loop-domain
invariant-loop-domain g l = record {
  so_far : HiredSoFar l.fn.domains.items l.domains.items l.fn.seats.items l.seats.items (length l.fn.crews) l.crews;
  capacity : vec_capacity l.domains ≡ vec_capacity l.fn.domains;
  seats_capacity : vec_capacity l.seats ≡ vec_capacity l.fn.seats;
}
