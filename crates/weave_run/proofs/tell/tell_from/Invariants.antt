-- What the domain fired so far is told.
use Rattle.std.proofs.Common.{◌≡◌, length}
use Rattle.weave_run.specs.Rounds.{own_in}
use Rattle.weave_run.proofs.Tellings.{HasToldPart}
use Rattle.weave_run.proofs.tell.tell_from.Given as goal

abbrev pub invariant-loop-next : goal.invariant-loop-next
invariant-loop-next g l = record {
  so_far : HasToldPart g.C.Component.stepped l.fn.plan l.fn.domains l.domains l.fn.source l.fn.place l.next;
  count : l.count ≡ length (own_in l.fn.domains l.fn.source).fired;
}
