-- The crossings so far are linked.
use Rattle.std.proofs.Common.{◌≡◌, length}
use Rattle.weave_run.proofs.Links.{AreLinkedBelow}
use Rattle.weave_run.proofs.outgoing.link.Given as goal

abbrev pub invariant-loop-number : goal.invariant-loop-number
invariant-loop-number l = record {
  events : length l.last ≡ length l.initial.last;
  linked : AreLinkedBelow l.crossings l.number l.last l.before;
}
