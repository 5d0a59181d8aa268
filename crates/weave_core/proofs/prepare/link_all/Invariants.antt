-- The events so far are linked to their children.
use Rattle.std.proofs.Common.{◌≡◌, ◌≤◌, ◌*◌, length}
use Rattle.weave_core.specs.Beginning.{AreChained, AreCounts}
use Rattle.weave_core.proofs.LinkAll.{count_upto, late_upto}
use Rattle.weave_core.proofs.prepare.link_all.Given as goal

abbrev pub invariant-loop-child : goal.invariant-loop-child
invariant-loop-child l = record {
  heads : length l.heads.items ≡ length l.here;
  links : length l.links.items ≤ 2 * l.child;
  chained : AreChained l.here l.heads.items l.links.items (count_upto l.here l.child) (late_upto l.here l.child);
  counts : AreCounts l.here l.waits.items l.child;
}
