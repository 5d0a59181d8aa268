-- So far nothing has changed.
use Rattle.std.proofs.Common.{◌≡◌}
use Rattle.crew.proofs.worker.pick.Given as goal

abbrev pub invariant-loop : goal.invariant-loop
invariant-loop g l = record { table : l.place.table_id ≡ l.fn.place.table_id; id : l.place.id ≡ l.fn.place.id; me : l.place.me ≡ l.fn.place.me }
