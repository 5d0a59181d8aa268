-- Another line is written to.
use Rattle.std.proofs.Common.{◌/◌, refl}
use Rattle.std.proofs.lemmas.Bool.{ne_eqb}
use Rattle.flat_memory.proofs.reservation.still.Goals as goal

pub returns-in_default : goal.returns-in_default
returns-in_default c = rw (c.in-Some.is, c.if-not-is_writer.true, ne_eqb (c.in-Some.r.addr / 64) (c.args.addr / 64) c.if-r-addr.false) refl
