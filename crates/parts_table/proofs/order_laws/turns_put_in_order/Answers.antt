use Rattle.parts_table.proofs.InTurns.{turns_put_in_order}
use Rattle.parts_table.proofs.order_laws.turns_put_in_order.Goals as goal

pub returns : goal.returns
returns c turns lists own are = turns_put_in_order turns lists own are
