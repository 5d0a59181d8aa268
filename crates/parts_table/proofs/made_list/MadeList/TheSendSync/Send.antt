-- Accesses that only contracts see are nowhere in memory, so they may go to another thread.
use denote.Param.Send.{IsSend, owning_send}
use Rattle.parts_table.specs.contracts.made_list.MadeList.{the_row, the_type}

pub send : IsSend the_row
send = owning_send the_type tt (λ d. tt) (λ k x w. tt)
