-- A schedule of a file is for the machine's cores.
use Rattle.zsim.proofs.ScheduleCores.{schedule_cores}
use Rattle.zprof.proofs.order.read_order.Goals as goal

pub returns-clause-cores : goal.returns-clause-cores
returns-clause-cores g c = schedule_cores c.args.machine.now c.take_schedule.new.bytes c.in_ok-schedule.field-0 c.in_ok-schedule.ensures.takes.0
