use Rattle.std.proofs.Common.{◌∙◌, Some, sym}
use Rattle.bound_core.specs.Met.{begun_in_time}
use Rattle.reference.proofs.Instructions.{ran_stays}
use Rattle.bound_core.proofs.Meeting.{begun_stops}
use Rattle.bound_core.proofs.bounded.BoundCore.run_fetching.Goals as goal

pub returns-in-Some-clause-value : goal.returns-in-Some-clause-value
returns-in-Some-clause-value g c =
    let now = c.run_in_line.new.self.timed in
    sym (ran_stays (g.P.Program.image c.args.program.now) c.args.end (begun_in_time (Some c.in-Some.single) now) (begun_stops c.args.end c.in-Some.single now)) ∙ (c.in-Some.ensures.same_end ∙ c.take_fetched.ensures.same_end)

pub returns-in-None-clause-value : goal.returns-in-None-clause-value
returns-in-None-clause-value g c = c.run_past_line.ensures.value ∙ (c.in-None.ensures.same_end ∙ c.take_fetched.ensures.same_end)
