use Rattle.std.proofs.Common.{◌≤◌, ◌+◌, subst, arith}
use Rattle.std.proofs.lemmas.Option.{get_or_from_slice_get, slice_get_within}
use Rattle.bound_core.specs.TimedCore.{beside_cycles}
use Rattle.bound_core.specs.NumberedCores.{NumberedCore}
use Rattle.bound_records.proofs.SameCores.{same_numbers, same_timed}
use Rattle.bound_workers.proofs.interval.reserve_all.Goals as goal

pub returns-clause-timed : goal.returns-clause-timed
returns-clause-timed c = same_timed c.args.cores.now c.loop-number.cores c.loop-number.auto.cores (λ k d. c.loop-number.invariant.timed k d)

pub returns-clause-numbered : goal.returns-clause-numbered
returns-clause-numbered c = same_numbers c.args.cores.now c.loop-number.cores c.loop-number.auto.cores c.loop-number.invariant.numbers

pub returns-clause-spare : goal.returns-clause-spare
returns-clause-spare c = λ i core here.
    let own = get_or_from_slice_get c.loop-number.cores i core core here in
    let within = slice_get_within c.loop-number.cores i core here in
    subst (λ (x : NumberedCore). c.args.machine.now.interval + beside_cycles ≤ x.spare) own
    (c.loop-number.invariant.done i core (omega (arith, within, c.loop-number-test.false, c.loop-number.auto.number-end, c.loop-number.auto.cores)))
