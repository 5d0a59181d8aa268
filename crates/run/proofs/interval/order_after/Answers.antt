use Rattle.std.proofs.Common.{◌≡◌, List, Option, Some, None, subst}
use Rattle.std.specs.Option.{option_map}
use Rattle.run.specs.Records.{AreTakenSo, IsSameButAccesses}
use Rattle.run.proofs.GoneOn.{same_without}
use Rattle.run.proofs.interval.order_after.Goals as goal

pub put_aside-requires-clause-turns : goal.put_aside-requires-clause-turns
put_aside-requires-clause-turns c =
    let r = c.args.recorder.now in
    let t : AreTakenSo (Some c.in-Some-list.turns.items) r = subst (λ o. AreTakenSo (option_map (λ turns. turns.items) o) r) c.in-Some-list.is c.requires.taken in
    record { stamped = t.stamped; named = t.named }

pub recorded_cores-requires : goal.recorded_cores-requires
recorded_cores-requires c =
    let r = c.args.recorder.now in
    let t : AreTakenSo None r = subst (λ o. AreTakenSo (option_map (λ turns. turns.items) o) r) c.in-None.is c.requires.taken in
    record { stamped = t.stamped; named = tt }
