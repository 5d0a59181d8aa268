use Rattle.std.proofs.Common.{◌≡◌, None, subst, rules}
use Rattle.bound_core.specs.TimedCore.{asks}
use Rattle.bound_records.specs.Turns.{time_by_net}
use Rattle.trace.specs.Port.{LoggedPortState}
use Rattle.trace.specs.Turns.{TakesAccess}
use Rattle.trace.proofs.TurnTold.{HasRunAlone, from_before, none_from_before}
use Rattle.trace.proofs.each_core.take_own_turn.Goals as goal

pub returns-in_ok-take_access-in-Some-clause-took : goal.returns-in_ok-take_access-in-Some-clause-took
returns-in_ok-take_access-in-Some-clause-took g c = λ is.
    let image = c.args.program.now in
    let end = c.args.end in
    let time = time_by_net c.args.net.now in
    let before = c.args.core.now in
    let ran = c.run_alone.new.core in
    let after = c.take_access.new.core in
    let did = c.in_ok-run_alone.ensures in
    let h : HasRunAlone image end before ran = record { is = did.ran; latest = did.latest; no_more = did.no_more; number = did.number; memory = did.memory; fetching = did.fetching; spare = did.spare } in
    let found = c.in_ok-take_access-in-Some.ensures.took in
    (found.0, subst (λ (p : LoggedPortState). TakesAccess time image end p c.take_access.new.port before after found.0) c.choose.ensures (from_before image end before ran h time c.choose.new.self c.take_access.new.port after found.0 found.1))

pub returns-in-None-clause-none : goal.returns-in-None-clause-none
returns-in-None-clause-none g c = λ is.
    let image = c.args.program.now in
    let end = c.args.end in
    let before = c.args.core.now in
    let ran = c.run_alone.new.core in
    let did = c.in_ok-run_alone.ensures in
    let h : HasRunAlone image end before ran = record { is = did.ran; latest = did.latest; no_more = did.no_more; number = did.number; memory = did.memory; fetching = did.fetching; spare = did.spare } in
    let none : asks ran.timed ≡ None = search rules in
    none_from_before image end before ran h _ c.choose.new.self none c.choose.ensures
