use Rattle.std.proofs.Common.{◌≡◌, ℕ, List, Option, map, ap, ◌∙◌, subst, sym, arith}
use Rattle.std.specs.Prelude.{IfSome}
use Rattle.std.specs.Option.{option_map}
use Rattle.bound_records.specs.Recorders.{RecorderState}
use Rattle.run.specs.Records.{AreTakenSo, accesses_in}
use Rattle.run.specs.Waiting.{IsTurnList, turns_in}
use Rattle.run.proofs.GoneOn.{gone_without}
use Rattle.run.specs.Simulation.{HasRecorded}
use Rattle.run.proofs.interval.run_interval.Goals as goal

pub weave_all-requires-clause-recorded : goal.weave_all-requires-clause-recorded
weave_all-requires-clause-recorded g c κs within =
    let recorded = subst (λ (turns : Option (List ℕ)). HasRecorded c.args.context.now.machine.now c.args.context.now.program.now c.args.end c.args.simulation turns c.in_ok-simulation.simulation) (sym c.turns_of.ensures) c.in_ok-simulation.ensures.recorded in
    (c.args.context.now.program.now, c.args.end, c.args.simulation, c.requires.goes_on.0, c.requires.goes_on.1, recorded)

pub order_after-requires-clause-few : goal.order_after-requires-clause-few
order_after-requires-clause-few g c =
    let machine = c.args.context.now.machine.now in
    let image = c.args.context.now.program.now in
    let recorded = subst (λ (turns : Option (List ℕ)). HasRecorded machine image c.args.end c.args.simulation turns c.in_ok-simulation.simulation) (sym c.turns_of.ensures) c.in_ok-simulation.ensures.recorded in
    let gone = c.in_ok-told.ensures.goes_on image c.args.end c.args.simulation c.requires.goes_on.0 c.requires.goes_on.1 recorded in
    omega (arith, gone.leads.come.banks, c.requires.machine.l2.banks)

pub order_after-requires-clause-taken : goal.order_after-requires-clause-taken
order_after-requires-clause-taken g c =
    let h = c.in_ok-simulation.ensures.recorded in
    subst (λ (r : RecorderState). AreTakenSo (option_map (λ list. list.items) c.in_ok-simulation.list) r) (sym c.in_ok-told.ensures.recorder) (record { stamped = h.in_turn; named = h.named })

pub order_after-requires-clause-told : goal.order_after-requires-clause-told
order_after-requires-clause-told g c =
    subst (λ (r : RecorderState). IfSome c.in_ok-told.told (λ cores. cores.items ≡ map (λ e. e.core) (accesses_in r))) (sym c.in_ok-told.ensures.recorder) c.in_ok-told.ensures.told

pub returns-clause-turns : goal.returns-clause-turns
returns-clause-turns g c =
    let machine = c.args.context.now.machine.now in
    let same : turns_in c.in_ok-order.order ≡ map (λ e. e.core) (accesses_in c.in_ok-simulation.simulation.recorder) =
    c.in_ok-order.ensures.order ∙ ap (λ (r : RecorderState). map (λ e. e.core) (accesses_in r)) c.in_ok-told.ensures.recorder
    in
    subst (IsTurnList machine.cores) (sym same) c.in_ok-told.ensures.turns

pub returns-clause-goes_on : goal.returns-clause-goes_on
returns-clause-goes_on g c = λ s on.
    let machine = c.args.context.now.machine.now in
    let image = c.args.context.now.program.now in
    let q = c.in_ok-simulation.simulation in
    let recorded = subst (λ (turns : Option (List ℕ)). HasRecorded machine image c.args.end c.args.simulation turns q) (sym c.turns_of.ensures) c.in_ok-simulation.ensures.recorded in
    let gone = c.in_ok-told.ensures.goes_on image c.args.end c.args.simulation s on recorded in
    let same : turns_in c.in_ok-order.order ≡ map (λ e. e.core) (accesses_in q.recorder) =
    c.in_ok-order.ensures.order ∙ ap (λ (r : RecorderState). map (λ e. e.core) (accesses_in r)) c.in_ok-told.ensures.recorder
    in
    gone_without machine image s (map (λ e. e.core) (accesses_in q.recorder)) (turns_in c.in_ok-order.order) c.args.recording.now c.weave_all.new.recording c.weave_all.new.simulation c.order_after.new.recorder
    c.in_ok-order.ensures.recorder same gone
