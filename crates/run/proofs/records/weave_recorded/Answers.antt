use Rattle.std.proofs.Common.{◌≡◌, ◌^◌, ◌≤◌, ◌++◌, ◌∷◌, [], ℕ, List, Option, All, sym, ◌∙◌, subst}
use Rattle.std.specs.Prelude.{IfNone, IfSome, false}
use Rattle.component.specs.declared.comp.Comp.{Comp}
use Rattle.component.specs.ComponentStep.{free_of}
use Rattle.component.specs.Components.{AreComponents}
use Rattle.stats.specs.Counts.{Counts, Interval}
use Rattle.run.specs.Recording.{IsRecordingOf, is_on}
use Rattle.run.specs.Records.{FitsIn, IsTakenIn, recorded_interval}
use Rattle.run.proofs.RecordedWeave.{off_is_of_all}
use Rattle.run.proofs.records.weave_recorded.Goals as goal

pub returns-in-Some-clause-taken : goal.returns-in-Some-clause-taken
returns-in-Some-clause-taken g c =
    let i : Interval = recorded_interval c.args.context.now.machine.now c.args.comps.now c.args.recorder.now in
    subst (λ (o : Option (List ℕ)). IfSome o (IsTakenIn i c.args.comps.now c.weave_by_cores.new.comps c.args.counters.now c.weave_by_cores.new.counters)) c.in-Some.is c.in_ok-found.ensures.taken

pub returns-in-Some-clause-recorded : goal.returns-in-Some-clause-recorded
returns-in-Some-clause-recorded g c = λ intervals was.
    let i : Interval = recorded_interval c.args.context.now.machine.now c.args.comps.now c.args.recorder.now in
    off_is_of_all c.args.context.now.machine.now (intervals ++ i ∷ []) c.args.recording.now
    (subst (λ (o : Option (List ℕ)). IfSome o (λ _. is_on c.args.recording.now ≡ false)) c.in-Some.is c.in_ok-found.ensures.off)

pub weave_in_order-requires-clause-components : goal.weave_in_order-requires-clause-components
weave_in_order-requires-clause-components g c κs within =
    let same : c.weave_by_cores.new.comps ≡ c.args.comps.now = subst (λ (o : Option (List ℕ)). IfNone o (c.weave_by_cores.new.comps ≡ c.args.comps.now)) c.in-None.is c.in_ok-found.ensures.comps in
    subst (AreComponents c.args.context.now.machine.now) (sym same) c.requires.components

pub weave_in_order-requires-clause-free : goal.weave_in_order-requires-clause-free
weave_in_order-requires-clause-free g c κs within =
    let same : c.weave_by_cores.new.comps ≡ c.args.comps.now = subst (λ (o : Option (List ℕ)). IfNone o (c.weave_by_cores.new.comps ≡ c.args.comps.now)) c.in-None.is c.in_ok-found.ensures.comps in
    subst (λ (comps : List Comp). All (λ x. free_of x ≤ 2 ^ 56) comps) (sym same) c.requires.free

pub weave_in_order-requires-clause-fits : goal.weave_in_order-requires-clause-fits
weave_in_order-requires-clause-fits g c κs within =
    let machine = c.args.context.now.machine.now in
    let r = c.args.recorder.now in
    let same : c.weave_by_cores.new.comps ≡ c.args.comps.now = subst (λ (o : Option (List ℕ)). IfNone o (c.weave_by_cores.new.comps ≡ c.args.comps.now)) c.in-None.is c.in_ok-found.ensures.comps in
    let counters : c.weave_by_cores.new.counters ≡ c.args.counters.now = subst (λ (o : Option (List ℕ)). IfNone o (c.weave_by_cores.new.counters ≡ c.args.counters.now)) c.in-None.is c.in_ok-found.ensures.counters in
    subst (λ (counts : Counts). FitsIn (recorded_interval machine c.weave_by_cores.new.comps r) machine c.weave_by_cores.new.comps counts) (sym counters)
    (subst (λ (comps : List Comp). FitsIn (recorded_interval machine comps r) machine comps c.args.counters.now) (sym same) c.requires.fits)

pub weave_in_order-requires-clause-order : goal.weave_in_order-requires-clause-order
weave_in_order-requires-clause-order g c κs within = c.deref.ensures.value ∙ c.in_ok-order-in-None.ensures

pub returns-in_ok-delays-in-None-clause-recorded : goal.returns-in_ok-delays-in-None-clause-recorded
returns-in_ok-delays-in-None-clause-recorded g c =
    let machine = c.args.context.now.machine.now in
    let r = c.args.recorder.now in
    let same : c.weave_by_cores.new.comps ≡ c.args.comps.now = subst (λ (o : Option (List ℕ)). IfNone o (c.weave_by_cores.new.comps ≡ c.args.comps.now)) c.in-None.is c.in_ok-found.ensures.comps in
    subst
    (λ (comps : List Comp).
    (intervals : List Interval) → IsRecordingOf machine intervals c.args.recording.now → IsRecordingOf machine (intervals ++ recorded_interval machine comps r ∷ []) c.weave_in_order.new.recording)
    same c.in_ok-delays-in-None.ensures.recorded
