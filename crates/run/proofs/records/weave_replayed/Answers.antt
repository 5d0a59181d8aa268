use Rattle.std.proofs.Common.{◌≡◌, ◌^◌, ◌≤◌, ℕ, List, Option, All, sym, subst}
use Rattle.std.specs.Prelude.{IfNone, IfOk, IfSome}
use Rattle.component.specs.declared.comp.Comp.{Comp}
use Rattle.component.specs.ComponentStep.{free_of}
use Rattle.component.specs.Components.{AreComponents}
use Rattle.stats.specs.Counts.{Counts, Interval}
use Rattle.run.specs.Records.{FitsIn, IsTakenIn, recorded_interval}
use Rattle.run.proofs.records.weave_replayed.Goals as goal

pub returns-in-Some : goal.returns-in-Some
returns-in-Some c =
    let i : Interval = recorded_interval c.args.machine.now c.args.comps.now c.args.recorder.now in
    subst (λ (o : Option (List ℕ)). IfSome o (IsTakenIn i c.args.comps.now c.weave_by_cores.new.comps c.args.counters.now c.weave_by_cores.new.counters)) c.in-Some.is c.in_ok-found.ensures.taken

pub weave_on_one_list-requires-clause-components : goal.weave_on_one_list-requires-clause-components
weave_on_one_list-requires-clause-components c =
    let same : c.weave_by_cores.new.comps ≡ c.args.comps.now = subst (λ (o : Option (List ℕ)). IfNone o (c.weave_by_cores.new.comps ≡ c.args.comps.now)) c.in-None.is c.in_ok-found.ensures.comps in
    subst (AreComponents c.args.machine.now) (sym same) c.requires.components

pub weave_on_one_list-requires-clause-free : goal.weave_on_one_list-requires-clause-free
weave_on_one_list-requires-clause-free c =
    let same : c.weave_by_cores.new.comps ≡ c.args.comps.now = subst (λ (o : Option (List ℕ)). IfNone o (c.weave_by_cores.new.comps ≡ c.args.comps.now)) c.in-None.is c.in_ok-found.ensures.comps in
    subst (λ (comps : List Comp). All (λ x. free_of x ≤ 2 ^ 56) comps) (sym same) c.requires.free

pub weave_on_one_list-requires-clause-fits : goal.weave_on_one_list-requires-clause-fits
weave_on_one_list-requires-clause-fits c =
    let machine = c.args.machine.now in
    let r = c.args.recorder.now in
    let same : c.weave_by_cores.new.comps ≡ c.args.comps.now = subst (λ (o : Option (List ℕ)). IfNone o (c.weave_by_cores.new.comps ≡ c.args.comps.now)) c.in-None.is c.in_ok-found.ensures.comps in
    let counters : c.weave_by_cores.new.counters ≡ c.args.counters.now = subst (λ (o : Option (List ℕ)). IfNone o (c.weave_by_cores.new.counters ≡ c.args.counters.now)) c.in-None.is c.in_ok-found.ensures.counters in
    subst (λ (counts : Counts). FitsIn (recorded_interval machine c.weave_by_cores.new.comps r) machine c.weave_by_cores.new.comps counts) (sym counters)
    (subst (λ (comps : List Comp). FitsIn (recorded_interval machine comps r) machine comps c.args.counters.now) (sym same) c.requires.fits)

pub returns : goal.returns
returns c =
    let machine = c.args.machine.now in
    let r = c.args.recorder.now in
    let same : c.weave_by_cores.new.comps ≡ c.args.comps.now = subst (λ (o : Option (List ℕ)). IfNone o (c.weave_by_cores.new.comps ≡ c.args.comps.now)) c.in-None.is c.in_ok-found.ensures.comps in
    let counters : c.weave_by_cores.new.counters ≡ c.args.counters.now = subst (λ (o : Option (List ℕ)). IfNone o (c.weave_by_cores.new.counters ≡ c.args.counters.now)) c.in-None.is c.in_ok-found.ensures.counters in
    subst (λ (comps : List Comp). IfOk c.weave_on_one_list.result (IsTakenIn (recorded_interval machine comps r) comps c.weave_on_one_list.new.comps c.args.counters.now c.weave_on_one_list.new.counters)) same
    (subst (λ (counts : Counts). IfOk c.weave_on_one_list.result (IsTakenIn (recorded_interval machine c.weave_by_cores.new.comps r) c.weave_by_cores.new.comps c.weave_on_one_list.new.comps counts c.weave_on_one_list.new.counters)) counters
    c.weave_on_one_list.ensures)
