-- From the first event to the last, by the laws of the weave.
use Rattle.std.proofs.Common.{◌∙◌, All, List, sym, subst, refl, arith, length}
use Rattle.std.specs.List.{Contains}
use Rattle.event_graph.specs.EventGraph.{all_events}
use Rattle.event_graph.specs.Firing.{FiredByTheRules}
use Rattle.event_graph.specs.OneListWeave.{FiredEvent, weave, woven}
use Rattle.event_graph.specs.TimingSolution.{IsSolution}
use Rattle.weave_chains.specs.Beginning.{AreFresh}
use Rattle.weave_chains.specs.GraphFacts.{ArePlaced}
use Rattle.weave_chains.specs.Listed.{one_after_other}
use Rattle.weave_chains.specs.Rounds.{AreInChains, HasCome, IsWeaving}
use Rattle.weave_chains.specs.States.{states}
use Rattle.weave_chains.specs.Tallies.{HaveFired}
use Rattle.weave_chains.proofs.Listed.{in_chains}
use Rattle.weave_chains.proofs.States.{same_delays, states_length}
use Rattle.weave_chains.proofs.Whole as whole
use Rattle.weave_chains.proofs.weave.weave_over.Goals as goal

by_all : {X : Type 0} (P : X → Type 0) (xs : List X) → All P xs → (x : X) → Contains xs x → P x
by_all P xs h x c = subst P c.2 (h c.0 x c.1)

pub first_keys-requires-clause-begins : goal.first_keys-requires-clause-begins
first_keys-requires-clause-begins g c =
    (c.args.comps.now, c.requires.fits, c.requires.small)

pub fire_chains-requires-clause-fresh : goal.fire_chains-requires-clause-fresh
fire_chains-requires-clause-fresh g c κs within =
    let lists = g.A.Accesses.lists c.args.accesses.now in
    subst (λ cs. AreFresh (one_after_other lists) cs) (sym c.first_keys.ensures.states) c.requires.fresh

pub fire_chains-requires-clause-begins : goal.fire_chains-requires-clause-begins
fire_chains-requires-clause-begins g c = λ lives outlives.
    let lists = g.A.Accesses.lists c.args.accesses.now in
    let pieces = g.X.Expand.pieces c.args.expand.now in
    let entries = one_after_other lists in
    let comps = c.args.comps.now in
    let events = all_events pieces entries in
    let placed : ArePlaced pieces entries = record {
      numbered = c.events_are_placed.ensures.numbered c.args.expand.now entries;
      there = c.events_are_placed.ensures.there c.args.expand.now entries;
      next = c.events_are_placed.ensures.next c.args.expand.now entries;
      each = c.events_are_placed.ensures.each c.args.expand.now entries;
      parents = c.events_are_placed.ensures.parents c.args.expand.now entries;
      last = c.events_are_placed.ensures.last c.args.expand.now entries;
      ends = c.events_are_placed.ensures.ends c.args.expand.now entries;
    }
    in
    let chained : AreInChains pieces entries (length (states lists c.args.chains.now)) =
    subst (λ m. AreInChains pieces entries m) (sym (states_length lists c.args.chains.now ∙ c.requires.cores)) (in_chains pieces lists c.requires.chained)
    in
    let begins : IsWeaving g.C.Component.serves g.C.Component.floor g.C.Component.stepped g.C.Component.greatest pieces lists comps 0 c.first_keys.new.chains c.first_keys.new.ready.keys comps = record {
      fits = c.requires.fits;
      small = c.requires.small;
      within = omega arith;
      come = subst (λ cs. HasCome g.C.Component.stepped pieces entries comps 0 cs c.first_keys.new.ready.keys comps) (sym c.first_keys.ensures.states)
          (whole.comes g.C.Component.stepped pieces entries placed comps (states lists c.args.chains.now) c.first_keys.new.ready.keys chained c.requires.fresh c.first_keys.ensures.ready);
    }
    in
    (comps, begins)

pub returns-in_default-clause-tie : goal.returns-in_default-clause-tie
returns-in_default-clause-tie g c =
    let lists = g.A.Accesses.lists c.args.accesses.now in
    let pieces = g.X.Expand.pieces c.args.expand.now in
    let entries = one_after_other lists in
    let comps = c.args.comps.now in
    let events = all_events pieces entries in
    let placed : ArePlaced pieces entries = record {
      numbered = c.events_are_placed.ensures.numbered c.args.expand.now entries;
      there = c.events_are_placed.ensures.there c.args.expand.now entries;
      next = c.events_are_placed.ensures.next c.args.expand.now entries;
      each = c.events_are_placed.ensures.each c.args.expand.now entries;
      parents = c.events_are_placed.ensures.parents c.args.expand.now entries;
      last = c.events_are_placed.ensures.last c.args.expand.now entries;
      ends = c.events_are_placed.ensures.ends c.args.expand.now entries;
    }
    in
    let chained : AreInChains pieces entries (length (states lists c.args.chains.now)) =
    subst (λ m. AreInChains pieces entries m) (sym (states_length lists c.args.chains.now ∙ c.requires.cores)) (in_chains pieces lists c.requires.chained)
    in
    let begins : IsWeaving g.C.Component.serves g.C.Component.floor g.C.Component.stepped g.C.Component.greatest pieces lists comps 0 c.first_keys.new.chains c.first_keys.new.ready.keys comps = record {
      fits = c.requires.fits;
      small = c.requires.small;
      within = omega arith;
      come = subst (λ cs. HasCome g.C.Component.stepped pieces entries comps 0 cs c.first_keys.new.ready.keys comps) (sym c.first_keys.ensures.states)
          (whole.comes g.C.Component.stepped pieces entries placed comps (states lists c.args.chains.now) c.first_keys.new.ready.keys chained c.requires.fresh c.first_keys.ensures.ready);
    }
    in
    let fired : List FiredEvent = (weave g.C.Component.stepped events comps).fired in
    let sol : IsSolution g.C.Component.stepped events comps (woven g.C.Component.stepped events comps) = (c.weave_is_the_one_solution.ensures events comps (woven g.C.Component.stepped events comps) placed.numbered c.requires.fits).1 refl in
    whole.tie_is g.C.Component.stepped pieces entries placed comps
    (c.each_event_fires_once.ensures events comps placed.numbered c.requires.fits) (c.events_fire_in_order.ensures events comps placed.numbered c.requires.fits)
    (by_all (FiredByTheRules events fired) fired (c.events_fire_by_the_rules.ensures events comps (length events) placed.numbered c.requires.fits))
    (λ core e found. c.cores_wait_for_the_same_event.ensures.there core events e placed.numbered found)
    (c.times_so_far_become_the_weaves.ensures events comps placed.numbered c.requires.fits) sol.events_are
    (c.in_default.ensures.tie comps begins)

pub returns-clause-no_tie : goal.returns-clause-no_tie
returns-clause-no_tie g c =
    let lists = g.A.Accesses.lists c.args.accesses.now in
    let pieces = g.X.Expand.pieces c.args.expand.now in
    let entries = one_after_other lists in
    let comps = c.args.comps.now in
    let events = all_events pieces entries in
    let placed : ArePlaced pieces entries = record {
      numbered = c.events_are_placed.ensures.numbered c.args.expand.now entries;
      there = c.events_are_placed.ensures.there c.args.expand.now entries;
      next = c.events_are_placed.ensures.next c.args.expand.now entries;
      each = c.events_are_placed.ensures.each c.args.expand.now entries;
      parents = c.events_are_placed.ensures.parents c.args.expand.now entries;
      last = c.events_are_placed.ensures.last c.args.expand.now entries;
      ends = c.events_are_placed.ensures.ends c.args.expand.now entries;
    }
    in
    let chained : AreInChains pieces entries (length (states lists c.args.chains.now)) =
    subst (λ m. AreInChains pieces entries m) (sym (states_length lists c.args.chains.now ∙ c.requires.cores)) (in_chains pieces lists c.requires.chained)
    in
    let begins : IsWeaving g.C.Component.serves g.C.Component.floor g.C.Component.stepped g.C.Component.greatest pieces lists comps 0 c.first_keys.new.chains c.first_keys.new.ready.keys comps = record {
      fits = c.requires.fits;
      small = c.requires.small;
      within = omega arith;
      come = subst (λ cs. HasCome g.C.Component.stepped pieces entries comps 0 cs c.first_keys.new.ready.keys comps) (sym c.first_keys.ensures.states)
          (whole.comes g.C.Component.stepped pieces entries placed comps (states lists c.args.chains.now) c.first_keys.new.ready.keys chained c.requires.fresh c.first_keys.ensures.ready);
    }
    in
    let fired : List FiredEvent = (weave g.C.Component.stepped events comps).fired in
    let sol : IsSolution g.C.Component.stepped events comps (woven g.C.Component.stepped events comps) = (c.weave_is_the_one_solution.ensures events comps (woven g.C.Component.stepped events comps) placed.numbered c.requires.fits).1 refl in
    let all = c.in-Some.ensures.all in
    let left = all.1 comps begins in
    let have : HaveFired g.C.Component.stepped pieces entries comps (length events) (states lists c.fire_chains.new.chains) left.0 c.fire_chains.new.comps c.fire_chains.new.tallies =
    subst (λ n. HaveFired g.C.Component.stepped pieces entries comps n (states lists c.fire_chains.new.chains) left.0 c.fire_chains.new.comps c.fire_chains.new.tallies) all.0 left.1
    in
    whole.no_tie_is g.C.Component.stepped pieces entries placed comps
    (c.each_event_fires_once.ensures events comps placed.numbered c.requires.fits) (c.events_fire_in_order.ensures events comps placed.numbered c.requires.fits)
    (by_all (FiredByTheRules events fired) fired (c.events_fire_by_the_rules.ensures events comps (length events) placed.numbered c.requires.fits))
    (λ core e found. c.cores_wait_for_the_same_event.ensures.there core events e placed.numbered found)
    (c.times_so_far_become_the_weaves.ensures events comps placed.numbered c.requires.fits) sol.events_are
    have.no_tie

pub returns-clause-woven : goal.returns-clause-woven
returns-clause-woven g c =
    let lists = g.A.Accesses.lists c.args.accesses.now in
    let pieces = g.X.Expand.pieces c.args.expand.now in
    let entries = one_after_other lists in
    let comps = c.args.comps.now in
    let events = all_events pieces entries in
    let placed : ArePlaced pieces entries = record {
      numbered = c.events_are_placed.ensures.numbered c.args.expand.now entries;
      there = c.events_are_placed.ensures.there c.args.expand.now entries;
      next = c.events_are_placed.ensures.next c.args.expand.now entries;
      each = c.events_are_placed.ensures.each c.args.expand.now entries;
      parents = c.events_are_placed.ensures.parents c.args.expand.now entries;
      last = c.events_are_placed.ensures.last c.args.expand.now entries;
      ends = c.events_are_placed.ensures.ends c.args.expand.now entries;
    }
    in
    let chained : AreInChains pieces entries (length (states lists c.args.chains.now)) =
    subst (λ m. AreInChains pieces entries m) (sym (states_length lists c.args.chains.now ∙ c.requires.cores)) (in_chains pieces lists c.requires.chained)
    in
    let begins : IsWeaving g.C.Component.serves g.C.Component.floor g.C.Component.stepped g.C.Component.greatest pieces lists comps 0 c.first_keys.new.chains c.first_keys.new.ready.keys comps = record {
      fits = c.requires.fits;
      small = c.requires.small;
      within = omega arith;
      come = subst (λ cs. HasCome g.C.Component.stepped pieces entries comps 0 cs c.first_keys.new.ready.keys comps) (sym c.first_keys.ensures.states)
          (whole.comes g.C.Component.stepped pieces entries placed comps (states lists c.args.chains.now) c.first_keys.new.ready.keys chained c.requires.fresh c.first_keys.ensures.ready);
    }
    in
    let fired : List FiredEvent = (weave g.C.Component.stepped events comps).fired in
    let sol : IsSolution g.C.Component.stepped events comps (woven g.C.Component.stepped events comps) = (c.weave_is_the_one_solution.ensures events comps (woven g.C.Component.stepped events comps) placed.numbered c.requires.fits).1 refl in
    let all = c.in-Some.ensures.all in
    let left = all.1 comps begins in
    let have : HaveFired g.C.Component.stepped pieces entries comps (length events) (states lists c.fire_chains.new.chains) left.0 c.fire_chains.new.comps c.fire_chains.new.tallies =
    subst (λ n. HaveFired g.C.Component.stepped pieces entries comps n (states lists c.fire_chains.new.chains) left.0 c.fire_chains.new.comps c.fire_chains.new.tallies) all.0 left.1
    in
    whole.woven_is g.C.Component.stepped pieces entries placed comps
    (c.each_event_fires_once.ensures events comps placed.numbered c.requires.fits) (c.events_fire_in_order.ensures events comps placed.numbered c.requires.fits)
    (by_all (FiredByTheRules events fired) fired (c.events_fire_by_the_rules.ensures events comps (length events) placed.numbered c.requires.fits))
    (λ core e found. c.cores_wait_for_the_same_event.ensures.there core events e placed.numbered found)
    (c.times_so_far_become_the_weaves.ensures events comps placed.numbered c.requires.fits) sol.events_are
    (length lists) (states lists c.fire_chains.new.chains) left.0 c.fire_chains.new.comps c.fire_chains.new.tallies _ have
    (states_length lists c.fire_chains.new.chains ∙ (c.fire_chains.ensures.count ∙ (c.first_keys.ensures.count ∙ c.requires.cores)))
    (c.fire_chains.ensures.tallies ∙ c.requires.tallies) (c.in_ok-delays.ensures ∙ sym (same_delays lists 0 c.fire_chains.new.chains)) c.in_ok-counts.ensures all.0
