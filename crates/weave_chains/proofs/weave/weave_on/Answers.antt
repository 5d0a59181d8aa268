-- Fresh chains, and nothing counted.
use Rattle.std.proofs.Common.{◌≡◌, ◌∙◌, [], None, length, replicate, rules, sym, ap, subst, refl}
use Rattle.std.specs.Prelude.{IfOk, IfSome}
use Rattle.std.proofs.lemmas.List.{with_items_is}
use Rattle.event_graph.specs.EventGraph.{all_events}
use Rattle.event_graph.specs.OneListWeave.{woven}
use Rattle.weave_chains.specs.declared.tally.Tally.{Tally}
use Rattle.weave_chains.specs.Beginning.{AreFresh}
use Rattle.weave_chains.specs.Listed.{one_after_other}
use Rattle.weave_chains.specs.NextEvents.{AreOfLists}
use Rattle.weave_chains.specs.States.{states}
use Rattle.weave_chains.specs.Tallies.{AreSmall, AreTallied}
use Rattle.weave_chains.specs.Ties.{HaveNoTie}
use Rattle.weave_chains.proofs.Whole as whole
use Rattle.weave_chains.proofs.weave.weave_on.Goals as goal

pub weave_over-requires-clause-fresh : goal.weave_over-requires-clause-fresh
weave_over-requires-clause-fresh g c = λ lives outlives.
    let lists = g.A.Accesses.lists c.args.accesses.now in
    let chains = c.make_room.new.self.chains in
    let begun = c.begin_chains.new.chains in
    let are : c.deref_mut-2.result.now ≡ begun = c.deref_mut-2.ensures.value ∙ with_items_is chains begun (c.begin_chains.ensures.count ∙ c.deref_mut.ensures.len) in
    subst (λ cs. AreFresh (one_after_other lists) (states lists cs)) (sym are) c.begin_chains.ensures.fresh

pub weave_over-requires-clause-of : goal.weave_over-requires-clause-of
weave_over-requires-clause-of g c = λ lives outlives.
    let chains = c.make_room.new.self.chains in
    let begun = c.begin_chains.new.chains in
    let are : c.deref_mut-2.result.now ≡ begun = c.deref_mut-2.ensures.value ∙ with_items_is chains begun (c.begin_chains.ensures.count ∙ c.deref_mut.ensures.len) in
    subst (λ cs. AreOfLists (g.A.Accesses.lists c.args.accesses.now) cs) (sym are) c.begin_chains.ensures.of

pub weave_over-requires-clause-cores : goal.weave_over-requires-clause-cores
weave_over-requires-clause-cores g c = λ lives outlives.
    let chains = c.make_room.new.self.chains in
    let begun = c.begin_chains.new.chains in
    let are : c.deref_mut-2.result.now ≡ begun = c.deref_mut-2.ensures.value ∙ with_items_is chains begun (c.begin_chains.ensures.count ∙ c.deref_mut.ensures.len) in
    ap length are ∙ (c.begin_chains.ensures.count ∙ (c.deref_mut.ensures.len ∙ (c.in_ok-make_room.ensures ∙ c.cores.ensures)))

pub weave_over-requires-clause-nothing : goal.weave_over-requires-clause-nothing
weave_over-requires-clause-nothing g c = λ lives outlives.
    let none : Tally = record { count = record { events = 0; waited = 0; free = 0 }; last = None } in
    let items : c.in_ok-tallies.tallies.items ≡ replicate (length c.as_slice.result.now) none = search rules in
    subst (λ ts. AreTallied [] ts) (sym (c.deref_mut-3.ensures.value ∙ items)) (whole.nothing (length c.as_slice.result.now) none refl refl)

pub weave_over-requires-clause-empty : goal.weave_over-requires-clause-empty
weave_over-requires-clause-empty g c = λ lives outlives.
    let none : Tally = record { count = record { events = 0; waited = 0; free = 0 }; last = None } in
    let items : c.in_ok-tallies.tallies.items ≡ replicate (length c.as_slice.result.now) none = search rules in
    subst (λ ts. AreSmall 0 ts) (sym (c.deref_mut-3.ensures.value ∙ items)) (whole.no_sums (length c.as_slice.result.now) none refl refl)

pub returns-clause-no_tie : goal.returns-clause-no_tie
returns-clause-no_tie g c =
    subst (λ cs. IfOk c.weave_over.result (λ o. IfSome o (λ w. HaveNoTie (woven g.C.Component.stepped (all_events (g.X.Expand.pieces c.args.expand.now) (one_after_other (g.A.Accesses.lists c.args.accesses.now))) cs)))) c.as_mut_slice.ensures.value c.weave_over.ensures.no_tie
