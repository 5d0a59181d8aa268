-- By the facts of a round.
use Rattle.std.proofs.Common.{◌≡◌, ◌-◌, ◌<◌, ◌∙◌, ℕ, [], List, None, Some, sym, ap, subst, length, get_or, drop, refl}
use Rattle.std.specs.Prelude.{IfSome, slice_set}
use Rattle.std.specs.List.{slice_get}
use Rattle.std.proofs.lemmas.Option.{slice_get-get_or}
use Rattle.zs_num.specs.declared.time.Key.{Key}
use Rattle.core_queue.specs.NextKeys.{with_next}
use Rattle.weave_chains.specs.declared.chain.Chain.{Chain}
use Rattle.weave_chains.specs.declared.tally.Served.{Served}
use Rattle.weave_chains.specs.Chains.{moved_on}
use Rattle.weave_chains.specs.Listed.{list_of, one_after_other}
use Rattle.weave_chains.specs.NextEvents.{IsAhead, KnowsAccess, StartsAt}
use Rattle.weave_chains.specs.States.{state_of, states}
use Rattle.weave_chains.specs.Tallies.{HasFiredNext}
use Rattle.weave_chains.proofs.Popped.{get_some}
use Rattle.weave_chains.proofs.Round as R
use Rattle.weave_chains.proofs.Round.{IsRound}
use Rattle.weave_chains.proofs.firing.fire_next.Goals as goal

pub bounds-chains-key : goal.bounds-chains-key
bounds-chains-key g c =
    let lists = g.A.Accesses.lists c.args.accesses.now in
    let r : IsRound g.C.Component.serves g.C.Component.floor g.C.Component.stepped g.C.Component.greatest (g.X.Expand.pieces c.args.expand.now) lists c.args.chains.now c.args.ready.now.keys c.args.comps.now c.requires.come.0 c.requires.come.1 = record {
      laws = c.rounds_rest_on_these.ensures c.args.expand.now;
      chained = c.requires.chained;
      count = c.requires.count;
      ahead = c.requires.ahead;
      ascending = c.first.ensures.ascending;
      weaving = c.requires.come.2;
    }
    in
    let key : Key = c.in-Some.key in
    let at : slice_get c.args.ready.now.keys 0 ≡ Some key = sym c.first.ensures.first ∙ c.in-Some.is in
    R.within r key at

pub unreachable-requires : goal.unreachable-requires
unreachable-requires g c =
    let lists = g.A.Accesses.lists c.args.accesses.now in
    let r : IsRound g.C.Component.serves g.C.Component.floor g.C.Component.stepped g.C.Component.greatest (g.X.Expand.pieces c.args.expand.now) lists c.args.chains.now c.args.ready.now.keys c.args.comps.now c.requires.come.0 c.requires.come.1 = record {
      laws = c.rounds_rest_on_these.ensures c.args.expand.now;
      chained = c.requires.chained;
      count = c.requires.count;
      ahead = c.requires.ahead;
      ascending = c.first.ensures.ascending;
      weaving = c.requires.come.2;
    }
    in
    let key : Key = c.in-Some.key in
    let at : slice_get c.args.ready.now.keys 0 ≡ Some key = sym c.first.ensures.first ∙ c.in-Some.is in
    let chain : Chain = get_or c.args.chains.now key.number (record { access = 0; end = 0; place = 0; ended = []; last = None; next = None }) in
    let there : slice_get c.args.chains.now key.number ≡ Some chain = slice_get-get_or c.args.chains.now key.number (record { access = 0; end = 0; place = 0; ended = []; last = None; next = None }) (R.within r key at) in
    R.next_is_known r key at chain there c.in_default-next.is

pub serve-outcome-requires-clause-component : goal.serve-outcome-requires-clause-component
serve-outcome-requires-clause-component g c = λ lives outlives.
    let lists = g.A.Accesses.lists c.args.accesses.now in
    let r : IsRound g.C.Component.serves g.C.Component.floor g.C.Component.stepped g.C.Component.greatest (g.X.Expand.pieces c.args.expand.now) lists c.args.chains.now c.args.ready.now.keys c.args.comps.now c.requires.come.0 c.requires.come.1 = record {
      laws = c.rounds_rest_on_these.ensures c.args.expand.now;
      chained = c.requires.chained;
      count = c.requires.count;
      ahead = c.requires.ahead;
      ascending = c.first.ensures.ascending;
      weaving = c.requires.come.2;
    }
    in
    let key : Key = c.in-Some.key in
    let at : slice_get c.args.ready.now.keys 0 ≡ Some key = sym c.first.ensures.first ∙ c.in-Some.is in
    let chain : Chain = get_or c.args.chains.now key.number (record { access = 0; end = 0; place = 0; ended = []; last = None; next = None }) in
    let there : slice_get c.args.chains.now key.number ≡ Some chain = slice_get-get_or c.args.chains.now key.number (record { access = 0; end = 0; place = 0; ended = []; last = None; next = None }) (R.within r key at) in
    let next = c.in-Some-next.next in
    let known : chain.next ≡ Some next = c.in-Some-next.is in
    R.component_within r key at chain there next known

pub serve-outcome-requires-clause-serves : goal.serve-outcome-requires-clause-serves
serve-outcome-requires-clause-serves g c = λ lives outlives.
    let lists = g.A.Accesses.lists c.args.accesses.now in
    let r : IsRound g.C.Component.serves g.C.Component.floor g.C.Component.stepped g.C.Component.greatest (g.X.Expand.pieces c.args.expand.now) lists c.args.chains.now c.args.ready.now.keys c.args.comps.now c.requires.come.0 c.requires.come.1 = record {
      laws = c.rounds_rest_on_these.ensures c.args.expand.now;
      chained = c.requires.chained;
      count = c.requires.count;
      ahead = c.requires.ahead;
      ascending = c.first.ensures.ascending;
      weaving = c.requires.come.2;
    }
    in
    let key : Key = c.in-Some.key in
    let at : slice_get c.args.ready.now.keys 0 ≡ Some key = sym c.first.ensures.first ∙ c.in-Some.is in
    let chain : Chain = get_or c.args.chains.now key.number (record { access = 0; end = 0; place = 0; ended = []; last = None; next = None }) in
    let there : slice_get c.args.chains.now key.number ≡ Some chain = slice_get-get_or c.args.chains.now key.number (record { access = 0; end = 0; place = 0; ended = []; last = None; next = None }) (R.within r key at) in
    let next = c.in-Some-next.next in
    let known : chain.next ≡ Some next = c.in-Some-next.is in
    λ comp is. R.serves_it r key at chain there next known comp is

pub serve-outcome-requires-clause-small : goal.serve-outcome-requires-clause-small
serve-outcome-requires-clause-small g c = λ lives outlives.
    let lists = g.A.Accesses.lists c.args.accesses.now in
    let r : IsRound g.C.Component.serves g.C.Component.floor g.C.Component.stepped g.C.Component.greatest (g.X.Expand.pieces c.args.expand.now) lists c.args.chains.now c.args.ready.now.keys c.args.comps.now c.requires.come.0 c.requires.come.1 = record {
      laws = c.rounds_rest_on_these.ensures c.args.expand.now;
      chained = c.requires.chained;
      count = c.requires.count;
      ahead = c.requires.ahead;
      ascending = c.first.ensures.ascending;
      weaving = c.requires.come.2;
    }
    in
    let key : Key = c.in-Some.key in
    let at : slice_get c.args.ready.now.keys 0 ≡ Some key = sym c.first.ensures.first ∙ c.in-Some.is in
    let chain : Chain = get_or c.args.chains.now key.number (record { access = 0; end = 0; place = 0; ended = []; last = None; next = None }) in
    let there : slice_get c.args.chains.now key.number ≡ Some chain = slice_get-get_or c.args.chains.now key.number (record { access = 0; end = 0; place = 0; ended = []; last = None; next = None }) (R.within r key at) in
    let next = c.in-Some-next.next in
    let known : chain.next ≡ Some next = c.in-Some-next.is in
    λ comp is. R.small_here r key at chain there next known comp is

pub move_on-requires-clause-place : goal.move_on-requires-clause-place
move_on-requires-clause-place g c =
    let lists = g.A.Accesses.lists c.args.accesses.now in
    let r : IsRound g.C.Component.serves g.C.Component.floor g.C.Component.stepped g.C.Component.greatest (g.X.Expand.pieces c.args.expand.now) lists c.args.chains.now c.args.ready.now.keys c.args.comps.now c.requires.come.0 c.requires.come.1 = record {
      laws = c.rounds_rest_on_these.ensures c.args.expand.now;
      chained = c.requires.chained;
      count = c.requires.count;
      ahead = c.requires.ahead;
      ascending = c.first.ensures.ascending;
      weaving = c.requires.come.2;
    }
    in
    let key : Key = c.in-Some.key in
    let at : slice_get c.args.ready.now.keys 0 ≡ Some key = sym c.first.ensures.first ∙ c.in-Some.is in
    let chain : Chain = get_or c.args.chains.now key.number (record { access = 0; end = 0; place = 0; ended = []; last = None; next = None }) in
    let there : slice_get c.args.chains.now key.number ≡ Some chain = slice_get-get_or c.args.chains.now key.number (record { access = 0; end = 0; place = 0; ended = []; last = None; next = None }) (R.within r key at) in
    let next = c.in-Some-next.next in
    let known : chain.next ≡ Some next = c.in-Some-next.is in
    R.place_small r key at chain there next known

pub move_on-requires-clause-access : goal.move_on-requires-clause-access
move_on-requires-clause-access g c =
    let lists = g.A.Accesses.lists c.args.accesses.now in
    let r : IsRound g.C.Component.serves g.C.Component.floor g.C.Component.stepped g.C.Component.greatest (g.X.Expand.pieces c.args.expand.now) lists c.args.chains.now c.args.ready.now.keys c.args.comps.now c.requires.come.0 c.requires.come.1 = record {
      laws = c.rounds_rest_on_these.ensures c.args.expand.now;
      chained = c.requires.chained;
      count = c.requires.count;
      ahead = c.requires.ahead;
      ascending = c.first.ensures.ascending;
      weaving = c.requires.come.2;
    }
    in
    let key : Key = c.in-Some.key in
    let at : slice_get c.args.ready.now.keys 0 ≡ Some key = sym c.first.ensures.first ∙ c.in-Some.is in
    let chain : Chain = get_or c.args.chains.now key.number (record { access = 0; end = 0; place = 0; ended = []; last = None; next = None }) in
    let there : slice_get c.args.chains.now key.number ≡ Some chain = slice_get-get_or c.args.chains.now key.number (record { access = 0; end = 0; place = 0; ended = []; last = None; next = None }) (R.within r key at) in
    R.chain_goes_on r key at chain there

pub look_ahead-start-requires-clause-end : goal.look_ahead-start-requires-clause-end
look_ahead-start-requires-clause-end g c =
    let lists = g.A.Accesses.lists c.args.accesses.now in
    let r : IsRound g.C.Component.serves g.C.Component.floor g.C.Component.stepped g.C.Component.greatest (g.X.Expand.pieces c.args.expand.now) lists c.args.chains.now c.args.ready.now.keys c.args.comps.now c.requires.come.0 c.requires.come.1 = record {
      laws = c.rounds_rest_on_these.ensures c.args.expand.now;
      chained = c.requires.chained;
      count = c.requires.count;
      ahead = c.requires.ahead;
      ascending = c.first.ensures.ascending;
      weaving = c.requires.come.2;
    }
    in
    let key : Key = c.in-Some.key in
    let at : slice_get c.args.ready.now.keys 0 ≡ Some key = sym c.first.ensures.first ∙ c.in-Some.is in
    let chain : Chain = get_or c.args.chains.now key.number (record { access = 0; end = 0; place = 0; ended = []; last = None; next = None }) in
    let there : slice_get c.args.chains.now key.number ≡ Some chain = slice_get-get_or c.args.chains.now key.number (record { access = 0; end = 0; place = 0; ended = []; last = None; next = None }) (R.within r key at) in
    let next = c.in-Some-next.next in
    let known : chain.next ≡ Some next = c.in-Some-next.is in
    let comp = get_some c.args.comps.now next.component (R.component_within r key at chain there next known) in
    let step = g.C.Component.stepped comp.0 next.kind key.start in
    let served : c.serve-outcome.result.served ≡ R.served_by next.core next.component key.start (step.1 - key.start - next.time) = c.serve-outcome.ensures.served comp.0 comp.1 in
    let core : next.core ≡ c.serve-outcome.result.served.core = sym (ap (λ (z : Served). z.core) served) in
    let mine : key.number ≡ c.serve-outcome.result.served.core = sym (R.core_is r key at chain there next known) ∙ core in
    let moved = c.move_on.new.self in
    let is_moved : (before : ℕ) → state_of before moved ≡ moved_on next.count (record { finish = step.1; at_zero_load = next.finish }) (state_of before chain) =
    λ before. c.move_on.ensures.moved before ∙ ap (λ d. moved_on next.count d (state_of before chain)) (c.serve-outcome.ensures.ended comp.0 comp.1)
    in
    let kept : moved.next ≡ chain.next = c.move_on.ensures.next in
    subst (λ i. moved.end ≡ length (list_of lists i)) mine (R.moved_end r key at chain there next known comp.0 comp.1 moved is_moved kept)

pub look_ahead-start-requires-clause-place : goal.look_ahead-start-requires-clause-place
look_ahead-start-requires-clause-place g c =
    let lists = g.A.Accesses.lists c.args.accesses.now in
    let r : IsRound g.C.Component.serves g.C.Component.floor g.C.Component.stepped g.C.Component.greatest (g.X.Expand.pieces c.args.expand.now) lists c.args.chains.now c.args.ready.now.keys c.args.comps.now c.requires.come.0 c.requires.come.1 = record {
      laws = c.rounds_rest_on_these.ensures c.args.expand.now;
      chained = c.requires.chained;
      count = c.requires.count;
      ahead = c.requires.ahead;
      ascending = c.first.ensures.ascending;
      weaving = c.requires.come.2;
    }
    in
    let key : Key = c.in-Some.key in
    let at : slice_get c.args.ready.now.keys 0 ≡ Some key = sym c.first.ensures.first ∙ c.in-Some.is in
    let chain : Chain = get_or c.args.chains.now key.number (record { access = 0; end = 0; place = 0; ended = []; last = None; next = None }) in
    let there : slice_get c.args.chains.now key.number ≡ Some chain = slice_get-get_or c.args.chains.now key.number (record { access = 0; end = 0; place = 0; ended = []; last = None; next = None }) (R.within r key at) in
    let next = c.in-Some-next.next in
    let known : chain.next ≡ Some next = c.in-Some-next.is in
    let comp = get_some c.args.comps.now next.component (R.component_within r key at chain there next known) in
    let step = g.C.Component.stepped comp.0 next.kind key.start in
    let served : c.serve-outcome.result.served ≡ R.served_by next.core next.component key.start (step.1 - key.start - next.time) = c.serve-outcome.ensures.served comp.0 comp.1 in
    let core : next.core ≡ c.serve-outcome.result.served.core = sym (ap (λ (z : Served). z.core) served) in
    let mine : key.number ≡ c.serve-outcome.result.served.core = sym (R.core_is r key at chain there next known) ∙ core in
    let moved = c.move_on.new.self in
    let is_moved : (before : ℕ) → state_of before moved ≡ moved_on next.count (record { finish = step.1; at_zero_load = next.finish }) (state_of before chain) =
    λ before. c.move_on.ensures.moved before ∙ ap (λ d. moved_on next.count d (state_of before chain)) (c.serve-outcome.ensures.ended comp.0 comp.1)
    in
    let kept : moved.next ≡ chain.next = c.move_on.ensures.next in
    subst (λ i. (e : _) → slice_get (list_of lists i) moved.access ≡ Some e → moved.place < length (g.X.Expand.pieces c.args.expand.now e)) mine (R.place_of r key at chain there next known comp.0 comp.1 moved is_moved kept)

pub look_ahead-start-requires-clause-known : goal.look_ahead-start-requires-clause-known
look_ahead-start-requires-clause-known g c =
    let lists = g.A.Accesses.lists c.args.accesses.now in
    let r : IsRound g.C.Component.serves g.C.Component.floor g.C.Component.stepped g.C.Component.greatest (g.X.Expand.pieces c.args.expand.now) lists c.args.chains.now c.args.ready.now.keys c.args.comps.now c.requires.come.0 c.requires.come.1 = record {
      laws = c.rounds_rest_on_these.ensures c.args.expand.now;
      chained = c.requires.chained;
      count = c.requires.count;
      ahead = c.requires.ahead;
      ascending = c.first.ensures.ascending;
      weaving = c.requires.come.2;
    }
    in
    let key : Key = c.in-Some.key in
    let at : slice_get c.args.ready.now.keys 0 ≡ Some key = sym c.first.ensures.first ∙ c.in-Some.is in
    let chain : Chain = get_or c.args.chains.now key.number (record { access = 0; end = 0; place = 0; ended = []; last = None; next = None }) in
    let there : slice_get c.args.chains.now key.number ≡ Some chain = slice_get-get_or c.args.chains.now key.number (record { access = 0; end = 0; place = 0; ended = []; last = None; next = None }) (R.within r key at) in
    let next = c.in-Some-next.next in
    let known : chain.next ≡ Some next = c.in-Some-next.is in
    let comp = get_some c.args.comps.now next.component (R.component_within r key at chain there next known) in
    let step = g.C.Component.stepped comp.0 next.kind key.start in
    let served : c.serve-outcome.result.served ≡ R.served_by next.core next.component key.start (step.1 - key.start - next.time) = c.serve-outcome.ensures.served comp.0 comp.1 in
    let core : next.core ≡ c.serve-outcome.result.served.core = sym (ap (λ (z : Served). z.core) served) in
    let mine : key.number ≡ c.serve-outcome.result.served.core = sym (R.core_is r key at chain there next known) ∙ core in
    let moved = c.move_on.new.self in
    let is_moved : (before : ℕ) → state_of before moved ≡ moved_on next.count (record { finish = step.1; at_zero_load = next.finish }) (state_of before chain) =
    λ before. c.move_on.ensures.moved before ∙ ap (λ d. moved_on next.count d (state_of before chain)) (c.serve-outcome.ensures.ended comp.0 comp.1)
    in
    let kept : moved.next ≡ chain.next = c.move_on.ensures.next in
    subst (λ i. KnowsAccess (g.X.Expand.pieces c.args.expand.now) (list_of lists i) moved) mine (R.still_known r key at chain there next known comp.0 comp.1 moved is_moved kept)

pub look_ahead-start-requires-clause-soon : goal.look_ahead-start-requires-clause-soon
look_ahead-start-requires-clause-soon g c =
    let lists = g.A.Accesses.lists c.args.accesses.now in
    let r : IsRound g.C.Component.serves g.C.Component.floor g.C.Component.stepped g.C.Component.greatest (g.X.Expand.pieces c.args.expand.now) lists c.args.chains.now c.args.ready.now.keys c.args.comps.now c.requires.come.0 c.requires.come.1 = record {
      laws = c.rounds_rest_on_these.ensures c.args.expand.now;
      chained = c.requires.chained;
      count = c.requires.count;
      ahead = c.requires.ahead;
      ascending = c.first.ensures.ascending;
      weaving = c.requires.come.2;
    }
    in
    let key : Key = c.in-Some.key in
    let at : slice_get c.args.ready.now.keys 0 ≡ Some key = sym c.first.ensures.first ∙ c.in-Some.is in
    let chain : Chain = get_or c.args.chains.now key.number (record { access = 0; end = 0; place = 0; ended = []; last = None; next = None }) in
    let there : slice_get c.args.chains.now key.number ≡ Some chain = slice_get-get_or c.args.chains.now key.number (record { access = 0; end = 0; place = 0; ended = []; last = None; next = None }) (R.within r key at) in
    let next = c.in-Some-next.next in
    let known : chain.next ≡ Some next = c.in-Some-next.is in
    let comp = get_some c.args.comps.now next.component (R.component_within r key at chain there next known) in
    let step = g.C.Component.stepped comp.0 next.kind key.start in
    let served : c.serve-outcome.result.served ≡ R.served_by next.core next.component key.start (step.1 - key.start - next.time) = c.serve-outcome.ensures.served comp.0 comp.1 in
    let core : next.core ≡ c.serve-outcome.result.served.core = sym (ap (λ (z : Served). z.core) served) in
    let mine : key.number ≡ c.serve-outcome.result.served.core = sym (R.core_is r key at chain there next known) ∙ core in
    let moved = c.move_on.new.self in
    let is_moved : (before : ℕ) → state_of before moved ≡ moved_on next.count (record { finish = step.1; at_zero_load = next.finish }) (state_of before chain) =
    λ before. c.move_on.ensures.moved before ∙ ap (λ d. moved_on next.count d (state_of before chain)) (c.serve-outcome.ensures.ended comp.0 comp.1)
    in
    let kept : moved.next ≡ chain.next = c.move_on.ensures.next in
    λ e p e_there p_there. R.start_small r key at chain there next known comp.0 comp.1 moved is_moved kept e (subst (λ i. slice_get (list_of lists i) moved.access ≡ Some e) (sym mine) e_there) p p_there

pub settle-requires-clause-first : goal.settle-requires-clause-first
settle-requires-clause-first g c =
    let lists = g.A.Accesses.lists c.args.accesses.now in
    let r : IsRound g.C.Component.serves g.C.Component.floor g.C.Component.stepped g.C.Component.greatest (g.X.Expand.pieces c.args.expand.now) lists c.args.chains.now c.args.ready.now.keys c.args.comps.now c.requires.come.0 c.requires.come.1 = record {
      laws = c.rounds_rest_on_these.ensures c.args.expand.now;
      chained = c.requires.chained;
      count = c.requires.count;
      ahead = c.requires.ahead;
      ascending = c.first.ensures.ascending;
      weaving = c.requires.come.2;
    }
    in
    let key : Key = c.in-Some.key in
    let at : slice_get c.args.ready.now.keys 0 ≡ Some key = sym c.first.ensures.first ∙ c.in-Some.is in
    (key, at, refl)

pub settle-requires-clause-soon : goal.settle-requires-clause-soon
settle-requires-clause-soon g c =
    let lists = g.A.Accesses.lists c.args.accesses.now in
    let r : IsRound g.C.Component.serves g.C.Component.floor g.C.Component.stepped g.C.Component.greatest (g.X.Expand.pieces c.args.expand.now) lists c.args.chains.now c.args.ready.now.keys c.args.comps.now c.requires.come.0 c.requires.come.1 = record {
      laws = c.rounds_rest_on_these.ensures c.args.expand.now;
      chained = c.requires.chained;
      count = c.requires.count;
      ahead = c.requires.ahead;
      ascending = c.first.ensures.ascending;
      weaving = c.requires.come.2;
    }
    in
    let key : Key = c.in-Some.key in
    let at : slice_get c.args.ready.now.keys 0 ≡ Some key = sym c.first.ensures.first ∙ c.in-Some.is in
    let chain : Chain = get_or c.args.chains.now key.number (record { access = 0; end = 0; place = 0; ended = []; last = None; next = None }) in
    let there : slice_get c.args.chains.now key.number ≡ Some chain = slice_get-get_or c.args.chains.now key.number (record { access = 0; end = 0; place = 0; ended = []; last = None; next = None }) (R.within r key at) in
    let next = c.in-Some-next.next in
    let known : chain.next ≡ Some next = c.in-Some-next.is in
    let comp = get_some c.args.comps.now next.component (R.component_within r key at chain there next known) in
    let step = g.C.Component.stepped comp.0 next.kind key.start in
    let served : c.serve-outcome.result.served ≡ R.served_by next.core next.component key.start (step.1 - key.start - next.time) = c.serve-outcome.ensures.served comp.0 comp.1 in
    let core : next.core ≡ c.serve-outcome.result.served.core = sym (ap (λ (z : Served). z.core) served) in
    let mine : key.number ≡ c.serve-outcome.result.served.core = sym (R.core_is r key at chain there next known) ∙ core in
    let moved = c.move_on.new.self in
    let is_moved : (before : ℕ) → state_of before moved ≡ moved_on next.count (record { finish = step.1; at_zero_load = next.finish }) (state_of before chain) =
    λ before. c.move_on.ensures.moved before ∙ ap (λ d. moved_on next.count d (state_of before chain)) (c.serve-outcome.ensures.ended comp.0 comp.1)
    in
    let kept : moved.next ≡ chain.next = c.move_on.ensures.next in
    let after = c.look_ahead-start.new.chain in
    let looked : IsAhead (g.X.Expand.pieces c.args.expand.now) (list_of lists key.number) after =
    subst (λ i. IsAhead (g.X.Expand.pieces c.args.expand.now) (list_of lists i) after) (sym mine) c.look_ahead-start.ensures.ahead
    in
    let starts : IfSome c.look_ahead-start.result (StartsAt (g.X.Expand.pieces c.args.expand.now) (list_of lists key.number) moved) =
    subst (λ i. IfSome c.look_ahead-start.result (StartsAt (g.X.Expand.pieces c.args.expand.now) (list_of lists i) moved)) (sym mine) c.look_ahead-start.ensures.start
    in
    R.starts_soon r key at chain there next known comp.0 comp.1 moved is_moved kept after c.look_ahead-start.ensures.chain looked c.look_ahead-start.result starts

pub returns-clause-fired : goal.returns-clause-fired
returns-clause-fired g c = λ first n w.
    let lists = g.A.Accesses.lists c.args.accesses.now in
    let r : IsRound g.C.Component.serves g.C.Component.floor g.C.Component.stepped g.C.Component.greatest (g.X.Expand.pieces c.args.expand.now) lists c.args.chains.now c.args.ready.now.keys c.args.comps.now first n = record {
      laws = c.rounds_rest_on_these.ensures c.args.expand.now;
      chained = c.requires.chained;
      count = c.requires.count;
      ahead = c.requires.ahead;
      ascending = c.first.ensures.ascending;
      weaving = w;
    }
    in
    let key : Key = c.in-Some.key in
    let at : slice_get c.args.ready.now.keys 0 ≡ Some key = sym c.first.ensures.first ∙ c.in-Some.is in
    let chain : Chain = get_or c.args.chains.now key.number (record { access = 0; end = 0; place = 0; ended = []; last = None; next = None }) in
    let there : slice_get c.args.chains.now key.number ≡ Some chain = slice_get-get_or c.args.chains.now key.number (record { access = 0; end = 0; place = 0; ended = []; last = None; next = None }) (R.within r key at) in
    let next = c.in-Some-next.next in
    let known : chain.next ≡ Some next = c.in-Some-next.is in
    let comp = get_some c.args.comps.now next.component (R.component_within r key at chain there next known) in
    let step = g.C.Component.stepped comp.0 next.kind key.start in
    let served : c.serve-outcome.result.served ≡ R.served_by next.core next.component key.start (step.1 - key.start - next.time) = c.serve-outcome.ensures.served comp.0 comp.1 in
    let core : next.core ≡ c.serve-outcome.result.served.core = sym (ap (λ (z : Served). z.core) served) in
    let mine : key.number ≡ c.serve-outcome.result.served.core = sym (R.core_is r key at chain there next known) ∙ core in
    let moved = c.move_on.new.self in
    let is_moved : (before : ℕ) → state_of before moved ≡ moved_on next.count (record { finish = step.1; at_zero_load = next.finish }) (state_of before chain) =
    λ before. c.move_on.ensures.moved before ∙ ap (λ d. moved_on next.count d (state_of before chain)) (c.serve-outcome.ensures.ended comp.0 comp.1)
    in
    let kept : moved.next ≡ chain.next = c.move_on.ensures.next in
    let after = c.look_ahead-start.new.chain in
    let looked : IsAhead (g.X.Expand.pieces c.args.expand.now) (list_of lists key.number) after =
    subst (λ i. IsAhead (g.X.Expand.pieces c.args.expand.now) (list_of lists i) after) (sym mine) c.look_ahead-start.ensures.ahead
    in
    let starts : IfSome c.look_ahead-start.result (StartsAt (g.X.Expand.pieces c.args.expand.now) (list_of lists key.number) moved) =
    subst (λ i. IfSome c.look_ahead-start.result (StartsAt (g.X.Expand.pieces c.args.expand.now) (list_of lists i) moved)) (sym mine) c.look_ahead-start.ensures.start
    in
    let keys : c.settle.new.self.keys ≡ with_next key.number c.look_ahead-start.result (drop 1 c.args.ready.now.keys) =
    ap (λ q. q.keys) c.settle.ensures
    in
    let Fires : List Key → List g.row.C.Denot → Served → Type 0 = λ ks cs s. HasFiredNext g.C.Component.stepped (g.X.Expand.pieces c.args.expand.now) (one_after_other lists) first n (states lists (slice_set c.args.chains.now key.number after)) ks cs s in
    subst (λ ks. Fires ks c.serve-outcome.new.comps c.serve-outcome.result.served) (sym keys)
    (subst (λ cs. Fires (with_next key.number c.look_ahead-start.result (drop 1 c.args.ready.now.keys)) cs c.serve-outcome.result.served) (sym (c.serve-outcome.ensures.comps comp.0 comp.1))
    (subst (λ s. Fires (with_next key.number c.look_ahead-start.result (drop 1 c.args.ready.now.keys)) (slice_set c.args.comps.now next.component step.0) s) (sym served)
    (R.fired_next r key at chain there next known comp.0 comp.1 moved is_moved kept after c.look_ahead-start.ensures.chain looked c.look_ahead-start.result c.look_ahead-start.ensures.over starts)))

pub returns-clause-ahead : goal.returns-clause-ahead
returns-clause-ahead g c =
    let lists = g.A.Accesses.lists c.args.accesses.now in
    let r : IsRound g.C.Component.serves g.C.Component.floor g.C.Component.stepped g.C.Component.greatest (g.X.Expand.pieces c.args.expand.now) lists c.args.chains.now c.args.ready.now.keys c.args.comps.now c.requires.come.0 c.requires.come.1 = record {
      laws = c.rounds_rest_on_these.ensures c.args.expand.now;
      chained = c.requires.chained;
      count = c.requires.count;
      ahead = c.requires.ahead;
      ascending = c.first.ensures.ascending;
      weaving = c.requires.come.2;
    }
    in
    let key : Key = c.in-Some.key in
    let at : slice_get c.args.ready.now.keys 0 ≡ Some key = sym c.first.ensures.first ∙ c.in-Some.is in
    let chain : Chain = get_or c.args.chains.now key.number (record { access = 0; end = 0; place = 0; ended = []; last = None; next = None }) in
    let there : slice_get c.args.chains.now key.number ≡ Some chain = slice_get-get_or c.args.chains.now key.number (record { access = 0; end = 0; place = 0; ended = []; last = None; next = None }) (R.within r key at) in
    let next = c.in-Some-next.next in
    let known : chain.next ≡ Some next = c.in-Some-next.is in
    let comp = get_some c.args.comps.now next.component (R.component_within r key at chain there next known) in
    let step = g.C.Component.stepped comp.0 next.kind key.start in
    let served : c.serve-outcome.result.served ≡ R.served_by next.core next.component key.start (step.1 - key.start - next.time) = c.serve-outcome.ensures.served comp.0 comp.1 in
    let core : next.core ≡ c.serve-outcome.result.served.core = sym (ap (λ (z : Served). z.core) served) in
    let mine : key.number ≡ c.serve-outcome.result.served.core = sym (R.core_is r key at chain there next known) ∙ core in
    let moved = c.move_on.new.self in
    let is_moved : (before : ℕ) → state_of before moved ≡ moved_on next.count (record { finish = step.1; at_zero_load = next.finish }) (state_of before chain) =
    λ before. c.move_on.ensures.moved before ∙ ap (λ d. moved_on next.count d (state_of before chain)) (c.serve-outcome.ensures.ended comp.0 comp.1)
    in
    let kept : moved.next ≡ chain.next = c.move_on.ensures.next in
    let after = c.look_ahead-start.new.chain in
    let looked : IsAhead (g.X.Expand.pieces c.args.expand.now) (list_of lists key.number) after =
    subst (λ i. IsAhead (g.X.Expand.pieces c.args.expand.now) (list_of lists i) after) (sym mine) c.look_ahead-start.ensures.ahead
    in
    R.ahead_after r key at after looked

pub returns-clause-component : goal.returns-clause-component
returns-clause-component g c =
    let lists = g.A.Accesses.lists c.args.accesses.now in
    let r : IsRound g.C.Component.serves g.C.Component.floor g.C.Component.stepped g.C.Component.greatest (g.X.Expand.pieces c.args.expand.now) lists c.args.chains.now c.args.ready.now.keys c.args.comps.now c.requires.come.0 c.requires.come.1 = record {
      laws = c.rounds_rest_on_these.ensures c.args.expand.now;
      chained = c.requires.chained;
      count = c.requires.count;
      ahead = c.requires.ahead;
      ascending = c.first.ensures.ascending;
      weaving = c.requires.come.2;
    }
    in
    let key : Key = c.in-Some.key in
    let at : slice_get c.args.ready.now.keys 0 ≡ Some key = sym c.first.ensures.first ∙ c.in-Some.is in
    let chain : Chain = get_or c.args.chains.now key.number (record { access = 0; end = 0; place = 0; ended = []; last = None; next = None }) in
    let there : slice_get c.args.chains.now key.number ≡ Some chain = slice_get-get_or c.args.chains.now key.number (record { access = 0; end = 0; place = 0; ended = []; last = None; next = None }) (R.within r key at) in
    let next = c.in-Some-next.next in
    let known : chain.next ≡ Some next = c.in-Some-next.is in
    let comp = get_some c.args.comps.now next.component (R.component_within r key at chain there next known) in
    let step = g.C.Component.stepped comp.0 next.kind key.start in
    let served : c.serve-outcome.result.served ≡ R.served_by next.core next.component key.start (step.1 - key.start - next.time) = c.serve-outcome.ensures.served comp.0 comp.1 in
    let core : next.core ≡ c.serve-outcome.result.served.core = sym (ap (λ (z : Served). z.core) served) in
    let mine : key.number ≡ c.serve-outcome.result.served.core = sym (R.core_is r key at chain there next known) ∙ core in
    let moved = c.move_on.new.self in
    let is_moved : (before : ℕ) → state_of before moved ≡ moved_on next.count (record { finish = step.1; at_zero_load = next.finish }) (state_of before chain) =
    λ before. c.move_on.ensures.moved before ∙ ap (λ d. moved_on next.count d (state_of before chain)) (c.serve-outcome.ensures.ended comp.0 comp.1)
    in
    let kept : moved.next ≡ chain.next = c.move_on.ensures.next in
    subst (λ i. i < length c.args.comps.now) (sym (ap (λ (z : Served). z.component) served)) (R.component_within r key at chain there next known)

pub returns-in_default-clause-over : goal.returns-in_default-clause-over
returns-in_default-clause-over g c = λ first n w.
    let lists = g.A.Accesses.lists c.args.accesses.now in
    let r : IsRound g.C.Component.serves g.C.Component.floor g.C.Component.stepped g.C.Component.greatest (g.X.Expand.pieces c.args.expand.now) lists c.args.chains.now c.args.ready.now.keys c.args.comps.now first n = record {
      laws = c.rounds_rest_on_these.ensures c.args.expand.now;
      chained = c.requires.chained;
      count = c.requires.count;
      ahead = c.requires.ahead;
      ascending = c.first.ensures.ascending;
      weaving = w;
    }
    in
    let none : slice_get c.args.ready.now.keys 0 ≡ None = sym c.first.ensures.first ∙ c.in_default.is in (
      R.all_have_fired r none,
      w.come,
    )
