-- By the facts of a round of one core.
use Rattle.std.proofs.Common.{◌≡◌, ◌+◌, ◌-◌, ◌<◌, ◌^◌, ◌∙◌, List, None, Some, ap, arith, get_or, length, refl, subst, sym}
use Rattle.std.specs.Prelude.{slice_get, slice_set}
use Rattle.std.proofs.lemmas.Option.{slice_get-get_or}
use Rattle.zs_num.specs.declared.entry.Entry.{Entry}
use Rattle.event_graph.specs.declared.piece.Piece.{Piece}
use Rattle.weave_chains.specs.declared.chain.Chain.{Chain}
use Rattle.weave_chains.specs.declared.chain.Ended.{Ended}
use Rattle.weave_chains.specs.declared.chain.Next.{Next}
use Rattle.weave_chains.specs.declared.tally.Served.{Served}
use Rattle.weave_chains.specs.declared.tally.Tally.{Tally}
use Rattle.weave_chains.specs.Alone.{IsAlone, standing, step_on}
use Rattle.weave_chains.specs.Listed.{list_of, number_before}
use Rattle.weave_chains.specs.NextEvents.{IsNext}
use Rattle.weave_chains.specs.Tallies.{taken}
use Rattle.weave_chains.proofs.Listed.{in_all}
use Rattle.weave_chains.proofs.OneCore as A
use Rattle.weave_chains.proofs.OneCore.{is_next_of, next_of}
use Rattle.weave_chains.proofs.Popped.{get_some}
use Rattle.weave_chains.proofs.Round.{served_by}
use Rattle.weave_chains.proofs.alone.fire_one.Goals as goal

pub overflow_add-begin : goal.overflow_add-begin
overflow_add-begin g c =
    let lists = g.A.Accesses.lists c.args.accesses.now in
    let pieces = g.X.Expand.pieces c.args.expand.now in
    let laws = c.rounds_rest_on_these.ensures c.args.expand.now in
    let e : Entry = c.args.entry.now in
    let p : Piece = c.piece-piece.result in
    let stands : Chain = standing lists c.args.access c.args.place c.args.ended.now c.args.last in
    let known : Next = next_of c.args.count e p in
    let is : IsNext pieces (list_of lists 0) stands known = is_next_of pieces lists c.args.access c.args.place c.args.ended.now c.args.last c.args.count e p c.requires.there c.requires.count c.piece-piece.ensures in
    omega (arith, c.requires.chained.early (number_before lists 0 + c.args.access) e (in_all lists 0 c.args.access e c.requires.there), laws.short e c.args.place p c.piece-piece.ensures)

pub overflow_add-next : goal.overflow_add-next
overflow_add-next g c =
    let lists = g.A.Accesses.lists c.args.accesses.now in
    let pieces = g.X.Expand.pieces c.args.expand.now in
    let laws = c.rounds_rest_on_these.ensures c.args.expand.now in
    let e : Entry = c.args.entry.now in
    let p : Piece = c.piece-piece.result in
    let stands : Chain = standing lists c.args.access c.args.place c.args.ended.now c.args.last in
    let known : Next = next_of c.args.count e p in
    let is : IsNext pieces (list_of lists 0) stands known = is_next_of pieces lists c.args.access c.args.place c.args.ended.now c.args.last c.args.count e p c.requires.there c.requires.count c.piece-piece.ensures in
    omega (arith, c.requires.chained.early (number_before lists 0 + c.args.access) e (in_all lists 0 c.args.access e c.requires.there), laws.short e c.args.place p c.piece-piece.ensures)

pub start_of-start-requires : goal.start_of-start-requires
start_of-start-requires g c =
    let lists = g.A.Accesses.lists c.args.accesses.now in
    let pieces = g.X.Expand.pieces c.args.expand.now in
    let laws = c.rounds_rest_on_these.ensures c.args.expand.now in
    let e : Entry = c.args.entry.now in
    let p : Piece = c.piece-piece.result in
    let stands : Chain = standing lists c.args.access c.args.place c.args.ended.now c.args.last in
    let known : Next = next_of c.args.count e p in
    let is : IsNext pieces (list_of lists 0) stands known = is_next_of pieces lists c.args.access c.args.place c.args.ended.now c.args.last c.args.count e p c.requires.there c.requires.count c.piece-piece.ensures in
    let a = c.requires.come in
    A.start_small laws lists c.requires.chained c.requires.one a.0 a.1 stands refl c.args.comps.now c.args.tallies.now a.2 known is

pub serve-outcome-requires-clause-component : goal.serve-outcome-requires-clause-component
serve-outcome-requires-clause-component g c κs within =
    let lists = g.A.Accesses.lists c.args.accesses.now in
    let pieces = g.X.Expand.pieces c.args.expand.now in
    let laws = c.rounds_rest_on_these.ensures c.args.expand.now in
    let e : Entry = c.args.entry.now in
    let p : Piece = c.piece-piece.result in
    let stands : Chain = standing lists c.args.access c.args.place c.args.ended.now c.args.last in
    let known : Next = next_of c.args.count e p in
    let is : IsNext pieces (list_of lists 0) stands known = is_next_of pieces lists c.args.access c.args.place c.args.ended.now c.args.last c.args.count e p c.requires.there c.requires.count c.piece-piece.ensures in
    let a = c.requires.come in
    A.component_within laws lists c.requires.chained c.requires.one a.0 a.1 stands refl c.args.comps.now c.args.tallies.now a.2 known is

pub serve-outcome-requires-clause-serves : goal.serve-outcome-requires-clause-serves
serve-outcome-requires-clause-serves g c κs within =
    let lists = g.A.Accesses.lists c.args.accesses.now in
    let pieces = g.X.Expand.pieces c.args.expand.now in
    let laws = c.rounds_rest_on_these.ensures c.args.expand.now in
    let e : Entry = c.args.entry.now in
    let p : Piece = c.piece-piece.result in
    let stands : Chain = standing lists c.args.access c.args.place c.args.ended.now c.args.last in
    let known : Next = next_of c.args.count e p in
    let is : IsNext pieces (list_of lists 0) stands known = is_next_of pieces lists c.args.access c.args.place c.args.ended.now c.args.last c.args.count e p c.requires.there c.requires.count c.piece-piece.ensures in
    let a = c.requires.come in
    λ comp comp_is. A.serves_it laws lists c.requires.chained c.requires.one a.0 a.1 stands refl c.args.comps.now c.args.tallies.now a.2 known is comp comp_is

pub serve-outcome-requires-clause-small : goal.serve-outcome-requires-clause-small
serve-outcome-requires-clause-small g c κs within =
    let lists = g.A.Accesses.lists c.args.accesses.now in
    let pieces = g.X.Expand.pieces c.args.expand.now in
    let laws = c.rounds_rest_on_these.ensures c.args.expand.now in
    let e : Entry = c.args.entry.now in
    let p : Piece = c.piece-piece.result in
    let stands : Chain = standing lists c.args.access c.args.place c.args.ended.now c.args.last in
    let known : Next = next_of c.args.count e p in
    let is : IsNext pieces (list_of lists 0) stands known = is_next_of pieces lists c.args.access c.args.place c.args.ended.now c.args.last c.args.count e p c.requires.there c.requires.count c.piece-piece.ensures in
    let a = c.requires.come in
    λ comp comp_is. A.small_now laws lists c.requires.chained c.requires.one a.0 a.1 stands refl c.args.comps.now c.args.tallies.now a.2 known is comp comp_is c.start_of-start.result c.start_of-start.ensures

pub bounds-tallies-from : goal.bounds-tallies-from
bounds-tallies-from g c =
    let lists = g.A.Accesses.lists c.args.accesses.now in
    let pieces = g.X.Expand.pieces c.args.expand.now in
    let laws = c.rounds_rest_on_these.ensures c.args.expand.now in
    let e : Entry = c.args.entry.now in
    let p : Piece = c.piece-piece.result in
    let stands : Chain = standing lists c.args.access c.args.place c.args.ended.now c.args.last in
    let known : Next = next_of c.args.count e p in
    let is : IsNext pieces (list_of lists 0) stands known = is_next_of pieces lists c.args.access c.args.place c.args.ended.now c.args.last c.args.count e p c.requires.there c.requires.count c.piece-piece.ensures in
    let a = c.requires.come in
    let comp = get_some c.args.comps.now p.component (A.component_within laws lists c.requires.chained c.requires.one a.0 a.1 stands refl c.args.comps.now c.args.tallies.now a.2 known is) in
    let step = g.C.Component.stepped comp.0 p.kind c.start_of-start.result in
    let served : c.serve-outcome.result.served ≡ served_by e.core p.component c.start_of-start.result (step.1 - c.start_of-start.result - p.time) = c.serve-outcome.ensures.served comp.0 comp.1 in
    let component : c.serve-outcome.result.served.component ≡ p.component = ap (λ (z : Served). z.component) served in
    let none : Tally = record { count = record { events = 0; waited = 0; free = 0 }; last = None } in
    let within : c.from.result < length c.args.tallies.now = omega (arith, c.from.ensures, component, A.component_within laws lists c.requires.chained c.requires.one a.0 a.1 stands refl c.args.comps.now c.args.tallies.now a.2 known is, a.2.tallies_are) in
    let t : Tally = get_or c.args.tallies.now c.from.result none in
    let at : slice_get c.args.tallies.now p.component ≡ Some t = subst (λ k. slice_get c.args.tallies.now k ≡ Some t) (c.from.ensures ∙ component) (slice_get-get_or c.args.tallies.now c.from.result none within) in
    within

pub take-requires-clause-events : goal.take-requires-clause-events
take-requires-clause-events g c =
    let lists = g.A.Accesses.lists c.args.accesses.now in
    let pieces = g.X.Expand.pieces c.args.expand.now in
    let laws = c.rounds_rest_on_these.ensures c.args.expand.now in
    let e : Entry = c.args.entry.now in
    let p : Piece = c.piece-piece.result in
    let stands : Chain = standing lists c.args.access c.args.place c.args.ended.now c.args.last in
    let known : Next = next_of c.args.count e p in
    let is : IsNext pieces (list_of lists 0) stands known = is_next_of pieces lists c.args.access c.args.place c.args.ended.now c.args.last c.args.count e p c.requires.there c.requires.count c.piece-piece.ensures in
    let a = c.requires.come in
    let comp = get_some c.args.comps.now p.component (A.component_within laws lists c.requires.chained c.requires.one a.0 a.1 stands refl c.args.comps.now c.args.tallies.now a.2 known is) in
    let step = g.C.Component.stepped comp.0 p.kind c.start_of-start.result in
    let served : c.serve-outcome.result.served ≡ served_by e.core p.component c.start_of-start.result (step.1 - c.start_of-start.result - p.time) = c.serve-outcome.ensures.served comp.0 comp.1 in
    let component : c.serve-outcome.result.served.component ≡ p.component = ap (λ (z : Served). z.component) served in
    let none : Tally = record { count = record { events = 0; waited = 0; free = 0 }; last = None } in
    let within : c.from.result < length c.args.tallies.now = omega (arith, c.from.ensures, component, A.component_within laws lists c.requires.chained c.requires.one a.0 a.1 stands refl c.args.comps.now c.args.tallies.now a.2 known is, a.2.tallies_are) in
    let t : Tally = get_or c.args.tallies.now c.from.result none in
    let at : slice_get c.args.tallies.now p.component ≡ Some t = subst (λ k. slice_get c.args.tallies.now k ≡ Some t) (c.from.ensures ∙ component) (slice_get-get_or c.args.tallies.now c.from.result none within) in
    let small = a.2.small p.component t at in
    omega (arith, small.0, A.more laws lists c.requires.chained c.requires.one a.0 a.1 stands refl c.args.comps.now c.args.tallies.now a.2 known is comp.0 comp.1, c.requires.few)

pub take-requires-clause-waited : goal.take-requires-clause-waited
take-requires-clause-waited g c =
    let lists = g.A.Accesses.lists c.args.accesses.now in
    let pieces = g.X.Expand.pieces c.args.expand.now in
    let laws = c.rounds_rest_on_these.ensures c.args.expand.now in
    let e : Entry = c.args.entry.now in
    let p : Piece = c.piece-piece.result in
    let stands : Chain = standing lists c.args.access c.args.place c.args.ended.now c.args.last in
    let known : Next = next_of c.args.count e p in
    let is : IsNext pieces (list_of lists 0) stands known = is_next_of pieces lists c.args.access c.args.place c.args.ended.now c.args.last c.args.count e p c.requires.there c.requires.count c.piece-piece.ensures in
    let a = c.requires.come in
    let comp = get_some c.args.comps.now p.component (A.component_within laws lists c.requires.chained c.requires.one a.0 a.1 stands refl c.args.comps.now c.args.tallies.now a.2 known is) in
    let step = g.C.Component.stepped comp.0 p.kind c.start_of-start.result in
    let served : c.serve-outcome.result.served ≡ served_by e.core p.component c.start_of-start.result (step.1 - c.start_of-start.result - p.time) = c.serve-outcome.ensures.served comp.0 comp.1 in
    let component : c.serve-outcome.result.served.component ≡ p.component = ap (λ (z : Served). z.component) served in
    let none : Tally = record { count = record { events = 0; waited = 0; free = 0 }; last = None } in
    let within : c.from.result < length c.args.tallies.now = omega (arith, c.from.ensures, component, A.component_within laws lists c.requires.chained c.requires.one a.0 a.1 stands refl c.args.comps.now c.args.tallies.now a.2 known is, a.2.tallies_are) in
    let t : Tally = get_or c.args.tallies.now c.from.result none in
    let at : slice_get c.args.tallies.now p.component ≡ Some t = subst (λ k. slice_get c.args.tallies.now k ≡ Some t) (c.from.ensures ∙ component) (slice_get-get_or c.args.tallies.now c.from.result none within) in
    let small = a.2.small p.component t at in
    omega (arith, small.1, A.more laws lists c.requires.chained c.requires.one a.0 a.1 stands refl c.args.comps.now c.args.tallies.now a.2 known is comp.0 comp.1, c.requires.few)

pub returns-clause-fired : goal.returns-clause-fired
returns-clause-fired g c = λ first n a.
    let lists = g.A.Accesses.lists c.args.accesses.now in
    let pieces = g.X.Expand.pieces c.args.expand.now in
    let laws = c.rounds_rest_on_these.ensures c.args.expand.now in
    let e : Entry = c.args.entry.now in
    let p : Piece = c.piece-piece.result in
    let stands : Chain = standing lists c.args.access c.args.place c.args.ended.now c.args.last in
    let known : Next = next_of c.args.count e p in
    let is : IsNext pieces (list_of lists 0) stands known = is_next_of pieces lists c.args.access c.args.place c.args.ended.now c.args.last c.args.count e p c.requires.there c.requires.count c.piece-piece.ensures in
    let comp = get_some c.args.comps.now p.component (A.component_within laws lists c.requires.chained c.requires.one first n stands refl c.args.comps.now c.args.tallies.now a known is) in
    let step = g.C.Component.stepped comp.0 p.kind c.start_of-start.result in
    let served : c.serve-outcome.result.served ≡ served_by e.core p.component c.start_of-start.result (step.1 - c.start_of-start.result - p.time) = c.serve-outcome.ensures.served comp.0 comp.1 in
    let component : c.serve-outcome.result.served.component ≡ p.component = ap (λ (z : Served). z.component) served in
    let none : Tally = record { count = record { events = 0; waited = 0; free = 0 }; last = None } in
    let within : c.from.result < length c.args.tallies.now = omega (arith, c.from.ensures, component, A.component_within laws lists c.requires.chained c.requires.one first n stands refl c.args.comps.now c.args.tallies.now a known is, a.tallies_are) in
    let t : Tally = get_or c.args.tallies.now c.from.result none in
    let at : slice_get c.args.tallies.now p.component ≡ Some t = subst (λ k. slice_get c.args.tallies.now k ≡ Some t) (c.from.ensures ∙ component) (slice_get-get_or c.args.tallies.now c.from.result none within) in
    let now : slice_set c.args.tallies.now p.component (taken t (served_by e.core p.component c.start_of-start.result (step.1 - c.start_of-start.result - p.time))) ≡ slice_set c.args.tallies.now c.from.result c.take.new.self =
    ap (λ k. slice_set c.args.tallies.now k (taken t (served_by e.core p.component c.start_of-start.result (step.1 - c.start_of-start.result - p.time)))) (sym (c.from.ensures ∙ component))
    ∙ ap (slice_set c.args.tallies.now c.from.result) (ap (taken t) (sym served) ∙ sym c.take.ensures.taken)
    in
    let waits : c.serve-outcome.result.served.waited ≡ step.1 - c.start_of-start.result - p.time = ap (λ (z : Served). z.waited) served in
    let few : c.serve-outcome.result.served.waited < 2 ^ 64 = omega arith in
    let Alone : List g.row.C.Denot → Ended → List Tally → Type 0 = λ cs d ts. IsAlone g.C.Component.serves g.C.Component.floor g.C.Component.stepped g.C.Component.greatest pieces lists first (n + 1) (step_on c.args.count d stands) cs ts in
    subst (λ cs. Alone cs c.serve-outcome.result.ended (slice_set c.args.tallies.now c.from.result c.take.new.self)) (sym (c.serve-outcome.ensures.comps comp.0 comp.1))
    (subst (λ d. Alone (slice_set c.args.comps.now p.component step.0) d (slice_set c.args.tallies.now c.from.result c.take.new.self)) (sym (c.serve-outcome.ensures.ended comp.0 comp.1))
    (subst (λ ts. Alone (slice_set c.args.comps.now p.component step.0) (record { finish = step.1; at_zero_load = known.finish }) ts) now
    (A.alone_next laws lists c.requires.chained c.requires.one first n stands refl c.args.comps.now c.args.tallies.now a known is comp.0 comp.1 t at c.start_of-start.result c.start_of-start.ensures (omega (arith, waits, few)))))
