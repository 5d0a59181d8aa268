-- The least time of the parent after the limit.
use Rattle.std.proofs.Common.{◌≡◌, ◌+◌, ◌<◌, ℕ, true, false, eqb, List, length, get_or, Option, Some, None, slice_get, sym, ap, ◌∙◌, subst, refl, arith}
use Rattle.std.proofs.lemmas.Option.{get_or_from_slice_get}
use Rattle.event_graph.specs.declared.event.Event.{Event}
use Rattle.event_graph.specs.OneListWeave.{is_fired}
use Rattle.domain_map.specs.declared.crossing.Crossing.{Crossing}
use Rattle.weave_core.specs.Beginning.{HasPlace}
use Rattle.weave_core.specs.DomainCalls.{DomainValue, IsBoundAnswer}
use Rattle.weave_core.specs.DomainMachine.{latency_at, latency_of}
use Rattle.weave_core.specs.Inside.{own_of}
use Rattle.weave_core.specs.Layout.{no_event}
use Rattle.weave_core.proofs.Exiting.{parent_here}
use Rattle.weave_core.proofs.Joined.{latency_there}
use Rattle.weave_core.proofs.Limits.{all_fired, has_fired, has_not_fired, is_greatest, limit_is}
use Rattle.weave_core.proofs.Lists.{get_below, get_there}
use Rattle.weave_core.proofs.domain.Domain.bound.Goals as goal

pub returns-then-has_fired : goal.returns-then-has_fired
returns-then-has_fired g c = λ x h.
    let d = c.self.inside in
    let i = c.self.invariant in
    let there : slice_get c.self.inside.parts.value.crossings c.args.crossing ≡ Some x = ap (λ (v : DomainValue g.row.C.Denot). slice_get v.partition.crossings c.args.crossing) c.self.view_is ∙ h in
    let at : HasPlace c.self.inside.here.items x.parent c.parent_of-parent.result =
    parent_here d.here.items d.parts.value.crossings d.domain (length d.parts.value.crossings) d.exits.numbers.items d.exits.parents.items i.exits c.args.crossing c.parent_of-parent.result c.parent_of-parent.ensures x there
    in
    let w : (w : ℕ) × (slice_get c.self.inside.waiting.waits c.parent_of-parent.result ≡ Some w) =
    get_there c.self.inside.waiting.waits c.parent_of-parent.result (omega (arith, get_below c.self.inside.here.items c.parent_of-parent.result at.event at.there, i.stands.waits_size))
    in
    let test : eqb w.0 4294967295 ≡ true =
    ap (λ n. eqb n 4294967295) (sym (get_or_from_slice_get c.self.inside.waiting.waits c.parent_of-parent.result w.0 0 w.1)) ∙ (sym c.has_fired.ensures ∙ c.if-has_fired.true)
    in
    subst (λ (v : DomainValue g.row.C.Denot). is_fired v.own.fired x.parent ≡ true) c.self.view_is
    (ap (is_fired (own_of d).fired) (sym at.number_is)
    ∙ has_fired d.graph.value d.parts.value d.domain d.here.items d.incoming.stubs (own_of d) d.waiting i.numbered i.partitions i.here i.stubs refl i.stands i.few c.parent_of-parent.result at.event at.there w.0 w.1 test)

pub returns-in_err-limit : goal.returns-in_err-limit
returns-in_err-limit g c = λ x h.
    let d = c.self.inside in
    let i = c.self.invariant in
    let there : slice_get c.self.inside.parts.value.crossings c.args.crossing ≡ Some x = ap (λ (v : DomainValue g.row.C.Denot). slice_get v.partition.crossings c.args.crossing) c.self.view_is ∙ h in
    let at : HasPlace c.self.inside.here.items x.parent c.parent_of-parent.result =
    parent_here d.here.items d.parts.value.crossings d.domain (length d.parts.value.crossings) d.exits.numbers.items d.exits.parents.items i.exits c.args.crossing c.parent_of-parent.result c.parent_of-parent.ensures x there
    in
    let e = i.here.each c.parent_of-parent.result at.event at.there in
    let fired : is_fired (own_of c.self.inside).fired at.event.number ≡ true =
    all_fired d.graph.value d.parts.value d.domain d.here.items d.incoming.stubs (own_of d) d.waiting i.numbered i.partitions i.here i.stubs refl i.stands c.first.result c.first-2.result
    c.first.ensures.none c.first-2.ensures.none (sym c.in_err-limit.ensures) at.event.number at.event e.0 e.1
    in
    subst (λ (o : Option ℕ). IsBoundAnswer c.args.self.now.events c.args.self.now.partition c.args.self.now.domain c.args.self.now.own x o) (sym c.from_residual.ensures)
    (subst (λ (v : DomainValue g.row.C.Denot). is_fired v.own.fired x.parent ≡ true) c.self.view_is (ap (is_fired (own_of d).fired) (sym at.number_is) ∙ fired))

pub index-requires : goal.index-requires
index-requires g c =
    let d = c.self.inside in
    let i = c.self.invariant in
    let out = c.requires.out in
    let there : slice_get c.self.inside.parts.value.crossings c.args.crossing ≡ Some out.crossing = ap (λ (v : DomainValue g.row.C.Denot). slice_get v.partition.crossings c.args.crossing) c.self.view_is ∙ out.there in
    let at : HasPlace c.self.inside.here.items out.crossing.parent c.parent_of-parent.result =
    parent_here d.here.items d.parts.value.crossings d.domain (length d.parts.value.crossings) d.exits.numbers.items d.exits.parents.items i.exits c.args.crossing c.parent_of-parent.result c.parent_of-parent.ensures out.crossing there
    in
    omega (arith, get_below c.self.inside.here.items c.parent_of-parent.result at.event at.there, c.self.inside.here.ok.0)

pub returns : goal.returns
returns g c = λ x h.
    let d = c.self.inside in
    let i = c.self.invariant in
    let there : slice_get c.self.inside.parts.value.crossings c.args.crossing ≡ Some x = ap (λ (v : DomainValue g.row.C.Denot). slice_get v.partition.crossings c.args.crossing) c.self.view_is ∙ h in
    let at : HasPlace c.self.inside.here.items x.parent c.parent_of-parent.result =
    parent_here d.here.items d.parts.value.crossings d.domain (length d.parts.value.crossings) d.exits.numbers.items d.exits.parents.items i.exits c.args.crossing c.parent_of-parent.result c.parent_of-parent.ensures x there
    in
    let w : (w : ℕ) × (slice_get c.self.inside.waiting.waits c.parent_of-parent.result ≡ Some w) =
    get_there c.self.inside.waiting.waits c.parent_of-parent.result (omega (arith, get_below c.self.inside.here.items c.parent_of-parent.result at.event at.there, i.stands.waits_size))
    in
    let test : eqb w.0 4294967295 ≡ false =
    ap (λ n. eqb n 4294967295) (sym (get_or_from_slice_get c.self.inside.waiting.waits c.parent_of-parent.result w.0 0 w.1)) ∙ (sym c.has_fired.ensures ∙ c.if-has_fired.false)
    in
    let unfired : is_fired (own_of c.self.inside).fired x.parent ≡ false =
    ap (is_fired (own_of d).fired) (sym at.number_is)
    ∙ has_not_fired d.graph.value d.parts.value d.domain d.here.items d.incoming.stubs (own_of d) d.waiting i.numbered i.partitions i.here i.stubs refl i.stands i.few c.parent_of-parent.result at.event at.there w.0 w.1 test
    in
    let e = i.here.each c.parent_of-parent.result at.event at.there in
    let read : c.index.result.now ≡ at.event = c.index.ensures ∙ get_or_from_slice_get d.here.items c.parent_of-parent.result at.event c.index.result.now at.there in
    let latency : c.latency.result ≡ latency_at c.self.inside.graph.value x.parent =
    c.latency.ensures ∙ (ap latency_of read ∙ (sym (latency_there d.graph.value at.event.number at.event e.0) ∙ ap (latency_at d.graph.value) at.number_is))
    in
    subst (λ (v : DomainValue g.row.C.Denot). IsBoundAnswer v.events v.partition v.domain v.own x (Some c.saturating_add.result)) c.self.view_is
    (is_greatest d.graph.value d.parts.value d.domain d.here.items d.incoming.stubs (own_of d) d.waiting i.numbered i.partitions i.here i.stubs refl i.stands x c.in_ok-limit.limit c.saturating_add.result unfired
    (limit_is d.graph.value d.parts.value d.domain d.here.items d.incoming.stubs (own_of d) d.waiting i.numbered i.partitions i.here i.stubs refl i.stands c.first.result c.first-2.result
    c.first.ensures.first c.first.ensures.none c.first-2.ensures.first c.first-2.ensures.none ∙ sym c.in_ok-limit.ensures)
    (omega (arith, c.saturating_add.ensures, latency)))
