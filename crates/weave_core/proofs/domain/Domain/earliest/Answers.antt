-- The first ready place.
use Rattle.std.proofs.Common.{◌<◌, ◌≡◌, List, length, Option, Some, None, sym, ap, ◌∙◌, subst, refl, arith}
use Rattle.event_graph.specs.declared.event.Event.{Event}
use Rattle.zs_num.specs.declared.time.Key.{Key}
use Rattle.weave_core.specs.Answer.{numbered_key}
use Rattle.weave_core.specs.DomainCalls.{DomainValue, earliest_of}
use Rattle.weave_core.specs.Inside.{own_of}
use Rattle.weave_core.proofs.Answering.{earliest_none, earliest_some}
use Rattle.weave_core.proofs.Lists.{get_below}
use Rattle.weave_core.proofs.domain.Domain.earliest.Goals as goal

pub returns-in_err-key : goal.returns-in_err-key
returns-in_err-key g c =
    let d = c.self.inside in
    let i = c.self.invariant in
    c.from_residual.ensures
    ∙ subst (λ (v : DomainValue g.row.C.Denot). ◌≡◌ {A = Option Key} None (earliest_of v.events v.partition v.domain v.own)) c.self.view_is
    (sym (earliest_none d.graph.value d.parts.value d.domain d.here.items d.incoming.stubs (own_of d) d.waiting i.numbered i.partitions i.here i.stubs refl i.stands c.in_err-key.ensures.none))

pub numbered-requires : goal.numbered-requires
numbered-requires g c =
    let below : c.in_ok-key.key.number < length c.self.inside.waiting.waits = get_below c.self.inside.waiting.waits c.in_ok-key.key.number 0 c.in_ok-key.ensures.first.ready in
    omega (arith, below, c.self.invariant.stands.waits_size, ap length c.deref.ensures.value)

pub returns : goal.returns
returns g c =
    let d = c.self.inside in
    let i = c.self.invariant in
    let is : c.numbered.result ≡ numbered_key c.self.inside.here.items c.in_ok-key.key = c.numbered.ensures ∙ ap (λ (xs : List Event). numbered_key xs c.in_ok-key.key) c.deref.ensures.value in
    ap (λ (k : Key). Some k) is
    ∙ subst (λ (v : DomainValue g.row.C.Denot). ◌≡◌ {A = Option Key} (Some (numbered_key c.self.inside.here.items c.in_ok-key.key)) (earliest_of v.events v.partition v.domain v.own)) c.self.view_is
    (sym (earliest_some d.graph.value d.parts.value d.domain d.here.items d.incoming.stubs (own_of d) d.waiting i.numbered i.partitions i.here i.stubs refl i.stands c.in_ok-key.key c.in_ok-key.ensures.first))
