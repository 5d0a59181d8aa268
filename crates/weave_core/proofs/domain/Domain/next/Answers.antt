-- The first ready place and the first stub decide.
use Rattle.std.proofs.Common.{◌≡◌, List, sym, ap, ◌∙◌, subst, refl}
use Rattle.event_graph.specs.declared.event.Event.{Event}
use Rattle.weave_core.specs.declared.incoming.Stub.{Stub}
use Rattle.weave_core.specs.declared.next.Next.{Next}
use Rattle.weave_core.specs.Answer.{answer_of}
use Rattle.weave_core.specs.DomainCalls.{DomainValue, IsAnswer}
use Rattle.weave_core.specs.Inside.{own_of}
use Rattle.weave_core.proofs.Answering.{answers}
use Rattle.weave_core.proofs.domain.Domain.next.Goals as goal

pub returns : goal.returns
returns g c =
    let d = c.self.inside in
    let i = c.self.invariant in
    let is : c.answer.result ≡ answer_of c.self.inside.here.items c.self.inside.incoming.stubs c.first.result c.first-2.result =
    c.answer.ensures
    ∙ (ap (λ (xs : List Event). answer_of xs c.stubs.result.now c.first.result c.first-2.result) c.deref.ensures.value
    ∙ ap (λ (xs : List Stub). answer_of c.self.inside.here.items xs c.first.result c.first-2.result) c.stubs.ensures.stubs)
    in
    subst (λ (v : DomainValue g.row.C.Denot). IsAnswer v.events v.partition v.domain v.own c.answer.result) c.self.view_is
    (subst (λ (n : Next). IsAnswer d.graph.value d.parts.value d.domain (own_of d) n) (sym is)
    (answers d.graph.value d.parts.value d.domain d.here.items d.incoming.stubs (own_of d) d.waiting i.numbered i.partitions i.here i.stubs refl i.stands
    c.first.result c.first-2.result c.first.ensures.first c.first.ensures.none c.first-2.ensures.first c.first-2.ensures.none))
