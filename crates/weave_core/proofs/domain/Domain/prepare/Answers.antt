-- What was laid out, with the components.
use Rattle.std.proofs.Common.{List, length, sym, ap, ◌∙◌, subst}
use Rattle.event_graph.specs.declared.event.Event.{Event}
use Rattle.weave_core.proofs.Prepared.{IsBegun, begun}
use Rattle.weave_core.proofs.domain.Domain.prepare.Goals as goal

pub invariant_of-result : goal.invariant_of-result
invariant_of-result g c =
    let laid = c.in-Ok.ensures in
    let b : IsBegun g.C.Component.serves c.args.domain c.in-Ok.layout c.args.comps c.of.result.value c.of-in-Ok.result.value =
    subst (λ (es : List Event). IsBegun g.C.Component.serves c.args.domain c.in-Ok.layout c.args.comps es c.of-in-Ok.result.value) (sym c.of.ensures)
    (subst (IsBegun g.C.Component.serves c.args.domain c.in-Ok.layout c.args.comps c.args.graph.now) (sym c.of-in-Ok.ensures)
    (begun g.C.Component.serves g.C.Component.floor c.args.graph.now c.args.parts.now c.args.domain c.in-Ok.layout c.args.comps c.requires.components.0 laid.numbered c.requires.partitions laid c.requires.components.1))
    in
    record {
      numbered = b.numbered;
      partitions = b.partitions;
      here = b.here;
      linked = laid.linked;
      stubs = b.stubs;
      few = laid.few;
      exits = b.exits;
      stands = b.stands;
      counted = ap length laid.fired ∙ sym laid.counted;
      room = laid.room;
      served = b.served;
    }
