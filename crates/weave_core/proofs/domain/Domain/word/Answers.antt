-- The stub of the crossing has its word.
use Rattle.std.proofs.Common.{◌≡◌, ◌<◌, List, length, get_or, Some, slice_get, sym, ap, ◌∙◌, arith}
use Rattle.std.proofs.lemmas.Option.{get_or_from_slice_get}
use Rattle.weave_core.specs.declared.incoming.Stub.{Stub}
use Rattle.weave_core.specs.Answer.{no_stub}
use Rattle.weave_core.specs.DomainCalls.{DomainValue}
use Rattle.weave_core.specs.DomainMachine.{word_at}
use Rattle.weave_core.specs.Inside.{own_of}
use Rattle.weave_core.proofs.Lists.{get_there}
use Rattle.weave_core.proofs.Words.{word_known}
use Rattle.weave_core.proofs.domain.Domain.word.Goals as goal

pub returns : goal.returns
returns g c =
    let d = c.self.inside in
    let i = c.self.invariant in
    let s : (s : Stub) × (slice_get c.self.inside.incoming.stubs c.place_of.result ≡ Some s) =
    get_there c.self.inside.incoming.stubs c.place_of.result (omega (arith, c.place_of.ensures.there, ap length c.stubs-stubs.ensures.stubs))
    in
    let read : get_or c.stubs-stubs.result.now c.place_of.result no_stub ≡ s.0 =
    ap (λ (xs : List Stub). get_or xs c.place_of.result no_stub) c.stubs-stubs.ensures.stubs ∙ get_or_from_slice_get c.self.inside.incoming.stubs c.place_of.result s.0 no_stub s.1
    in
    let number : s.0.number ≡ c.args.crossing = c.place_of.ensures.number s.0 (ap (λ (xs : List Stub). slice_get xs c.place_of.result) c.stubs-stubs.ensures.stubs ∙ s.1) in
    ap (λ (z : Stub). z.word) read
    ∙ (sym (word_known d.graph.value d.parts.value d.domain d.here.items d.incoming.stubs i.stubs c.place_of.result s.0 s.1)
    ∙ (ap (word_at (own_of d).known) number ∙ ap (λ (v : DomainValue g.row.C.Denot). word_at v.own.known c.args.crossing) c.self.view_is))
