-- The keys are no later under a higher floor.
use Rattle.std.proofs.Common.{◌≡◌, List, ap, sym, subst, arith}
use Rattle.weave_core.specs.declared.incoming.Stub.{Stub}
use Rattle.weave_core.specs.Stubs.{AreSmallStubs, IsKeyed, Stubs}
use Rattle.weave_core.proofs.Retold.{keyed_raised}
use Rattle.weave_core.proofs.incoming.Incoming.raise_floor.Goals as goal

pub settle-requires-clause-small : goal.settle-requires-clause-small
settle-requires-clause-small c = subst AreSmallStubs (sym c.deref.ensures.value) c.self.invariant.small

pub settle-requires-clause-keyed : goal.settle-requires-clause-keyed
settle-requires-clause-keyed c =
    let floor : c.self.inside.floor ≡ c.args.self.now.floor = ap (λ (v : Stubs). v.floor) c.self.view_is in
    subst (λ (xs : List Stub). IsKeyed xs c.args.floor c.self.inside.by_floor c.self.inside.by_word) (sym c.deref.ensures.value)
    (keyed_raised c.self.inside.stubs.items c.self.inside.floor c.self.inside.by_floor c.self.inside.by_word c.self.invariant.keyed c.args.floor (omega (arith, floor, c.requires.floor)))
