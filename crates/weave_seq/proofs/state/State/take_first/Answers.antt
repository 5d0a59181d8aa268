-- The queue had the keys of the ready events.
use Rattle.std.proofs.Common.{arith, subst, sym, refl}
use Rattle.weave_seq.specs.SoFar.{HasReady, IsFirst, NoneIsReady}
use Rattle.weave_seq.proofs.StateSteps.{first_popped, none_popped, popped_within, taken}
use Rattle.weave_seq.proofs.state.State.take_first.Goals as goal

pub index_mut-requires : goal.index_mut-requires
index_mut-requires c =
    let l = popped_within c.self.inside.times.items c.self.inside.waits.items c.self.inside.ready c.self.invariant c.pop.new.self.list c.in-Some.key c.in-Some.ensures.list in
    omega (arith, l, c.self.inside.waits.ok.0)

pub invariant_of-self : goal.invariant_of-self
invariant_of-self c =
    taken c.self.inside.times.items c.self.inside.waits.items c.self.inside.ready c.self.invariant c.pop.new.self.list c.in-Some.key c.in-Some.ensures.list c.pop.new.self refl c.in-Some.ensures.room

pub invariant_of-self-in-None : goal.invariant_of-self-in-None
invariant_of-self-in-None c = subst (λ q. HasReady c.self.inside.times.items c.self.inside.waits.items q) (sym c.in-None.ensures.unchanged) c.self.invariant

pub returns-in-Some-clause-first : goal.returns-in-Some-clause-first
returns-in-Some-clause-first c =
    subst (λ s. IsFirst s c.in-Some.key) c.self.view_is
    (first_popped c.self.inside.times.items c.self.inside.waits.items c.self.inside.ready c.self.invariant c.pop.new.self.list c.in-Some.key c.in-Some.ensures.list c.in-Some.ensures.least)

pub returns-in-None-clause-none : goal.returns-in-None-clause-none
returns-in-None-clause-none c =
    subst NoneIsReady c.self.view_is (none_popped c.self.inside.times.items c.self.inside.waits.items c.self.inside.ready c.self.invariant c.in-None.ensures.none)
