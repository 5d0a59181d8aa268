-- The first key of the queue leaves it.
use Rattle.std.proofs.Common.{◌<◌, length, subst, sym, ◌∙◌, arith}
use Rattle.weave_core.specs.Waits.{IsFirstReady, NoneReady, Waits}
use Rattle.weave_core.proofs.Lists.{get_below}
use Rattle.weave_core.proofs.Readied.{first_ready, none_ready, popped}
use Rattle.weave_core.proofs.waiting.Waiting.take_first.Goals as goal

pub returns-in_err-key-clause-none : goal.returns-in_err-key-clause-none
returns-in_err-key-clause-none c =
    rw c.from_residual.ensures
    (subst NoneReady c.self.view_is (none_ready c.self.inside.starts.items c.self.inside.waits.items c.self.inside.ready c.self.invariant (sym c.pop.ensures.first ∙ c.in_err-key.was)))

pub index_mut-requires : goal.index_mut-requires
index_mut-requires c =
    let f = first_ready c.self.inside.starts.items c.self.inside.waits.items c.self.inside.ready c.self.invariant c.in_ok-key.key c.pop.ensures.ascending (sym c.pop.ensures.first ∙ c.in_ok-key.was) in
    let below : c.in_ok-key.key.number < length c.self.inside.waits.items = get_below c.self.inside.waits.items c.in_ok-key.key.number 0 f.ready in
    omega (arith, c.self.inside.waits.ok.0)

pub invariant_of-self-2 : goal.invariant_of-self-2
invariant_of-self-2 c =
    popped c.self.inside.starts.items c.self.inside.waits.items c.self.inside.ready c.self.invariant c.in_ok-key.key c.pop.new.self c.pop.ensures.ascending (sym c.pop.ensures.first ∙ c.in_ok-key.was) c.pop.ensures.rest

pub returns-clause-first : goal.returns-clause-first
returns-clause-first c =
    subst (λ (w : Waits). IsFirstReady w c.in_ok-key.key) c.self.view_is
    (first_ready c.self.inside.starts.items c.self.inside.waits.items c.self.inside.ready c.self.invariant c.in_ok-key.key c.pop.ensures.ascending (sym c.pop.ensures.first ∙ c.in_ok-key.was))
