-- The first key of the queue.
use Rattle.std.proofs.Common.{Option, Some, None, subst, sym, ◌≡◌, ◌∙◌, refl}
use Rattle.std.specs.Prelude.{IfSome, IfNone}
use Rattle.zs_num.specs.declared.time.Key.{Key}
use Rattle.weave_core.specs.Waits.{IsFirstReady, NoneReady, Waits}
use Rattle.weave_core.proofs.Readied.{first_ready, none_ready}
use Rattle.weave_core.proofs.waiting.Waiting.first.Goals as goal

if_some : (o : Option Key) (P : Key → Type 0) → ((k : Key) → o ≡ Some k → P k) → IfSome o P
if_some None P h = tt
if_some (Some k) P h = h k refl

if_none : (o : Option Key) (P : Type 0) → (o ≡ None → P) → IfNone o P
if_none None P h = h refl
if_none (Some k) P h = tt

pub returns-clause-first : goal.returns-clause-first
returns-clause-first c =
    if_some c.first.result (IsFirstReady c.args.self.now)
    (λ k e. subst (λ (w : Waits). IsFirstReady w k) c.self.view_is
    (first_ready c.self.inside.starts.items c.self.inside.waits.items c.self.inside.ready c.self.invariant k c.first.ensures.ascending (sym c.first.ensures.first ∙ e)))

pub returns-clause-none : goal.returns-clause-none
returns-clause-none c =
    if_none c.first.result (NoneReady c.args.self.now)
    (λ e. subst NoneReady c.self.view_is
    (none_ready c.self.inside.starts.items c.self.inside.waits.items c.self.inside.ready c.self.invariant (sym c.first.ensures.first ∙ e)))
