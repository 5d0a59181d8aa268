-- It stops where the next event may not fire.
use Rattle.std.proofs.Common.{◌+◌, sym, ◌∙◌, subst}
use Rattle.weave_run.proofs.Postings.{HasStepped, blocked_by, blocked_is_no_fire, done_is_no_fire, gone_on_looking, has_served, served_by_learning, stepped_by_firing, stepped_by_learning}
use Rattle.weave_run.proofs.Tellings.{grows_by_learning, grows_nothing}
use Rattle.weave_run.proofs.post.run_beside_others.Goals.{in-Fire, in-Blocked+else-not-raise_and_look}
use Rattle.weave_run.proofs.post.run_beside_others.Goals as goal

pub raise_and_look-requires-clause-blocked : goal.raise_and_look-requires-clause-blocked
raise_and_look-requires-clause-blocked g c =
    blocked_by g.C.Component.serves g.C.Component.floor g.C.Component.stepped g.C.Component.greatest c.domains_keep_to_the_weave.ensures c.args.plan.now c.requires.can c.args.crossings.now c.loop-step.post c.loop-step.invariant.so_far.can c.next.result c.in-Blocked.crossing c.in-Blocked.bound c.in-Blocked.is c.next.ensures

pub returns-then-not-raise_and_look : goal.returns-then-not-raise_and_look
returns-then-not-raise_and_look g c =
    let i = c.loop-step.invariant in
    has_served g.C.Component.serves g.C.Component.floor g.C.Component.stepped g.C.Component.greatest c.domains_keep_to_the_weave.ensures c.args.plan.now c.requires.can c.args.crossings.now c.args.post.now c.raise_and_look.new.post
    (served_by_learning g.C.Component.stepped c.args.plan.now c.args.crossings.now c.args.post.now c.loop-step.post c.raise_and_look.new.post i.so_far c.raise_and_look.ensures)
    (gone_on_looking g.C.Component.serves g.C.Component.floor g.C.Component.stepped g.C.Component.greatest c.domains_keep_to_the_weave.ensures c.args.plan.now c.requires.can c.args.crossings.now c.args.post.now c.loop-step.post c.raise_and_look.new.post
    c.loop-step._step c.next.result i.so_far i.fresh i.goes c.next.ensures (λ key e. blocked_is_no_fire c.in-Blocked.crossing c.in-Blocked.bound key (sym c.in-Blocked.is ∙ e))
    (grows_by_learning c.loop-step.post.domain.own c.raise_and_look.new.post.domain.own c.raise_and_look.ensures.learns))

pub returns-in-Done : goal.returns-in-Done
returns-in-Done g c =
    let i = c.loop-step.invariant in
    has_served g.C.Component.serves g.C.Component.floor g.C.Component.stepped g.C.Component.greatest c.domains_keep_to_the_weave.ensures c.args.plan.now c.requires.can c.args.crossings.now c.args.post.now c.loop-step.post i.so_far
    (gone_on_looking g.C.Component.serves g.C.Component.floor g.C.Component.stepped g.C.Component.greatest c.domains_keep_to_the_weave.ensures c.args.plan.now c.requires.can c.args.crossings.now c.args.post.now c.loop-step.post c.loop-step.post
    c.loop-step._step c.next.result i.so_far i.fresh i.goes c.next.ensures (λ key e. done_is_no_fire key (sym c.in-Done.is ∙ e)) (grows_nothing c.loop-step.post.domain.own))

pub loop-step-preserved : goal.loop-step-preserved
loop-step-preserved g c =
    let i = c.loop-step.invariant in
    let h : HasStepped g.C.Component.serves g.C.Component.floor g.C.Component.stepped g.C.Component.greatest c.domains_keep_to_the_weave.ensures c.args.plan.now c.requires.can c.args.crossings.now c.args.post.now c.loop-step._step c.loop-step.post =
    record { so_far = i.so_far; fresh = i.fresh; goes = i.goes }
    in
    let after : HasStepped g.C.Component.serves g.C.Component.floor g.C.Component.stepped g.C.Component.greatest c.domains_keep_to_the_weave.ensures c.args.plan.now c.requires.can c.args.crossings.now c.args.post.now (c.loop-step._step + 1) c.match-next.post =
    elim c.match-next.branch [
      | in-Fire w ↦
          subst (HasStepped g.C.Component.serves g.C.Component.floor g.C.Component.stepped g.C.Component.greatest c.domains_keep_to_the_weave.ensures c.args.plan.now c.requires.can c.args.crossings.now c.args.post.now (c.loop-step._step + 1)) (sym w.post-is)
          (stepped_by_firing g.C.Component.serves g.C.Component.floor g.C.Component.stepped g.C.Component.greatest c.domains_keep_to_the_weave.ensures c.args.plan.now c.requires.can c.args.crossings.now c.args.post.now c.loop-step.post w.fire_and_publish.new.post
          c.loop-step._step h w.fire_and_publish.ensures)
      | in-Blocked+else-not-raise_and_look w ↦
          subst (HasStepped g.C.Component.serves g.C.Component.floor g.C.Component.stepped g.C.Component.greatest c.domains_keep_to_the_weave.ensures c.args.plan.now c.requires.can c.args.crossings.now c.args.post.now (c.loop-step._step + 1)) (sym w.post-is)
          (stepped_by_learning g.C.Component.serves g.C.Component.floor g.C.Component.stepped g.C.Component.greatest c.domains_keep_to_the_weave.ensures c.args.plan.now c.requires.can c.args.crossings.now c.args.post.now c.loop-step.post w.raise_and_look.new.post
          c.loop-step._step c.next.result h c.next.ensures (λ key e. blocked_is_no_fire w.in-Blocked.crossing w.in-Blocked.bound key (sym w.in-Blocked.is ∙ e)) w.raise_and_look.ensures)
    ]
    in
    record { so_far = after.so_far; fresh = after.fresh; goes = after.goes }
