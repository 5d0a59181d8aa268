-- The raise leaves the domain as it is.
use Rattle.std.proofs.Common.{sym, subst}
use Rattle.weave_run.specs.Seating.{HasRaised}
use Rattle.weave_run.proofs.Postings.{learned_by_looking, raised_and_looked, says_as_much}
use Rattle.weave_run.proofs.Raises.{blocked_still, raised_nothing, seated_still}
use Rattle.weave_run.proofs.post.raise_and_look.Goals.{then-raises, else-raises}
use Rattle.weave_run.proofs.post.raise_and_look.Goals as goal

pub look_again-requires-clause-post : goal.look_again-requires-clause-post
look_again-requires-clause-post g c =
    let raised : HasRaised g.C.Component.stepped c.args.plan.now c.args.crossings.now c.args.post.now c.if-raises.post =
    elim c.if-raises.branch [
      | then-raises w ↦ subst (HasRaised g.C.Component.stepped c.args.plan.now c.args.crossings.now c.args.post.now) (sym w.post-is) w.raise_all.ensures
      | else-raises w ↦ subst (HasRaised g.C.Component.stepped c.args.plan.now c.args.crossings.now c.args.post.now) (sym w.post-is) (raised_nothing g.C.Component.stepped c.args.plan.now c.args.crossings.now c.args.post.now c.requires.post)
    ]
    in
    seated_still g.C.Component.stepped c.args.plan.now c.args.crossings.now c.args.post.now c.if-raises.post c.requires.post raised

pub look_again-requires-clause-blocked : goal.look_again-requires-clause-blocked
look_again-requires-clause-blocked g c =
    let raised : HasRaised g.C.Component.stepped c.args.plan.now c.args.crossings.now c.args.post.now c.if-raises.post =
    elim c.if-raises.branch [
      | then-raises w ↦ subst (HasRaised g.C.Component.stepped c.args.plan.now c.args.crossings.now c.args.post.now) (sym w.post-is) w.raise_all.ensures
      | else-raises w ↦ subst (HasRaised g.C.Component.stepped c.args.plan.now c.args.crossings.now c.args.post.now) (sym w.post-is) (raised_nothing g.C.Component.stepped c.args.plan.now c.args.crossings.now c.args.post.now c.requires.post)
    ]
    in
    blocked_still g.C.Component.stepped c.args.plan.now c.args.crossings.now c.args.plan.now.graph.value c.args.plan.now.parts.value c.args.post.now c.if-raises.post c.args.crossing c.args.bound raised c.requires.blocked

pub returns : goal.returns
returns g c =
    let raised : HasRaised g.C.Component.stepped c.args.plan.now c.args.crossings.now c.args.post.now c.if-raises.post =
    elim c.if-raises.branch [
      | then-raises w ↦ subst (HasRaised g.C.Component.stepped c.args.plan.now c.args.crossings.now c.args.post.now) (sym w.post-is) w.raise_all.ensures
      | else-raises w ↦ subst (HasRaised g.C.Component.stepped c.args.plan.now c.args.crossings.now c.args.post.now) (sym w.post-is) (raised_nothing g.C.Component.stepped c.args.plan.now c.args.crossings.now c.args.post.now c.requires.post)
    ]
    in
    raised_and_looked g.C.Component.stepped c.args.plan.now c.args.crossings.now c.args.post.now c.if-raises.post c.look_again.new.post raised
    (learned_by_looking g.C.Component.stepped c.args.plan.now c.args.crossings.now c.if-raises.post c.look_again.new.post c.args.crossing c.args.bound c.look_again.result
    (says_as_much g.C.Component.serves g.C.Component.floor g.C.Component.stepped g.C.Component.greatest c.domains_keep_to_the_weave.ensures c.args.plan.now c.requires.can c.args.crossings.now c.if-raises.post.domain.own c.if-raises.post.domain.domain c.args.crossing c.args.bound
    (blocked_still g.C.Component.stepped c.args.plan.now c.args.crossings.now c.args.plan.now.graph.value c.args.plan.now.parts.value c.args.post.now c.if-raises.post c.args.crossing c.args.bound raised c.requires.blocked))
    c.look_again.ensures)
