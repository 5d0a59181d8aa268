-- Each share was done, by whoever had it.
use Rattle.std.proofs.Common.{List, All, sym, subst}
use Rattle.std.proofs.lemmas.List.Elements.{All-map}
use Rattle.component.specs.ComponentStep.{comp_step}
use Rattle.component.specs.declared.comp.Comp.{Comp}
use Rattle.weave_run.specs.Shares.{HasRunShare, HaveRunShares}
use Rattle.weave_run.specs.declared.share.DomainShare.{DomainShare}
use Rattle.crew.specs.Sharing.{AreDone}
use Rattle.bound_workers.proofs.Giving.{all_of, answered}
use Rattle.bound_workers.proofs.weaving.run_all.Goals as goal

pub do_all-requires-clause-can : goal.do_all-requires-clause-can
do_all-requires-clause-can g c κs within =
    let K : Type 0 = DomainShare Comp g.row.W.Denot in
    let J : Type 0 = g.row.J.Denot in
    let of : K → J = g.J.Carries.of in
    subst (All g.J.Job.can) (sym c.give.ensures.jobs) (All-map g.J.Job.can of c.args.shares.now.items (λ i d below. c.requires.carries.may _ (c.requires.can i d below)))

pub take_back-requires-clause-shares : goal.take_back-requires-clause-shares
take_back-requires-clause-shares g c κs within =
    let K : Type 0 = DomainShare Comp g.row.W.Denot in
    let J : Type 0 = g.row.J.Denot in
    let of : K → J = g.J.Carries.of in
    let back = answered of g.J.Job.done (HasRunShare comp_step) c.requires.carries.did c.args.shares.now.items c.do_all.new.jobs.items
    (subst (λ (js : List J). AreDone g.J.Job.done js c.do_all.new.jobs.items) c.give.ensures.jobs c.do_all.ensures.done) in
    all_of of c.do_all.new.jobs.items back.back back.are

pub returns-clause-ran : goal.returns-clause-ran
returns-clause-ran g c =
    let K : Type 0 = DomainShare Comp g.row.W.Denot in
    let J : Type 0 = g.row.J.Denot in
    let of : K → J = g.J.Carries.of in
    let back = answered of g.J.Job.done (HasRunShare comp_step) c.requires.carries.did c.args.shares.now.items c.do_all.new.jobs.items
    (subst (λ (js : List J). AreDone g.J.Job.done js c.do_all.new.jobs.items) c.give.ensures.jobs c.do_all.ensures.done) in
    let ran : HaveRunShares comp_step c.args.shares.now.items back.back = record { count = back.own.count; each = λ worker d below. back.own.each worker d below } in
    subst (HaveRunShares comp_step c.args.shares.now.items) (sym (c.take_back.ensures.shares back.back back.are)) ran
