use denote.Exit.{yes}
use denote.Param.{param}
use denote.Param.Send.{arg_send, param_send}
use Rattle.std.proofs.Common.{List, All, sym, subst}
use Rattle.std.proofs.lemmas.List.Elements.{All-map}
use Rattle.crew.specs.Sharing.{AreDone}
use Rattle.bound_workers.specs.Works.{AreCores, CanDo, HasDone, HasShared}
use Rattle.bound_workers.specs.declared.share.Share.{Share}
use Rattle.bound_workers.specs.declared.work.Work.{Work}
use Rattle.bound_workers.specs.declared.work.Work.TheVariants.{Cores}
use Rattle.bound_workers.proofs.OfOneKind.{cores_answer, done_so, kinds}
use Rattle.bound_workers.proofs.Sending.{work_send}
use Rattle.bound_workers.proofs.working.do_shares.Goals as goal

pub do_all-requires-clause-can : goal.do_all-requires-clause-can
do_all-requires-clause-can g c κs inside =
    let K : Type 0 = Share g.row.R.Denot g.row.G.Denot in
    let J : Type 0 = Work g.row.R.Denot g.row.G.Denot in
    subst (All (λ (w : J). CanDo w)) (sym c.in_ok-jobs.ensures) (All-map (λ (w : J). CanDo w) (λ (s : K). Cores s) c.args.shares.items c.requires.can)

pub do_all-requires-send-J : goal.do_all-requires-send-J
do_all-requires-send-J g c κs within = param_send 1 _ (arg_send _ yes _ (work_send _ (param 0 g.row.R) (param 1 g.row.G) c.type_bounds.sync-R c.type_bounds.sync-G))

pub take_shares-requires-clause-shares : goal.take_shares-requires-clause-shares
take_shares-requires-clause-shares g c κs within =
    let K : Type 0 = Share g.row.R.Denot g.row.G.Denot in
    let J : Type 0 = Work g.row.R.Denot g.row.G.Denot in
    kinds (λ (s : K). Cores s) (λ (v w : J). HasDone v w) (λ (w : J). AreCores w) (λ s w did. cores_answer s w did) c.args.shares.items c.do_all.new.jobs.items
    (subst (λ (js : List J). AreDone (λ (v w : J). HasDone v w) js c.do_all.new.jobs.items) c.in_ok-jobs.ensures c.do_all.ensures.done)

pub returns-clause-done : goal.returns-clause-done
returns-clause-done g c =
    let K : Type 0 = Share g.row.R.Denot g.row.G.Denot in
    let J : Type 0 = Work g.row.R.Denot g.row.G.Denot in
    done_so (λ (s : K). Cores s) (λ (v w : J). HasDone v w) (λ (s t : K). HasShared s t) (λ s t did. did) c.args.shares.items c.take_shares.new.shares.items c.do_all.new.jobs.items
    (subst (λ (js : List J). AreDone (λ (v w : J). HasDone v w) js c.do_all.new.jobs.items) c.in_ok-jobs.ensures c.do_all.ensures.done) c.take_shares.ensures
