use denote.Exit.{yes}
use denote.Param.{param}
use denote.Param.Send.{arg_send, param_send}
use Rattle.std.proofs.Common.{◌≡◌, ◌<◌, ◌+◌, List, All, length, map, sym, ◌∙◌, ap, subst, arith}
use Rattle.std.proofs.lemmas.List.{length-map}
use Rattle.std.proofs.lemmas.List.Elements.{All-map}
use Rattle.crew.specs.Sharing.{AreDone}
use Rattle.bound_workers.specs.Orderings.{HasOrdered}
use Rattle.bound_workers.specs.Works.{CanDo, HasDone, IsOrder}
use Rattle.bound_workers.specs.declared.ordering.Ordering.{Ordering}
use Rattle.bound_workers.specs.declared.work.Work.{Work}
use Rattle.bound_workers.specs.declared.work.Work.TheVariants.{Order}
use Rattle.bound_workers.proofs.OfOneKind.{done_so, kinds, order_answer}
use Rattle.bound_workers.proofs.Sending.{work_send}
use Rattle.bound_workers.proofs.ordering.tell_all.Goals as goal

pub do_all-requires-clause-can : goal.do_all-requires-clause-can
do_all-requires-clause-can g c κs inside =
    let J : Type 0 = Work g.row.R.Denot g.row.G.Denot in
    subst (All (λ (w : J). CanDo w)) (sym c.in_ok-jobs.ensures.jobs) (All-map (λ (w : J). CanDo w) (λ (o : Ordering). Order o) c.args.orders.now.items (λ k d below. tt))

pub do_all-requires-send-J : goal.do_all-requires-send-J
do_all-requires-send-J g c κs within = param_send 1 _ (arg_send _ yes _ (work_send _ (param 0 g.row.R) (param 1 g.row.G) c.type_bounds.sync-R c.type_bounds.sync-G))

pub take_orders-requires-clause-orders : goal.take_orders-requires-clause-orders
take_orders-requires-clause-orders g c κs within =
    let J : Type 0 = Work g.row.R.Denot g.row.G.Denot in
    kinds (λ (o : Ordering). Order o) (λ (v w : J). HasDone v w) (λ (w : J). IsOrder w) (λ o w did. order_answer o w did) c.args.orders.now.items c.do_all.new.jobs.items
    (subst (λ (js : List J). AreDone (λ (v w : J). HasDone v w) js c.do_all.new.jobs.items) c.in_ok-jobs.ensures.jobs c.do_all.ensures.done)

pub returns-clause-told : goal.returns-clause-told
returns-clause-told g c = λ i d within.
    let J : Type 0 = Work g.row.R.Denot g.row.G.Denot in
    let are : AreDone HasOrdered c.args.orders.now.items c.take_orders.new.orders.items =
    done_so (λ (o : Ordering). Order o) (λ (v w : J). HasDone v w) HasOrdered (λ o p did. did) c.args.orders.now.items c.take_orders.new.orders.items c.do_all.new.jobs.items
    (subst (λ (js : List J). AreDone (λ (v w : J). HasDone v w) js c.do_all.new.jobs.items) c.in_ok-jobs.ensures.jobs c.do_all.ensures.done) c.take_orders.ensures
    in
    let len = c.args.orders.now.ok.0 in
    are.each i d (omega (arith, within, len))
