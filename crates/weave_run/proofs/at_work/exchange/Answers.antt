-- One worker more has exchanged.
use Rattle.std.proofs.Common.{◌<◌, length, Some, sym, ◌∙◌, ap, subst, arith}
use Rattle.std.proofs.lemmas.Option.{slice_get-get_or}
use Rattle.weave_run.specs.Shares.{AreExchanged, with_crew}
use Rattle.weave_run.specs.Crews.{Crew}
use Rattle.weave_run.specs.declared.share.DomainShare.{DomainShare}
use Rattle.weave_run.proofs.AtWork.{one_exchanged}
use Rattle.weave_run.proofs.at_work.exchange.Goals as goal

pub loop-worker-preserved : goal.loop-worker-preserved
loop-worker-preserved g c =
    let i = c.loop-worker.invariant in
    let n = c.loop-worker.worker in
    let end = c.loop-worker-test.true in
    let many = c.requires in
    let inside : n < length c.loop-worker.crews = (let a = i.crews_are in let b = c.loop-worker.auto.worker-end in omega (arith, a, b, end)) in
    let there : n < length c.loop-worker.shares.items = (let a = i.crews_are in let d = i.shares_are in omega (arith, inside, a, d, many)) in
    one_exchanged c.args.crews.now c.loop-worker.crews c.args.shares.now.items c.loop-worker.shares.items n c.index-crews-worker.result c.exchange_one.new.crew c.index_mut.result.now c.exchange_one.new.share i
    (slice_get-get_or c.loop-worker.crews n c.index-crews-worker.result inside ∙ ap (λ (x : Crew g.row.C.Denot). Some x) (sym c.index-crews-worker.is))
    (slice_get-get_or c.loop-worker.shares.items n c.index_mut.result.now there ∙ ap (λ (x : DomainShare g.row.C.Denot g.row.W.Denot). Some x) (sym c.index_mut.ensures.value))
    c.exchange_one.ensures.crew
    (c.exchange_one.ensures.share ∙ ap (with_crew c.index_mut.result.now) (sym c.index-crews-worker.is))

pub returns : goal.returns
returns g c =
    let end = c.loop-worker-test.false in
    let most = c.loop-worker.auto.worker-end in
    subst (AreExchanged c.args.crews.now c.loop-worker.crews c.args.shares.now.items c.loop-worker.shares.items) (omega (arith, end, most)) c.loop-worker.invariant
