use Rattle.std.proofs.Common.{All, ◌≡◌, ◌<◌, ◌++◌, List, length, map, sym, subst, rules}
use Rattle.bound_workers.specs.Works.{AreCores}
use Rattle.bound_workers.specs.declared.share.Share.{Share}
use Rattle.bound_workers.specs.declared.work.Work.{Work}
use Rattle.bound_workers.specs.declared.work.Work.TheVariants.{Cores}
use Rattle.bound_workers.proofs.OfOneKind.{rest_all, taken_in}
use Rattle.bound_workers.proofs.working.take_shares.Goals as goal

pub loop-jobs-preserved : goal.loop-jobs-preserved
loop-jobs-preserved g c =
    let K : Type 0 = Share g.row.R.Denot g.row.G.Denot in
    let J : Type 0 = Work g.row.R.Denot g.row.G.Denot in
    let before = c.loop-jobs.invariant in
    let old : List K = c.loop-jobs.shares.items in
    let now : List K = c.push_reserved.new.self.items in
    let left : List J = c.loop-jobs.jobs.items in
    let of : K → J = λ k. Cores k in
    let whole : List J = c.args.jobs.items in
    let some : 0 < length left = search rules in
    record {
      taken = subst (λ (js : List J). map of now ++ js ≡ whole) (sym c.remove.ensures.items) (taken_in of old now left c.remove.result c.in-Cores.share whole some c.remove.ensures.value c.in-Cores.is c.push_reserved.ensures.items before.taken);
      kind = subst (All (λ (w : J). AreCores w)) (sym c.remove.ensures.items) (rest_all (λ (w : J). AreCores w) left before.kind);
      room = search rules;
    }
