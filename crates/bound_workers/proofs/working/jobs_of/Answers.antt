use Rattle.std.proofs.Common.{◌≡◌, ◌<◌, ◌++◌, List, length, map, sym, subst, rules}
use Rattle.bound_workers.specs.declared.share.Share.{Share}
use Rattle.bound_workers.specs.declared.work.Work.{Work}
use Rattle.bound_workers.specs.declared.work.Work.TheVariants.{Cores}
use Rattle.bound_workers.proofs.OfOneKind.{given_out}
use Rattle.bound_workers.proofs.working.jobs_of.Goals as goal

pub loop-jobs-preserved : goal.loop-jobs-preserved
loop-jobs-preserved g c =
    let K : Type 0 = Share g.row.R.Denot g.row.G.Denot in
    let J : Type 0 = Work g.row.R.Denot g.row.G.Denot in
    let before = c.loop-jobs.invariant in
    let old : List J = c.loop-jobs.jobs.items in
    let now : List J = c.push_reserved.new.self.items in
    let left : List K = c.loop-jobs.shares.items in
    let of : K → J = λ k. Cores k in
    let whole : List J = map of c.args.shares.items in
    let some : 0 < length left = search rules in
    record {
      jobs = subst (λ (ks : List K). now ++ map of ks ≡ whole) (sym c.remove.ensures.items) (given_out of old now left c.remove.result whole some c.remove.ensures.value c.push_reserved.ensures.items before.jobs);
      room = search rules;
    }
