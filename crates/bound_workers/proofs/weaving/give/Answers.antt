use Rattle.std.proofs.Common.{◌≡◌, ◌<◌, ◌++◌, List, length, map, sym, ◌∙◌, subst, rules}
use Rattle.component.specs.declared.comp.Comp.{Comp}
use Rattle.weave_run.specs.declared.share.DomainShare.{DomainShare}
use Rattle.bound_workers.proofs.Giving.{given_out}
use Rattle.bound_workers.proofs.weaving.give.Goals as goal

pub loop-jobs-preserved : goal.loop-jobs-preserved
loop-jobs-preserved g c =
    let K : Type 0 = DomainShare Comp g.row.W.Denot in
    let J : Type 0 = g.row.J.Denot in
    let before = c.loop-jobs.invariant in
    let old : List J = c.loop-jobs.jobs.items in
    let now : List J = c.push_reserved.new.self.items in
    let left : List K = c.loop-jobs.shares.items in
    let of : K → J = g.J.Carries.of in
    let whole : List J = map of c.args.shares.now.items in
    let some : 0 < length left = search rules in
    record {
      jobs = subst (λ (ks : List K). now ++ map of ks ≡ whole) (sym c.remove.ensures.items)
          (given_out of old now left c.remove.result c.with.result whole some c.remove.ensures.value c.with.ensures c.push_reserved.ensures.items before.jobs);
      room = search rules;
      kept = c.remove.ensures.capacity ∙ before.kept;
      jobs_room = c.push_reserved.ensures.capacity ∙ before.jobs_room;
    }
