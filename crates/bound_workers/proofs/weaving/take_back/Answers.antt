use Rattle.std.proofs.Common.{All, ◌≡◌, ◌<◌, List, length, sym, ◌∙◌, subst, rules}
use Rattle.component.specs.declared.comp.Comp.{Comp}
use Rattle.weave_run.specs.declared.share.DomainShare.{DomainShare}
use Rattle.bound_workers.proofs.Giving.{AreTaken, all_taken, first_of, one_taken, rest_all}
use Rattle.bound_workers.proofs.weaving.take_back.Goals as goal

pub take-requires : goal.take-requires
take-requires g c =
    let K : Type 0 = DomainShare Comp g.row.W.Denot in
    let J : Type 0 = g.row.J.Denot in
    let left : List J = c.loop-shares.jobs.items in
    let some : 0 < length left = search rules in
    first_of (λ (s : J). (share : K) × (s ≡ g.J.Carries.of share)) left c.remove.result some c.remove.ensures.value c.loop-shares.invariant.kind

pub loop-shares-preserved : goal.loop-shares-preserved
loop-shares-preserved g c =
    let K : Type 0 = DomainShare Comp g.row.W.Denot in
    let J : Type 0 = g.row.J.Denot in
    let before = c.loop-shares.invariant in
    let old : List K = c.loop-shares.shares.items in
    let now : List K = c.push_reserved.new.self.items in
    let left : List J = c.loop-shares.jobs.items in
    let of : K → J = g.J.Carries.of in
    let some : 0 < length left = search rules in
    record {
      taken = λ back are. subst (λ (js : List J). AreTaken of c.args.jobs.now.items js now back) (sym c.remove.ensures.items)
          (one_taken of c.args.jobs.now.items left old now back c.remove.result c.take.result (before.taken back are) some c.remove.ensures.value c.take.ensures c.push_reserved.ensures.items);
      kind = subst (All (λ (s : J). (share : K) × (s ≡ of share))) (sym c.remove.ensures.items) (rest_all (λ (s : J). (share : K) × (s ≡ of share)) left before.kind);
      room = search rules;
      jobs_room = c.remove.ensures.capacity ∙ before.jobs_room;
    }

pub returns-clause-shares : goal.returns-clause-shares
returns-clause-shares g c = λ back are.
    let none : length c.loop-shares.jobs.items ≡ 0 = search rules in
    all_taken g.J.Carries.of c.args.jobs.now.items c.loop-shares.jobs.items c.loop-shares.shares.items back (c.loop-shares.invariant.taken back are) none
