-- Whatever shares the jobs carried, the first were taken out, and the jobs that are left carry the rest.
use Rattle.std.proofs.Common.{All, ◌≡◌, ◌+◌, ◌≤◌, List, length, map, vec_capacity}
use Rattle.component.specs.declared.comp.Comp.{Comp}
use Rattle.weave_run.specs.declared.share.DomainShare.{DomainShare}
use Rattle.bound_workers.proofs.Giving.{AreTaken}
use Rattle.bound_workers.proofs.weaving.take_back.Given as goal

abbrev pub decreases-loop-shares : goal.decreases-loop-shares
decreases-loop-shares g l = length l.jobs.items

abbrev pub invariant-loop-shares : goal.invariant-loop-shares
invariant-loop-shares g l = record {
  taken : (back : List (DomainShare Comp g.row.W.Denot)) → l.fn.jobs.items ≡ map g.J.Carries.of back → AreTaken g.J.Carries.of l.fn.jobs.items l.jobs.items l.shares.items back;
  kind : All (λ s. (share : DomainShare Comp g.row.W.Denot) × (s ≡ g.J.Carries.of share)) l.jobs.items;
  room : length l.shares.items + length l.jobs.items ≤ vec_capacity l.shares;
  jobs_room : vec_capacity l.jobs ≡ vec_capacity l.fn.jobs;
}
