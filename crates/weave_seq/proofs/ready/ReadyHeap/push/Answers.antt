-- The heap has one more.
use Rattle.std.proofs.Common.{ap}
use Rattle.std.proofs.lemmas.List.Sorted.{IsPermutation-map}
use Rattle.zs_num.specs.declared.time.Key.{Key}
use Rattle.std.specs.declared.cmp.Reverse.{Reverse}
use Rattle.weave_seq.proofs.ready.ReadyHeap.push.Goals as goal

pub returns-clause-list : goal.returns-clause-list
returns-clause-list c =
    rw (← ap (λ v. v.list) c.self.view_is) (IsPermutation-map (λ (r : Reverse Key). r.0) _ _ c.in-Ok.ensures.permutation)
