-- The heap has the least key no more.
use Rattle.std.proofs.Common.{ap}
use Rattle.std.proofs.lemmas.List.Sorted.{IsPermutation-map}
use Rattle.std.specs.declared.cmp.Reverse.{Reverse}
use Rattle.zs_num.specs.declared.time.Key.{Key}
use Rattle.weave_seq.proofs.Earliest.{least_key}
use Rattle.weave_seq.proofs.ready.ReadyHeap.pop.Goals as goal
use Rattle.weave_seq.proofs.ready.ReadyHeap.pop.Goals.{in-Some, in-None}

pub returns-clause-list : goal.returns-clause-list
returns-clause-list c =
    elim c.match-pop.branch [
      | in-Some w ↦ rw (w.result-is, ← ap (λ v. v.list) c.self.view_is) (IsPermutation-map (λ (r : Reverse Key). r.0) _ _ w.in-Some.ensures.permutation)
      | in-None w ↦ rw w.result-is tt
    ]

pub returns-clause-least : goal.returns-clause-least
returns-clause-least c =
    elim c.match-pop.branch [
      | in-Some w ↦ rw (w.result-is, ← ap (λ v. v.list) c.self.view_is) (least_key _ _ (w.in-Some.ensures.heap_order c.self.invariant).1)
      | in-None w ↦ rw w.result-is tt
    ]
