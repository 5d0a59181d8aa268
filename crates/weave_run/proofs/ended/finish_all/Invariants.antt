use Rattle.std.proofs.Common.{◌≡◌, ◌≤◌, ◌+◌, ◌++◌, length, map, vec_capacity, vec_len}
use Rattle.weave_core.specs.DomainCalls.{DomainValue}
use Rattle.weave_run.specs.Dealing.{items_of}
use Rattle.weave_run.proofs.ended.finish_all.Given as goal

abbrev pub invariant-loop-domains : goal.invariant-loop-domains
invariant-loop-domains g l = record {
  lists : items_of l.lists.items ++ map (λ (v : DomainValue g.row.C.Denot). v.comps) l.domains.items ≡ map (λ (v : DomainValue g.row.C.Denot). v.comps) l.fn.domains.items;
  room : length l.lists.items + length l.domains.items ≤ vec_capacity l.lists;
  same : vec_capacity l.lists ≡ vec_capacity l.fn.lists;
}

abbrev pub decreases-loop-domains : goal.decreases-loop-domains
decreases-loop-domains g l = vec_len l.domains
