use Rattle.std.proofs.Common.{◌≡◌, ◌≤◌, ◌+◌, ◌++◌, ◌∷◌, length, map, vec_capacity, vec_len}
use Rattle.weave_core.specs.DomainCalls.{DomainValue}
use Rattle.weave_run.specs.Dealing.{items_of}
use Rattle.weave_run.proofs.setup.put_back.Given as goal

abbrev pub invariant-loop-rooms : goal.invariant-loop-rooms
invariant-loop-rooms g l = record {
  lists : items_of l.lists.items ++ items_of l.rooms.items ≡ map (λ (v : DomainValue g.row.C.Denot). v.comps) l.fn.domains.items ++ (l.fn.own ∷ items_of l.fn.rooms.items);
  room : length l.lists.items + length l.rooms.items ≤ vec_capacity l.lists;
}

abbrev pub decreases-loop-rooms : goal.decreases-loop-rooms
decreases-loop-rooms g l = vec_len l.rooms
