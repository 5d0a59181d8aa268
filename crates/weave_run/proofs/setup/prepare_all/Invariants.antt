use Rattle.std.proofs.Common.{◌≡◌, ◌≤◌, ◌+◌, ◌++◌, length, map, vec_capacity}
use Rattle.weave_core.specs.DomainCalls.{DomainValue}
use Rattle.weave_run.specs.Dealing.{AreDealt, items_of}
use Rattle.weave_run.specs.Setup.{AreBegun}
use Rattle.weave_run.proofs.setup.prepare_all.Given as goal

abbrev pub invariant-loop-number : goal.invariant-loop-number
invariant-loop-number g l = record {
  begun : AreBegun l.fn.graph l.fn.parts l.fn.plan.comps.value l.number l.domains.items;
  dealt : AreDealt l.fn.parts.places l.fn.plan.comps.value (map (λ (v : DomainValue g.row.C.Denot). v.comps) l.domains.items ++ items_of l.rooms.items);
  count : l.number + length l.rooms.items ≡ length l.fn.parts.events;
  room : length l.fn.parts.events ≤ vec_capacity l.domains;
}
