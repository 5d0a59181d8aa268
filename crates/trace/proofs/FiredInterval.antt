-- An interval whose events have fired, from its bound phase and the weave.
use Rattle.std.proofs.Common.{◌≡◌, ℕ, List, map, subst, ◌∙◌, ap}
use Rattle.zs_num.specs.declared.entry.Entry.{Entry}
use Rattle.elf_load.specs.MemoryImage.{MemoryImage}
use Rattle.machine_desc.specs.declared.machine.Machine.{Machine}
use Rattle.component.specs.declared.comp.Comp.{Comp}
use Rattle.component.specs.ComponentStep.{comp_step}
use Rattle.component.specs.Components.{AreComponents}
use Rattle.event_graph.specs.declared.event.Event.{Event}
use Rattle.event_graph.specs.declared.fired.Fired.{Fired}
use Rattle.event_graph.specs.OneListWeave.{comps_after, fired_of, woven}
use Rattle.run.specs.declared.simulation.Simulation.{Simulation}
use Rattle.run.specs.IntervalWeave.{AreEventsOf}
use Rattle.reference.specs.ReferenceRun.{RunState}
use Rattle.run.specs.Simulation.{HasNextInterval, IsBoundPhase}
use Rattle.trace.specs.TracedRun.{HasBounded, HasFired}

-- the bound phase leaves the components as they were, so it is one for other components too
pub other_comps : (machine : Machine) (image : MemoryImage) (end : ℕ) (before : Simulation) (turns : List ℕ) (p : Simulation) (entries : List Entry) (comps : List Comp)
    → IsBoundPhase machine image end before turns p entries → IsBoundPhase machine image end before turns (record p { comps = comps }) entries
other_comps machine image end before turns p entries comps b = record {
  left = b.left;
  phase = b.phase;
  cores_are = b.cores_are;
  shards_are = b.shards_are;
  in_order = b.in_order;
  cores = b.cores;
  starts = b.starts;
  few = b.few;
  clocks = b.clocks;
  count = b.count;
  numbered = b.numbered;
  over = b.over;
  stamps = b.stamps;
}

-- the events of the bound phase's accesses have fired
pub has_fired : (machine : Machine) (image : MemoryImage) (end : ℕ) (s : RunState) (turns : List ℕ) (before p : Simulation) (entries : List Entry) (graph : List Event) (fired : List Fired) (after : List Comp)
    → HasNextInterval machine end s before → IsBoundPhase machine image end before turns p entries → p.comps ≡ before.comps → p.counters ≡ before.counters
    → AreComponents machine before.comps → AreEventsOf machine p.comps entries graph → fired ≡ map fired_of (woven comp_step graph p.comps) → after ≡ comps_after comp_step graph p.comps
    → HasFired machine image s turns (record p { comps = after }) entries graph fired
has_fired machine image end s turns before p entries graph fired after goes bounded same counters are events fired_are after_are = record {
  end = end;
  before = before;
  goes_on = goes;
  bounded = other_comps machine image end before turns p entries after bounded;
  woven = record {
    components = are;
    events = subst (λ (comps : List Comp). AreEventsOf machine comps entries graph) same events;
    fired_are = fired_are ∙ ap (λ (comps : List Comp). map fired_of (woven comp_step graph comps)) same;
    after_are = after_are ∙ ap (comps_after comp_step graph) same;
  };
  counters = counters;
}

-- the same, where the bound phase is that of a run
pub fired_behind : (machine : Machine) (image : MemoryImage) (s : RunState) (turns : List ℕ) (p : Simulation) (entries : List Entry) (graph : List Event) (fired : List Fired) (after : List Comp)
    → HasBounded machine image s turns p entries → AreEventsOf machine p.comps entries graph → fired ≡ map fired_of (woven comp_step graph p.comps) → after ≡ comps_after comp_step graph p.comps
    → HasFired machine image s turns (record p { comps = after }) entries graph fired
fired_behind machine image s turns p entries graph fired after h =
    has_fired machine image h.end s turns h.before p entries graph fired after h.goes_on h.bounded h.comps h.counters h.room.components
