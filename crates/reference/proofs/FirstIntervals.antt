-- What is counted of intervals, and a run before its first.
use Rattle.std.proofs.Common.{◌≡◌, ℕ, List, [], refl, ap}
use Rattle.elf_load.specs.MemoryImage.{MemoryImage}
use Rattle.machine_desc.specs.declared.machine.Machine.{Machine}
use Rattle.component.specs.declared.comp.Comp.{Comp}
use Rattle.component.specs.Components.{AreFresh}
use Rattle.stats.specs.Counts.{Interval, counts_of, total_accesses}
use Rattle.reference.specs.ReferenceRun.{IsKeptInOrder, after_intervals, first_state}

pub counted_accesses : (cores : ℕ) (comps : List Comp) (intervals : List Interval) → (counts_of cores comps intervals).accesses ≡ total_accesses intervals
unfolding counts_of
counted_accesses cores comps intervals = refl

pub nothing_run : (machine : Machine) (image : MemoryImage) (lists : List (List ℕ)) → lists ≡ [] → (comps : List Comp) → AreFresh machine comps → IsKeptInOrder machine image lists
nothing_run machine image lists none comps fresh = record {
  comps = comps;
  fresh = fresh;
  state = first_state machine image comps;
  reached = ap (after_intervals machine image (first_state machine image comps)) none;
  in_order = none;
}
