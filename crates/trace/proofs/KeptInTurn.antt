-- A run whose cores take their turns one after the other, up to now.
use Rattle.std.proofs.Common.{◌≡◌, ◌++◌, ◌∷◌, ℕ, List, [], All, ap, subst, sym, arith}
use Rattle.std.proofs.lemmas.List.Elements.{All-append, All-cons}
use Rattle.elf_load.specs.MemoryImage.{MemoryImage}
use Rattle.machine_desc.specs.declared.machine.Machine.{Machine}
use Rattle.component.specs.declared.comp.Comp.{Comp}
use Rattle.component.specs.Components.{AreFresh}
use Rattle.reference.specs.ReferenceRun.{after_intervals, first_state}
use Rattle.run.specs.declared.simulation.Simulation.{Simulation}
use Rattle.run.proofs.RunSoFar.{HasRun}
use Rattle.trace.specs.EachCore.{IsCoreAfterCore}
use Rattle.trace.specs.InTurn.{IsInTurn}

none_in_turn : All IsCoreAfterCore []
none_in_turn k d below = absurd (omega (arith, below))

-- nothing has run
pub nothing_in_turn : (machine : Machine) (image : MemoryImage) (lists : List (List ℕ)) → lists ≡ [] → (comps : List Comp) → AreFresh machine comps → IsInTurn machine image lists
nothing_in_turn machine image lists none comps fresh = record {
  comps = comps;
  fresh = fresh;
  state = first_state machine image comps;
  reached = ap (after_intervals machine image (first_state machine image comps)) none;
  in_turn = subst (All IsCoreAfterCore) (sym none) none_in_turn;
}

pub kept_in_turn : (machine : Machine) (image : MemoryImage) (lists : List (List ℕ)) (p : Simulation) → HasRun machine image lists p → All IsCoreAfterCore lists → IsInTurn machine image lists
kept_in_turn machine image lists p h in_turn = record {
  comps = h.comps;
  fresh = h.fresh;
  state = h.state;
  reached = h.reached;
  in_turn = in_turn;
}

-- an interval more
pub in_turn_more : (lists : List (List ℕ)) (turns : List ℕ) → All IsCoreAfterCore lists → IsCoreAfterCore turns → All IsCoreAfterCore (lists ++ turns ∷ [])
in_turn_more lists turns before last = All-append IsCoreAfterCore lists (turns ∷ []) before (All-cons IsCoreAfterCore turns [] last none_in_turn)
