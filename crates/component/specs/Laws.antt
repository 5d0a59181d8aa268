-- What is true of the components of every machine.
use Rattle.std.specs.Prelude.{◌≡◌, ℕ, List, slice_get, slice_set, Some}
use Rattle.machine_desc.specs.declared.machine.Machine.{Machine}
use Rattle.machine_desc.specs.Machine.{IsMachine}
use Rattle.component.specs.declared.kind.Kind.{Kind}
use Rattle.component.specs.declared.comp.Comp.{Comp}
use Rattle.component.specs.ComponentStep.{comp_step}
use Rattle.component.specs.Components.{AreComponents, AreFresh}

-- the components of a machine stay its components when one of them serves an event
abbrev pub ComponentsStay : Type 0
ComponentsStay = (m : Machine) (comps : List Comp) (number : ℕ) (c : Comp) (kind : Kind) (start : ℕ)
    → AreComponents m comps → slice_get comps number ≡ Some c
    → AreComponents m (slice_set comps number (comp_step c kind start).0)

-- the components of a machine before their first event are one list
abbrev pub FreshComponentsAreOne : Type 0
FreshComponentsAreOne = (m : Machine) (comps others : List Comp) → AreFresh m comps → AreFresh m others → comps ≡ others

-- a machine has components before their first event
abbrev pub FreshComponentsAreThere : Type 0
FreshComponentsAreThere = (m : Machine) → IsMachine m → (comps : List Comp) × AreFresh m comps
