-- Timed events that are the weave's.
use Rattle.std.specs.Prelude.{◌≡◌, List, [], ◌∷◌, map}
use Rattle.component.specs.declared.comp.Comp.{Comp}
use Rattle.component.specs.ComponentStep.{comp_step}
use Rattle.event_graph.specs.OneListWeave.{FiredEvent, comps_after, woven}
use Rattle.certify.specs.CanBeFiled.{IsFitting}

-- the events of a graph that fits, with the starts and finishes that the weave gives them
pub record AreWovenOn (comps : List Comp) (timed : List FiredEvent) : Type 0 where
  pub fitting : IsFitting comps timed
  pub woven_so : timed ≡ woven comp_step (map (λ x. x.event) timed) comps

-- intervals one after the other, each of them woven on what the weave left of the components before it
abbrev pub AreWoven : List Comp → List (List FiredEvent) → Type 0
AreWoven comps [] = Unit {0}
AreWoven comps (timed ∷ rest) = AreWovenOn comps timed × AreWoven (comps_after comp_step (map (λ x. x.event) timed) comps) rest
