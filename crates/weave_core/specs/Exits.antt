-- The crossings out of a domain, as it keeps them.
use Rattle.std.specs.Prelude.{◌≡◌, ◌<◌, ℕ, List, length, Some, slice_get}
use Rattle.event_graph.specs.declared.event.Event.{Event}
use Rattle.domain_map.specs.declared.crossing.Crossing.{Crossing}
use Rattle.weave_core.specs.Beginning.{HasPlace}

-- the numbers rise
abbrev pub AreRising : List ℕ → Type 0
AreRising numbers = (i j m n : ℕ) → i < j → slice_get numbers i ≡ Some m → slice_get numbers j ≡ Some n → m < n

-- the crossing of this number leads out of the domain, and its parent is the event at the place
pub record IsExit (here : List Event) (crossings : List Crossing) (domain number place : ℕ) : Type 0 where
  pub crossing : Crossing
  pub there : slice_get crossings number ≡ Some crossing
  pub source : crossing.source ≡ domain
  pub parent : HasPlace here crossing.parent place

-- of the crossings up to one the numbers of those out of the domain, in order, and for each the place of its parent
pub record AreExits (here : List Event) (crossings : List Crossing) (domain upto : ℕ) (numbers parents : List ℕ) : Type 0 where
  pub sizes : length parents ≡ length numbers
  pub each : (i number : ℕ) → slice_get numbers i ≡ Some number
      → (number < upto) × ((place : ℕ) × ((slice_get parents i ≡ Some place) × IsExit here crossings domain number place))
  pub covers : (number : ℕ) (x : Crossing) → number < upto → slice_get crossings number ≡ Some x → x.source ≡ domain → (i : ℕ) × (slice_get numbers i ≡ Some number)
  pub rising : AreRising numbers

-- the parent of each crossing out of the domain is here
pub record HaveParents (here : List Event) (crossings : List Crossing) (domain : ℕ) : Type 0 where
  pub each : (number : ℕ) (x : Crossing) → slice_get crossings number ≡ Some x → x.source ≡ domain → (place : ℕ) × HasPlace here x.parent place
