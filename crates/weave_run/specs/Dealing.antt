-- Components by their domains.
use Rattle.std.specs.Prelude.{◌≡◌, ◌≤◌, ◌==◌, ℕ, List, [], Vec, length, map, Some, slice_get}
use Rattle.std.specs.List.{enumerate_from, filter}
use Rattle.std.specs.Vec.{vec_capacity}
use Rattle.std.specs.declared.alloc.Global.{Global}
use Rattle.domain_map.specs.Domains.{domain_at}
use Rattle.weave_core.specs.DomainCalls.{comps_in}

-- those of a domain among components that are numbered from here on
abbrev pub comps_from : {C : Type 0} → (places : List ℕ) → (domain number : ℕ) → List C → List C
comps_from {C} places domain number comps =
    map (λ (at : ℕ × C). at.1) (filter (λ (at : ℕ × C). domain_at places at.0 == domain) (enumerate_from number comps))

abbrev pub items_of : {C : Type 0} → List (Vec C Global) → List (List C)
items_of {C} lists = map (λ (list : Vec C Global). list.items) lists

-- each list is a domain's
pub record AreDealt {C : Type 0} (places : List ℕ) (comps : List C) (lists : List (List C)) : Type 0 where
  pub each : (domain : ℕ) (list : List C) → slice_get lists domain ≡ Some list → list ≡ comps_in places domain comps

-- components that these lists are dealt from
pub record IsDealing {C : Type 0} (places : List ℕ) (lists : List (List C)) : Type 0 where
  pub comps : List C
  pub count : length comps ≡ length places
  pub dealt : AreDealt places comps lists

-- so many empty lists, each with room for so many components
pub record AreEmptyRooms {C : Type 0} (domains count : ℕ) (rooms : List (Vec C Global)) : Type 0 where
  pub domains_are : length rooms ≡ domains
  pub empty : (domain : ℕ) (room : Vec C Global) → slice_get rooms domain ≡ Some room → room.items ≡ []
  pub room : (domain : ℕ) (room : Vec C Global) → slice_get rooms domain ≡ Some room → count ≤ vec_capacity room
