-- From the domains before the first event to what the weave gives.
use Rattle.std.proofs.Common.{◌≡◌, ◌+◌, ◌<◌, ℕ, zero, suc, Bool, List, [], ◌∷◌, ◌++◌, Vec, All, length, map, take, get_or, Some, slice_get, sym, ◌∙◌, ap, subst, refl, arith}
use Rattle.std.proofs.lemmas.Bool.{false≢true}
use Rattle.std.proofs.lemmas.List.{length-map}
use Rattle.std.proofs.lemmas.Option.{same_Some, none-some, slice_get-get_or, slice_get_within}
use Rattle.std.specs.Option.{option_map}
use Rattle.std.specs.declared.alloc.Global.{Global}
use Rattle.component.specs.declared.kind.Kind.{Kind}
use Rattle.event_graph.specs.declared.event.Event.{Event}
use Rattle.event_graph.specs.OneListWeave.{FiredEvent, after_firings, comps_after, is_fired}
use Rattle.event_graph.specs.ServedEvents.{after_serving, of_component}
use Rattle.domain_map.specs.declared.crossing.Crossing.{Crossing}
use Rattle.domain_map.specs.Domains.{Partition}
use Rattle.weave_core.specs.DomainCalls.{DomainValue}
use Rattle.weave_core.specs.Keeping.{CanWeave, HaveAllFired, IsKept, KeepingLaws, owns_of}
use Rattle.weave_run.specs.Dealing.{AreDealt, items_of}
use Rattle.weave_run.specs.Rounds.{AllKeep, AreMet, CanWeavePlan, own_in}
use Rattle.weave_run.specs.Setup.{AreBegun}
use Rattle.weave_run.specs.declared.plan.Plan.{Plan}

none_fired : {C : Type 0} (vs : List (DomainValue C)) → ((d : ℕ) (v : DomainValue C) → slice_get vs d ≡ Some v → v.own.fired ≡ []) → (d : ℕ) → (own_in vs d).fired ≡ []
none_fired [] h zero = refl
none_fired [] h (suc d) = refl
none_fired (v ∷ vs) h zero = h 0 v refl
none_fired (v ∷ vs) h (suc d) = none_fired vs (λ n w at. h (suc n) w at) d

same_length : {X Y : Type 0} (f : ℕ → X → Y) (xs : List X) (ys : List Y) (n : ℕ) → ((i m : ℕ) → m ≡ n + i → slice_get ys i ≡ option_map (f m) (slice_get xs i)) → length ys ≡ length xs
same_length f [] [] n h = refl
same_length f [] (y ∷ ys) n h = absurd (none-some y (sym (h 0 n (omega arith))))
same_length f (x ∷ xs) [] n h = absurd (none-some (f n x) (h 0 n (omega arith)))
same_length f (x ∷ xs) (y ∷ ys) n h =
    let rest : length ys ≡ length xs = same_length f xs ys (n + 1) (λ i m e. h (suc i) m (omega (arith, e))) in
    omega (arith, rest)

pub comps_count : {C : Type 0} (stepped : C → Kind → ℕ → C × ℕ) (events : List Event) (comps : List C)
    → ((number : ℕ) → slice_get (comps_after stepped events comps) number ≡ option_map (λ (c : C). after_serving stepped c (of_component number (after_firings stepped events comps (length events)).fired)) (slice_get comps number))
    → length (comps_after stepped events comps) ≡ length comps
comps_count {C} stepped events comps h =
    same_length (λ (n : ℕ) (c : C). after_serving stepped c (of_component n (after_firings stepped events comps (length events)).fired)) comps (comps_after stepped events comps) 0
    (λ i m e. let same : i ≡ m = omega (arith, e) in h i ∙ ap (λ (k : ℕ). option_map (λ (c : C). after_serving stepped c (of_component k (after_firings stepped events comps (length events)).fired)) (slice_get comps i)) same)

pub map_at : {X Y : Type 0} (f : X → Y) (xs : List X) (d : ℕ) (y : Y) → slice_get (map f xs) d ≡ Some y → (x : X) × ((slice_get xs d ≡ Some x) × (f x ≡ y))
map_at f [] d y h = absurd (none-some y h)
map_at f (x ∷ xs) zero y h = (x, (refl, same_Some (f x) y h))
map_at f (x ∷ xs) (suc d) y h = map_at f xs d y h

module _ {C : Type 0} (serves : C → Kind → Bool) (floor : C → Kind → ℕ) (stepped : C → Kind → ℕ → C × ℕ) (greatest : C → Kind → ℕ → ℕ) (laws : KeepingLaws serves floor stepped greatest)
    (plan : Plan C) (can : CanWeavePlan serves floor stepped greatest plan) where
  pub begun_met : (vs : List (DomainValue C)) → AreBegun plan.graph.value plan.parts.value plan.comps.value (length plan.parts.value.events) vs → AreMet stepped plan vs
  begun_met vs h = record {
    kept = record {
      count = h.count_is;
      each = λ d v at.
          subst (IsKept stepped plan.graph.value plan.parts.value plan.comps.value d) (sym (h.each d v at))
          (record { is = refl; keeps = laws.begins plan.graph.value plan.parts.value plan.comps.value can d });
    };
    told = record {
      each = λ n x there fired.
          absurd
          (false≢true
          (ap (λ (xs : List FiredEvent). is_fired xs x.parent) (sym (none_fired vs (λ d v at. ap (λ (w : DomainValue C). w.own.fired) (h.each d v at)) x.source)) ∙ fired));
    };
  }

  -- the components at the end

  module _ (vs : List (DomainValue C)) (kept : AllKeep stepped plan vs) (all : HaveAllFired stepped plan.graph.value plan.parts.value plan.comps.value (owns_of vs)) (lists : List (Vec C Global))
      (are : items_of lists ≡ map (λ (v : DomainValue C). v.comps) vs) where
    pub lists_count : length lists ≡ length plan.parts.value.events
    lists_count =
        let a = ap length are in
        let b = length-map lists (λ (v : Vec C Global). v.items) in
        let c = length-map vs (λ (v : DomainValue C). v.comps) in
        let d = kept.count in
        omega (arith, a, b, c, d)

    pub places_there : All (λ (place : ℕ). place < length lists) plan.parts.value.places
    places_there n d l = let b = can.partitioned.partitions.there.below n d l in let c = lists_count in omega (arith, b, c)

    pub end_dealt : AreDealt plan.parts.value.places (comps_after stepped plan.graph.value plan.comps.value) (items_of lists)
    end_dealt = record {
      each = λ d xs at.
          let v = map_at (λ (v : DomainValue C). v.comps) vs d xs (ap (λ (zs : List (List C)). slice_get zs d) (sym are) ∙ at) in
          sym v.1.1 ∙ laws.ended plan.graph.value plan.parts.value plan.comps.value can vs kept all d v.0 v.1.0;
    }

    pub end_count : ((number : ℕ) → slice_get (comps_after stepped plan.graph.value plan.comps.value) number
        ≡ option_map (λ (c : C). after_serving stepped c (of_component number (after_firings stepped plan.graph.value plan.comps.value (length plan.graph.value)).fired)) (slice_get plan.comps.value number))
        → length (comps_after stepped plan.graph.value plan.comps.value) ≡ length plan.parts.value.places
    end_count h = comps_count stepped plan.graph.value plan.comps.value h ∙ sym can.partitioned.places

    -- what the components are gathered from
    pub record IsEnd (places : List ℕ) (ls : List (Vec C Global)) : Type 0 where
      pub there : All (λ (place : ℕ). place < length ls) places
      pub count : length (comps_after stepped plan.graph.value plan.comps.value) ≡ length places
      pub dealt : AreDealt places (comps_after stepped plan.graph.value plan.comps.value) (items_of ls)

    pub at_end : ((number : ℕ) → slice_get (comps_after stepped plan.graph.value plan.comps.value) number
        ≡ option_map (λ (c : C). after_serving stepped c (of_component number (after_firings stepped plan.graph.value plan.comps.value (length plan.graph.value)).fired)) (slice_get plan.comps.value number))
        → (places : List ℕ) (ls : List (Vec C Global)) → places ≡ plan.parts.value.places → ls ≡ lists → IsEnd places ls
    at_end h places ls p l =
        subst (λ (ps : List ℕ). IsEnd ps ls) (sym p)
        (subst (IsEnd plan.parts.value.places) (sym l) (record { there = places_there; count = end_count h; dealt = end_dealt }))

-- a list that was lent as a slice
pub lent : {X : Type 0} (n : ℕ) (xs rest : List X) → n ≡ length xs → take n (xs ++ rest) ≡ xs
lent n xs rest e = ap (λ (k : ℕ). take k (xs ++ rest)) e ∙ whole xs rest
  where
    whole : {X : Type 0} (xs rest : List X) → take (length xs) (xs ++ rest) ≡ xs
    whole [] [] = refl
    whole [] (y ∷ rest) = refl
    whole {X} (x ∷ xs) rest = ap (λ (ys : List X). x ∷ ys) (whole xs rest)

pub parents_in : {C : Type 0} (serves : C → Kind → Bool) (floor : C → Kind → ℕ) (stepped : C → Kind → ℕ → C × ℕ) (greatest : C → Kind → ℕ → ℕ) (laws : KeepingLaws serves floor stepped greatest)
    (events : List Event) (p : Partition) (comps : List C) → CanWeave serves floor stepped greatest events p comps → All (λ (x : Crossing). x.parent < length events) p.crossings
parents_in serves floor stepped greatest laws events p comps can n d l =
    let b = laws.crossings events p comps can n (get_or p.crossings n d) (slice_get-get_or p.crossings n d l) in
    slice_get_within events (get_or p.crossings n d).parent b.parent b.there
