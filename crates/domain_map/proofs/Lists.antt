-- The lists of the domains, one event after the other.
use Rattle.std.proofs.Common.{◌≡◌, ◌<◌, ◌+◌, ℕ, Bool, true, false, cond, eqb, List, [], ◌∷◌, ◌++◌, length, map, set, get_or, take, All, Vec, Option, Some, None, IfSome, slice_get, ◌≤◌, refl, ap, sym, ◌∙◌, inl, inr, arith}
use Rattle.std.proofs.lemmas.Bool.Decides.{eqb_tells}
use Rattle.std.proofs.lemmas.List.{map-set, map-append, get_or-map, get_or-set_same, get_or-set_other, take_more, append-nil, take_all}
use Rattle.std.proofs.lemmas.Option.{get_or_from_slice_get, slice_get-get_or}
use Rattle.std.proofs.lemmas.List.Concat.{flat_map-append}
use Rattle.std.proofs.lemmas.List.Elements.{filter_more}
use Rattle.std.specs.List.{filter, flat_map}
use Rattle.std.specs.declared.alloc.Global.{Global}
use Rattle.event_graph.specs.declared.event.Event.{Event}
use Rattle.event_graph.specs.declared.event.Parent.{Parent}
use Rattle.domain_map.specs.declared.crossing.Crossing.{Crossing}
use Rattle.domain_map.specs.Domains.{IsPartition, crossings_into, crossings_into_all, domain_of_event, events_in}
use Rattle.domain_map.specs.Inside.{list_at, lists_of, with_event_number, with_event_of_domain}

-- a push to one of the lists
pub pushed : (lists : List (Vec ℕ Global)) (domain number : ℕ) (list longer : Vec ℕ Global) → domain < length lists → list ≡ get_or lists domain list
    → longer.items ≡ list.items ++ number ∷ [] → lists_of (set lists domain longer) ≡ with_event_number (lists_of lists) domain number
pushed lists domain number list longer below read is =
    map-set (λ (v : Vec ℕ Global). v.items) lists domain longer
    ∙ ap (λ (xs : List ℕ). set (lists_of lists) domain xs)
    (is ∙ ap (λ (xs : List ℕ). xs ++ number ∷ []) (ap (λ (v : Vec ℕ Global). v.items) read ∙ sym (get_or-map (λ (v : Vec ℕ Global). v.items) lists domain list [] below)))

-- one event more in a domain
events_in-more : (places : List ℕ) (events : List Event) (i : ℕ) (e : Event) (domain : ℕ) → i < length events
    → events_in places (take (i + 1) events) domain
    ≡ events_in places (take i events) domain ++ cond (eqb (domain_of_event places (get_or events i e)) domain) ((get_or events i e).number ∷ []) []
unfolding events_in
events_in-more places events i e domain below =
    ap (map (λ (x : Event). x.number)) (filter_more (λ x. eqb (domain_of_event places x) domain) events i e below)
    ∙ (map-append (λ (x : Event). x.number) (filter (λ x. eqb (domain_of_event places x) domain) (take i events)) _
    ∙ ap (λ ns. events_in places (take i events) domain ++ ns) (by_test (eqb (domain_of_event places (get_or events i e)) domain)))
  where
    by_test : (t : Bool) → map (λ (x : Event). x.number) (cond t (get_or events i e ∷ []) []) ≡ cond t ((get_or events i e).number ∷ []) []
    by_test true = refl
    by_test false = refl

-- a number behind those of its domain, seen at any domain
at_domain : (lists : List (List ℕ)) (of domain number : ℕ) → domain < length lists
    → list_at lists domain ++ cond (eqb of domain) (number ∷ []) [] ≡ list_at (with_event_number lists of number) domain
at_domain lists of domain number below =
    elim (eqb_tells of domain) [
      | inl same ↦
          ap (λ t. list_at lists domain ++ cond t (number ∷ []) []) same.0
          ∙ sym (ap (λ d. list_at (with_event_number lists d number) domain) same.1
          ∙ get_or-set_same lists domain (list_at lists domain ++ number ∷ []) [] below)
      | inr apart ↦
          ap (λ t. list_at lists domain ++ cond t (number ∷ []) []) apart.0
          ∙ (append-nil (list_at lists domain)
          ∙ sym (get_or-set_other lists of domain (list_at lists of ++ number ∷ []) [] (λ e. apart.1 (sym e))))
    ]

-- the event is put behind those of its domain, and the other domains stay
pub each_more : (places : List ℕ) (lists : List (List ℕ)) (events : List Event) (i : ℕ) (e : Event) (domain : ℕ) → i < length events
    → slice_get events i ≡ Some e → domain < length lists → list_at lists domain ≡ events_in places (take i events) domain
    → list_at (with_event_of_domain places lists e) domain ≡ events_in places (take (i + 1) events) domain
each_more places lists events i e domain below is there so_far =
    sym (events_in-more places events i e domain below
    ∙ (ap (λ (x : Event). events_in places (take i events) domain ++ cond (eqb (domain_of_event places x) domain) (x.number ∷ []) []) (get_or_from_slice_get events i e e is)
    ∙ (ap (λ ns. ns ++ cond (eqb (domain_of_event places e) domain) (e.number ∷ []) []) (sym so_far)
    ∙ at_domain lists (domain_of_event places e) domain e.number there)))

pub crossings_more : (places : List ℕ) (graph events : List Event) (i : ℕ) (e : Event) → i < length events → slice_get events i ≡ Some e
    → crossings_into_all places graph (take (i + 1) events) ≡ crossings_into_all places graph (take i events) ++ crossings_into places graph e
unfolding crossings_into_all
crossings_more places graph events i e below is =
    ap (flat_map (crossings_into places graph)) (take_more events i e below ∙ ap (λ x. take i events ++ x ∷ []) (get_or_from_slice_get events i e e is))
    ∙ (flat_map-append (crossings_into places graph) (take i events) (e ∷ [])
    ∙ ap (λ xs. crossings_into_all places graph (take i events) ++ xs) (append-nil (crossings_into places graph e)))

-- before the first event
pub none_in : (places : List ℕ) (domain : ℕ) → events_in places [] domain ≡ []
unfolding events_in
none_in places domain = refl

pub no_crossings : (places : List ℕ) (graph : List Event) → crossings_into_all places graph [] ≡ []
unfolding crossings_into_all
no_crossings places graph = refl

-- the parents of an event come before it
pub parent_within : (events : List Event) (i : ℕ) (e : Event) (o : Option Parent) → i < length events
    → ((p : Parent) → o ≡ Some p → p.number < i) → IfSome o (λ p. p.number < length events)
parent_within events i e None below h = tt
parent_within events i e (Some p) below h = omega (arith, h p refl)

-- all events are the events up to their number
pub whole : (places : List ℕ) (events : List Event) (lists : List (List ℕ)) (crossings : List Crossing) (i : ℕ) → length events ≤ i
    → All (λ domain. domain < length lists) places
    → ((domain : ℕ) → domain < length lists → list_at lists domain ≡ events_in places (take i events) domain)
    → crossings ≡ crossings_into_all places events (take i events)
    → IsPartition events (record { places = places; events = lists; crossings = crossings })
whole places events lists crossings i far there each is =
    let all : take i events ≡ events = take_all i events far in
    record {
      there = record { below = there };
      each = λ domain below.
          slice_get-get_or lists domain [] below ∙ ap (λ ns. Some ns) (each domain below ∙ ap (λ es. events_in places es domain) all);
      crossings = is ∙ ap (crossings_into_all places events) all;
    }
