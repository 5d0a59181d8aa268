-- What a domain keeps of its graph and of what it knows, and how that stands for the definitions.
use Rattle.std.specs.Prelude.{◌≡◌, ◌≤◌, ◌<◌, ◌+◌, ◌^◌, ◌==◌, ◌&&◌, ℕ, Bool, IsTrue, true, false, cond, not, max, List, [], ◌∷◌, length, map, take, Option, Some, None, slice_get}
use Rattle.std.specs.List.{filter, find, enumerate_from, slice_index_or}
use Rattle.std.specs.Option.{option_map_or}
use Rattle.zs_num.specs.declared.time.Word.{Word}
use Rattle.zs_num.specs.declared.time.Word.TheVariants.{Bound}
use Rattle.component.specs.declared.kind.Kind.{Kind}
use Rattle.component.specs.declared.kind.Kind.TheVariants.{Lookup}
use Rattle.event_graph.specs.declared.event.Event.{Event}
use Rattle.event_graph.specs.declared.event.Parent.{Parent}
use Rattle.event_graph.specs.declared.fired.Fired.{Fired}
use Rattle.event_graph.specs.OneListWeave.{FiredEvent, finish_in, is_fired}
use Rattle.domain_map.specs.declared.crossing.Crossing.{Crossing}
use Rattle.domain_map.specs.Domains.{Partition, domain_of_event, domain_of_number}
use Rattle.weave_core.specs.declared.children.Link.{Link}
use Rattle.weave_core.specs.declared.incoming.Stub.{Stub}
use Rattle.weave_core.specs.Children.{IsChain}
use Rattle.weave_core.specs.DomainMachine.{DomainState, cycle_of, is_exact, is_own_parent_fired, latency_at}
use Rattle.weave_core.specs.Waits.{Waits}

-- What the fields stand for.

-- what is read past the end
abbrev pub no_event : Event
no_event = record { number = 0; core = 0; component = 0; kind = Lookup; min_start = 0; min_finish = 0; critical = false; first = None; second = None }

-- the event that fired, with its start and its finish
abbrev pub timed_from : List Event → Fired → FiredEvent
timed_from events f = record { event = slice_index_or events f.number no_event; start = f.start; finish = f.finish }

-- the word of a crossing, if it leads into the domain
abbrev pub crossing_word : List Stub → (number : ℕ) → Word
crossing_word stubs number = option_map_or (λ s. s.word) (find (λ s. s.number == number) stubs) (Bound 0)

abbrev pub known_words : List Crossing → List Stub → List Word
known_words crossings stubs = map (λ at. crossing_word stubs at.0) (enumerate_from 0 crossings)

-- the place of a component among those of its domain
abbrev pub place_in : (places : List ℕ) → (domain component : ℕ) → ℕ
place_in places domain component = length (filter (λ d. d == domain) (take component places))

-- The events of the domain, and the crossings into it.

module _ (events : List Event) (p : Partition) (domain : ℕ) where
  -- the domain's events, in order of their numbers
  pub record AreHere (here : List Event) : Type 0 where
    pub each : (place : ℕ) (e : Event) → slice_get here place ≡ Some e → (slice_get events e.number ≡ Some e) × (domain_of_event p.places e ≡ domain)
    pub covers : (number : ℕ) (e : Event) → slice_get events number ≡ Some e → domain_of_event p.places e ≡ domain → (place : ℕ) × (slice_get here place ≡ Some e)
    pub rising : (i j : ℕ) (e f : Event) → i < j → slice_get here i ≡ Some e → slice_get here j ≡ Some f → e.number < f.number

  -- it stands for a crossing into the domain
  pub record IsStubOf (here : List Event) (s : Stub) : Type 0 where
    pub crossing : Crossing
    pub there : slice_get p.crossings s.number ≡ Some crossing
    pub target : crossing.target ≡ domain
    pub delay : s.delay ≡ crossing.delay
    pub latency : s.latency ≡ latency_at events crossing.parent
    pub child : Event
    pub child_there : slice_get here s.child ≡ Some child
    pub child_is : child.number ≡ crossing.child

  pub record AreStubs (here : List Event) (stubs : List Stub) : Type 0 where
    pub each : (place : ℕ) (s : Stub) → slice_get stubs place ≡ Some s → IsStubOf here s
    pub covers : (number : ℕ) (x : Crossing) → slice_get p.crossings number ≡ Some x → x.target ≡ domain
        → (place : ℕ) × ((s : Stub) × ((slice_get stubs place ≡ Some s) × (s.number ≡ number)))
    pub rising : (i j : ℕ) (s t : Stub) → i < j → slice_get stubs i ≡ Some s → slice_get stubs j ≡ Some t → s.number < t.number

-- The children of the domain's events among them.

-- 1 where the event of this number is the parent
abbrev pub times_parent : (number : ℕ) → Option Parent → ℕ
times_parent number None = 0
times_parent number (Some q) = cond (q.number == number) 1 0

-- the start that it leaves where it is the parent and finishes then
abbrev pub hit_after : (finish number : ℕ) → Option Parent → ℕ
hit_after finish number None = 0
hit_after finish number (Some q) = cond (q.number == number) (finish + q.delay) 0

-- how often the child is there
abbrev pub links_to : (child : ℕ) → List Link → ℕ
links_to child [] = 0
links_to child (l ∷ chain) = cond (l.child == child) 1 0 + links_to child chain

-- the start that these leave it
abbrev pub latest_to : (finish child : ℕ) → List Link → ℕ
latest_to finish child [] = 0
latest_to finish child (l ∷ chain) = max (cond (l.child == child) (finish + l.delay) 0) (latest_to finish child chain)

-- the chain has the children of the event
pub record IsChildren (here : List Event) (links : List Link) (head number : ℕ) : Type 0 where
  pub chain : List Link
  pub is_chain : IsChain links head chain
  pub within : (place : ℕ) (l : Link) → slice_get chain place ≡ Some l → (l.child < length here) × (l.delay ≤ 2 ^ 62)
  pub counts : (child : ℕ) (e : Event) → slice_get here child ≡ Some e → links_to child chain ≡ times_parent number e.first + times_parent number e.second
  pub latest : (finish child : ℕ) (e : Event) → slice_get here child ≡ Some e
      → latest_to finish child chain ≡ max (hit_after finish number e.first) (hit_after finish number e.second)

pub record AreLinked (here : List Event) (heads : List ℕ) (links : List Link) : Type 0 where
  pub each : (place : ℕ) (e : Event) → slice_get here place ≡ Some e → (head : ℕ) × ((slice_get heads place ≡ Some head) × IsChildren here links head e.number)

-- What the events wait for.

-- how many of the crossings into the event have no known finish
abbrev pub unknown_into : (child : ℕ) → List Stub → ℕ
unknown_into child [] = 0
unknown_into child (s ∷ stubs) = cond ((s.child == child) && not (is_exact s.word)) 1 0 + unknown_into child stubs

-- the start that those with a known finish leave it
abbrev pub told_into : (child : ℕ) → List Stub → ℕ
told_into child [] = 0
told_into child (s ∷ stubs) = max (cond ((s.child == child) && is_exact s.word) (cycle_of s.word + s.delay) 0) (told_into child stubs)

module _ (events : List Event) (p : Partition) (domain : ℕ) (own : DomainState) where
  -- 1 for a parent in the domain that hasn't fired
  abbrev pub pending : Option Parent → ℕ
  pending q = cond (is_own_parent_fired events p domain own q) 0 1

  -- the start that a fired parent in the domain leaves
  abbrev pub start_after_own : Option Parent → ℕ
  start_after_own None = 0
  start_after_own (Some q) =
      cond (is_fired own.fired q.number && (domain_of_number p.places events q.number == domain)) (finish_in own.fired q.number + q.delay) 0

  -- how many parents it waits for
  abbrev pub missing_at : (place : ℕ) → Event → List Stub → ℕ
  missing_at place e stubs = pending e.first + pending e.second + unknown_into place stubs

  -- its start so far
  abbrev pub start_at : (place : ℕ) → Event → List Stub → ℕ
  start_at place e stubs = max e.min_start (max (max (start_after_own e.first) (start_after_own e.second)) (told_into place stubs))

  pub record Stands (here : List Event) (stubs : List Stub) (w : Waits) : Type 0 where
    pub starts_size : length w.starts ≡ length here
    pub waits_size : length w.waits ≡ length here
    pub waits : (place : ℕ) (e : Event) → slice_get here place ≡ Some e
        → slice_get w.waits place ≡ Some (cond (is_fired own.fired e.number) 4294967295 (missing_at place e stubs))
    pub starts : (place : ℕ) (e : Event) → slice_get here place ≡ Some e → slice_get w.starts place ≡ Some (start_at place e stubs)
    pub finished : (place : ℕ) (e : Event) → slice_get here place ≡ Some e → is_fired own.fired e.number ≡ true → missing_at place e stubs ≡ 0
    -- known finishes of one parent are the same
    pub agree : (i j : ℕ) (s t : Stub) (x y : Crossing) → slice_get stubs i ≡ Some s → slice_get stubs j ≡ Some t
        → slice_get p.crossings s.number ≡ Some x → slice_get p.crossings t.number ≡ Some y
        → is_exact s.word ≡ true → is_exact t.word ≡ true → x.parent ≡ y.parent → cycle_of s.word ≡ cycle_of t.word

-- how many have fired
abbrev pub fired_in : List ℕ → ℕ
fired_in [] = 0
fired_in (wait ∷ waits) = cond (wait == 4294967295) 1 0 + fired_in waits

-- The components of the domain.

-- the component of each event is there, and serves it
pub record HaveComponents {C : Type 0} (serves : C → Kind → Bool) (p : Partition) (domain : ℕ) (here : List Event) (own_places : List ℕ) (comps : List C) : Type 0 where
  pub own_place : (place : ℕ) (e : Event) → slice_get here place ≡ Some e → slice_get own_places e.component ≡ Some (place_in p.places domain e.component)
  pub serving : (place : ℕ) (e : Event) → slice_get here place ≡ Some e → (c : C) × ((slice_get comps (place_in p.places domain e.component) ≡ Some c) × IsTrue (serves c e.kind))
