-- The domains of the weave as a machine that takes one step at a time. A domain fires its own events, and learns of the
-- others only by the words of the crossings into it. The steps may come in any order.
use Rattle.std.specs.Prelude.{◌≡◌, ◌≤◌, ◌+◌, ◌-◌, ◌==◌, ◌&&◌, ◌||◌, ℕ, Bool, true, false, not, max, min, nat_le, nat_lt, if◌then◌else◌, List, [], ◌∷◌, ◌++◌, map, Option, Some, None, is_some, slice_get}
use Rattle.std.specs.List.{filter, find, enumerate_from, list_all, slice_index_or, slice_set}
use Rattle.std.specs.Option.{option_map, option_map_or, option_to_list}
use Rattle.zs_num.specs.declared.time.Word.{Word}
use Rattle.zs_num.specs.declared.time.Word.TheVariants.{Bound, Exact}
use Rattle.component.specs.declared.kind.Kind.{Kind}
use Rattle.event_graph.specs.declared.event.Event.{Event}
use Rattle.event_graph.specs.declared.event.Parent.{Parent}
use Rattle.event_graph.specs.OneListWeave.{FiredEvent, Weave, earlier, finish_in, is_fired, served, start_of}
use Rattle.domain_map.specs.declared.crossing.Crossing.{Crossing}
use Rattle.domain_map.specs.Domains.{Partition, domain_of_event, domain_of_number}

-- Words.

-- the finish is known
abbrev pub is_exact : Word → Bool
is_exact (Bound b) = false
is_exact (Exact f) = true

-- the cycle that the word names
abbrev pub cycle_of : Word → ℕ
cycle_of (Bound b) = b
cycle_of (Exact f) = f

-- the word of a crossing: before the first step it says nothing
abbrev pub word_at : List Word → (crossing : ℕ) → Word
word_at words crossing = slice_index_or words crossing (Bound 0)

-- A word says at least as much of a parent as another did: a finish, or a bound that isn't lower.
pub record SaysAsMuch (was word : Word) : Type 0 where
  pub finish : is_exact was ≡ true → is_exact word ≡ true
  pub bound : is_exact word ≡ false → cycle_of was ≤ cycle_of word

-- The states.

-- What a domain keeps: the events that it fired, in the order in which it did; the word that it knows of each crossing;
-- and the cycle from which on, as it was told, every event starts that other domains haven't told it of.
pub record DomainState : Type 0 where
  pub fired : List FiredEvent
  pub known : List Word
  pub floor : ℕ

pub record MachineState (C : Type 0) : Type 0 where
  pub domains : List DomainState
  pub words : List Word
  pub comps : List C

abbrev pub fresh_domain : DomainState
fresh_domain = record { fired = []; known = []; floor = 0 }

abbrev pub state_of : {C : Type 0} → MachineState C → (domain : ℕ) → DomainState
state_of s domain = slice_index_or s.domains domain fresh_domain

-- a domain that was told another floor
abbrev pub with_floor : (floor : ℕ) → DomainState → DomainState
with_floor floor own = record own { floor = floor }

-- nothing is fired, and no word says anything
abbrev pub at_rest : {C : Type 0} → Partition → List C → MachineState C
at_rest p comps = record {
  domains = map (λ own. record { fired = []; known = map (λ x. Bound 0) p.crossings; floor = 0 }) p.events;
  words = map (λ x. Bound 0) p.crossings;
  comps = comps;
}

-- The steps.

pub data Step : Type 0 where
  -- a domain reads the word of a crossing
  look : (domain crossing : ℕ) → Step
  -- a domain raises the bound in the word of a crossing out of it
  raise : (domain crossing bound : ℕ) → Step
  -- a domain fires its least ready event
  fire : (domain : ℕ) → Step
  -- a domain writes the finish of a parent that it fired
  publish : (domain crossing : ℕ) → Step
  -- all domains learn the least start of a ready event
  barrier : Step

-- the least of some numbers
abbrev pub least : List ℕ → Option ℕ
least [] = None
least (n ∷ ns) = Some (option_map_or (min n) (least ns) n)

-- the least time that the event of a number takes
abbrev pub latency_of : Event → ℕ
latency_of e = e.min_finish - e.min_start

abbrev pub latency_at : List Event → (number : ℕ) → ℕ
latency_at events number = option_map_or latency_of (slice_get events number) 0

-- the earliest of the events that pass the test, by their starts and then by their numbers
abbrev pub least_by : (Event → Bool) → (Event → ℕ) → List Event → Option (Event × ℕ)
least_by test start [] = None
least_by test start (e ∷ es) =
    (if test e then Some (earlier (e, start e) (least_by test start es)) else least_by test start es)

module _ (events : List Event) (p : Partition) where
  -- the crossings with their numbers
  abbrev pub numbered_crossings : List (ℕ × Crossing)
  numbered_crossings = enumerate_from 0 p.crossings

  -- every crossing passes
  abbrev pub every_crossing : (ℕ → Crossing → Bool) → Bool
  every_crossing test = list_all (λ at. test at.0 at.1) numbered_crossings

  -- What a domain can tell from what it keeps.

  -- the crossing leads into the domain, which doesn't know its finish
  abbrev pub is_unresolved : (domain : ℕ) → DomainState → ℕ → Crossing → Bool
  is_unresolved domain own number x = (x.target == domain) && not (is_exact (word_at own.known number))

  -- no earlier than the word says, and than the floor and the least time that the parent takes
  abbrev pub bound_of : DomainState → ℕ → Crossing → ℕ
  bound_of own number x = max (cycle_of (word_at own.known number)) (own.floor + latency_at events x.parent)

  -- the child of the crossing starts no earlier
  abbrev pub arrival_of : DomainState → ℕ → Crossing → ℕ
  arrival_of own number x = bound_of own number x + x.delay

  -- the parent has fired, if it is one of the domain
  abbrev pub is_own_parent_fired : (domain : ℕ) → DomainState → Option Parent → Bool
  is_own_parent_fired domain own None = true
  is_own_parent_fired domain own (Some q) =
      is_fired own.fired q.number || not (domain_of_number p.places events q.number == domain)

  -- an unfired event of the domain, of which each parent has fired: those of the domain here, and those of others as
  -- the words of the crossings into the event say
  abbrev pub is_ready_in : (domain : ℕ) → DomainState → Event → Bool
  is_ready_in domain own e =
      (domain_of_event p.places e == domain)
      && (not (is_fired own.fired e.number)
      && ((is_own_parent_fired domain own e.first && is_own_parent_fired domain own e.second)
      && every_crossing (λ number x. not (x.child == e.number) || is_exact (word_at own.known number))))

  -- the finish that a word tells of a parent in another domain
  abbrev pub told_finish : DomainState → (parent : ℕ) → ℕ
  told_finish own parent =
      option_map_or (λ at. cycle_of (word_at own.known at.0))
      (find (λ at. (at.1.parent == parent) && is_exact (word_at own.known at.0)) numbered_crossings)
      0

  -- the finish of a parent, as the domain knows it
  abbrev pub known_finish : (domain : ℕ) → DomainState → (parent : ℕ) → ℕ
  known_finish domain own parent =
      (if domain_of_number p.places events parent == domain then finish_in own.fired parent else told_finish own parent)

  -- the domain's ready event with the least (start, number), and its start
  abbrev pub next_in : (domain : ℕ) → DomainState → Option (Event × ℕ)
  next_in domain own = least_by (is_ready_in domain own) (λ e. start_of (known_finish domain own) e) events

  -- each unresolved crossing into the domain has its child start later than this
  abbrev pub is_clear : (domain : ℕ) → DomainState → (start : ℕ) → Bool
  is_clear domain own start =
      every_crossing (λ number x. not (is_unresolved domain own number x) || nat_lt start (arrival_of own number x))

  -- what no event that the domain has yet to fire can start before: the least ready start, and what the unresolved
  -- crossings allow
  abbrev pub limit_of : (domain : ℕ) → DomainState → Option ℕ
  limit_of domain own =
      least (option_to_list (option_map (λ next. next.1) (next_in domain own))
      ++ map (λ at. arrival_of own at.0 at.1) (filter (λ at. is_unresolved domain own at.0 at.1) numbered_crossings))

  -- The parent of a crossing out of the domain, which has yet to fire it, finishes no earlier, as far as the domain can
  -- tell: it starts at the limit or later.
  abbrev pub allows_bound : (domain : ℕ) → DomainState → Crossing → (bound : ℕ) → Bool
  allows_bound domain own x bound =
      option_map_or (λ limit. nat_le bound (latency_at events x.parent + limit)) (limit_of domain own) false

  -- The starts of the domains' next events.
  abbrev pub ready_starts : List (ℕ × DomainState) → List ℕ
  ready_starts [] = []
  ready_starts (at ∷ rest) = option_to_list (option_map (λ next. next.1) (next_in at.0 at.1)) ++ ready_starts rest

  module _ {C : Type 0} (stepped : C → Kind → ℕ → C × ℕ) where
    -- the least start of a ready event of any domain
    abbrev pub least_ready_start : MachineState C → Option ℕ
    least_ready_start s = least (ready_starts (enumerate_from 0 s.domains))

    -- When a step is allowed.

    -- the number is that of a crossing that passes
    abbrev pub crossing_passes : (number : ℕ) → (Crossing → Bool) → Bool
    crossing_passes number test = option_map_or test (slice_get p.crossings number) false

    -- the parent of the crossing is unfired, the bound doesn't fall, and the parent can't finish before it
    abbrev pub may_raise : MachineState C → (domain number bound : ℕ) → Crossing → Bool
    may_raise s domain number bound x =
        (x.source == domain)
        && (not (is_fired (state_of s domain).fired x.parent)
        && (nat_le (cycle_of (word_at s.words number)) bound && allows_bound domain (state_of s domain) x bound))

    -- a crossing of a fired event is published, and the domain that it leads into knows
    abbrev pub is_settled : MachineState C → ℕ → Crossing → Bool
    is_settled s number x =
        not (is_fired (state_of s x.source).fired x.parent)
        || (is_exact (word_at s.words number) && is_exact (word_at (state_of s x.target).known number))

    abbrev pub is_allowed : MachineState C → Step → Bool
    is_allowed s (look domain number) = crossing_passes number (λ x. x.target == domain)
    is_allowed s (raise domain number bound) = crossing_passes number (may_raise s domain number bound)
    is_allowed s (fire domain) =
        option_map_or (λ next. is_clear domain (state_of s domain) next.1) (next_in domain (state_of s domain)) false
    is_allowed s (publish domain number) =
        crossing_passes number (λ x. (x.source == domain) && is_fired (state_of s domain).fired x.parent)
    is_allowed s barrier = every_crossing (is_settled s) && is_some (least_ready_start s)

    -- What a step does.

    -- a domain is now in this state
    abbrev pub with_domain : MachineState C → (domain : ℕ) → DomainState → MachineState C
    with_domain s domain own = record s { domains = slice_set s.domains domain own }

    -- a crossing has this word
    abbrev pub with_word : MachineState C → (number : ℕ) → Word → MachineState C
    with_word s number word = record s { words = slice_set s.words number word }

    -- an event fires in a domain at this start, and its component serves it
    abbrev pub fire_event : MachineState C → (domain : ℕ) → Event × ℕ → MachineState C
    fire_event s domain next =
        let w : Weave C =
        served stepped (record { fired = (state_of s domain).fired; comps = s.comps }) next.0 next.1 (slice_get s.comps next.0.component)
        in
        record s {
          domains = slice_set s.domains domain (record (state_of s domain) { fired = w.fired });
          comps = w.comps;
        }

    -- the finish of the crossing's parent, in the domain that fired it
    abbrev pub finish_of_parent : MachineState C → (domain number : ℕ) → ℕ
    finish_of_parent s domain number =
        option_map_or (λ x. finish_in (state_of s domain).fired x.parent) (slice_get p.crossings number) 0

    abbrev pub effect_of : MachineState C → Step → MachineState C
    effect_of s (look domain number) =
        with_domain s domain
        (record (state_of s domain) { known = slice_set (state_of s domain).known number (word_at s.words number) })
    effect_of s (raise domain number bound) = with_word s number (Bound bound)
    effect_of s (fire domain) = option_map_or (fire_event s domain) (next_in domain (state_of s domain)) s
    effect_of s (publish domain number) = with_word s number (Exact (finish_of_parent s domain number))
    effect_of s barrier = option_map_or (λ start. record s { domains = map (with_floor start) s.domains }) (least_ready_start s) s

    -- a step that isn't allowed isn't taken
    unfoldable pub take_step : MachineState C → Step → MachineState C
    take_step s step = (if is_allowed s step then effect_of s step else s)

    -- after these steps, one after the other
    abbrev pub after_steps : MachineState C → List Step → MachineState C
    after_steps s [] = s
    after_steps s (step ∷ rest) = after_steps (take_step s step) rest
