-- Domains with their seats at the crossings.
use Rattle.std.specs.Prelude.{◌≡◌, ◌≤◌, ◌%◌, ◌⊎◌, ℕ, Bool, true, false, cond, max, nat_lt, List, length, Some, slice_get, slice_index}
use Rattle.atomic_table.specs.Seated.{TableId}
use Rattle.zs_num.specs.declared.time.Word.{Word}
use Rattle.zs_num.specs.declared.time.Word.TheVariants.{Bound, Exact}
use Rattle.component.specs.declared.kind.Kind.{Kind}
use Rattle.event_graph.specs.declared.fired.Fired.{Fired}
use Rattle.event_graph.specs.OneListWeave.{finish_in, is_fired, woven}
use Rattle.domain_map.specs.declared.crossing.Crossing.{Crossing}
use Rattle.crossing.specs.Seats.{Looked, SeatValue, finishes_of, kept_number, sources_of}
use Rattle.weave_core.specs.DomainCalls.{DomainValue, with_known}
use Rattle.weave_core.specs.DomainMachine.{is_exact, word_at}
use Rattle.weave_run.specs.Rounds.{HasFiredNext, HasRun, IsFinish, KeepsToWeave, Learns}
use Rattle.weave_run.specs.declared.post.Post.{Post}
use Rattle.weave_run.specs.declared.plan.Plan.{Plan}

-- the seat of a domain at these crossings, which are those of the plan
pub record IsSeatOfPlan {C : Type 0} (stepped : C → Kind → ℕ → C × ℕ) (plan : Plan C) (table : TableId) (domain : ℕ) (s : SeatValue) : Type 0 where
  pub crossings_are : s.crossings ≡ table
  pub domain_is : s.domain ≡ domain
  pub finishes_are : s.finishes ≡ finishes_of stepped plan.graph.value plan.parts.value plan.comps.value
  pub sources_are : s.sources ≡ sources_of plan.parts.value
  pub wide : length s.wrote ≡ length s.sources

-- it has published nothing of an event that the domain hasn't fired
abbrev pub IsUnpublished : {C : Type 0} → Plan C → DomainValue C → SeatValue → Type 0
IsUnpublished plan v s =
    (number : ℕ) (x : Crossing) → slice_get plan.parts.value.crossings number ≡ Some x → x.source ≡ v.domain → is_fired v.own.fired x.parent ≡ false
    → slice_index s.wrote number % 2 ≡ 0

-- the domain knows each finish that it found
abbrev pub IsInformed : {C : Type 0} → DomainValue C → SeatValue → Type 0
IsInformed v s = (number : ℕ) → slice_index s.noted number % 2 ≡ 1 → is_exact (word_at v.own.known number) ≡ true

pub record IsSeated {C : Type 0} (stepped : C → Kind → ℕ → C × ℕ) (plan : Plan C) (table : TableId) (v : DomainValue C) (s : SeatValue) : Type 0 where
  pub seat : IsSeatOfPlan stepped plan table v.domain s
  pub unpublished : IsUnpublished plan v s
  pub informed : IsInformed v s

-- each domain has its seat
pub record AreSeated {C : Type 0} (stepped : C → Kind → ℕ → C × ℕ) (plan : Plan C) (table : TableId) (vs : List (DomainValue C)) (seats : List SeatValue) : Type 0 where
  pub count : length seats ≡ length vs
  pub each : (domain : ℕ) (v : DomainValue C) (s : SeatValue) → slice_get vs domain ≡ Some v → slice_get seats domain ≡ Some s → IsSeated stepped plan table v s

-- a domain that keeps to the plan, with its seat
pub record IsPostSeated {C : Type 0} (stepped : C → Kind → ℕ → C × ℕ) (plan : Plan C) (table : TableId) (post : Post C) : Type 0 where
  pub kept : KeepsToWeave stepped plan post.domain
  pub seated : IsSeated stepped plan table post.domain post.seat

-- a word was raised at most, to a bound that isn't past the finish
pub record WasRaised (finish was is : ℕ) : Type 0 where
  pub upto : was ≤ is
  pub bound : (is ≡ was) ⊎ ((bound : ℕ) × ((is ≡ kept_number (Bound bound)) × (bound ≤ finish)))

-- The seat has written the finish of each event that the domain fired since to the words of all crossings out of it. The
-- words of events that it has yet to fire it has raised at most, and it has written to no other word.
pub record HasPublishedSince {C : Type 0} (stepped : C → Kind → ℕ → C × ℕ) (plan : Plan C) (old new : Post C) : Type 0 where
  pub finishes : (number finish : ℕ) (x : Crossing) → slice_get plan.parts.value.crossings number ≡ Some x → is_fired old.domain.own.fired x.parent ≡ false → is_fired new.domain.own.fired x.parent ≡ true
      → IsFinish stepped plan x.parent finish → slice_index new.seat.wrote number ≡ kept_number (Exact finish)
  pub raised : (number : ℕ) (x : Crossing) → slice_get plan.parts.value.crossings number ≡ Some x → is_fired new.domain.own.fired x.parent ≡ false
      → WasRaised (finish_in (woven stepped plan.graph.value plan.comps.value) x.parent) (slice_index old.seat.wrote number) (slice_index new.seat.wrote number)
  pub others : (number : ℕ) (x : Crossing) → slice_get plan.parts.value.crossings number ≡ Some x → (is_fired old.domain.own.fired x.parent ≡ true) ⊎ (x.source ≡ old.domain.domain → ⊥)
      → slice_index new.seat.wrote number ≡ slice_index old.seat.wrote number

-- after its next event fired, and its finish was published
pub record HasFiredThere {C : Type 0} (stepped : C → Kind → ℕ → C × ℕ) (plan : Plan C) (table : TableId) (old new : Post C) : Type 0 where
  pub can : IsPostSeated stepped plan table new
  pub finish : Fired
  pub fired : HasFiredNext stepped plan old.domain new.domain finish
  pub published : HasPublishedSince stepped plan old new

-- a word that says more of a parent than that it finishes at the bound or later
abbrev pub says_more : (bound : ℕ) → Word → Bool
says_more bound (Bound b) = nat_lt bound b
says_more bound (Exact f) = true

-- A domain after its seat found this word of a crossing: it is told it where it says more.
abbrev pub after_finding : {C : Type 0} → DomainValue C → (number : ℕ) → Word → (more : Bool) → DomainValue C
after_finding v number word more = cond more (record v { own = with_known v.own number word }) v

-- after it looked at the word of the crossing that blocks it at this bound, and whether that said more
pub record HasLooked {C : Type 0} (stepped : C → Kind → ℕ → C × ℕ) (plan : Plan C) (table : TableId) (old new : Post C) (number bound : ℕ) (more : Bool) : Type 0 where
  pub can : IsPostSeated stepped plan table new
  pub word : Word
  pub found : Looked old.seat new.seat number word
  pub told : new.domain ≡ after_finding old.domain number word more
  pub answer : more ≡ says_more bound word

-- The word of a crossing says the bound or more; nothing else was written.
pub record HasRaisedWord (old new : SeatValue) (number bound : ℕ) : Type 0 where
  pub crossings_are : new.crossings ≡ old.crossings
  pub domain_is : new.domain ≡ old.domain
  pub finishes_are : new.finishes ≡ old.finishes
  pub sources_are : new.sources ≡ old.sources
  pub noted : (other : ℕ) → (slice_index new.noted other ≡ slice_index old.noted other) ⊎ (slice_index new.noted other % 2 ≡ 0)
  pub wide : length new.wrote ≡ length old.wrote
  pub here : slice_index new.wrote number ≡ max (slice_index old.wrote number) (kept_number (Bound bound))
  pub others : (other : ℕ) → (other ≡ number → ⊥) → slice_index new.wrote other ≡ slice_index old.wrote other

-- after a domain raised the words of events that it has yet to fire
pub record HasRaised {C : Type 0} (stepped : C → Kind → ℕ → C × ℕ) (plan : Plan C) (table : TableId) (old new : Post C) : Type 0 where
  pub domain_is : new.domain ≡ old.domain
  pub seated : IsSeated stepped plan table new.domain new.seat
  pub published : HasPublishedSince stepped plan old new

-- after a domain raised words, looked at others, and was told more of them: it fired nothing
pub record HasLearned {C : Type 0} (stepped : C → Kind → ℕ → C × ℕ) (plan : Plan C) (table : TableId) (old new : Post C) : Type 0 where
  pub can : IsPostSeated stepped plan table new
  pub same : new.domain.domain ≡ old.domain.domain
  pub learns : Learns old.domain.own new.domain.own
  pub published : HasPublishedSince stepped plan old new

-- after it ran
pub record HasServed {C : Type 0} (stepped : C → Kind → ℕ → C × ℕ) (plan : Plan C) (table : TableId) (old new : Post C) : Type 0 where
  pub ran : HasRun stepped plan old.domain new.domain
  pub seated : IsSeated stepped plan table new.domain new.seat
  pub published : HasPublishedSince stepped plan old new

-- the crossings out of an event say its finish: nothing else was written
pub record HasPublished {C : Type 0} (plan : Plan C) (old new : SeatValue) (parent finish : ℕ) : Type 0 where
  pub crossings_are : new.crossings ≡ old.crossings
  pub domain_is : new.domain ≡ old.domain
  pub finishes_are : new.finishes ≡ old.finishes
  pub sources_are : new.sources ≡ old.sources
  pub noted_are : new.noted ≡ old.noted
  pub looks_are : new.looks ≡ old.looks
  pub wide : length new.wrote ≡ length old.wrote
  pub all : (number : ℕ) (x : Crossing) → slice_get plan.parts.value.crossings number ≡ Some x → x.parent ≡ parent → slice_index new.wrote number ≡ kept_number (Exact finish)
  pub others : (number : ℕ) (x : Crossing) → slice_get plan.parts.value.crossings number ≡ Some x → (x.parent ≡ parent → ⊥) → slice_index new.wrote number ≡ slice_index old.wrote number

-- the event is the domain's, and none of its crossings is published
pub record MayPublish {C : Type 0} (plan : Plan C) (s : SeatValue) (parent : ℕ) : Type 0 where
  pub own : (number : ℕ) (x : Crossing) → slice_get plan.parts.value.crossings number ≡ Some x → x.parent ≡ parent → x.source ≡ s.domain
  pub unpublished : (number : ℕ) (x : Crossing) → slice_get plan.parts.value.crossings number ≡ Some x → x.parent ≡ parent → slice_index s.wrote number % 2 ≡ 0
