-- What a domain was told is sound: true of starts and finishes that solve the timing rules.
use Rattle.std.specs.Prelude.{◌≡◌, ◌≤◌, ℕ, false, List, Option, Some, None, slice_get}
use Rattle.zs_num.specs.declared.time.Word.{Word}
use Rattle.zs_num.specs.declared.time.Word.TheVariants.{Bound, Exact}
use Rattle.event_graph.specs.declared.event.Event.{Event}
use Rattle.event_graph.specs.OneListWeave.{FiredEvent, find_fired, finish_in}
use Rattle.domain_map.specs.declared.crossing.Crossing.{Crossing}
use Rattle.domain_map.specs.Domains.{Partition}
use Rattle.weave_core.specs.DomainMachine.{DomainState, bound_of, is_exact, word_at}

abbrev pub start_or_zero : Option FiredEvent → ℕ
start_or_zero None = 0
start_or_zero (Some x) = x.start

-- the start of the event of a number
abbrev pub start_in : List FiredEvent → (number : ℕ) → ℕ
start_in timed number = start_or_zero (find_fired timed number)

-- the parent of the crossing finishes at the cycle of an exact word, and not before that of a bound
abbrev pub IsSoundWord : List FiredEvent → Crossing → Word → Type 0
IsSoundWord timed x (Bound b) = b ≤ finish_in timed x.parent
IsSoundWord timed x (Exact f) = f ≡ finish_in timed x.parent

-- the word of each crossing is
pub record AreSoundWords (timed : List FiredEvent) (p : Partition) (words : List Word) : Type 0 where
  pub each : (number : ℕ) (x : Crossing) → slice_get p.crossings number ≡ Some x → IsSoundWord timed x (word_at words number)

-- no parent of a crossing that the domain hasn't resolved finishes before the crossing's bound
pub record AreSoundBounds (events : List Event) (timed : List FiredEvent) (p : Partition) (domain : ℕ) (own : DomainState) : Type 0 where
  pub each : (number : ℕ) (x : Crossing) → slice_get p.crossings number ≡ Some x → x.target ≡ domain
      → is_exact (word_at own.known number) ≡ false → bound_of events p own number x ≤ finish_in timed x.parent

-- the parent of each crossing that the domain hasn't resolved starts at the floor or later
pub record IsSoundFloor (timed : List FiredEvent) (p : Partition) (domain : ℕ) (own : DomainState) : Type 0 where
  pub each : (number : ℕ) (x : Crossing) → slice_get p.crossings number ≡ Some x → x.target ≡ domain
      → is_exact (word_at own.known number) ≡ false → own.floor ≤ start_in timed x.parent
