-- What a bank in code is, and what the steps of an access ask of it.
use Rattle.std.specs.Prelude.{◌≡◌, ℕ, ◌<◌, ◌&&◌, Bool, if◌then◌else◌, List, length, Option, Some, None, is_some}
use Rattle.zs_num.specs.declared.entry.Outcome.{Outcome}
use Rattle.std.specs.List.{All}
use Rattle.cache_set.specs.declared.letter.Letter.{Letter}
use Rattle.home.specs.HomeState.{HomeLine, HomeState, KeepsLine, dropped_in, evicted_by, marked_dirty_in, row_at, row_of, with_bytes_at}
use Rattle.l1_cache.specs.L1State.{Copy, L1State, copy_at, victim_in}
use Rattle.shard.specs.PartsLaws.{IsInMemory, IsOwn}
use Rattle.shard.specs.Coherence.{is_modified, outcome_by}
use Rattle.shard.specs.SharedStep.{Bank, copy_of, is_dirty_here, is_some_core, l1_of, others_of, own_letter}

-- a home with the L1s of all cores
abbrev pub bank_with : HomeState → List L1State → Bank
bank_with home l1s = record { home = home; l1s = l1s }

-- each of these cores has an L1
abbrev pub AreKnown : (cores : List ℕ) → List L1State → Type 0
AreKnown cores l1s = All (λ core. core < length l1s) cores

-- the home keeps the bytes of a line that leaves a core's L1
abbrev pub KeepsVictim : HomeState → Option (ℕ × Copy) → Type 0
KeepsVictim home None = Unit {0}
KeepsVictim home (Some victim) = KeepsLine home victim.0

-- the line is there as the L1 kept it
abbrev pub StandsThere : L1State → Option (ℕ × Copy) → Type 0
StandsThere l1 None = Unit {0}
StandsThere l1 (Some victim) = copy_at l1 victim.0 ≡ Some victim.1

-- the home after a line left a core's L1, where it had this letter and these bytes
abbrev pub left_home : Option (ℕ × Letter) → (core : ℕ) → (bytes : List ℕ) → HomeState → HomeState
left_home None core bytes home = home
left_home (Some evicted) core bytes home =
    dropped_in evicted.0 core (if is_modified evicted.1 then marked_dirty_in evicted.0 (with_bytes_at evicted.0 bytes home) else home)

-- it keeps those of a line that leaves the L2, and each core that has that line has an L1
abbrev pub CanEvict : HomeState → List L1State → Option (ℕ × HomeLine) → Type 0
CanEvict home l1s None = Unit {0}
CanEvict home l1s (Some evicted) = KeepsLine home evicted.0 × AreKnown evicted.1.sharers l1s × AreKnown evicted.1.fetchers l1s

-- the others that have a line of the L2, of which this is the row, can give it up for a core
pub record CanLeave (p : Bank) (core line : ℕ) (row : HomeLine) : Type 0 where
  pub few : core < 256
  pub kept : KeepsLine p.home line
  pub others : AreKnown (others_of core row) p.l1s

-- a line can come from its home into the L1 of a core that doesn't have it
pub record CanBring (p : Bank) (core line : ℕ) : Type 0 where
  pub known : core < length p.l1s
  pub few : core < 256
  pub kept : KeepsLine p.home line
  pub absent : copy_of p core line ≡ None
  pub victim : KeepsVictim p.home (victim_in (l1_of p core) line)
  pub stands : StandsThere (l1_of p core) (victim_in (l1_of p core) line)

-- a core asks for a line of the bank's own
pub record AsksFor (p : Bank) (core line : ℕ) : Type 0 where
  pub known : core < length p.l1s
  pub own : IsOwn p line
  pub inside : IsInMemory p.home line

-- how a bank meets a read or a write of a line
abbrev pub line_met : Bank → (core line : ℕ) → (write : Bool) → Outcome
line_met p core line write = let has = is_some_core (others_of core (row_of p.home line)) in
    outcome_by write (own_letter p core line) (is_some (row_at p.home line)) ((row_of p.home line).alone && has) has (is_dirty_here p (evicted_by p.home line))
