-- The rule of the crossings: what holds of the words and of what the seats know between any two steps.
use Rattle.std.specs.Prelude.{◌≡◌, ◌≤◌, ◌<◌, ◌+◌, ◌*◌, ◌%◌, ◌⊎◌, ℕ, Bool, true, false, List, [], ◌∷◌, length, map, slice_index, slice_set, replicate}
use mathlib.Core.Option.{some}
use lib.ListN.{get_elem?}
use Rattle.atomic_table.specs.Table.{State, Step, Me}
use Rattle.crossing.specs.declared.view.View.{View}

-- The word of crossing x is word 16 x + 16, so that two of them share no pair of cache lines. Word 0 is written by
-- nobody.
abbrev pub crossing_number : List ℕ → (x : ℕ) → ℕ
crossing_number words x = slice_index words (16 * x + 16)

-- before the first step
abbrev pub untold : View
untold = record { told = false; makes = false; domain = 0; finishes = []; sources = []; wrote = []; noted = []; looks = [] }

-- a seat that has written and found nothing
abbrev pub fresh : (finishes sources : List ℕ) → (makes : Bool) → (domain : ℕ) → View
fresh finishes sources makes domain = record {
  told = true;
  makes = makes;
  domain = domain;
  finishes = finishes;
  sources = sources;
  wrote = map (λ (x : ℕ). 0) sources;
  noted = map (λ (x : ℕ). 0) sources;
  looks = map (λ (x : ℕ). 0) sources;
}

-- `2 * b` of a bound that is at most the finish, or `2 * finish + 1`
pub record IsTrueNumber (finish n : ℕ) : Type 0 where
  pub upto : n ≤ 2 * finish + 1
  pub exact : n % 2 ≡ 1 → n ≡ 2 * finish + 1

module _ (finishes sources : List ℕ) where
  -- A seat knows the finishes and the sources. What it found isn't above the word, and an exact one is the word; the word
  -- of a crossing that it owns is what it last wrote. The words of domains whose seats aren't made yet say nothing.
  pub record IsCrossingSeat (words : List ℕ) (v : View) : Type 0 where
    pub told_is : v.told ≡ true
    pub finishes_are : v.finishes ≡ finishes
    pub sources_are : v.sources ≡ sources
    pub wide : (length v.wrote ≡ length sources) × (length v.noted ≡ length sources) × (length v.looks ≡ length sources)
    pub below : (x : ℕ) → x < length sources → slice_index v.noted x ≤ crossing_number words x
    pub exact : (x : ℕ) → x < length sources → slice_index v.noted x % 2 ≡ 1 → slice_index v.noted x ≡ crossing_number words x
    pub own : v.makes ≡ false → (x : ℕ) → x < length sources → slice_index sources x ≡ v.domain → crossing_number words x ≡ slice_index v.wrote x
    pub next : v.makes ≡ true → (x : ℕ) → x < length sources → v.domain ≤ slice_index sources x → crossing_number words x ≡ 0

  -- Each word is true of its crossing's finish, no two seats are one domain's, and the domains whose seats are made are
  -- below the next.
  pub record AreCrossings (s : State (Unit {0}) View) : Type 0 where
    pub wide : length s.words ≡ 16 * length sources + 1
    pub is_true : (x : ℕ) → x < length sources → IsTrueNumber (slice_index finishes x) (crossing_number s.words x)
    pub seats : (i : ℕ) (v : View) → get_elem? s.views i ≡ some v → IsCrossingSeat s.words v
    pub apart : (i j : ℕ) (v w : View) → get_elem? s.views i ≡ some v → get_elem? s.views j ≡ some w → v.domain ≡ w.domain → i ≡ j
    pub counted : (i j : ℕ) (v w : View) → get_elem? s.views i ≡ some v → v.makes ≡ true → get_elem? s.views j ≡ some w → w.domain ≤ v.domain

-- before the first step all words are 0
pub record IsBegun (crossings : ℕ) (s : State (Unit {0}) View) : Type 0 where
  pub words : s.words ≡ replicate (16 * crossings + 1) 0
  pub views : s.views ≡ untold ∷ []

pub record IsMade (crossings : ℕ) (s : State (Unit {0}) View) : Type 0 where
  pub finishes : List ℕ
  pub sources : List ℕ
  pub count : length sources ≡ crossings
  pub crossed : AreCrossings finishes sources s

abbrev pub Holds : (crossings : ℕ) → State (Unit {0}) View → Type 0
Holds crossings s = IsBegun crossings s ⊎ IsMade crossings s

-- What the steps tell.

abbrev pub TellsFirstSeat : (finishes sources : List ℕ) → Step (Unit {0}) → Me (Unit {0}) View → ℕ → Me (Unit {0}) View → Type 0
TellsFirstSeat finishes sources st m n after = after ≡ (fresh finishes sources true 0, m.1)

abbrev pub with_wrote : View → (x n : ℕ) → View
with_wrote v x n = record v { wrote = slice_set v.wrote x n }

abbrev pub with_noted : View → (x n : ℕ) → View
with_noted v x n = record v { noted = slice_set v.noted x n; looks = slice_set v.looks x (slice_index v.looks x + 1) }

abbrev pub Wrote : Step (Unit {0}) → Me (Unit {0}) View → ℕ → Me (Unit {0}) View → Type 0
Wrote st m n after = (x : ℕ) → st.word ≡ 16 * x + 16 → after ≡ (with_wrote m.0 x n, m.1)

-- what a look at crossing x finds
pub record Finds (v : View) (x n : ℕ) : Type 0 where
  pub is_true : IsTrueNumber (slice_index v.finishes x) n
  pub no_fall : slice_index v.noted x ≤ n
  pub exact_stays : slice_index v.noted x % 2 ≡ 1 → n ≡ slice_index v.noted x
  pub own : slice_index v.sources x ≡ v.domain → n ≡ slice_index v.wrote x

abbrev pub Found : Step (Unit {0}) → Me (Unit {0}) View → ℕ → Me (Unit {0}) View → Type 0
Found st m n after = (x : ℕ) → st.word ≡ 16 * x + 16 → (after ≡ (with_noted m.0 x n, m.1)) × Finds m.0 x n

abbrev pub with_one_more : View → View
with_one_more v = record v { domain = v.domain + 1 }

abbrev pub seat_of_next_domain : View → View
seat_of_next_domain v = fresh v.finishes v.sources false v.domain
