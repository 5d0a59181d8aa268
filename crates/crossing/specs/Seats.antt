-- What a seat at the crossings knows, and what each call adds to it.
use Rattle.std.specs.Prelude.{◌≡◌, ◌≤◌, ◌<◌, ◌+◌, ◌*◌, ◌%◌, ◌/◌, ◌==◌, ℕ, if◌then◌else◌, List, length, map, Some, slice_get, slice_index, slice_set}
use Rattle.atomic_table.specs.Seated.{TableId}
use Rattle.zs_num.specs.declared.time.Word.{Word}
use Rattle.zs_num.specs.declared.time.Word.TheVariants.{Bound, Exact}
use Rattle.component.specs.declared.kind.Kind.{Kind}
use Rattle.event_graph.specs.declared.event.Event.{Event}
use Rattle.event_graph.specs.OneListWeave.{finish_in, woven}
use Rattle.domain_map.specs.Domains.{Partition}

-- The number by which a word is kept.
abbrev pub kept_number : Word → ℕ
kept_number (Bound b) = 2 * b
kept_number (Exact f) = 2 * f + 1

-- The word that is kept as a number.
abbrev pub word_kept_as : ℕ → Word
word_kept_as n = (if n % 2 == 0 then Bound (n / 2) else Exact (n / 2))

-- Whose seat it is and at which crossings; the finish of each crossing's parent and the domain that it comes from; and
-- of each crossing's word what this seat last wrote to it, what it last found in it, and how often it looked.
pub record SeatValue : Type 0 where
  pub crossings : TableId
  pub domain : ℕ
  pub finishes : List ℕ
  pub sources : List ℕ
  pub wrote : List ℕ
  pub noted : List ℕ
  pub looks : List ℕ

-- a seat that has written and found nothing
abbrev pub new_seat : TableId → (finishes sources : List ℕ) → (domain : ℕ) → SeatValue
new_seat crossings finishes sources domain = record {
  crossings = crossings;
  domain = domain;
  finishes = finishes;
  sources = sources;
  wrote = map (λ (x : ℕ). 0) sources;
  noted = map (λ (x : ℕ). 0) sources;
  looks = map (λ (x : ℕ). 0) sources;
}

-- The finishes of the parents of the crossings in the one-list weave.
abbrev pub finishes_of : {C : Type 0} (stepped : C → Kind → ℕ → C × ℕ) → List Event → Partition → List C → List ℕ
finishes_of stepped events p comps = map (λ x. finish_in (woven stepped events comps) x.parent) p.crossings

-- The domains that the crossings come from.
abbrev pub sources_of : Partition → List ℕ
sources_of p = map (λ x. x.source) p.crossings

-- Each domain has its seat.
pub record AreSeats (crossings : TableId) (finishes sources : List ℕ) (domains : ℕ) (seats : List SeatValue) : Type 0 where
  pub count : length seats ≡ domains
  pub each : (domain : ℕ) → domain < domains → slice_get seats domain ≡ Some (new_seat crossings finishes sources domain)

-- The crossing is one of the seat's own, and its finish isn't published.
pub record MayWrite (s : SeatValue) (x : ℕ) : Type 0 where
  pub there : x < length s.sources
  pub owner : slice_index s.sources x ≡ s.domain
  pub unpublished : slice_index s.wrote x % 2 ≡ 0

-- the seat wrote a word of this number
abbrev pub with_written : SeatValue → (x n : ℕ) → SeatValue
with_written s x n = record s { wrote = slice_set s.wrote x n }

-- the seat found a word of this number, in one look more
abbrev pub with_found : SeatValue → (x n : ℕ) → SeatValue
with_found s x n = record s { noted = slice_set s.noted x n; looks = slice_set s.looks x (slice_index s.looks x + 1) }

-- an exact word is the finish, and a bound is at most that
abbrev pub IsTrueOfFinish : (finish : ℕ) → Word → Type 0
IsTrueOfFinish finish (Bound b) = b ≤ finish
IsTrueOfFinish finish (Exact f) = f ≡ finish

-- What a look found: the word that the seat now notes, after one look more. It is true of the crossing's finish, it
-- doesn't fall, an exact word stays, and the owner finds what it last wrote.
pub record Looked (old new : SeatValue) (x : ℕ) (word : Word) : Type 0 where
  pub new_is : new ≡ with_found old x (kept_number word)
  pub is_true : IsTrueOfFinish (slice_index old.finishes x) word
  pub no_fall : slice_index old.noted x ≤ kept_number word
  pub exact_stays : slice_index old.noted x % 2 ≡ 1 → kept_number word ≡ slice_index old.noted x
  pub own : slice_index old.sources x ≡ old.domain → kept_number word ≡ slice_index old.wrote x
