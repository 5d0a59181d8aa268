-- What an access touches is all that it reads or changes. A bank that has these parts of some bank serves the access as that
-- one does, whatever stands in place of its other L1s.
use Rattle.std.specs.Prelude.{◌≡◌, ℕ, ◌<◌, ◌&&◌, ◌||◌, Bool, false, not, if◌then◌else◌, IsTrue, List, [], ◌∷◌, length, nat_eq, Option, Some, None, is_some}
use Rattle.std.specs.Set.{is_member}
use Rattle.zs_num.specs.Request.{bank_of, is_fetch, line_of}
use Rattle.zs_num.specs.declared.request.Request.{Request}
use Rattle.home.specs.HomeState.{HomeLine, HomeState, evicted_by, row_at, row_of}
use Rattle.shard.specs.BankSteps.{AsksFor, line_met}
use Rattle.shard.specs.Coherence.{is_write}
use Rattle.shard.specs.PartsLaws.{AreAllParts, AreParts, IsAsked}
use Rattle.shard.specs.Seen.{PartsState, bank_at, parts_after}
use Rattle.shard.specs.SharedStep.{Bank, bank_after, bank_reply, holders_of, l1_of, met_at_bank, others_asked, touched_by}

-- The second bank has the home of the first, as many L1s, and the same L1s of these cores.
pub record AreLike (cores : List ℕ) (p q : Bank) : Type 0 where
  pub home : q.home ≡ p.home
  pub count : length q.l1s ≡ length p.l1s
  pub same : (core : ℕ) → IsTrue (is_member nat_eq cores core) → l1_of q core ≡ l1_of p core

-- It has what an access to the first touches.
abbrev pub IsLike : (p q : Bank) → (core : ℕ) → Request → Type 0
IsLike p q core request = AreLike (touched_by p core request) p q

-- A core asks, and this bank has what the access touches of one whose parts fit together.
abbrev pub HasTouched : Bank → (core : ℕ) → Request → Type 0
HasTouched q core request = (p : Bank) × AreParts p × IsAsked p core request × IsLike p q core request

-- The home knows which cores it has to ask, where the core's own L1 can't serve the access alone: those that have the line,
-- if the L2 has it, and else those that have the line that leaves the L2 for it.
abbrev pub named_for : (fetch write : Bool) → Option HomeLine → Option (ℕ × HomeLine) → List ℕ
named_for fetch write None evicted = holders_of evicted
named_for fetch write (Some row) evicted = if not fetch && (write || row.alone) then row.sharers else []

abbrev pub named_by : HomeState → Request → List ℕ
named_by home request = named_for (is_fetch request) (is_write request) (row_at home (line_of request)) (evicted_by home (line_of request))

-- ---- a line

-- the L1s that a read or a write of a line touches
abbrev pub touched_for : Bank → (core line : ℕ) → (write : Bool) → List ℕ
touched_for p core line write =
    core ∷ others_asked (line_met p core line write) false write core (row_of p.home line) (evicted_by p.home line)

-- those that a fetch touches, where the instruction cache does not have the line
abbrev pub touched_to_fetch : Bank → (core line : ℕ) → List ℕ
touched_to_fetch p core line = core ∷ (if is_some (row_at p.home line) then [] else holders_of (evicted_by p.home line))

abbrev pub HasTouchedFor : Bank → (core line : ℕ) → (write : Bool) → Type 0
HasTouchedFor q core line write = (p : Bank) × AreParts p × AsksFor p core line × AreLike (touched_for p core line write) p q

abbrev pub HasTouchedToFetch : Bank → (core line : ℕ) → Type 0
HasTouchedToFetch q core line = (p : Bank) × AreParts p × AsksFor p core line × AreLike (touched_to_fetch p core line) p q

-- ---- laws

-- The access does the same to both, and leaves the L1s as they are that it does not touch. The second bank's parts need not
-- fit together.
abbrev pub OnlyTouchedCount : Type 0
OnlyTouchedCount = (p q : Bank) (core : ℕ) (request : Request) → AreParts p → IsAsked p core request → IsLike p q core request
    → (touched_by q core request ≡ touched_by p core request)
    × (bank_reply q core request ≡ bank_reply p core request)
    × (met_at_bank q core request ≡ met_at_bank p core request)
    × ((bank_after q core request).home ≡ (bank_after p core request).home)
    × (length (bank_after q core request).l1s ≡ length q.l1s)
    × ((c : ℕ) → IsTrue (is_member nat_eq (touched_by p core request) c) → l1_of (bank_after q core request) c ≡ l1_of (bank_after p core request) c)
    × ((c : ℕ) → is_member nat_eq (touched_by p core request) c ≡ false → l1_of (bank_after q core request) c ≡ l1_of q c)

-- The L1s that an access touches are those of cores of the machine.
abbrev pub TouchedAreKnown : Type 0
TouchedAreKnown = (p : Bank) (core : ℕ) (request : Request) → AreParts p → IsAsked p core request
    → (c : ℕ) → IsTrue (is_member nat_eq (touched_by p core request) c) → c < length p.l1s

-- Who could ask can ask again: an access leaves that as it is, at its own bank and at all others.
abbrev pub AskedStays : Type 0
AskedStays = (w : PartsState) (core stamp : ℕ) (request : Request) → AreAllParts w → IsAsked (bank_at w (bank_of (length w.homes) request)) core request
    → let after = parts_after w core stamp request in
    (k : ℕ) (other : Request) → IsAsked (bank_at w (bank_of (length w.homes) other)) k other → IsAsked (bank_at after (bank_of (length after.homes) other)) k other
