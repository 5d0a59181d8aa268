-- Homes and L1s that stand for shards, and the laws of what accesses do to them.
use Rattle.std.specs.Prelude.{◌≡◌, ◌≢◌, ℕ, ◌+◌, ◌*◌, ◌/◌, ◌%◌, ◌^◌, ◌<◌, ◌≤◌, ◌⊎◌, true, false, IsSome, IsTrue, List, [], ◌∷◌, length, nat_eq, slice_get, slice_index_or, Some}
use Rattle.std.specs.Set.{is_member}
use Rattle.zs_num.specs.Request.{bank_of, bank_of_line, line_bytes, line_of}
use Rattle.zs_num.specs.Servable.{IsServable}
use Rattle.zs_num.specs.declared.entry.Entry.{Entry}
use Rattle.zs_num.specs.declared.entry.Outcome.TheVariants.{Hit}
use Rattle.zs_num.specs.declared.request.Request.{Request}
use Rattle.shard.specs.Coherence.{is_alone, is_modified, is_valid, some_core}
use Rattle.shard.specs.HaveL1i.{have_l1i}
use Rattle.home.specs.HomeState.{HomeState, bytes_at, is_marked_by_others, line_place, row_at, row_of}
use Rattle.l1_cache.specs.L1State.{Copy, L1State, has_instructions, is_private, private_after, private_reply}
use Rattle.shard.specs.Seen.{PartsState, bank_at, caches_seen, parts_after, parts_met, parts_reply, shard_seen, shards_seen}
use Rattle.home.specs.FirstBytes.{lines_below, lines_kept}
use Rattle.shard.specs.Served.{met_by, shard_after, shard_reply}
use Rattle.shard.specs.SharedStep.{Bank, bank_after, bank_reply, copy_of, l1_of, met_at_bank, own_letter, touched_by, with_l1}
use Rattle.shard.specs.StandsFor.{AreAnswered, AreCoherent, HaveRoomForLines}

-- the bank's own line
abbrev pub IsOwn : Bank → (line : ℕ) → Type 0
IsOwn p line = bank_of_line p.home.shards line ≡ p.home.number

-- memory has the line: its bytes stand at its place
abbrev pub IsInMemory : HomeState → (line : ℕ) → Type 0
IsInMemory home line = (lines_below home.shards home.base ≤ line / home.shards) × (line_place home line + line_bytes ≤ length home.bytes)

-- each L1 is whole: it has the sets of all banks
abbrev pub AreWhole : List L1State → Type 0
AreWhole l1s = (core : ℕ) (l1 : L1State) → slice_get l1s core ≡ Some l1 → l1.shards ≡ 1

-- what all L1s of a machine have in common
pub record AreAlike (home : HomeState) (l1s : List L1State) : Type 0 where
  pub shards : (core : ℕ) (l1 : L1State) → slice_get l1s core ≡ Some l1 → (l1.shards ≡ 1) ⊎ (l1.shards ≡ home.shards)
  pub ways : (core : ℕ) (l1 : L1State) → slice_get l1s core ≡ Some l1 → (l1.ways ≡ (slice_index_or l1s 0 l1).ways) × (l1.l1i_ways ≡ (slice_index_or l1s 0 l1).l1i_ways)
  -- as many sets in each bank
  pub sets : (core : ℕ) (l1 : L1State) → slice_get l1s core ≡ Some l1 → (length l1.sets * l1.shards) % home.shards ≡ 0
  pub l1i_sets : (core : ℕ) (l1 : L1State) → slice_get l1s core ≡ Some l1 → (length l1.l1i * l1.shards) % home.shards ≡ 0
  -- each has an instruction cache, or none has
  pub fetchers : (core : ℕ) (l1 : L1State) → slice_get l1s core ≡ Some l1 → length l1.l1i ≡ length (slice_index_or l1s 0 l1).l1i

-- A home and L1s that fit together, as far as the home's lines go.
pub record AreParts (p : Bank) : Type 0 where
  pub some : (0 < p.home.shards) × (p.home.number < p.home.shards) × (0 < p.home.size) × (p.home.base + p.home.size ≤ 2 ^ 48)
  pub cores : (0 < length p.l1s) × (length p.l1s ≤ 256) × (length p.home.marks ≡ length p.l1s)
  pub alike : AreAlike p.home p.l1s
  pub bytes : length p.home.bytes ≡ line_bytes * lines_kept p.home.shards p.home.base p.home.size
  pub coherent : AreCoherent (caches_seen p)
  pub room : HaveRoomForLines (caches_seen p)
  -- each line of the L2 is one of the bank's own that memory has, so that no two lines have the same place
  pub lines : (line : ℕ) → IsSome (row_at p.home line) → IsOwn p line × IsInMemory p.home line
  -- the home says who has each line: which L1s, whether one has it alone, and which instruction caches
  pub holds : (core line : ℕ) → IsOwn p line → is_member nat_eq (row_of p.home line).sharers core ≡ is_valid (own_letter p core line)
  pub alone : (line : ℕ) → IsOwn p line → (row_of p.home line).alone ≡ some_core is_alone (caches_seen p) line
  pub fetches : (core line : ℕ) → IsOwn p line → is_member nat_eq (row_of p.home line).fetchers core ≡ has_instructions (l1_of p core) line
  -- a copy is whole, and as at home where it is not modified
  pub whole : (core line : ℕ) (copy : Copy) → IsOwn p line → copy_of p core line ≡ Some copy → length copy.bytes ≡ line_bytes
  pub clean : (core line : ℕ) (copy : Copy) → IsOwn p line → copy_of p core line ≡ Some copy → is_modified copy.letter ≡ false → copy.bytes ≡ bytes_at p.home line
  -- where a line is free to write, no other core has it, and no other core's mark stands on it
  pub free : (core line : ℕ) (copy : Copy) → IsOwn p line → copy_of p core line ≡ Some copy → copy.free ≡ true → IsTrue (is_alone copy.letter) × (is_marked_by_others p.home.marks core line ≡ false)

-- an access that a core can make to a bank's own line
pub record IsAsked (p : Bank) (core : ℕ) (request : Request) : Type 0 where
  pub known : core < length p.l1s
  pub servable : IsServable p.home.base p.home.size (have_l1i (caches_seen p)) request
  pub own : IsOwn p (line_of request)

-- ---- seen as shards

-- the bank of the access does what its shard does
abbrev pub OwnBank : Type 0
OwnBank = (p : Bank) (last : ℕ) (e : Entry) → AreParts p → IsAsked p e.core e.request
    → (bank_reply p e.core e.request ≡ shard_reply (shard_seen p last) e)
    × (met_at_bank p e.core e.request ≡ met_by (shard_seen p last) e)
    × (shard_seen (bank_after p e.core e.request) e.stamp ≡ shard_after (shard_seen p last) e)
    × AreParts (bank_after p e.core e.request)

-- The other banks see nothing of it, where the L1s are whole. (An L1 that has the lines of one shard alone is seen whole
-- by any home.)
abbrev pub OtherBank : Type 0
OtherBank = (p : Bank) (other : HomeState) (last core : ℕ) (request : Request) → AreParts p → AreWhole p.l1s → IsAsked p core request
    → other.shards ≡ p.home.shards → other.number ≢ p.home.number → AreParts (record p { home = other })
    → (shard_seen (record { home = other; l1s = (bank_after p core request).l1s }) last ≡ shard_seen (record p { home = other }) last)
    × AreParts (record { home = other; l1s = (bank_after p core request).l1s })

-- all homes of a machine, in order, with whole L1s
pub record AreAllParts (w : PartsState) : Type 0 where
  pub some : 0 < length w.homes
  pub lasts : length w.lasts ≡ length w.homes
  pub number : (bank : ℕ) (home : HomeState) → slice_get w.homes bank ≡ Some home → (home.number ≡ bank) × (home.shards ≡ length w.homes)
  pub whole : AreWhole w.l1s
  pub parts : (bank : ℕ) → bank < length w.homes → AreParts (bank_at w bank)

-- What homes and L1s answer to accesses one after the other, and what is left.
abbrev pub AnswerInTurn : PartsState → List Entry → (left : PartsState) → Type 0
AnswerInTurn w [] left = left ≡ w
AnswerInTurn w (e ∷ entries) left =
    (e.reply ≡ parts_reply w e.core e.request) × (e.outcome ≡ parts_met w e.core e.request) × AnswerInTurn (parts_after w e.core e.stamp e.request) entries left

-- cores of the machine ask this of its memory
abbrev pub AreAskedOf : PartsState → List Entry → Type 0
AreAskedOf w [] = Unit {0}
AreAskedOf w (e ∷ entries) = IsAsked (bank_at w (bank_of (length w.homes) e.request)) e.core e.request × AreAskedOf w entries

-- a run over homes and L1s, seen bank by bank, is a run of the shards
abbrev pub RunsAreOfShards : Type 0
RunsAreOfShards = (w left : PartsState) (entries : List Entry) → AreAllParts w
    → AreAskedOf w entries → AnswerInTurn w entries left → AreAnswered (shards_seen w) entries (shards_seen left) × AreAllParts left

-- ---- private accesses

-- a private access hits, and changes nothing but its core's L1
abbrev pub PrivateIsOfOneL1 : Type 0
PrivateIsOfOneL1 = (p : Bank) (core : ℕ) (request : Request) → AreParts p → IsAsked p core request → IsTrue (is_private (l1_of p core) request)
    → (met_at_bank p core request ≡ Hit)
    × (bank_after p core request ≡ with_l1 core (λ l1. private_after l1 request) p)
    × (bank_reply p core request ≡ private_reply (l1_of p core) request)

-- An access that does not touch an L1 reads nothing of it, and leaves it as it is: it commutes with whatever else changes it.
abbrev pub UntouchedIsApart : Type 0
UntouchedIsApart = (p : Bank) (core other : ℕ) (request : Request) (change : L1State → L1State) → AreParts p → IsAsked p core request → other < length p.l1s
    → is_member nat_eq (touched_by p core request) other ≡ false
    → (bank_after (with_l1 other change p) core request ≡ with_l1 other change (bank_after p core request))
    × (bank_reply (with_l1 other change p) core request ≡ bank_reply p core request)
    × (met_at_bank (with_l1 other change p) core request ≡ met_at_bank p core request)
