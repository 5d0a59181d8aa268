-- The L1 of one core: its data cache, with the bytes of the lines, and its instruction cache.
use Rattle.std.specs.Prelude.{◌≡◌, ℕ, ◌%◌, Bool, false, if◌then◌else◌, List, [], ◌∷◌, length, replicate, Option, Some, None, is_some, unwrap_or, IsSome}
use Rattle.std.specs.Option.{option_map_or}
use Rattle.zs_num.specs.Request.{line_at, line_bytes}
use Rattle.zs_num.specs.declared.request.Request.{Request}
use Rattle.zs_num.specs.declared.request.Request.TheVariants.{Load, Store, Lr, Sc, Amo, Fetch}
use Rattle.cache_set.specs.declared.letter.Letter.{Letter}
use Rattle.cache_set.specs.declared.letter.Letter.TheVariants.{M, S, I}
pub use Rattle.cache_set.specs.LetterFacts.{is_modified}
use Rattle.cache_set.specs.Ways.{kept_of, without, used, filled, changed, victim_of}
use Rattle.flat_memory.specs.FlatMemory.{number_in, with_number}
use Rattle.cache_set.specs.Lines.{set_of, in_set_of}

-- what an L1 keeps of a line
pub record Copy : Type 0 where
  pub letter : Letter
  -- Free to write: no other core's mark stands on the line, and no other core has it.
  pub free : Bool
  -- its bytes: with the letter M they are newer than those at home
  pub bytes : List ℕ

-- All of a core's L1, or what it has of the lines of one shard.
pub record L1State : Type 0 where
  -- 1, or how many shards there are: so many lines are passed over from one set to the next
  pub shards : ℕ
  -- how many lines a set holds at most
  pub ways : ℕ
  pub l1i_ways : ℕ
  -- by set, the lines, the most recently used first
  pub sets : List (List (ℕ × Copy))
  -- the same of the instruction cache; a core without one has no set of it
  pub l1i : List (List (ℕ × Unit {0}))

abbrev pub no_l1 : L1State
no_l1 = record { shards = 1; ways = 0; l1i_ways = 0; sets = []; l1i = [] }

-- an L1 without a line; of the instruction cache, if there is one, the number of sets and of ways
abbrev pub new_l1 : (shards sets ways : ℕ) → (l1i : Option (ℕ × ℕ)) → L1State
new_l1 shards sets ways l1i = record {
  shards = shards;
  ways = ways;
  l1i_ways = (unwrap_or l1i (0, 0)).1;
  sets = replicate sets [];
  l1i = replicate (unwrap_or l1i (0, 0)).0 [];
}

-- ---- what it has

abbrev pub copies_at : L1State → (line : ℕ) → List (ℕ × Copy)
copies_at l1 line = set_of l1.shards line l1.sets

abbrev pub instructions_at : L1State → (line : ℕ) → List (ℕ × Unit {0})
instructions_at l1 line = set_of l1.shards line l1.l1i

unfoldable pub copy_at : L1State → (line : ℕ) → Option Copy
copy_at l1 line = kept_of line (copies_at l1 line)

abbrev pub letter_of : Option Copy → Letter
letter_of None = I
letter_of (Some copy) = copy.letter

-- these are the bytes of the copy
abbrev pub AreBytesOf : Option Copy → List ℕ → Type 0
AreBytesOf None bytes = ⊥
AreBytesOf (Some copy) bytes = (bytes ≡ copy.bytes) × (length bytes ≡ line_bytes)

-- the bytes of a line where its home has these
abbrev pub newer_bytes : Option Copy → (at_home : List ℕ) → List ℕ
newer_bytes None at_home = at_home
newer_bytes (Some copy) at_home = if is_modified copy.letter then copy.bytes else at_home

unfoldable pub has_instructions : L1State → (line : ℕ) → Bool
has_instructions l1 line = is_some (kept_of line (instructions_at l1 line))

-- ---- the steps

-- after a change of a line's set
abbrev pub in_copies_of : (line : ℕ) → (List (ℕ × Copy) → List (ℕ × Copy)) → L1State → L1State
in_copies_of line change l1 = record l1 { sets = in_set_of l1.shards line change l1.sets }

abbrev pub in_instructions_of : (line : ℕ) → (List (ℕ × Unit {0}) → List (ℕ × Unit {0})) → L1State → L1State
in_instructions_of line change l1 = record l1 { l1i = in_set_of l1.shards line change l1.l1i }

-- a line that is there is used
unfoldable pub used_in : (line : ℕ) → L1State → L1State
used_in line l1 = in_copies_of line (used line) l1

-- a line that is there is used, and another copy is kept of it
unfoldable pub kept_first_in : (line : ℕ) → Copy → L1State → L1State
kept_first_in line copy l1 = in_copies_of line (λ copies. (line, copy) ∷ without line copies) l1

-- a line that is not there comes in, and the last one of a full set is evicted
unfoldable pub filled_in : (line : ℕ) → Copy → L1State → L1State
filled_in line copy l1 = in_copies_of line (filled l1.ways line copy) l1

-- a line leaves, if it is there
unfoldable pub given_up_in : (line : ℕ) → L1State → L1State
given_up_in line l1 = in_copies_of line (without line) l1

-- a line that is there is shared, in its place
abbrev pub as_shared : Copy → Copy
as_shared copy = record copy { letter = S; free = false }

abbrev pub shared_among : (line : ℕ) → List (ℕ × Copy) → List (ℕ × Copy)
shared_among line copies = option_map_or (λ copy. changed line (as_shared copy) copies) (kept_of line copies) copies

unfoldable pub shared_in : (line : ℕ) → L1State → L1State
shared_in line l1 = in_copies_of line (shared_among line) l1

-- a line that is there is used, with this letter
unfoldable pub kept_with_in : (line : ℕ) → Letter → L1State → L1State
kept_with_in line letter l1 = option_map_or (λ copy. kept_first_in line (record copy { letter = letter }) l1) (copy_at l1 line) l1

-- an access leaves these bytes of a line that is there, in its place
abbrev pub answered_among : (line : ℕ) → (bytes : List ℕ) → (free : Bool) → List (ℕ × Copy) → List (ℕ × Copy)
answered_among line bytes free copies = option_map_or (λ copy. changed line (record copy { free = free; bytes = bytes }) copies) (kept_of line copies) copies

unfoldable pub answered_in : (line : ℕ) → (bytes : List ℕ) → (free : Bool) → L1State → L1State
answered_in line bytes free l1 = in_copies_of line (answered_among line bytes free) l1

-- an access leaves a line that is there with its own bytes, free to write or not
unfoldable pub set_free_in : (line : ℕ) → (free : Bool) → L1State → L1State
set_free_in line free l1 = option_map_or (λ copy. answered_in line copy.bytes free l1) (copy_at l1 line) l1

-- the line that is evicted for this one
abbrev pub victim_in : L1State → (line : ℕ) → Option (ℕ × Copy)
victim_in l1 line = victim_of l1.ways (copies_at l1 line)

-- A line that was not there came in, not free to write, and its bytes come later: given some, it is as if it had come in
-- with them. Until then the bytes of the line that was evicted for it, if one was, stand for its own.
pub record HasEntered (was : L1State) (line : ℕ) (letter : Letter) (now : L1State) : Type 0 where
  pub there : IsSome (copy_at now line)
  pub left : (victim : ℕ × Copy) → victim_in was line ≡ Some victim → (copy : Copy) → copy_at now line ≡ Some copy → copy.bytes ≡ victim.1.bytes
  pub given : (bytes : List ℕ) → answered_in line bytes false now ≡ filled_in line (record { letter = letter; free = false; bytes = bytes }) was

abbrev pub instruction_victim_in : L1State → (line : ℕ) → Option (ℕ × Unit {0})
instruction_victim_in l1 line = victim_of l1.l1i_ways (instructions_at l1 line)

unfoldable pub instruction_used_in : (line : ℕ) → L1State → L1State
instruction_used_in line l1 = in_instructions_of line (used line) l1

unfoldable pub instruction_filled_in : (line : ℕ) → L1State → L1State
instruction_filled_in line l1 = in_instructions_of line (filled l1.l1i_ways line tt) l1

unfoldable pub instruction_given_up_in : (line : ℕ) → L1State → L1State
instruction_given_up_in line l1 = in_instructions_of line (without line) l1

-- ---- accesses that the L1 serves alone

-- where a byte stands in its line
abbrev pub place_in_line : (addr : ℕ) → ℕ
place_in_line addr = addr % line_bytes

abbrev pub may_write : Option Copy → Bool
may_write None = false
may_write (Some copy) = copy.free

-- a load of a line that is there, a store to one that is free to write, and a fetch of a line of the instruction cache
unfoldable pub is_private : L1State → Request → Bool
is_private l1 (Load width addr) = is_some (copy_at l1 (line_at addr))
is_private l1 (Store width addr value) = may_write (copy_at l1 (line_at addr))
is_private l1 (Lr width addr) = false
is_private l1 (Sc width paired addr value) = false
is_private l1 (Amo width op addr value) = false
is_private l1 (Fetch addr) = has_instructions l1 (line_at addr)

abbrev pub number_of : Option Copy → (place width : ℕ) → ℕ
number_of None place width = 0
number_of (Some copy) place width = number_in copy.bytes place width

unfoldable pub private_reply : L1State → Request → ℕ
private_reply l1 (Load width addr) = number_of (copy_at l1 (line_at addr)) (place_in_line addr) width
private_reply l1 (Store width addr value) = 0
private_reply l1 (Lr width addr) = 0
private_reply l1 (Sc width paired addr value) = 0
private_reply l1 (Amo width op addr value) = 0
private_reply l1 (Fetch addr) = 0

-- a store that was served elsewhere writes to a line that is there, free to write from then on or not
unfoldable pub written_in : (addr width value : ℕ) → (free : Bool) → L1State → L1State
written_in addr width value free l1 =
    option_map_or (λ copy. answered_in (line_at addr) (with_number copy.bytes (place_in_line addr) width value) free l1) (copy_at l1 (line_at addr)) l1

-- a copy after a store
abbrev pub stored : (place width value : ℕ) → Copy → Copy
stored place width value copy = record copy { letter = M; bytes = with_number copy.bytes place width value }

unfoldable pub private_after : L1State → Request → L1State
private_after l1 (Load width addr) = used_in (line_at addr) l1
private_after l1 (Store width addr value) =
    option_map_or (λ copy. kept_first_in (line_at addr) (stored (place_in_line addr) width value copy) l1) (copy_at l1 (line_at addr)) l1
private_after l1 (Lr width addr) = l1
private_after l1 (Sc width paired addr value) = l1
private_after l1 (Amo width op addr value) = l1
private_after l1 (Fetch addr) = instruction_used_in (line_at addr) l1
