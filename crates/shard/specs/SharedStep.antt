-- What an access does to the home of its line and to the L1s of the cores. An access that the core's own L1 serves alone
-- changes that L1 and nothing else. Every other access is shared: the home says which other L1s have to change.
use Rattle.std.specs.Prelude.{ℕ, Bool, true, false, not, ◌&&◌, ◌||◌, if◌then◌else◌, List, [], ◌∷◌, ◌++◌, slice_index_or, slice_set, Option, Some, None, is_some}
use Rattle.std.specs.List.{list_any}
use Rattle.std.specs.Option.{option_map_or}
use Rattle.zs_num.specs.Request.{addr_of, is_fetch, line_of}
use Rattle.zs_num.specs.declared.entry.Outcome.{Outcome}
use Rattle.zs_num.specs.declared.entry.Outcome.TheVariants.{Hit, Upgrade, L2, Miss}
use Rattle.zs_num.specs.declared.request.Request.{Request}
use Rattle.cache_set.specs.declared.letter.Letter.{Letter}
use Rattle.cache_set.specs.declared.letter.Letter.TheVariants.{M, E, S, I}
use Rattle.cache_set.specs.Ways.{changed, victim_of}
use Rattle.shard.specs.Coherence.{fetch_outcome_by, is_alone, is_modified, is_write, outcome_by, own_after}
use Rattle.home.specs.HomeState.{HomeLine, HomeState, brought_in, bytes_at, dropped_in, evicted_by, fetched_in, granted_in, owned_in, is_marked_by_others, looked_up_in, marked_dirty_in, row_at, row_of, unfetched_in, with_bytes_at}
use Rattle.mesi_dir.specs.CoreSets.{without_core}
use Rattle.l1_cache.specs.L1State.{Copy, L1State, copy_at, filled_in, given_up_in, has_instructions, in_copies_of, instruction_filled_in, instruction_given_up_in, instructions_at, is_private, kept_first_in, letter_of, newer_bytes, no_l1, place_in_line, private_after, private_reply, shared_in, victim_in}
use Rattle.shard.specs.Marks.{bytes_after, marks_after, reply_from}

-- the home of a bank's lines, and the L1s of all cores, in order of their numbers
pub record Bank : Type 0 where
  pub home : HomeState
  pub l1s : List L1State

abbrev pub l1_of : Bank → (core : ℕ) → L1State
l1_of p core = slice_index_or p.l1s core no_l1

abbrev pub with_l1 : (core : ℕ) → (L1State → L1State) → Bank → Bank
with_l1 core change p = record p { l1s = slice_set p.l1s core (change (l1_of p core)) }

abbrev pub with_home : (HomeState → HomeState) → Bank → Bank
with_home change p = record p { home = change p.home }

abbrev pub copy_of : Bank → (core line : ℕ) → Option Copy
copy_of p core line = copy_at (l1_of p core) line

abbrev pub own_letter : Bank → (core line : ℕ) → Letter
own_letter p core line = letter_of (copy_of p core line)

-- ---- how an access is met

abbrev pub is_some_core : List ℕ → Bool
is_some_core [] = false
is_some_core (core ∷ cores) = true

-- one of the cores has the line modified
abbrev pub is_modified_by : Bank → (line : ℕ) → List ℕ → Bool
is_modified_by p line cores = list_any (λ core. is_modified (own_letter p core line)) cores

abbrev pub is_dirty_here : Bank → Option (ℕ × HomeLine) → Bool
is_dirty_here p None = false
is_dirty_here p (Some evicted) = evicted.1.dirty || is_modified_by p evicted.0 evicted.1.sharers

abbrev pub others_of : (core : ℕ) → HomeLine → List ℕ
others_of core row = without_core core row.sharers

unfoldable pub met_at_bank : Bank → (core : ℕ) → Request → Outcome
met_at_bank p core request = let line = line_of request in let has = is_some_core (others_of core (row_of p.home line)) in
    if is_fetch request
    then fetch_outcome_by (has_instructions (l1_of p core) line) (is_some (row_at p.home line)) (is_dirty_here p (evicted_by p.home line))
    else outcome_by (is_write request) (own_letter p core line) (is_some (row_at p.home line)) ((row_of p.home line).alone && has) has (is_dirty_here p (evicted_by p.home line))

-- ---- what other L1s do

-- what a core wrote to a line goes home
abbrev pub collected : (line core : ℕ) → Bank → Bank
collected line core p = with_home (with_bytes_at line (newer_bytes (copy_of p core line) (bytes_at p.home line))) p

-- these cores give a line up
abbrev pub given_up_by : (line : ℕ) → (cores : List ℕ) → Bank → Bank
given_up_by line [] p = p
given_up_by line (core ∷ cores) p = given_up_by line cores (with_l1 core (given_up_in line) (collected line core p))

-- these cores share a line
abbrev pub shared_by : (line : ℕ) → (cores : List ℕ) → Bank → Bank
shared_by line [] p = p
shared_by line (core ∷ cores) p = shared_by line cores (with_l1 core (shared_in line) (collected line core p))

-- the instruction caches of these cores give a line up
abbrev pub instructions_given_up_by : (line : ℕ) → (cores : List ℕ) → Bank → Bank
instructions_given_up_by line [] p = p
instructions_given_up_by line (core ∷ cores) p = instructions_given_up_by line cores (with_l1 core (instruction_given_up_in line) p)

-- a line that is evicted from the L2 leaves every L1
abbrev pub evicted_everywhere : Option (ℕ × HomeLine) → Bank → Bank
evicted_everywhere None p = p
evicted_everywhere (Some evicted) p =
    instructions_given_up_by evicted.0 evicted.1.fetchers (given_up_by evicted.0 evicted.1.sharers p)

-- a line comes into the L2 from memory
unfoldable pub brought_home : (line : ℕ) → Bank → Bank
brought_home line p = with_home (brought_in line) (evicted_everywhere (evicted_by p.home line) p)

-- a line that one of these cores has modified is dirty in the L2
abbrev pub dirty_by : (line : ℕ) → (cores : List ℕ) → Bank → Bank
dirty_by line cores p = if is_modified_by p line cores then with_home (marked_dirty_in line) p else p

-- the L2 has a line that a core writes: the others give it up
unfoldable pub left_by_others : (core line : ℕ) → HomeLine → Bank → Bank
left_by_others core line row p = given_up_by line (others_of core row) (dirty_by line (others_of core row) p)

-- the L2 has a line that a core reads and does not have: the core that has it alone shares it
unfoldable pub shared_by_others : (line : ℕ) → HomeLine → Bank → Bank
shared_by_others line row p = if row.alone then shared_by line row.sharers (dirty_by line row.sharers p) else p

-- ---- what the core's own L1 does

-- a line that it has is used, with this letter
abbrev pub kept_with : Letter → (core line : ℕ) → Bank → Bank
kept_with letter core line p =
    option_map_or (λ copy. with_l1 core (kept_first_in line (record copy { letter = letter })) p) (copy_of p core line) p

-- the line that it evicts for another goes home
abbrev pub own_evicted : Option (ℕ × Copy) → (core : ℕ) → Bank → Bank
own_evicted None core p = p
own_evicted (Some evicted) core p =
    with_home (dropped_in evicted.0 core)
    (if is_modified evicted.1.letter then with_home (marked_dirty_in evicted.0) (collected evicted.0 core p) else p)

abbrev pub filled_from_home : Letter → (core line : ℕ) → Bank → Bank
filled_from_home letter core line p =
    with_l1 core (filled_in line (record { letter = letter; free = false; bytes = bytes_at p.home line })) p

-- a line comes into it from its home
unfoldable pub brought_to_own : Letter → (core line : ℕ) → Bank → Bank
brought_to_own letter core line p = filled_from_home letter core line (own_evicted (victim_in (l1_of p core) line) core p)

-- ---- a read or a write

-- the L2 has the line, and the core does not
abbrev pub ready_from_l2 : (write : Bool) → (core line : ℕ) → HomeLine → Bank → Bank
ready_from_l2 true core line row p =
    with_home (owned_in line core) (brought_to_own M core line (left_by_others core line row (with_home (looked_up_in line) p)))
ready_from_l2 false core line row p =
    with_home (granted_in line core (not (is_some_core row.sharers)))
    (brought_to_own (own_after false I (is_some_core row.sharers)) core line (shared_by_others line row (with_home (looked_up_in line) p)))

abbrev pub ready_from_home : (write : Bool) → (core line : ℕ) → Option HomeLine → Bank → Bank
ready_from_home write core line None p = with_home (owned_in line core) (brought_to_own (own_after write I false) core line (brought_home line p))
ready_from_home write core line (Some row) p = ready_from_l2 write core line row p

abbrev pub ready_where_shared : (write : Bool) → (core line : ℕ) → Bank → Bank
ready_where_shared false core line p = kept_with S core line p
ready_where_shared true core line p =
    with_home (owned_in line core) (kept_with M core line (left_by_others core line (row_of p.home line) (with_home (looked_up_in line) p)))

-- The line stands first in its set of the core's L1, with the letter that the access leaves.
abbrev pub ready_by : Letter → (write : Bool) → (core line : ℕ) → Bank → Bank
ready_by M write core line p = kept_with M core line p
ready_by E write core line p = kept_with (own_after write E false) core line p
ready_by S write core line p = ready_where_shared write core line p
ready_by I write core line p = ready_from_home write core line (row_at p.home line) p

unfoldable pub ready : Bank → (core : ℕ) → Request → Bank
ready p core request = ready_by (own_letter p core (line_of request)) (is_write request) core (line_of request) p

abbrev pub bytes_of : Option Copy → List ℕ
bytes_of None = []
bytes_of (Some copy) = copy.bytes

-- the bytes and the marks after the access, and whether the line is free to write from then on
abbrev pub answered_with : (core line : ℕ) → Request → Copy → Bank → Bank
answered_with core line request copy p = let marks = marks_after p.home.marks core request in
    with_home (λ home. record home { marks = marks })
    (with_l1 core (in_copies_of line (changed line (record copy {
      free = is_alone copy.letter && not (is_marked_by_others marks core line);
      bytes = bytes_after copy.bytes (place_in_line (addr_of request)) p.home.marks core request;
    }))) p)

abbrev pub answered : (core : ℕ) → Request → Bank → Bank
answered core request p = option_map_or (λ copy. answered_with core (line_of request) request copy p) (copy_of p core (line_of request)) p

-- ---- a fetch

abbrev pub own_instruction_evicted : Option (ℕ × Unit {0}) → (core : ℕ) → Bank → Bank
own_instruction_evicted None core p = p
own_instruction_evicted (Some evicted) core p = with_home (unfetched_in evicted.0 core) p

abbrev pub instruction_brought : (core line : ℕ) → Bank → Bank
instruction_brought core line p = let l1 = l1_of p core in
    with_home (fetched_in line core)
    (with_l1 core (instruction_filled_in line) (own_instruction_evicted (victim_of l1.l1i_ways (instructions_at l1 line)) core p))

abbrev pub fetched_from : (core line : ℕ) → Option HomeLine → Bank → Bank
fetched_from core line None p = instruction_brought core line (brought_home line p)
fetched_from core line (Some row) p = instruction_brought core line (with_home (looked_up_in line) p)

-- ---- an access

unfoldable pub shared_after : Bank → (core : ℕ) → Request → Bank
shared_after p core request =
    if is_fetch request then fetched_from core (line_of request) (row_at p.home (line_of request)) p else answered core request (ready p core request)

unfoldable pub shared_reply : Bank → (core : ℕ) → Request → ℕ
shared_reply p core request =
    if is_fetch request then 0
    else reply_from (bytes_of (copy_of (ready p core request) core (line_of request))) (place_in_line (addr_of request)) p.home.marks core request

-- the home and the L1s after an access of a core
unfoldable pub bank_after : Bank → (core : ℕ) → Request → Bank
bank_after p core request =
    if is_private (l1_of p core) request then with_l1 core (λ l1. private_after l1 request) p else shared_after p core request

-- what it is answered
unfoldable pub bank_reply : Bank → (core : ℕ) → Request → ℕ
bank_reply p core request = if is_private (l1_of p core) request then private_reply (l1_of p core) request else shared_reply p core request

-- The other L1s that a shared access changes: those that have the line, where they have to change, and those that have the
-- line that the L2 evicts for it.
abbrev pub sharers_asked : (fetch write : Bool) → (core : ℕ) → HomeLine → List ℕ
sharers_asked true write core row = []
sharers_asked false true core row = others_of core row
sharers_asked false false core row = if row.alone then others_of core row else []

abbrev pub holders_of : Option (ℕ × HomeLine) → List ℕ
holders_of None = []
holders_of (Some evicted) = evicted.1.sharers ++ evicted.1.fetchers

abbrev pub others_asked : Outcome → (fetch write : Bool) → (core : ℕ) → HomeLine → Option (ℕ × HomeLine) → List ℕ
others_asked Hit fetch write core row evicted = []
others_asked (Upgrade others) fetch write core row evicted = sharers_asked fetch write core row
others_asked (L2 others) fetch write core row evicted = sharers_asked fetch write core row
others_asked (Miss dirty) fetch write core row evicted = holders_of evicted

-- all L1s that an access touches: the core's own, and these
unfoldable pub touched_by : Bank → (core : ℕ) → Request → List ℕ
touched_by p core request = core ∷ (if is_private (l1_of p core) request then []
    else others_asked (met_at_bank p core request) (is_fetch request) (is_write request) core (row_of p.home (line_of request)) (evicted_by p.home (line_of request)))
