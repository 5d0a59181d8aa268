-- What there is of each core's copy of each line, for data and for instructions, and of which class an access is that finds
-- none.
use Rattle.std.specs.Prelude.{ℕ, ◌==◌, Bool, true, false, ◌&&◌, not, if◌then◌else◌, Option, Some, None, count_by}
use Rattle.std.specs.List.{range_with_len}
use Rattle.zs_num.specs.declared.entry.Entry.{Entry}
use Rattle.zs_num.specs.declared.entry.Outcome.{Outcome}
use Rattle.zs_num.specs.declared.entry.Outcome.TheVariants.{Hit, Upgrade, L2, Miss}
use Rattle.zs_num.specs.Request.{is_fetch, line_of}
use Rattle.zs_num.specs.declared.request.Request.{Request}
use Rattle.zs_num.specs.declared.request.Request.TheVariants.{Load, Store, Lr, Sc, Amo, Fetch}
use Rattle.shard.specs.declared.leaving.Leaving.{Leaving}
use Rattle.profile.specs.declared.copies.Leave.{Leave}
use Rattle.profile.specs.declared.copies.Leave.TheVariants.{Coherence, Inclusion, Eviction}
use Rattle.profile.specs.declared.copies.CopyState.{CopyState}
use Rattle.profile.specs.declared.copies.CopyState.TheVariants.{Never, Held, Gone}

-- a copy that is there leaves, and one that is not stays as it was
abbrev pub left : Leave → CopyState → CopyState
left why Never = Never
left why Held = Gone why
left why (Gone earlier) = Gone earlier

abbrev pub is_held : CopyState → Bool
is_held Never = false
is_held Held = true
is_held (Gone why) = false

-- what there is of each copy, of instructions or of data, by core and line
abbrev pub Copies : Type 0
Copies = (fetching : Bool) (core line : ℕ) → CopyState

abbrev pub no_copies : Copies
no_copies = λ fetching core line. Never

abbrev pub is_this : Option ℕ → (line : ℕ) → Bool
is_this None line = false
is_this (Some other) line = other == line

-- other cores' copies of the line were changed for an access that was met so
abbrev pub changes_others : Outcome → Bool
changes_others Hit = false
changes_others (Upgrade others) = others
changes_others (L2 others) = others
changes_others (Miss dirty) = false

-- it has to be alone with the line
abbrev pub writes : Request → Bool
writes (Load width addr) = false
writes (Store width addr value) = true
writes (Lr width addr) = false
writes (Sc width paired addr value) = true
writes (Amo width op addr value) = true
writes (Fetch addr) = false

-- it reads data
abbrev pub reads : Request → Bool
reads (Load width addr) = true
reads (Store width addr value) = false
reads (Lr width addr) = true
reads (Sc width paired addr value) = false
reads (Amo width op addr value) = false
reads (Fetch addr) = false

abbrev pub invalidates : Entry → Bool
invalidates e = writes e.request && changes_others e.outcome

abbrev pub downgrades : Entry → Bool
downgrades e = reads e.request && changes_others e.outcome

-- a test of whether both are so or neither
abbrev pub same : Bool → Bool → Bool
same true b = b
same false b = not b

-- the copy is one of the cache to which the access goes
abbrev pub is_of : (fetches : Bool) (by : ℕ) → (fetching : Bool) (core : ℕ) → Bool
is_of fetches by fetching core = same fetching fetches && by == core

-- or that of another core, and of data
abbrev pub is_others : (by : ℕ) → (fetching : Bool) (core : ℕ) → Bool
is_others by fetching core = not fetching && not (by == core)

-- ---- one copy after an access

-- its line left the L2
abbrev pub left_l2 : (shared : Option ℕ) → (line : ℕ) → CopyState → CopyState
left_l2 shared line copy = if is_this shared line then left Inclusion copy else copy

-- or made room in the cache to which the access goes
abbrev pub made_room : (own room : Bool) → CopyState → CopyState
made_room own room copy = if own && room then left Eviction copy else copy

-- the access took its line away from others
abbrev pub when_taken : (writes others used : Bool) → CopyState → CopyState
when_taken writes others used copy = if writes && (others && used) then left Coherence copy else copy

-- and has it now
abbrev pub when_used : (own used : Bool) → CopyState → CopyState
when_used own used copy = if own && used then Held else copy

abbrev pub copy_after : Entry → Leaving → (fetching : Bool) (core line : ℕ) → CopyState → CopyState
copy_after e leaving fetching core line copy =
    let own = is_of (is_fetch e.request) e.core fetching core in
    let used = line_of e.request == line in
    when_used own used
    (when_taken (invalidates e) (is_others e.core fetching core) used
    (made_room own (is_this leaving.own line)
    (left_l2 leaving.shared line copy)))

abbrev pub copies_after : Entry → Leaving → Copies → Copies
copies_after e leaving copies = λ fetching core line. copy_after e leaving fetching core line (copies fetching core line)

-- ---- what an access met

-- it found no copy in the core's own cache
abbrev pub finds_none : Outcome → Bool
finds_none Hit = false
finds_none (Upgrade others) = false
finds_none (L2 others) = true
finds_none (Miss dirty) = true

-- what there was of the own copy before it
abbrev pub own_copy : Copies → Entry → CopyState
own_copy copies e = copies (is_fetch e.request) e.core (line_of e.request)

abbrev pub is_cold : CopyState → Bool
is_cold Never = true
is_cold Held = false
is_cold (Gone why) = false

abbrev pub is_same_leave : Leave → Leave → Bool
is_same_leave Coherence Coherence = true
is_same_leave Coherence Inclusion = false
is_same_leave Coherence Eviction = false
is_same_leave Inclusion Coherence = false
is_same_leave Inclusion Inclusion = true
is_same_leave Inclusion Eviction = false
is_same_leave Eviction Coherence = false
is_same_leave Eviction Inclusion = false
is_same_leave Eviction Eviction = true

abbrev pub is_gone_by : Leave → CopyState → Bool
is_gone_by why Never = false
is_gone_by why Held = false
is_gone_by why (Gone last) = is_same_leave last why

-- whether a core other than this one has a copy of a line for data
abbrev pub has_other : Copies → (core line : ℕ) → (other : ℕ) → Bool
has_other copies core line other = not (core == other) && is_held (copies false other line)

-- how many other cores' copies an access takes away, of so many cores
abbrev pub taken_away : (cores : ℕ) → Copies → Entry → ℕ
taken_away cores copies e =
    if invalidates e then count_by (has_other copies e.core (line_of e.request)) (range_with_len 0 cores) else 0
