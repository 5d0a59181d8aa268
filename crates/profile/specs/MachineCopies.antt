-- What an access does to copies, by the machine's caches before and behind it.
use Rattle.std.specs.Prelude.{◌≡◌, ℕ, ◌==◌, Bool, true, false, ◌&&◌, ◌||◌, not, if◌then◌else◌, List, [], ◌∷◌, map, None, is_some, count_by}
use Rattle.std.specs.List.{filter, list_any, range_with_len}
use Rattle.zs_num.specs.declared.entry.Entry.{Entry}
use Rattle.zs_num.specs.Request.{is_fetch, line_of}
use Rattle.cache_set.specs.declared.letter.Letter.{Letter}
use Rattle.cache_set.specs.declared.letter.Letter.TheVariants.{M, E, S, I}
use Rattle.shard.specs.Coherence.{Caches, caches_after, dirty_at, fetch_holds, is_alone, is_valid, letter_at}
use Rattle.shard.specs.declared.leaving.Leaving.{Leaving}
use Rattle.stats.specs.Counted.{one_if}
use Rattle.trace.specs.Trace.{Step, Accessed, Ended, Executed}
use Rattle.profile_rows.specs.Tallies.{no_tally}
use Rattle.profile.specs.declared.contribution.Contribution.{Contribution}
use Rattle.profile.specs.declared.copies.CopyState.{CopyState}
use Rattle.profile.specs.declared.copies.CopyState.TheVariants.{Never, Held, Gone}
use Rattle.profile.specs.declared.copies.Leave.{Leave}
use Rattle.profile.specs.declared.copies.Leave.TheVariants.{Coherence, Inclusion, Eviction}
use Rattle.profile.specs.Contributions.{suffering, suffers}
use Rattle.profile.specs.Copies.{Copies, copies_after, downgrades, invalidates, is_held, taken_away}

-- the caches behind an access
abbrev pub behind : Caches → Entry → Caches
behind c e = caches_after c e.core e.request

-- ---- which copies there are

-- a core's cache has a line: for instructions, or for data
abbrev pub has_copy : Caches → (fetching : Bool) (core line : ℕ) → Bool
has_copy c true core line = fetch_holds c core line
has_copy c false core line = is_valid (letter_at c core line)

-- the copies that are held are those of the caches
abbrev pub AreOfCaches : Copies → Caches → Type 0
AreOfCaches copies c = (fetching : Bool) (core line : ℕ) → is_held (copies fetching core line) ≡ has_copy c fetching core line

-- so they are before each access, and behind the last
abbrev pub StayOfCaches : Copies → Caches → List Step → Type 0
StayOfCaches copies c [] = AreOfCaches copies c
StayOfCaches copies c (Executed core pc ∷ steps) = StayOfCaches copies c steps
StayOfCaches copies c (Accessed pc e leaving ∷ steps) = AreOfCaches copies c × StayOfCaches (copies_after e leaving copies) (behind c e) steps
StayOfCaches copies c (Ended interval ∷ steps) = StayOfCaches copies c steps

-- something is so of each access, with the copies and the caches before it
abbrev pub OfEachAccess : (Copies → Caches → Entry → Leaving → Type 0) → Copies → Caches → List Step → Type 0
OfEachAccess Is copies c [] = Unit {0}
OfEachAccess Is copies c (Executed core pc ∷ steps) = OfEachAccess Is copies c steps
OfEachAccess Is copies c (Accessed pc e leaving ∷ steps) = Is copies c e leaving × OfEachAccess Is (copies_after e leaving copies) (behind c e) steps
OfEachAccess Is copies c (Ended interval ∷ steps) = OfEachAccess Is copies c steps

-- ---- other cores' copies

abbrev pub is_shared : Letter → Bool
is_shared M = false
is_shared E = false
is_shared S = true
is_shared I = false

-- another core had the line of an access for data before it, and does not have it behind it
abbrev pub loses : Caches → Entry → (other : ℕ) → Bool
loses c e other =
    not (other == e.core)
    && (is_valid (letter_at c other (line_of e.request)) && not (is_valid (letter_at (behind c e) other (line_of e.request))))

-- another core had it alone before, and shares it behind
abbrev pub is_lowered : Caches → Entry → (other : ℕ) → Bool
is_lowered c e other =
    not (other == e.core)
    && (is_alone (letter_at c other (line_of e.request)) && is_shared (letter_at (behind c e) other (line_of e.request)))

-- what the one or the other adds for that core
abbrev pub suffers_by : Caches → Entry → (other : ℕ) → Contribution
suffers_by c e other = record {
  core = other;
  pc = None;
  line = line_of e.request;
  tally = record no_tally { lost = one_if (loses c e other); lowered = one_if (is_lowered c e other) };
}

-- What an access tells of so many cores is what it did to them: it invalidates where one of the others loses its copy,
-- as many are taken away as lose theirs, it downgrades where one is lowered, and those of which either is so suffer it.
pub record TellsOfOthers (cores : ℕ) (copies : Copies) (c : Caches) (e : Entry) : Type 0 where
  pub invalidating : invalidates e ≡ list_any (loses c e) (range_with_len 0 cores)
  pub invalidated : taken_away cores copies e ≡ count_by (loses c e) (range_with_len 0 cores)
  pub downgrading : downgrades e ≡ list_any (is_lowered c e) (range_with_len 0 cores)
  pub those : suffering cores copies e ≡ filter (λ other. loses c e other || is_lowered c e other) (range_with_len 0 cores)
  pub suffered : map (suffers e) (suffering cores copies e) ≡ map (suffers_by c e) (filter (λ other. loses c e other || is_lowered c e other) (range_with_len 0 cores))

-- ---- why a copy left

-- the access went to the cache of this copy: that of its core, for instructions or for data
abbrev pub goes_to : Entry → (fetching : Bool) (core : ℕ) → Bool
goes_to e true core = is_fetch e.request && core == e.core
goes_to e false core = not (is_fetch e.request) && core == e.core

-- why an access takes a copy away: the L2 does not have the line any more, or the access needed the room, or it wrote
abbrev pub why_left : Caches → Entry → (fetching : Bool) (core line : ℕ) → Leave
why_left c e fetching core line =
    if is_some (dirty_at (behind c e) line) then (if goes_to e fetching core then Eviction else Coherence) else Inclusion

-- what there is of a copy behind an access, by whether it is there, and by what there was: where none was there before, it
-- stays as it was
abbrev pub state_behind : (there : Bool) → Leave → (before : CopyState) → CopyState
state_behind true why before = Held
state_behind false why Never = Never
state_behind false why Held = Gone why
state_behind false why (Gone earlier) = Gone earlier

-- So it is with each copy.
abbrev pub LeaveForReasons : Copies → Caches → Entry → Leaving → Type 0
LeaveForReasons copies c e leaving = (fetching : Bool) (core line : ℕ)
    → copies_after e leaving copies fetching core line
    ≡ state_behind (has_copy (behind c e) fetching core line) (why_left c e fetching core line) (copies fetching core line)
