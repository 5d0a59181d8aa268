-- What an access does to the caches: the MESI protocol (Papamarcos and Patel 1984), with a data cache of its own for
-- each core (L1), an instruction cache where the machine has them (L1I), and one cache that all share (L2). The L2 is
-- inclusive: it has each line that an L1 or an L1I has. From a full set the line that was used last longest ago is
-- evicted. There is no directory: who has a line is read off the lists. Instructions are those of the executable as it
-- was loaded, so an L1I keeps its lines whatever is written.
use Rattle.std.specs.Prelude.{ℕ, ◌==◌, Bool, true, false, not, ◌&&◌, ◌||◌, if◌then◌else◌, List, [], ◌∷◌, length, map, replicate, slice_index_or, slice_set, Option, Some, None, is_some, unwrap_or}
use Rattle.std.specs.List.{enumerate_from, list_any, range_with_len}
use Rattle.zs_num.specs.Request.{is_fetch, line_of}
use Rattle.zs_num.specs.declared.entry.Outcome.{Outcome}
use Rattle.zs_num.specs.declared.entry.Outcome.TheVariants.{Hit, Upgrade, L2, Miss}
use Rattle.zs_num.specs.declared.request.Request.{Request}
use Rattle.zs_num.specs.declared.request.Request.TheVariants.{Load, Store, Lr, Sc, Amo, Fetch}
use Rattle.cache_set.specs.declared.letter.Letter.{Letter}
use Rattle.cache_set.specs.declared.letter.Letter.TheVariants.{M, E, S, I}
pub use Rattle.cache_set.specs.LetterFacts.{is_valid, is_alone, is_modified}
use Rattle.cache_set.specs.Ways.{kept_of, without, used, filled, changed, victim_of}
use Rattle.cache_set.specs.Lines.{set_of, in_set_of}

-- The lines in each set, the most recently used first. With one shard these are the caches of a whole machine, and else
-- those of one shard.
pub record Caches : Type 0 where
  -- how many shards there are
  pub shards : ℕ
  -- how many lines a set holds at most
  pub l1_ways : ℕ
  pub l1i_ways : ℕ
  pub l2_ways : ℕ
  -- by core and by set, the lines with their letters
  pub l1 : List (List (List (ℕ × Letter)))
  -- By core and by set, the lines of the instruction caches, of which nothing is kept but that they are there. On a
  -- machine without instruction caches the list has no core.
  pub l1i : List (List (List (ℕ × Unit {0})))
  -- by set, the lines, and whether each is dirty
  pub l2 : List (List (ℕ × Bool))

-- caches without a line, for so many cores, of which so many have an instruction cache: all or none
abbrev pub empty_caches : (cores shards l1_sets l1_ways fetchers l1i_sets l1i_ways l2_sets l2_ways : ℕ) → Caches
empty_caches cores shards l1_sets l1_ways fetchers l1i_sets l1i_ways l2_sets l2_ways = record {
  shards = shards;
  l1_ways = l1_ways;
  l1i_ways = l1i_ways;
  l2_ways = l2_ways;
  l1 = replicate cores (replicate l1_sets []);
  l1i = replicate fetchers (replicate l1i_sets []);
  l2 = replicate l2_sets [];
}

-- ---- letters

-- a line that is not in an L1 has the letter I there
abbrev pub letter_in : (line : ℕ) → List (ℕ × Letter) → Letter
letter_in line copies = unwrap_or (kept_of line copies) I

-- the letter that a core has for a line
unfoldable pub letter_at : Caches → (core line : ℕ) → Letter
letter_at c core line = letter_in line (set_of c.shards line (slice_index_or c.l1 core []))

-- whether the line is dirty in the L2, where the L2 holds it
unfoldable pub dirty_at : Caches → (line : ℕ) → Option Bool
dirty_at c line = kept_of line (set_of c.shards line c.l2)

-- a core's letter for the line passes the test
abbrev pub some_core : (Letter → Bool) → Caches → (line : ℕ) → Bool
some_core test c line = list_any (λ core. test (letter_at c core line)) (range_with_len 0 (length c.l1))

-- another core's letter for the line passes the test
abbrev pub some_other : (Letter → Bool) → Caches → (core line : ℕ) → Bool
some_other test c core line = list_any (λ other. not (other == core) && test (letter_at c other line)) (range_with_len 0 (length c.l1))

-- ---- instruction caches

-- what a core's L1I has of a line's set
abbrev pub l1i_lines_at : Caches → (core line : ℕ) → List (ℕ × Unit {0})
l1i_lines_at c core line = set_of c.shards line (slice_index_or c.l1i core [])

-- whether a core's L1I has the line
unfoldable pub fetch_holds : Caches → (core line : ℕ) → Bool
fetch_holds c core line = is_some (kept_of line (l1i_lines_at c core line))

-- ---- the table

-- Loads and load-reserveds read, and so do fetches; stores, atomic operations and all store-conditionals write, also one
-- that fails.
abbrev pub is_write : Request → Bool
is_write (Load width addr) = false
is_write (Store width addr value) = true
is_write (Lr width addr) = false
is_write (Sc width paired addr value) = true
is_write (Amo width op addr value) = true
is_write (Fetch addr) = false

-- How the caches meet a read or a write, by the core's letter and by whether the L2 holds the line. `alone` says that
-- another core has it in M or E, `has` that another core has it, and `dirty` that the line that the L2 evicts is dirty.
abbrev pub outcome_by : (write : Bool) → Letter → (in_l2 alone has dirty : Bool) → Outcome
outcome_by false M in_l2 alone has dirty = Hit
outcome_by false E in_l2 alone has dirty = Hit
outcome_by false S in_l2 alone has dirty = Hit
outcome_by false I true alone has dirty = L2 alone
outcome_by false I false alone has dirty = Miss dirty
outcome_by true M in_l2 alone has dirty = Hit
outcome_by true E in_l2 alone has dirty = Hit
outcome_by true S in_l2 alone has dirty = Upgrade has
outcome_by true I true alone has dirty = L2 has
outcome_by true I false alone has dirty = Miss dirty

-- the core's letter after the access
abbrev pub own_after : (write : Bool) → Letter → (has : Bool) → Letter
own_after true own has = M
own_after false M has = M
own_after false E has = E
own_after false S has = S
own_after false I has = if has then S else E

-- the letter of another core after an access that the L2 served
abbrev pub other_after : (write : Bool) → Letter → Letter
other_after true letter = I
other_after false M = S
other_after false E = S
other_after false S = S
other_after false I = I

-- ---- the steps of an access

-- the line that is evicted from the L2 for this one
abbrev pub l2_victim : Caches → (line : ℕ) → Option (ℕ × Bool)
l2_victim c line = victim_of c.l2_ways (set_of c.shards line c.l2)

-- it is dirty in the L2, or a core has it modified
abbrev pub is_dirty_victim : Caches → Option (ℕ × Bool) → Bool
is_dirty_victim c None = false
is_dirty_victim c (Some victim) = victim.1 || some_core is_modified c victim.0

-- how the caches meet a read or a write of a line
abbrev pub met_at : Caches → (core line : ℕ) → (write : Bool) → Outcome
met_at c core line write =
    outcome_by write (letter_at c core line) (is_some (dirty_at c line))
    (some_other is_alone c core line) (some_other is_valid c core line) (is_dirty_victim c (l2_victim c line))

-- How the caches meet a fetch, by whether the core's instruction cache and the L2 hold the line. `dirty` says that the
-- line that the L2 evicts is dirty. No other core's copy has to change.
abbrev pub fetch_outcome_by : (held in_l2 dirty : Bool) → Outcome
fetch_outcome_by true in_l2 dirty = Hit
fetch_outcome_by false true dirty = L2 false
fetch_outcome_by false false dirty = Miss dirty

abbrev pub fetch_met_at : Caches → (core line : ℕ) → Outcome
fetch_met_at c core line =
    fetch_outcome_by (fetch_holds c core line) (is_some (dirty_at c line)) (is_dirty_victim c (l2_victim c line))

-- how the caches meet an access of a core
unfoldable pub outcome_of : Caches → (core : ℕ) → Request → Outcome
outcome_of c core request = let line = line_of request in
    if is_fetch request then fetch_met_at c core line else met_at c core line (is_write request)

-- no core's L1 has a line any more
unfoldable pub recalled : (line : ℕ) → Caches → Caches
recalled line c = record c { l1 = map (in_set_of c.shards line (without line)) c.l1 }

-- no core's L1I has it any more
unfoldable pub instructions_recalled : (line : ℕ) → Caches → Caches
instructions_recalled line c = record c { l1i = map (in_set_of c.shards line (without line)) c.l1i }

-- the line is dirty in the L2, in its place
unfoldable pub marked_dirty : (line : ℕ) → Caches → Caches
marked_dirty line c = record c { l2 = in_set_of c.shards line (changed line true) c.l2 }

-- a line that is evicted from the L2 is evicted from every L1 and from every L1I
abbrev pub copies_evicted : Option (ℕ × Bool) → Caches → Caches
copies_evicted None c = c
copies_evicted (Some victim) c = instructions_recalled victim.0 (recalled victim.0 c)

-- a line comes into the L2, clean
unfoldable pub filled_into_l2 : (line : ℕ) → Caches → Caches
filled_into_l2 line c = record c { l2 = in_set_of c.shards line (filled c.l2_ways line false) c.l2 }

-- a line is used in the L2
unfoldable pub looked_up : (line : ℕ) → Caches → Caches
looked_up line c = record c { l2 = in_set_of c.shards line (used line) c.l2 }

-- what an access does to the L2
abbrev pub on_l2 : Outcome → (line : ℕ) → Caches → Caches
on_l2 Hit line c = c
on_l2 (Upgrade others) line c = looked_up line c
on_l2 (L2 others) line c = looked_up line c
on_l2 (Miss dirty) line c = filled_into_l2 line (copies_evicted (l2_victim c line) c)

-- a copy with another letter, in its place; with I it leaves
abbrev pub with_letter : (line : ℕ) → Letter → List (ℕ × Letter) → List (ℕ × Letter)
with_letter line M copies = changed line M copies
with_letter line E copies = changed line E copies
with_letter line S copies = changed line S copies
with_letter line I copies = without line copies

-- the copies of the other cores get other letters
unfoldable pub others_changed : (Letter → Letter) → (core line : ℕ) → Caches → Caches
others_changed change core line c = record c {
  l1 = map (λ at. if at.0 == core then at.1 else in_set_of c.shards line (λ copies. with_letter line (change (letter_in line copies)) copies) at.1)
      (enumerate_from 0 c.l1);
}

-- what an access does to the other cores' copies: a copy that was modified makes the line dirty in the L2
abbrev pub on_others : Outcome → (write : Bool) → (core line : ℕ) → Caches → Caches
on_others Hit write core line c = c
on_others (Upgrade others) write core line c = others_changed (other_after write) core line c
on_others (L2 others) write core line c =
    others_changed (other_after write) core line (if some_other is_modified c core line then marked_dirty line c else c)
on_others (Miss dirty) write core line c = c

-- the sets of one core after a change of a line's set
abbrev pub in_own_set_of : (core line : ℕ) → (List (ℕ × Letter) → List (ℕ × Letter)) → Caches → Caches
in_own_set_of core line change c = record c { l1 = slice_set c.l1 core (in_set_of c.shards line change (slice_index_or c.l1 core [])) }

-- a line that a core has comes to the front of its L1, with a letter
unfoldable pub kept_first : (core line : ℕ) → Letter → Caches → Caches
kept_first core line letter c = in_own_set_of core line (λ copies. (line, letter) ∷ without line copies) c

-- the line that is evicted from a core's L1 for this one: where it is modified, it is dirty in the L2 from then on
abbrev pub own_victim : Caches → (core line : ℕ) → Option (ℕ × Letter)
own_victim c core line = victim_of c.l1_ways (set_of c.shards line (slice_index_or c.l1 core []))

abbrev pub written_back : Option (ℕ × Letter) → Caches → Caches
written_back None c = c
written_back (Some victim) c = if is_modified victim.1 then marked_dirty victim.0 c else c

-- a line comes into a core's L1
unfoldable pub filled_into_l1 : (core line : ℕ) → Letter → Caches → Caches
filled_into_l1 core line letter c =
    in_own_set_of core line (filled c.l1_ways line letter) (written_back (own_victim c core line) c)

-- what an access does to the core's own L1
abbrev pub on_own : Letter → (core line : ℕ) → Letter → Caches → Caches
on_own M core line letter c = kept_first core line letter c
on_own E core line letter c = kept_first core line letter c
on_own S core line letter c = kept_first core line letter c
on_own I core line letter c = filled_into_l1 core line letter c

-- the caches after a read or a write of a line: first the L2, then the other cores' copies, then the core's own
abbrev pub after_at : Caches → (core line : ℕ) → (write : Bool) → Caches
after_at c core line write =
    on_own (letter_at c core line) core line (own_after write (letter_at c core line) (some_other is_valid c core line))
    (on_others (met_at c core line write) write core line (on_l2 (met_at c core line write) line c))

-- the sets of one core's instruction cache after a change of a line's set
abbrev pub in_l1i_set_of : (core line : ℕ) → (List (ℕ × Unit {0}) → List (ℕ × Unit {0})) → Caches → Caches
in_l1i_set_of core line change c = record c { l1i = slice_set c.l1i core (in_set_of c.shards line change (slice_index_or c.l1i core [])) }

-- a line that a core's L1I has is used there
unfoldable pub used_in_l1i : (core line : ℕ) → Caches → Caches
used_in_l1i core line c = in_l1i_set_of core line (used line) c

-- a line comes into a core's L1I
unfoldable pub filled_into_l1i : (core line : ℕ) → Caches → Caches
filled_into_l1i core line c = in_l1i_set_of core line (filled c.l1i_ways line tt) c

-- what a fetch does to the core's L1I
abbrev pub on_l1i : (held : Bool) → (core line : ℕ) → Caches → Caches
on_l1i true core line c = used_in_l1i core line c
on_l1i false core line c = filled_into_l1i core line c

-- the caches after a fetch of a line: first the L2, then the core's own L1I
abbrev pub after_fetch_at : Caches → (core line : ℕ) → Caches
after_fetch_at c core line = on_l1i (fetch_holds c core line) core line (on_l2 (fetch_met_at c core line) line c)

-- the caches after an access of a core
unfoldable pub caches_after : Caches → (core : ℕ) → Request → Caches
caches_after c core request = let line = line_of request in
    if is_fetch request then after_fetch_at c core line else after_at c core line (is_write request)
