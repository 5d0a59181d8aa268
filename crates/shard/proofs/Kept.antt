-- What an access does not change: the number of shards, the cores, the ways, and for how many cores marks are kept.
use Rattle.std.proofs.Common.{◌≡◌, ℕ, Bool, true, false, cond, List, length, map, set, Option, Some, None, refl, ◌∙◌}
use Rattle.std.specs.List.{enumerate_from}
use Rattle.std.proofs.lemmas.List.{length-map, length-set}
use Rattle.std.proofs.lemmas.List.FromFn.{length-enumerate_from}
use Rattle.zs_num.specs.Request.{is_fetch, line_of}
use Rattle.zs_num.specs.declared.entry.Outcome.{Outcome}
use Rattle.zs_num.specs.declared.entry.Outcome.TheVariants.{Hit, Upgrade, L2, Miss}
use Rattle.zs_num.specs.declared.request.Request.{Request}
use Rattle.zs_num.specs.declared.request.Request.TheVariants.{Load, Store, Lr, Sc, Amo, Fetch}
use Rattle.cache_set.specs.declared.letter.Letter.{Letter}
use Rattle.cache_set.specs.declared.letter.Letter.TheVariants.{M, E, S, I}
use Rattle.flat_memory.specs.declared.reservation.Reservation.{Reservation}
use Rattle.flat_memory.specs.FlatMemory.{after_write}
use Rattle.shard.specs.Coherence.{Caches, letter_at, is_write, some_other, is_valid, is_modified, own_after, own_victim, on_l2, on_others, on_own, on_l1i, l2_victim, copies_evicted, written_back, after_at, after_fetch_at, caches_after, recalled, instructions_recalled, marked_dirty, filled_into_l2, looked_up, other_after, others_changed, kept_first, filled_into_l1, used_in_l1i, filled_into_l1i, met_at, fetch_met_at, fetch_holds}
use Rattle.cache_set.specs.Ways.{without, used, filled, changed}
use Rattle.cache_set.specs.Lines.{in_set_of}
use Rattle.shard.specs.Marks.{marks_after, does_store}

-- the number of shards, the cores and the ways of two caches are the same
pub record SameShape (c d : Caches) : Type 0 where
  pub shards : c.shards ≡ d.shards
  pub l1_ways : c.l1_ways ≡ d.l1_ways
  pub l1i_ways : c.l1i_ways ≡ d.l1i_ways
  pub l2_ways : c.l2_ways ≡ d.l2_ways
  pub cores : length c.l1 ≡ length d.l1
  pub fetchers : length c.l1i ≡ length d.l1i

same : (c : Caches) → SameShape c c
same c = record { shards = refl; l1_ways = refl; l1i_ways = refl; l2_ways = refl; cores = refl; fetchers = refl }

pub after_same : (b c d : Caches) → SameShape c d → SameShape b c → SameShape b d
after_same b c d s t = record {
  shards = t.shards ∙ s.shards;
  l1_ways = t.l1_ways ∙ s.l1_ways;
  l1i_ways = t.l1i_ways ∙ s.l1i_ways;
  l2_ways = t.l2_ways ∙ s.l2_ways;
  cores = t.cores ∙ s.cores;
  fetchers = t.fetchers ∙ s.fetchers;
}

-- steps that change the sets of the L1s alone, those of the L1Is alone, and those of the L2 alone
same_but_l1 : (l1 : List (List (List (ℕ × Letter)))) (c : Caches) → length l1 ≡ length c.l1 → SameShape (record c { l1 = l1 }) c
same_but_l1 l1 c cores = record { shards = refl; l1_ways = refl; l1i_ways = refl; l2_ways = refl; cores = cores; fetchers = refl }

same_but_l1i : (l1i : List (List (List (ℕ × Unit {0})))) (c : Caches) → length l1i ≡ length c.l1i → SameShape (record c { l1i = l1i }) c
same_but_l1i l1i c fetchers = record { shards = refl; l1_ways = refl; l1i_ways = refl; l2_ways = refl; cores = refl; fetchers = fetchers }

same_but_l2 : (l2 : List (List (ℕ × Bool))) (c : Caches) → SameShape (record c { l2 = l2 }) c
same_but_l2 l2 c = record { shards = refl; l1_ways = refl; l1i_ways = refl; l2_ways = refl; cores = refl; fetchers = refl }

recalled_same : (line : ℕ) (c : Caches) → SameShape (recalled line c) c
unfolding recalled
recalled_same line c = same_but_l1 (map (in_set_of c.shards line (without line)) c.l1) c (length-map c.l1 (in_set_of c.shards line (without line)))

instructions_same : (line : ℕ) (c : Caches) → SameShape (instructions_recalled line c) c
unfolding instructions_recalled
instructions_same line c = same_but_l1i (map (in_set_of c.shards line (without line)) c.l1i) c (length-map c.l1i (in_set_of c.shards line (without line)))

marked_same : (line : ℕ) (c : Caches) → SameShape (marked_dirty line c) c
unfolding marked_dirty
marked_same line c = same_but_l2 (in_set_of c.shards line (changed line true) c.l2) c

fetched_same : (line : ℕ) (c : Caches) → SameShape (filled_into_l2 line c) c
unfolding filled_into_l2
fetched_same line c = same_but_l2 (in_set_of c.shards line (filled c.l2_ways line false) c.l2) c

looked_same : (line : ℕ) (c : Caches) → SameShape (looked_up line c) c
unfolding looked_up
looked_same line c = same_but_l2 (in_set_of c.shards line (used line) c.l2) c

others_same : (change : Letter → Letter) (core line : ℕ) (c : Caches) → SameShape (others_changed change core line c) c
unfolding others_changed
others_same change core line c = record {
  shards = refl;
  l1_ways = refl;
  l1i_ways = refl;
  l2_ways = refl;
  cores = length-map (enumerate_from 0 c.l1) _ ∙ length-enumerate_from 0 c.l1;
  fetchers = refl;
}

first_same : (core line : ℕ) (letter : Letter) (c : Caches) → SameShape (kept_first core line letter c) c
unfolding kept_first
first_same core line letter c = record { shards = refl; l1_ways = refl; l1i_ways = refl; l2_ways = refl; cores = length-set c.l1 core _; fetchers = refl }

back_same : (victim : Option (ℕ × Letter)) (c : Caches) → SameShape (written_back victim c) c
back_same None c = same c
back_same (Some victim) c =
    elim (is_modified victim.1) as (λ b. SameShape (cond b (marked_dirty victim.0 c) c) c)
    [ true ↦ marked_same victim.0 c | false ↦ same c ]

taken_same : (core line : ℕ) (letter : Letter) (c : Caches) → SameShape (filled_into_l1 core line letter c) c
unfolding filled_into_l1
taken_same core line letter c =
    let back : SameShape (written_back (own_victim c core line) c) c = back_same (own_victim c core line) c in
    record {
      shards = back.shards;
      l1_ways = back.l1_ways;
      l1i_ways = back.l1i_ways;
      l2_ways = back.l2_ways;
      cores = length-set (written_back (own_victim c core line) c).l1 core _ ∙ back.cores;
      fetchers = back.fetchers;
    }

pub room_same : (victim : Option (ℕ × Bool)) (c : Caches) → SameShape (copies_evicted victim c) c
room_same None c = same c
room_same (Some victim) c = after_same (instructions_recalled victim.0 (recalled victim.0 c)) (recalled victim.0 c) c (recalled_same victim.0 c) (instructions_same victim.0 (recalled victim.0 c))

pub l2_same : (outcome : Outcome) (line : ℕ) (c : Caches) → SameShape (on_l2 outcome line c) c
l2_same Hit line c = same c
l2_same (Upgrade others) line c = looked_same line c
l2_same (L2 others) line c = looked_same line c
l2_same (Miss dirty) line c =
    let made : Caches = copies_evicted (l2_victim c line) c in
    after_same (filled_into_l2 line made) made c (room_same (l2_victim c line) c) (fetched_same line made)

dirtied_same : (b : Bool) (line : ℕ) (c : Caches) → SameShape (cond b (marked_dirty line c) c) c
dirtied_same true line c = marked_same line c
dirtied_same false line c = same c

pub on_others_same : (outcome : Outcome) (write : Bool) (core line : ℕ) (c : Caches) → SameShape (on_others outcome write core line c) c
on_others_same Hit write core line c = same c
on_others_same (Upgrade others) write core line c = others_same (other_after write) core line c
on_others_same (L2 others) write core line c =
    let dirtied : Caches = cond (some_other is_modified c core line) (marked_dirty line c) c in
    after_same (others_changed (other_after write) core line dirtied) dirtied c
    (dirtied_same (some_other is_modified c core line) line c) (others_same (other_after write) core line dirtied)
on_others_same (Miss dirty) write core line c = same c

own_same : (own : Letter) (core line : ℕ) (letter : Letter) (c : Caches) → SameShape (on_own own core line letter c) c
own_same M core line letter c = first_same core line letter c
own_same E core line letter c = first_same core line letter c
own_same S core line letter c = first_same core line letter c
own_same I core line letter c = taken_same core line letter c

pub read_same : (c : Caches) (core line : ℕ) (write : Bool) → SameShape (after_at c core line write) c
read_same c core line write =
    let own : Letter = letter_at c core line in
    let outcome : Outcome = met_at c core line write in
    let letter : Letter = own_after write own (some_other is_valid c core line) in
    let first : Caches = on_l2 outcome line c in
    let second : Caches = on_others outcome write core line first in
    after_same (on_own own core line letter second) second c
    (after_same second first c (l2_same outcome line c) (on_others_same outcome write core line first))
    (own_same own core line letter second)

pub on_l1i_same : (held : Bool) (core line : ℕ) (c : Caches) → SameShape (on_l1i held core line c) c
unfolding used_in_l1i filled_into_l1i
on_l1i_same true core line c = record { shards = refl; l1_ways = refl; l1i_ways = refl; l2_ways = refl; cores = refl; fetchers = length-set c.l1i core _ }
on_l1i_same false core line c = record { shards = refl; l1_ways = refl; l1i_ways = refl; l2_ways = refl; cores = refl; fetchers = length-set c.l1i core _ }

fetch_same : (c : Caches) (core line : ℕ) → SameShape (after_fetch_at c core line) c
fetch_same c core line =
    let outcome : Outcome = fetch_met_at c core line in
    let first : Caches = on_l2 outcome line c in
    after_same (on_l1i (fetch_holds c core line) core line first) first c (l2_same outcome line c) (on_l1i_same (fetch_holds c core line) core line first)

pub access_same : (c : Caches) (core : ℕ) (request : Request) → SameShape (caches_after c core request) c
unfolding caches_after
access_same c core request =
    let line : ℕ = line_of request in
    let write : Bool = is_write request in
    elim (is_fetch request) as (λ b. SameShape (cond b (after_fetch_at c core line) (after_at c core line write)) c)
    [ true ↦ fetch_same c core line | false ↦ read_same c core line write ]

pub shards_stay : (c : Caches) (core : ℕ) (request : Request) → (caches_after c core request).shards ≡ c.shards
shards_stay c core request = (access_same c core request).shards

-- ---- marks

pub length-after_write : (core addr : ℕ) (marks : List (Option Reservation)) → length (after_write core addr marks) ≡ length marks
unfolding after_write
length-after_write core addr marks = length-map (enumerate_from 0 marks) _ ∙ length-enumerate_from 0 marks

stored_length : (b : Bool) (core addr : ℕ) (marks : List (Option Reservation)) → length (set (cond b (after_write core addr marks) marks) core None) ≡ length marks
stored_length true core addr marks = length-set (after_write core addr marks) core None ∙ length-after_write core addr marks
stored_length false core addr marks = length-set marks core None

pub length-marks_after : (marks : List (Option Reservation)) (core : ℕ) (request : Request) → length (marks_after marks core request) ≡ length marks
unfolding marks_after
length-marks_after marks core (Load width addr) = refl
length-marks_after marks core (Store width addr value) = length-after_write core addr marks
length-marks_after marks core (Lr width addr) = length-set marks core (Some (record { addr = addr; width = width }))
length-marks_after marks core (Sc width paired addr value) = stored_length (does_store marks core addr width paired) core addr marks
length-marks_after marks core (Amo width op addr value) = length-after_write core addr marks
length-marks_after marks core (Fetch addr) = refl
