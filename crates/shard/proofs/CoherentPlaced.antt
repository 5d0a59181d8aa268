-- Each access leaves each line in its own set, and as many sets as there were.
use Rattle.std.proofs.Common.{◌≡◌, ℕ, ◌/◌, ◌%◌, Bool, true, false, cond, eqb, List, [], ◌∷◌, length, get_or, map, set, replicate, Option, Some, None, refl, sym, ◌∙◌, subst, arith, inl, inr}
use Rattle.std.specs.List.{enumerate_from}
use Rattle.std.proofs.lemmas.Bool.{cases_lt}
use Rattle.std.proofs.lemmas.List.{get_or-replicate, length-replicate, get_or_past, length-map, length-set}
use Rattle.std.proofs.lemmas.List.FromFn.{length-enumerate_from}
use Rattle.zs_num.specs.Request.{is_fetch, line_of}
use Rattle.zs_num.specs.declared.entry.Outcome.{Outcome}
use Rattle.zs_num.specs.declared.entry.Outcome.TheVariants.{Hit, Upgrade, L2, Miss}
use Rattle.zs_num.specs.declared.request.Request.{Request}
use Rattle.cache_set.specs.declared.letter.Letter.{Letter}
use Rattle.cache_set.specs.declared.letter.Letter.TheVariants.{M, E, S, I}
use Rattle.cache_set.specs.Ways.{without, used, filled, changed}
use Rattle.shard.specs.Coherence.{Caches, after_at, after_fetch_at, caches_after, empty_caches, fetch_holds, fetch_met_at, filled_into_l1i, instructions_recalled, met_at, on_l1i, used_in_l1i, is_valid, is_modified, is_write, kept_first, l2_victim, letter_at, letter_in, looked_up, marked_dirty, on_l2, on_others, on_own, other_after, others_changed, own_after, own_victim, recalled, copies_evicted, some_other, filled_into_l1, filled_into_l2, with_letter, written_back}
use Rattle.shard.specs.Accesses.{caches_after_all}
use Rattle.cache_set.specs.Lines.{set_of, in_set_of, set_number}
use Rattle.shard.proofs.CoherentLists.{mapped_at, numbered_at, set_read}
use Rattle.shard.proofs.CoherentStand.{AllStand, Stand, empty_stands, none_stand, stand_changed, stand_in_set, stand_take, stand_used, stand_without}

-- ---- the sets of all cores
module _ {X : Type 0} (shards : ℕ) where
  -- of each core one set changes
  all_many : (line : ℕ) (change : List (ℕ × X) → List (ℕ × X)) (l : List (List (List (ℕ × X)))) (core : ℕ) → length (get_or (map (in_set_of shards line change) l) core []) ≡ length (get_or l core [])
  all_many line change l core =
      rw (mapped_at (in_set_of shards line change) l core refl) (length-set (get_or l core []) (set_number shards line (get_or l core [])) (change (set_of shards line (get_or l core []))))

  all_stand : (line : ℕ) (change : List (ℕ × X) → List (ℕ × X)) (l : List (List (List (ℕ × X))))
      → ((n : ℕ) (s : List (ℕ × X)) → Stand shards n (line / shards % n) s → Stand shards n (line / shards % n) (change s))
      → (core : ℕ) → AllStand shards (length (get_or l core [])) (get_or l core []) → AllStand shards (length (get_or l core [])) (get_or (map (in_set_of shards line change) l) core [])
  all_stand line change l step core h =
      let sets : List (List (ℕ × X)) = get_or l core [] in
      rw (mapped_at (in_set_of shards line change) l core refl) (stand_in_set shards (length sets) line change sets (step (length sets) (set_of shards line sets)) h)

  -- of one core one set changes
  own_many : (core line : ℕ) (change : List (ℕ × X) → List (ℕ × X)) (l : List (List (List (ℕ × X)))) (other : ℕ)
      → length (get_or (set l core (in_set_of shards line change (get_or l core []))) other []) ≡ length (get_or l other [])
  own_many core line change l other =
      let own : List (List (ℕ × X)) = get_or l core [] in
      let sets : List (List (ℕ × X)) = in_set_of shards line change own in
      let longer : length sets ≡ length own = length-set own (set_number shards line own) (change (set_of shards line own)) in
      set_read (λ s. length s ≡ length (get_or l other [])) l core sets other (λ e. rw e longer) refl

  own_stand : (core line : ℕ) (change : List (ℕ × X) → List (ℕ × X)) (l : List (List (List (ℕ × X))))
      → ((n : ℕ) (s : List (ℕ × X)) → Stand shards n (line / shards % n) s → Stand shards n (line / shards % n) (change s))
      → (other : ℕ) → AllStand shards (length (get_or l other [])) (get_or l other []) → AllStand shards (length (get_or l other [])) (get_or (set l core (in_set_of shards line change (get_or l core []))) other [])
  own_stand core line change l step other h =
      let own : List (List (ℕ × X)) = get_or l core [] in
      let sets : List (List (ℕ × X)) = in_set_of shards line change own in
      set_read (AllStand shards (length (get_or l other []))) l core sets other
      (λ e. subst (λ (x : ℕ). AllStand shards (length (get_or l x [])) sets) (sym e)
      (stand_in_set shards (length own) line change own (step (length own) (set_of shards line own)) (subst (λ (x : ℕ). AllStand shards (length (get_or l x [])) (get_or l x [])) e h)))
      h

-- ---- the caches
-- so many sets, and each line in its own
pub record Placed (c : Caches) : Type 0 where
  pub l1 : (core : ℕ) → AllStand c.shards (length (get_or c.l1 core [])) (get_or c.l1 core [])
  pub l1i : (core : ℕ) → AllStand c.shards (length (get_or c.l1i core [])) (get_or c.l1i core [])
  pub l2 : AllStand c.shards (length c.l2) c.l2

-- the caches after a step: as many cores and sets, and each line in its own set
pub record Keeps (c d : Caches) : Type 0 where
  pub shards : d.shards ≡ c.shards
  pub cores : length d.l1 ≡ length c.l1
  pub fetchers : length d.l1i ≡ length c.l1i
  pub l1_sets : (core : ℕ) → length (get_or d.l1 core []) ≡ length (get_or c.l1 core [])
  pub l1i_sets : (core : ℕ) → length (get_or d.l1i core []) ≡ length (get_or c.l1i core [])
  pub l2_sets : length d.l2 ≡ length c.l2
  pub placed : Placed c → Placed d

keeps_same : (c : Caches) → Keeps c c
keeps_same c = record { shards = refl; cores = refl; fetchers = refl; l1_sets = λ core. refl; l1i_sets = λ core. refl; l2_sets = refl; placed = λ p. p }

pub keeps_both : (b c d : Caches) → Keeps b c → Keeps c d → Keeps b d
keeps_both b c d s t = record {
  shards = t.shards ∙ s.shards;
  cores = t.cores ∙ s.cores;
  fetchers = t.fetchers ∙ s.fetchers;
  l1_sets = λ core. t.l1_sets core ∙ s.l1_sets core;
  l1i_sets = λ core. t.l1i_sets core ∙ s.l1i_sets core;
  l2_sets = t.l2_sets ∙ s.l2_sets;
  placed = λ p. t.placed (s.placed p);
}

-- a step that changes a line's set in the L2
l2_keeps : (line : ℕ) (change : List (ℕ × Bool) → List (ℕ × Bool)) (c : Caches)
    → (Stand c.shards (length c.l2) (line / c.shards % length c.l2) (set_of c.shards line c.l2) → Stand c.shards (length c.l2) (line / c.shards % length c.l2) (change (set_of c.shards line c.l2)))
    → Keeps c (record c { l2 = in_set_of c.shards line change c.l2 })
l2_keeps line change c step =
    let longer : length (in_set_of c.shards line change c.l2) ≡ length c.l2 = length-set c.l2 (set_number c.shards line c.l2) (change (set_of c.shards line c.l2)) in
    record {
      shards = refl;
      cores = refl;
      fetchers = refl;
      l1_sets = λ core. refl;
      l1i_sets = λ core. refl;
      l2_sets = longer;
      placed = λ p. record {
        l1 = p.l1;
        l1i = p.l1i;
        l2 = subst (λ (n : ℕ). AllStand c.shards n (in_set_of c.shards line change c.l2)) (sym longer) (stand_in_set c.shards (length c.l2) line change c.l2 step p.l2);
      };
    }

-- a step that gives each core other sets, as many
l1_keeps : (l1 : List (List (List (ℕ × Letter)))) (c : Caches) → length l1 ≡ length c.l1 → ((core : ℕ) → length (get_or l1 core []) ≡ length (get_or c.l1 core []))
    → ((core : ℕ) → AllStand c.shards (length (get_or c.l1 core [])) (get_or c.l1 core []) → AllStand c.shards (length (get_or c.l1 core [])) (get_or l1 core []))
    → Keeps c (record c { l1 = l1 })
l1_keeps l1 c cores sets step = record {
  shards = refl;
  cores = cores;
  fetchers = refl;
  l1_sets = sets;
  l1i_sets = λ core. refl;
  l2_sets = refl;
  placed = λ p. record {
    l1 = λ core. subst (λ (n : ℕ). AllStand c.shards n (get_or l1 core [])) (sym (sets core)) (step core (p.l1 core));
    l1i = p.l1i;
    l2 = p.l2;
  };
}

-- and one that gives each core's instruction cache other sets, as many
l1i_keeps : (l1i : List (List (List (ℕ × Unit {0})))) (c : Caches) → length l1i ≡ length c.l1i → ((core : ℕ) → length (get_or l1i core []) ≡ length (get_or c.l1i core []))
    → ((core : ℕ) → AllStand c.shards (length (get_or c.l1i core [])) (get_or c.l1i core []) → AllStand c.shards (length (get_or c.l1i core [])) (get_or l1i core []))
    → Keeps c (record c { l1i = l1i })
l1i_keeps l1i c fetchers sets step = record {
  shards = refl;
  cores = refl;
  fetchers = fetchers;
  l1_sets = λ core. refl;
  l1i_sets = sets;
  l2_sets = refl;
  placed = λ p. record {
    l1 = p.l1;
    l1i = λ core. subst (λ (n : ℕ). AllStand c.shards n (get_or l1i core [])) (sym (sets core)) (step core (p.l1i core));
    l2 = p.l2;
  };
}

-- ---- each step
recalled_keeps : (line : ℕ) (c : Caches) → Keeps c (recalled line c)
unfolding recalled
recalled_keeps line c =
    l1_keeps (map (in_set_of c.shards line (without line)) c.l1) c (length-map c.l1 (in_set_of c.shards line (without line)))
    (all_many c.shards line (without line) c.l1) (all_stand c.shards line (without line) c.l1 (λ n s h. stand_without c.shards n (line / c.shards % n) line s h))

instructions_keep : (line : ℕ) (c : Caches) → Keeps c (instructions_recalled line c)
unfolding instructions_recalled
instructions_keep line c =
    l1i_keeps (map (in_set_of c.shards line (without line)) c.l1i) c (length-map c.l1i (in_set_of c.shards line (without line)))
    (all_many c.shards line (without line) c.l1i) (all_stand c.shards line (without line) c.l1i (λ n s h. stand_without c.shards n (line / c.shards % n) line s h))

marked_keeps : (line : ℕ) (c : Caches) → Keeps c (marked_dirty line c)
unfolding marked_dirty
marked_keeps line c = l2_keeps line (changed line true) c (stand_changed c.shards (length c.l2) (line / c.shards % length c.l2) line true (set_of c.shards line c.l2))

fetched_keeps : (line : ℕ) (c : Caches) → Keeps c (filled_into_l2 line c)
unfolding filled_into_l2
fetched_keeps line c = l2_keeps line (filled c.l2_ways line false) c (λ h. stand_take c.shards (length c.l2) (line / c.shards % length c.l2) c.l2_ways ((line, false) ∷ set_of c.shards line c.l2) (refl, h))

looked_keeps : (line : ℕ) (c : Caches) → Keeps c (looked_up line c)
unfolding looked_up
looked_keeps line c = l2_keeps line (used line) c (stand_used c.shards (length c.l2) (line / c.shards % length c.l2) line (set_of c.shards line c.l2) refl)

with_letter_stand : (shards count n line : ℕ) (v : Letter) (s : List (ℕ × Letter)) → Stand shards count n s → Stand shards count n (with_letter line v s)
with_letter_stand shards count n line M s h = stand_changed shards count n line M s h
with_letter_stand shards count n line E s h = stand_changed shards count n line E s h
with_letter_stand shards count n line S s h = stand_changed shards count n line S s h
with_letter_stand shards count n line I s h = stand_without shards count n line s h

-- what the others' change makes of the sets of a core
abbrev pub if_other : (Letter → Letter) → (core line shards : ℕ) → ℕ × List (List (ℕ × Letter)) → List (List (ℕ × Letter))
if_other change core line shards at = cond (eqb at.0 core) at.1 (in_set_of shards line (λ copies. with_letter line (change (letter_in line copies)) copies) at.1)

pub none_other : (change : Letter → Letter) (core line shards other : ℕ) → if_other change core line shards (other, []) ≡ []
none_other change core line shards other = elim (eqb other core) as (λ b. cond {A = List (List (ℕ × Letter))} b [] [] ≡ []) [ true ↦ refl | false ↦ refl ]

pub others_keeps : (change : Letter → Letter) (core line : ℕ) (c : Caches) → Keeps c (others_changed change core line c)
unfolding others_changed
others_keeps change core line c =
    let g : ℕ × List (List (ℕ × Letter)) → List (List (ℕ × Letter)) = if_other change core line c.shards in
    let f : List (ℕ × Letter) → List (ℕ × Letter) = λ copies. with_letter line (change (letter_in line copies)) copies in
    l1_keeps (map g (enumerate_from 0 c.l1)) c (length-map (enumerate_from 0 c.l1) g ∙ length-enumerate_from 0 c.l1)
    (λ other. rw (numbered_at g c.l1 other (none_other change core line c.shards other))
    (elim (eqb other core) as (λ b. length (cond b (get_or c.l1 other []) (in_set_of c.shards line f (get_or c.l1 other []))) ≡ length (get_or c.l1 other [])) [
      | true ↦ refl
      | false ↦ length-set (get_or c.l1 other []) (set_number c.shards line (get_or c.l1 other [])) (f (set_of c.shards line (get_or c.l1 other [])))
    ]))
    (λ other h. rw (numbered_at g c.l1 other (none_other change core line c.shards other))
    (elim (eqb other core) as (λ b. AllStand c.shards (length (get_or c.l1 other [])) (cond b (get_or c.l1 other []) (in_set_of c.shards line f (get_or c.l1 other [])))) [
      | true ↦ h
      | false ↦ stand_in_set c.shards (length (get_or c.l1 other [])) line f (get_or c.l1 other [])
          (with_letter_stand c.shards (length (get_or c.l1 other [])) (line / c.shards % length (get_or c.l1 other [])) line (change (letter_in line (set_of c.shards line (get_or c.l1 other [])))) (set_of c.shards line (get_or c.l1 other []))) h
    ]))

-- a core's own sets change in one
own_keeps_sets : (core line : ℕ) (change : List (ℕ × Letter) → List (ℕ × Letter)) (c : Caches)
    → ((n : ℕ) (s : List (ℕ × Letter)) → Stand c.shards n (line / c.shards % n) s → Stand c.shards n (line / c.shards % n) (change s))
    → Keeps c (record c { l1 = set c.l1 core (in_set_of c.shards line change (get_or c.l1 core [])) })
own_keeps_sets core line change c step =
    let sets : List (List (ℕ × Letter)) = in_set_of c.shards line change (get_or c.l1 core []) in
    l1_keeps (set c.l1 core sets) c (length-set c.l1 core sets) (own_many c.shards core line change c.l1) (own_stand c.shards core line change c.l1 step)

first_keeps : (core line : ℕ) (letter : Letter) (c : Caches) → Keeps c (kept_first core line letter c)
unfolding kept_first
first_keeps core line letter c =
    own_keeps_sets core line (λ copies. (line, letter) ∷ without line copies) c (λ n s h. (refl, stand_without c.shards n (line / c.shards % n) line s h))

back_keeps : (victim : Option (ℕ × Letter)) (c : Caches) → Keeps c (written_back victim c)
back_keeps None c = keeps_same c
back_keeps (Some victim) c =
    elim (is_modified victim.1) as (λ b. Keeps c (cond b (marked_dirty victim.0 c) c))
    [ true ↦ marked_keeps victim.0 c | false ↦ keeps_same c ]

taken_keeps : (core line : ℕ) (letter : Letter) (c : Caches) → Keeps c (filled_into_l1 core line letter c)
unfolding filled_into_l1
taken_keeps core line letter c =
    let d : Caches = written_back (own_victim c core line) c in
    keeps_both c d (filled_into_l1 core line letter c) (back_keeps (own_victim c core line) c)
    (own_keeps_sets core line (filled c.l1_ways line letter) d (λ n s h. stand_take d.shards n (line / d.shards % n) c.l1_ways ((line, letter) ∷ s) (refl, h)))

-- ---- one access
pub room_keeps : (victim : Option (ℕ × Bool)) (c : Caches) → Keeps c (copies_evicted victim c)
room_keeps None c = keeps_same c
room_keeps (Some victim) c =
    let d : Caches = recalled victim.0 c in
    keeps_both c d (instructions_recalled victim.0 d) (recalled_keeps victim.0 c) (instructions_keep victim.0 d)

pub l2_step : (outcome : Outcome) (line : ℕ) (c : Caches) → Keeps c (on_l2 outcome line c)
l2_step Hit line c = keeps_same c
l2_step (Upgrade others) line c = looked_keeps line c
l2_step (L2 others) line c = looked_keeps line c
l2_step (Miss dirty) line c =
    let made : Caches = copies_evicted (l2_victim c line) c in
    keeps_both c made (filled_into_l2 line made) (room_keeps (l2_victim c line) c) (fetched_keeps line made)

pub dirtied_keeps : (b : Bool) (line : ℕ) (c : Caches) → Keeps c (cond b (marked_dirty line c) c)
dirtied_keeps true line c = marked_keeps line c
dirtied_keeps false line c = keeps_same c

pub others_step : (outcome : Outcome) (write : Bool) (core line : ℕ) (c : Caches) → Keeps c (on_others outcome write core line c)
others_step Hit write core line c = keeps_same c
others_step (Upgrade others) write core line c = others_keeps (other_after write) core line c
others_step (L2 others) write core line c =
    let dirtied : Caches = cond (some_other is_modified c core line) (marked_dirty line c) c in
    keeps_both c dirtied (others_changed (other_after write) core line dirtied)
    (dirtied_keeps (some_other is_modified c core line) line c) (others_keeps (other_after write) core line dirtied)
others_step (Miss dirty) write core line c = keeps_same c

own_step : (own : Letter) (core line : ℕ) (letter : Letter) (c : Caches) → Keeps c (on_own own core line letter c)
own_step M core line letter c = first_keeps core line letter c
own_step E core line letter c = first_keeps core line letter c
own_step S core line letter c = first_keeps core line letter c
own_step I core line letter c = taken_keeps core line letter c

pub read_keeps : (c : Caches) (core line : ℕ) (write : Bool) → Keeps c (after_at c core line write)
read_keeps c core line write =
    let own : Letter = letter_at c core line in
    let outcome : Outcome = met_at c core line write in
    let letter : Letter = own_after write own (some_other is_valid c core line) in
    let first : Caches = on_l2 outcome line c in
    let second : Caches = on_others outcome write core line first in
    keeps_both c second (on_own own core line letter second)
    (keeps_both c first second (l2_step outcome line c) (others_step outcome write core line first))
    (own_step own core line letter second)

-- one set of a core's instruction cache changes
own_instructions_keep : (core line : ℕ) (change : List (ℕ × Unit {0}) → List (ℕ × Unit {0})) (c : Caches)
    → ((n : ℕ) (s : List (ℕ × Unit {0})) → Stand c.shards n (line / c.shards % n) s → Stand c.shards n (line / c.shards % n) (change s))
    → Keeps c (record c { l1i = set c.l1i core (in_set_of c.shards line change (get_or c.l1i core [])) })
own_instructions_keep core line change c step =
    let sets : List (List (ℕ × Unit {0})) = in_set_of c.shards line change (get_or c.l1i core []) in
    l1i_keeps (set c.l1i core sets) c (length-set c.l1i core sets) (own_many c.shards core line change c.l1i) (own_stand c.shards core line change c.l1i step)

pub on_l1i_keeps : (held : Bool) (core line : ℕ) (c : Caches) → Keeps c (on_l1i held core line c)
unfolding used_in_l1i filled_into_l1i
on_l1i_keeps true core line c = own_instructions_keep core line (used line) c (λ n s h. stand_used c.shards n (line / c.shards % n) line s refl h)
on_l1i_keeps false core line c =
    own_instructions_keep core line (filled c.l1i_ways line tt) c (λ n s h. stand_take c.shards n (line / c.shards % n) c.l1i_ways ((line, tt) ∷ s) (refl, h))

pub fetch_keeps : (c : Caches) (core line : ℕ) → Keeps c (after_fetch_at c core line)
fetch_keeps c core line =
    let first : Caches = on_l2 (fetch_met_at c core line) line c in
    keeps_both c first (on_l1i (fetch_holds c core line) core line first) (l2_step (fetch_met_at c core line) line c) (on_l1i_keeps (fetch_holds c core line) core line first)

pub access_keeps : (c : Caches) (core : ℕ) (request : Request) → Keeps c (caches_after c core request)
unfolding caches_after
access_keeps c core request =
    let line : ℕ = line_of request in
    elim (is_fetch request) as (λ b. Keeps c (cond b (after_fetch_at c core line) (after_at c core line (is_write request))))
    [ true ↦ fetch_keeps c core line | false ↦ read_keeps c core line (is_write request) ]

pub accesses_placed : (accesses : List (ℕ × Request)) (c : Caches) → Placed c → Placed (caches_after_all c accesses)
accesses_placed [] c p = p
accesses_placed (access ∷ accesses) c p =
    accesses_placed accesses (caches_after c access.0 access.1) ((access_keeps c access.0 access.1).placed p)

empty_of_core : {X : Type 0} (shards cores sets core : ℕ)
    → AllStand shards (length (get_or (replicate cores (replicate {A = List (ℕ × X)} sets [])) core [])) (get_or (replicate cores (replicate {A = List (ℕ × X)} sets [])) core [])
empty_of_core {X = X} shards cores sets core =
    let all : List (List (ℕ × X)) = replicate sets [] in
    elim (cases_lt core cores) as (λ _. AllStand shards (length (get_or (replicate cores all) core [])) (get_or (replicate cores all) core [])) [
      | inl l ↦ rw (get_or-replicate cores core all [] l) (empty_stands shards sets)
      | inr l ↦ rw (get_or_past (replicate cores all) core [] (omega (arith, length-replicate cores all))) (none_stand shards)
    ]

pub empty_placed : (cores shards l1_sets l1_ways fetchers l1i_sets l1i_ways l2_sets l2_ways : ℕ) → Placed (empty_caches cores shards l1_sets l1_ways fetchers l1i_sets l1i_ways l2_sets l2_ways)
empty_placed cores shards l1_sets l1_ways fetchers l1i_sets l1i_ways l2_sets l2_ways = record {
  l1 = λ core. empty_of_core {X = Letter} shards cores l1_sets core;
  l1i = λ core. empty_of_core {X = Unit {0}} shards fetchers l1i_sets core;
  l2 = empty_stands shards l2_sets;
}
