-- What an access leaves of the copies in the cores' own caches.
use Rattle.std.proofs.Common.{◌≡◌, ◌≢◌, ℕ, ◌<◌, ◌≤◌, ◌&&◌, Bool, true, false, not, cond, eqb, [], length, get_or, Option, Some, None, is_some, refl, sym, ap, ◌∙◌, subst, arith, inl, inr}
use Rattle.std.proofs.lemmas.Bool.{cases_eq, eq-eqb, eqb-true, lt-ltb, ne_eqb}
use Rattle.std.specs.Prelude.{nat_lt}
use Rattle.zs_num.specs.Request.{line_at}
use Rattle.zs_num.specs.declared.entry.Outcome.{Outcome}
use Rattle.zs_num.specs.declared.entry.Outcome.TheVariants.{Hit, Upgrade, L2, Miss}
use Rattle.zs_num.specs.declared.request.Request.TheVariants.{Load, Store, Lr, Sc, Amo, Fetch}
use Rattle.cache_set.specs.declared.letter.Letter.{Letter}
use Rattle.cache_set.specs.declared.letter.Letter.TheVariants.{M, E, S, I}
use Rattle.cache_set.specs.Ways.{victim_of}
use Rattle.shard.specs.Coherence.{Caches, after_at, after_fetch_at, caches_after, copies_evicted, dirty_at, fetch_holds, fetch_met_at, fetch_outcome_by, filled_into_l1, filled_into_l1i, filled_into_l2, is_alone, is_dirty_victim, is_modified, is_valid, kept_first, l1i_lines_at, l2_victim, letter_at, looked_up, marked_dirty, met_at, on_l1i, on_l2, on_others, on_own, other_after, others_changed, outcome_by, own_after, own_victim, recalled, some_other}
use Rattle.shard.specs.Leaving.{is_this, l1_leaves, l1i_leaves, l2_leaves, leaving_of, line_in_way}
use Rattle.shard.specs.LeavingLaws.{CopiesBehind, InstructionsBehind}
use Rattle.shard.specs.StandsFor.{AreCoherent, HaveRoomForLines, HaveSets}
use Rattle.shard.proofs.Coherent.{absent, holds_made, missed}
use Rattle.shard.proofs.CoherentApart.{holds_on_others, holds_on_own}
use Rattle.shard.proofs.CoherentInstructions.{holds_fetched, holds_instructions_other, holds_instructions_same, holds_looked_up, holds_recalled, holds_used}
use Rattle.shard.proofs.CoherentLetters.{letter_fetched, letter_first_core, letter_first_line, letter_first_same, letter_instructions, letter_looked_up, letter_on_l1i, letter_others_other, letter_others_own, letter_others_same, letter_recalled_other, letter_recalled_same, letter_taken_core, letter_taken_line, letter_taken_room, letter_taken_same, letter_taken_victim}
use Rattle.shard.proofs.CoherentPlaced.{Keeps, dirtied_keeps, l2_step, others_keeps}
use Rattle.shard.proofs.CoherentRows.{IsReady, dirtied_letter, found, room_after}
use Rattle.shard.proofs.CoherentSets.{fit_of_sets, placed_of_sets, sets_of_fit}
use Rattle.shard.proofs.Fits.{dirtied, looked_fits}
use Rattle.shard.proofs.InstructionsTaken.{instruction_taken}
use Rattle.shard.proofs.Kept.{l2_same}

-- ---- a line comes into a core's L1
module _ (core line : ℕ) (letter : Letter) (d : Caches) (sets : HaveSets d) (room : HaveRoomForLines d) (known : core < length d.l1) (valid : is_valid letter ≡ true) (k l : ℕ) where
  abbrev taken : Bool
  taken = is_valid (letter_at (filled_into_l1 core line letter d) k l)

  some_sets : 1 ≤ length (get_or d.l1 core [])
  some_sets = room.l1_sets core known

  off_line : k ≡ core → l ≢ line → (v : Option (ℕ × Letter)) → own_victim d core line ≡ v → taken ≡ cond (is_this (line_in_way v) l) false (is_valid (letter_at d k l))
  off_line same off None e = ap is_valid (letter_taken_room core line letter d room.l1_ways k l e off)
  off_line same off (Some w) e =
      elim (cases_eq w.0 l) as (λ _. taken ≡ cond (eqb w.0 l) false (is_valid (letter_at d k l))) [
        | inl is ↦
            rw (eq-eqb w.0 l is)
            (ap (λ (a : ℕ). is_valid (letter_at (filled_into_l1 core line letter d) a l)) same
            ∙ (ap (λ (x : ℕ). is_valid (letter_at (filled_into_l1 core line letter d) core x)) (sym is)
            ∙ ap is_valid (letter_taken_victim core line letter d room.l1_ways w sets known some_sets e (λ at. off (sym is ∙ at)))))
        | inr stays ↦ rw (ne_eqb w.0 l stays) (ap is_valid (letter_taken_line core line letter d room.l1_ways k l w sets e off (λ at. stays (sym at))))
      ]

  copy_taken : taken ≡ cond (eqb k core && eqb l line) true (cond (eqb k core && is_this (line_in_way (own_victim d core line)) l) false (is_valid (letter_at d k l)))
  copy_taken =
      let Goal : Type 0 = taken ≡ cond (eqb k core && eqb l line) true (cond (eqb k core && is_this (line_in_way (own_victim d core line)) l) false (is_valid (letter_at d k l))) in
      elim (cases_eq k core) as (λ _. Goal) [
        | inl same ↦
            elim (cases_eq l line) as (λ _. Goal) [
              | inl here ↦
                  rw (eq-eqb k core same, eq-eqb l line here)
                  (ap (λ (a : ℕ). is_valid (letter_at (filled_into_l1 core line letter d) a l)) same
                  ∙ (ap (λ (x : ℕ). is_valid (letter_at (filled_into_l1 core line letter d) core x)) here
                  ∙ (ap is_valid (letter_taken_same core line letter d room.l1_ways known some_sets) ∙ valid)))
              | inr off ↦ rw (eq-eqb k core same, ne_eqb l line off) (off_line same off (own_victim d core line) refl)
            ]
        | inr apart ↦ rw (ne_eqb k core apart) (ap is_valid (letter_taken_core core line letter d room.l1_ways k l apart))
      ]

-- ---- tests in another order
then_room : (own shared written was : Bool) → (written ≡ true → was ≡ false) → cond own false (cond shared false was) ≡ cond shared false (cond own false (cond written false was))
then_room true true written was h = refl
then_room true false written was h = refl
then_room false true written was h = refl
then_room false false true was h = h refl
then_room false false false was h = refl

then_both : (own shared was : Bool) → cond own false (cond shared false was) ≡ cond shared false (cond own false was)
then_both true true was = refl
then_both true false was = refl
then_both false true was = refl
then_both false false was = refl

none_written : (a b was : Bool) → cond (a && b && false) false was ≡ was
none_written true true was = refl
none_written true false was = refl
none_written false b was = refl

read_valid : (x : Letter) → is_valid (other_after false x) ≡ is_valid x
read_valid M = refl
read_valid E = refl
read_valid S = refl
read_valid I = refl

other_lost : (write : Bool) → other_after write I ≡ I
other_lost true = refl
other_lost false = refl

other_valid : (write : Bool) (x : Letter) → is_valid (other_after write x) ≡ cond write false (is_valid x)
other_valid true x = refl
other_valid false x = read_valid x

valid_after : (write has : Bool) → is_valid (own_after write I has) ≡ true
valid_after true has = refl
valid_after false true = refl
valid_after false false = refl

all_tests : (a b c : Bool) → (a && b && c) ≡ true → (a ≡ true) × (b ≡ true) × (c ≡ true)
all_tests true true true h = (refl, refl, refl)
all_tests true true false h = absurd cc
all_tests true false c h = absurd cc
all_tests false b c h = absurd cc

module _ (c : Caches) (core line : ℕ) (h : AreCoherent c) (room : HaveRoomForLines c) (known : core < length c.l1) (k l : ℕ) where
  abbrev was : Bool
  was = is_valid (letter_at c k l)

  -- what is behind an access of a line, of which these leave
  abbrev behind : (write : Bool) → (own shared : Option ℕ) → Bool
  behind write own shared =
      cond (eqb k core && eqb l line) true
      (cond (is_this shared l) false
      (cond (eqb k core && is_this own l) false
      (cond (not (eqb k core) && eqb l line && write) false was)))

  -- where the core has it, and no other core's copy changes
  written_alone : (write : Bool) → (write ≡ true → is_alone (letter_at c core line) ≡ true) → k ≢ core → is_valid (letter_at c k line) ≡ cond write false (is_valid (letter_at c k line))
  written_alone true alone apart = ap is_valid (h.single core k line apart (alone refl))
  written_alone false alone apart = refl

  kept : (letter : Letter) → is_valid letter ≡ true → (write : Bool) → (write ≡ true → is_alone (letter_at c core line) ≡ true)
      → is_valid (letter_at (kept_first core line letter c) k l) ≡ behind write None None
  kept letter valid write alone =
      let f : ℕ → ℕ → Bool = λ a x. is_valid (letter_at (kept_first core line letter c) a x) in
      elim (cases_eq k core) as (λ _. f k l ≡ behind write None None) [
        | inl same ↦
            elim (cases_eq l line) as (λ _. f k l ≡ behind write None None) [
              | inl here ↦
                  rw (eq-eqb k core same, eq-eqb l line here)
                  (ap (λ (a : ℕ). f a l) same ∙ (ap (f core) here ∙ (ap is_valid (letter_first_same core line letter c known (room.l1_sets core known)) ∙ valid)))
              | inr off ↦ rw (eq-eqb k core same, ne_eqb l line off) (ap is_valid (letter_first_line core line letter c k l off))
            ]
        | inr apart ↦
            elim (cases_eq l line) as (λ _. f k l ≡ behind write None None) [
              | inl here ↦
                  rw (ne_eqb k core apart, eq-eqb l line here)
                  (ap is_valid (letter_first_core core line letter c k l apart)
                  ∙ subst (λ (x : ℕ). is_valid (letter_at c k x) ≡ cond write false (is_valid (letter_at c k x))) (sym here) (written_alone write alone apart))
              | inr off ↦ rw (ne_eqb k core apart, ne_eqb l line off) (ap is_valid (letter_first_line core line letter c k l off))
            ]
      ]

  -- the L2 has the line: the other cores' copies of it change
  others_of : (write : Bool) (d : Caches) → HaveSets d → ((a x : ℕ) → letter_at d a x ≡ letter_at c a x)
      → is_valid (letter_at (others_changed (other_after write) core line d) k l) ≡ cond (not (eqb k core) && eqb l line && write) false was
  others_of write d sets same =
      let f : ℕ → ℕ → Bool = λ a x. is_valid (letter_at (others_changed (other_after write) core line d) a x) in
      let Goal : Type 0 = f k l ≡ cond (not (eqb k core) && eqb l line && write) false was in
      elim (cases_eq k core) as (λ _. Goal) [
        | inl own ↦
            rw (eq-eqb k core own)
            (ap (λ (a : ℕ). f a l) own
            ∙ (ap is_valid (letter_others_own (other_after write) core line d l ∙ same core l)
            ∙ ap (λ (a : ℕ). is_valid (letter_at c a l)) (sym own)))
        | inr apart ↦
            elim (cases_eq l line) as (λ _. Goal) [
              | inl here ↦
                  rw (ne_eqb k core apart, eq-eqb l line here)
                  (ap (f k) here
                  ∙ (ap is_valid (letter_others_same (other_after write) core line d k apart (other_lost write) sets ∙ ap (other_after write) (same k line))
                  ∙ (other_valid write (letter_at c k line)
                  ∙ ap (λ (x : ℕ). cond write false (is_valid (letter_at c k x))) (sym here))))
              | inr off ↦ rw (ne_eqb k core apart, ne_eqb l line off) (ap is_valid (letter_others_other (other_after write) core line d k l off ∙ same k l))
            ]
      ]

  looked_sets : HaveSets (looked_up line c)
  looked_sets = sets_of_fit (looked_up line c) (looked_fits line c (fit_of_sets c h.sets)) ((l2_step (Upgrade false) line c).placed (placed_of_sets c h.sets))

  marked_sets : (b : Bool) → HaveSets (cond b (marked_dirty line (looked_up line c)) (looked_up line c))
  marked_sets b =
      let first : Caches = looked_up line c in
      sets_of_fit (cond b (marked_dirty line first) first) (dirtied b line first (fit_of_sets first looked_sets)) ((dirtied_keeps b line first).placed (placed_of_sets first looked_sets))

  upgraded : is_valid (letter_at (kept_first core line M (others_changed (other_after true) core line (looked_up line c))) k l) ≡ behind true None None
  upgraded =
      let first : Caches = looked_up line c in
      let d : Caches = others_changed (other_after true) core line first in
      let keeps : Keeps c first = l2_step (Upgrade false) line c in
      let more : Keeps first d = others_keeps (other_after true) core line first in
      let there : core < length d.l1 = omega (arith, keeps.cores, more.cores, known) in
      let some : 1 ≤ length (get_or d.l1 core []) = omega (arith, keeps.l1_sets core, more.l1_sets core, room.l1_sets core known) in
      let f : ℕ → ℕ → Bool = λ a x. is_valid (letter_at (kept_first core line M d) a x) in
      let others : is_valid (letter_at d k l) ≡ cond (not (eqb k core) && eqb l line && true) false was = others_of true first looked_sets (letter_looked_up line c) in
      elim (cases_eq k core) as (λ _. f k l ≡ behind true None None) [
        | inl same ↦
            elim (cases_eq l line) as (λ _. f k l ≡ behind true None None) [
              | inl here ↦
                  rw (eq-eqb k core same, eq-eqb l line here)
                  (ap (λ (a : ℕ). f a l) same ∙ (ap (f core) here ∙ ap is_valid (letter_first_same core line M d there some)))
              | inr off ↦
                  let at = rw (eq-eqb k core same) at others in
                  rw (eq-eqb k core same, ne_eqb l line off) (ap is_valid (letter_first_line core line M d k l off) ∙ at)
            ]
        | inr apart ↦
            let at = rw (ne_eqb k core apart) at others in
            rw (ne_eqb k core apart) (ap is_valid (letter_first_core core line M d k l apart) ∙ at)
      ]

  -- ---- the L2's line leaves
  evicted : (v : Option (ℕ × Bool)) → is_valid (letter_at (copies_evicted v c) k l) ≡ cond (is_this (line_in_way v) l) false was
  evicted None = refl
  evicted (Some w) =
      let first : Caches = recalled w.0 c in
      ap is_valid (letter_instructions w.0 first k l)
      ∙ (elim (cases_eq w.0 l) as (λ _. is_valid (letter_at first k l) ≡ cond (eqb w.0 l) false was) [
        | inl is ↦ rw (eq-eqb w.0 l is) (ap is_valid (subst (λ (x : ℕ). letter_at first k x ≡ I) is (letter_recalled_same w.0 c k h.sets)))
        | inr stays ↦ rw (ne_eqb w.0 l stays) (ap is_valid (letter_recalled_other w.0 c k l (λ at. stays (sym at))))
      ])

  instructions_evicted : (v : Option (ℕ × Bool)) → fetch_holds (copies_evicted v c) k l ≡ cond (is_this (line_in_way v) l) false (fetch_holds c k l)
  instructions_evicted None = refl
  instructions_evicted (Some w) =
      let first : Caches = recalled w.0 c in
      elim (cases_eq w.0 l) as (λ _. fetch_holds (copies_evicted (Some w) c) k l ≡ cond (eqb w.0 l) false (fetch_holds c k l)) [
        | inl is ↦ rw (eq-eqb w.0 l is) (subst (λ (x : ℕ). fetch_holds (copies_evicted (Some w) c) k x ≡ false) is (holds_made w.0 c k w.0 ∙ holds_instructions_same w.0 c k h.sets))
        | inr stays ↦ rw (ne_eqb w.0 l stays) (holds_instructions_other w.0 first k l (λ at. stays (sym at)) ∙ holds_recalled w.0 c k l)
      ]

  on_l2_letter : (outcome : Outcome) → is_valid (letter_at (on_l2 outcome line c) k l) ≡ cond (is_this (l2_leaves outcome c line) l) false was
  on_l2_letter Hit = refl
  on_l2_letter (Upgrade others) = ap is_valid (letter_looked_up line c k l)
  on_l2_letter (L2 others) = ap is_valid (letter_looked_up line c k l)
  on_l2_letter (Miss dirty) = ap is_valid (letter_fetched line (copies_evicted (l2_victim c line) c) k l) ∙ evicted (l2_victim c line)

  on_l2_holds : (outcome : Outcome) → fetch_holds (on_l2 outcome line c) k l ≡ cond (is_this (l2_leaves outcome c line) l) false (fetch_holds c k l)
  on_l2_holds Hit = refl
  on_l2_holds (Upgrade others) = holds_looked_up line c k l
  on_l2_holds (L2 others) = holds_looked_up line c k l
  on_l2_holds (Miss dirty) = holds_fetched line (copies_evicted (l2_victim c line) c) k l ∙ instructions_evicted (l2_victim c line)

  -- ---- the core does not have the line
  was_found : (write others : Bool) → is_some (dirty_at c line) ≡ true
      → let d = on_others (L2 others) write core line (on_l2 (L2 others) line c) in
      is_valid (letter_at (filled_into_l1 core line (own_after write I (some_other is_valid c core line)) d) k l) ≡ behind write (line_in_way (own_victim d core line)) None
  was_found write others there =
      let has : Bool = some_other is_valid c core line in
      let first : Caches = looked_up line c in
      let b : Bool = some_other is_modified first core line in
      let d : Caches = others_changed (other_after write) core line (cond b (marked_dirty line first) first) in
      let ready : IsReady c d core line (own_after write I has) = found c core line h known room write others there in
      copy_taken core line (own_after write I has) d ready.sets ready.room ready.known (valid_after write has) k l
      ∙ ap (λ (x : Bool). cond (eqb k core && eqb l line) true (cond (eqb k core && is_this (line_in_way (own_victim d core line)) l) false x))
      (others_of write (cond b (marked_dirty line first) first) (marked_sets b) (λ a x. dirtied_letter b line first a x ∙ letter_looked_up line c a x))

  was_missed : (write : Bool) → is_some (dirty_at c line) ≡ false
      → let d = filled_into_l2 line (copies_evicted (l2_victim c line) c) in
      is_valid (letter_at (filled_into_l1 core line (own_after write I (some_other is_valid c core line)) d) k l) ≡ behind write (line_in_way (own_victim d core line)) (line_in_way (l2_victim c line))
  was_missed write out =
      let has : Bool = some_other is_valid c core line in
      let v : Option (ℕ × Bool) = l2_victim c line in
      let d : Caches = filled_into_l2 line (copies_evicted v c) in
      let own : Bool = eqb k core && is_this (line_in_way (own_victim d core line)) l in
      let written : Bool = not (eqb k core) && eqb l line && write in
      let ready : IsReady c d core line (own_after write I has) = missed c core line h known room (own_after write I has) out in
      let none : written ≡ true → was ≡ false = λ all. let tests = all_tests (not (eqb k core)) (eqb l line) write all in ap is_valid (subst (λ (x : ℕ). letter_at c k x ≡ I) (sym (eqb-true l line tests.1)) (absent c line h out k)) in
      copy_taken core line (own_after write I has) d ready.sets ready.room ready.known (valid_after write has) k l
      ∙ (ap (λ (x : Bool). cond (eqb k core && eqb l line) true (cond own false x)) (ap is_valid (letter_fetched line (copies_evicted v c) k l) ∙ evicted v)
      ∙ ap (λ (x : Bool). cond (eqb k core && eqb l line) true x) (then_room own (is_this (line_in_way v) l) written was none))

  -- ---- a read or a write, by the table
  abbrev after_row : (own : Letter) → (write in_l2 alone dirty : Bool) → Caches
  after_row own write in_l2 alone dirty =
      let has = some_other is_valid c core line in
      let outcome = outcome_by write own in_l2 alone has dirty in
      on_own own core line (own_after write own has) (on_others outcome write core line (on_l2 outcome line c))

  abbrev leaving_row : (own : Letter) → (write in_l2 alone dirty : Bool) → Bool
  leaving_row own write in_l2 alone dirty =
      let outcome = outcome_by write own in_l2 alone (some_other is_valid c core line) dirty in
      behind write (l1_leaves own (on_others outcome write core line (on_l2 outcome line c)) core line) (l2_leaves outcome c line)

  by_row : (own : Letter) → letter_at c core line ≡ own → (write in_l2 alone dirty : Bool) → is_some (dirty_at c line) ≡ in_l2
      → is_valid (letter_at (after_row own write in_l2 alone dirty) k l) ≡ leaving_row own write in_l2 alone dirty
  by_row M e true in_l2 alone dirty i = kept M refl true (λ _. rw e refl)
  by_row M e false in_l2 alone dirty i = kept M refl false (λ bad. absurd cc)
  by_row E e true in_l2 alone dirty i = kept M refl true (λ _. rw e refl)
  by_row E e false in_l2 alone dirty i = kept E refl false (λ bad. absurd cc)
  by_row S e true in_l2 alone dirty i = upgraded
  by_row S e false in_l2 alone dirty i = kept S refl false (λ bad. absurd cc)
  by_row I e true true alone dirty i = was_found true (some_other is_valid c core line) i
  by_row I e false true alone dirty i = was_found false alone i
  by_row I e true false alone dirty i = was_missed true i
  by_row I e false false alone dirty i = was_missed false i

  abbrev data_behind : (write : Bool) → Bool
  data_behind write =
      behind write (l1_leaves (letter_at c core line) (on_others (met_at c core line write) write core line (on_l2 (met_at c core line write) line c)) core line)
      (l2_leaves (met_at c core line write) c line)

  data_is : (write : Bool) → is_valid (letter_at (after_at c core line write) k l) ≡ data_behind write
  data_is write = by_row (letter_at c core line) refl write (is_some (dirty_at c line)) (some_other is_alone c core line) (is_dirty_victim c (l2_victim c line)) refl

  -- instructions stay where they are, but for the L2's line
  abbrev gone_with_l2 : Outcome → Bool → Bool
  gone_with_l2 outcome before = cond (is_this (l2_leaves outcome c line) l) false before

  data_holds : (write : Bool) → fetch_holds (after_at c core line write) k l ≡ gone_with_l2 (met_at c core line write) (fetch_holds c k l)
  data_holds write =
      let own : Letter = letter_at c core line in
      let outcome : Outcome = met_at c core line write in
      let first : Caches = on_l2 outcome line c in
      holds_on_own own core line (own_after write own (some_other is_valid c core line)) (on_others outcome write core line first) k l
      ∙ (holds_on_others outcome write core line first k l
      ∙ on_l2_holds outcome)

  -- ---- a fetch
  fetch_is : is_valid (letter_at (after_fetch_at c core line) k l)
      ≡ gone_with_l2 (fetch_met_at c core line) (cond (not (eqb k core) && eqb l line && false) false was)
  fetch_is =
      ap is_valid (letter_on_l1i (fetch_holds c core line) core line (on_l2 (fetch_met_at c core line) line c) k l)
      ∙ (on_l2_letter (fetch_met_at c core line)
      ∙ ap (gone_with_l2 (fetch_met_at c core line)) (sym (none_written (not (eqb k core)) (eqb l line) was)))

  -- what is behind a fetch, of which these leave
  abbrev fetched_behind : (own shared : Option ℕ) → Bool
  fetched_behind own shared =
      cond (eqb k core && eqb l line) true (cond (is_this shared l) false (cond (eqb k core && is_this own l) false (fetch_holds c k l)))

  -- where the core has it
  used_there : fetch_holds c core line ≡ true → fetch_holds c k l ≡ fetched_behind None None
  used_there held =
      elim (cases_eq k core) as (λ _. fetch_holds c k l ≡ fetched_behind None None) [
        | inl same ↦
            elim (cases_eq l line) as (λ _. fetch_holds c k l ≡ fetched_behind None None) [
              | inl here ↦
                  rw (eq-eqb k core same, eq-eqb l line here) (ap (λ (a : ℕ). fetch_holds c a l) same ∙ (ap (fetch_holds c core) here ∙ held))
              | inr off ↦ rw (eq-eqb k core same, ne_eqb l line off) refl
            ]
        | inr apart ↦ rw (ne_eqb k core apart) refl
      ]

  module _ (fetches : core < length c.l1i) where
    has_l1i : nat_lt 0 (length c.l1i) ≡ true
    has_l1i = lt-ltb 0 (length c.l1i) (omega (arith, fetches))

    -- and where it comes in
    comes_in : (outcome : Outcome) → HaveSets (on_l2 outcome line c)
        → let d = on_l2 outcome line c in
        fetch_holds (filled_into_l1i core line d) k l ≡ fetched_behind (line_in_way (victim_of d.l1i_ways (l1i_lines_at d core line))) (l2_leaves outcome c line)
    comes_in outcome sets =
        let d : Caches = on_l2 outcome line c in
        let keeps : Keeps c d = l2_step outcome line c in
        let some : HaveRoomForLines d = room_after c d (l2_same outcome line c) keeps room in
        let there : core < length d.l1i = omega (arith, keeps.fetchers, fetches) in
        let have : nat_lt 0 (length d.l1i) ≡ true = ap (nat_lt 0) keeps.fetchers ∙ has_l1i in
        let own : Bool = eqb k core && is_this (line_in_way (victim_of d.l1i_ways (l1i_lines_at d core line))) l in
        instruction_taken core line d (some.l1i_ways have) sets there (some.l1i_sets core there) k l
        ∙ (ap (λ (x : Bool). cond (eqb k core && eqb l line) true (cond own false x)) (on_l2_holds outcome)
        ∙ ap (λ (x : Bool). cond (eqb k core && eqb l line) true x) (then_both own (is_this (l2_leaves outcome c line) l) (fetch_holds c k l)))

    by_fetch : (held : Bool) → fetch_holds c core line ≡ held → (in_l2 dirty : Bool) → is_some (dirty_at c line) ≡ in_l2
        → let outcome = fetch_outcome_by held in_l2 dirty in
        fetch_holds (on_l1i held core line (on_l2 outcome line c)) k l ≡ fetched_behind (l1i_leaves held (on_l2 outcome line c) core line) (l2_leaves outcome c line)
    by_fetch true e in_l2 dirty i = holds_used core line c k l ∙ used_there e
    by_fetch false e true dirty i = comes_in (L2 false) looked_sets
    by_fetch false e false dirty i = comes_in (Miss dirty) (missed c core line h known room M i).sets

    fetch_holds_is : fetch_holds (after_fetch_at c core line) k l
        ≡ fetched_behind (l1i_leaves (fetch_holds c core line) (on_l2 (fetch_met_at c core line) line c) core line) (l2_leaves (fetch_met_at c core line) c line)
    fetch_holds_is = by_fetch (fetch_holds c core line) refl (is_some (dirty_at c line)) (is_dirty_victim c (l2_victim c line)) refl

pub copies_behind : CopiesBehind
unfolding caches_after leaving_of
copies_behind c core (Load width addr) h room known k l = data_is c core (line_at addr) h room known k l false
copies_behind c core (Store width addr value) h room known k l = data_is c core (line_at addr) h room known k l true
copies_behind c core (Lr width addr) h room known k l = data_is c core (line_at addr) h room known k l false
copies_behind c core (Sc width paired addr value) h room known k l = data_is c core (line_at addr) h room known k l true
copies_behind c core (Amo width op addr value) h room known k l = data_is c core (line_at addr) h room known k l true
copies_behind c core (Fetch addr) h room known k l = fetch_is c core (line_at addr) h room known k l

pub instructions_are_behind : InstructionsBehind
unfolding caches_after leaving_of
instructions_are_behind c core (Load width addr) h room known fetches k l = data_holds c core (line_at addr) h room known k l false
instructions_are_behind c core (Store width addr value) h room known fetches k l = data_holds c core (line_at addr) h room known k l true
instructions_are_behind c core (Lr width addr) h room known fetches k l = data_holds c core (line_at addr) h room known k l false
instructions_are_behind c core (Sc width paired addr value) h room known fetches k l = data_holds c core (line_at addr) h room known k l true
instructions_are_behind c core (Amo width op addr value) h room known fetches k l = data_holds c core (line_at addr) h room known k l true
instructions_are_behind c core (Fetch addr) h room known fetches k l = fetch_holds_is c core (line_at addr) h room known k l (fetches refl)
