-- Every access of a core keeps the caches coherent.
use Rattle.std.proofs.Common.{◌≡◌, ◌≢◌, ℕ, ◌<◌, Bool, true, false, cond, length, Option, Some, None, is_some, refl, sym, ◌∙◌, subst, arith, inl, inr, ◌⊎◌}
use Rattle.std.proofs.lemmas.Bool.{cases_eq}
use Rattle.zs_num.specs.Request.{is_fetch, line_of}
use Rattle.zs_num.specs.declared.entry.Outcome.TheVariants.{L2, Miss, Upgrade}
use Rattle.zs_num.specs.declared.request.Request.{Request}
use Rattle.cache_set.specs.declared.letter.Letter.{Letter}
use Rattle.cache_set.specs.declared.letter.Letter.TheVariants.{M, E, S, I}
use Rattle.shard.specs.Coherence.{Caches, after_at, after_fetch_at, caches_after, dirty_at, fetch_holds, fetch_outcome_by, instructions_recalled, looked_up, on_l1i, is_alone, is_dirty_victim, is_valid, is_write, l2_victim, letter_at, on_l2, on_others, on_own, outcome_by, own_after, recalled, copies_evicted, some_other, filled_into_l2}
use Rattle.shard.specs.Laws.{CoherentStays}
use Rattle.shard.specs.StandsFor.{AreCoherent, HaveRoomForLines, HaveSets}
use Rattle.shard.proofs.CoherentDirty.{dirty_fetched_line, dirty_fetched_room, dirty_fetched_same, dirty_copies_evicted, dirty_looked_up, dirty_on_l1i}
use Rattle.shard.proofs.CoherentInstructions.{holds_fetched, holds_filled_other, holds_instructions_other, holds_instructions_same, holds_looked_up, holds_recalled, holds_used}
use Rattle.shard.proofs.CoherentLetters.{letter_fetched, letter_instructions, letter_looked_up, letter_on_l1i, letter_recalled_other, letter_recalled_same}
use Rattle.shard.proofs.CoherentPlaced.{Keeps, access_keeps, l2_step, room_keeps}
use Rattle.shard.proofs.CoherentSets.{fit_of_sets, placed_of_sets, sets_of_fit}
use Rattle.shard.proofs.Fits.{Fits, access_fits, fetched_fits, looked_fits, room_fits}
use Rattle.shard.proofs.L2Laws.{L2Laws}
use Rattle.shard.proofs.Kept.{access_same, l2_same, room_same}
use Rattle.shard.proofs.CoherentSettled.{Settles, held_or_lost, lost, lost_alone, settled, single_by}
use Rattle.shard.proofs.CoherentRows.{IsReady, comes, found, hit, room_after, upgrade}

-- ---- a line that the L2 does not have
pub absent : (c : Caches) (line : ℕ) → AreCoherent c → is_some (dirty_at c line) ≡ false → (a : ℕ) → letter_at c a line ≡ I
absent c line h out a =
    elim (held_or_lost (letter_at c a line)) as (λ _. letter_at c a line ≡ I)
    [ inl held ↦ let bad : true ≡ false = sym (h.inclusive a line held) ∙ out in absurd cc | inr e ↦ e ]

none_from : (o : Option Bool) → is_some o ≡ false → o ≡ None
none_from None h = refl
none_from (Some b) h = absurd cc

made_letter : (victim : Option (ℕ × Bool)) (c : Caches) → HaveSets c → (a l : ℕ) → (letter_at (copies_evicted victim c) a l ≡ letter_at c a l) ⊎ (letter_at (copies_evicted victim c) a l ≡ I)
made_letter None c h a l = inl refl
made_letter (Some w) c h a l =
    let same : letter_at (copies_evicted (Some w) c) a l ≡ letter_at (recalled w.0 c) a l = letter_instructions w.0 (recalled w.0 c) a l in
    elim (cases_eq l w.0) as (λ _. (letter_at (copies_evicted (Some w) c) a l ≡ letter_at c a l) ⊎ (letter_at (copies_evicted (Some w) c) a l ≡ I)) [
      | inl e ↦ inr (same ∙ rw e (letter_recalled_same w.0 c a h))
      | inr e ↦ inl (same ∙ letter_recalled_other w.0 c a l e)
    ]

pub made_victim : (victim : Option (ℕ × Bool)) (c : Caches) (line : ℕ) → l2_victim (copies_evicted victim c) line ≡ l2_victim c line
unfolding recalled instructions_recalled
made_victim None c line = refl
made_victim (Some w) c line = refl

pub holds_made : (v : ℕ) (c : Caches) (core l : ℕ) → fetch_holds (instructions_recalled v (recalled v c)) core l ≡ fetch_holds (instructions_recalled v c) core l
unfolding fetch_holds recalled instructions_recalled
holds_made v c core l = refl

module _ (c : Caches) (core line : ℕ) (h : AreCoherent c) (known : core < length c.l1) (room : HaveRoomForLines c) where
  -- a line that a core still has stays in the L2
  fetched_lines : (victim : Option (ℕ × Bool)) → l2_victim c line ≡ victim → HaveSets (copies_evicted victim c) → HaveRoomForLines (copies_evicted victim c) → (a l : ℕ) → l ≢ line → is_valid (letter_at (filled_into_l2 line (copies_evicted victim c)) a l) ≡ true → is_some (dirty_at (filled_into_l2 line (copies_evicted victim c)) l) ≡ true
  fetched_lines None e sets some a l apart held =
      rw (dirty_fetched_room line c room.l2_ways l e apart) (h.inclusive a l (subst (λ (x : Letter). is_valid x ≡ true) (letter_fetched line c a l) held))
  fetched_lines (Some w) e sets some a l apart held =
      let first : Caches = recalled w.0 c in
      let made : Caches = instructions_recalled w.0 first in
      let still : is_valid (letter_at first a l) ≡ true
      = subst (λ (x : Letter). is_valid x ≡ true) (letter_fetched line made a l ∙ letter_instructions w.0 first a l) held in
      elim (cases_eq l w.0) as (λ _. is_some (dirty_at (filled_into_l2 line made) l) ≡ true) [
        | inl same ↦ absurd (lost (letter_at first a l) (subst (λ (x : ℕ). letter_at first a x ≡ I) (sym same) (letter_recalled_same w.0 c a h.sets)) still)
        | inr stays ↦
            rw (dirty_fetched_line line made some.l2_ways l w sets (made_victim (Some w) c line ∙ e) apart stays, dirty_copies_evicted (Some w) c l)
            (h.inclusive a l (subst (λ (x : Letter). is_valid x ≡ true) (letter_recalled_other w.0 c a l stays) still))
      ]

  -- and so does one that an instruction cache still has
  fetched_instructions : (victim : Option (ℕ × Bool)) → l2_victim c line ≡ victim → HaveSets (copies_evicted victim c) → HaveRoomForLines (copies_evicted victim c) → (a l : ℕ) → l ≢ line → fetch_holds (filled_into_l2 line (copies_evicted victim c)) a l ≡ true → is_some (dirty_at (filled_into_l2 line (copies_evicted victim c)) l) ≡ true
  fetched_instructions None e sets some a l apart held =
      rw (dirty_fetched_room line c room.l2_ways l e apart) (h.l1i_inclusive a l (sym (holds_fetched line c a l) ∙ held))
  fetched_instructions (Some w) e sets some a l apart held =
      let first : Caches = recalled w.0 c in
      let made : Caches = instructions_recalled w.0 first in
      let still : fetch_holds made a l ≡ true = sym (holds_fetched line made a l) ∙ held in
      elim (cases_eq l w.0) as (λ _. is_some (dirty_at (filled_into_l2 line made) l) ≡ true) [
        | inl same ↦
            let gone : fetch_holds made a l ≡ false
            = subst (λ (x : ℕ). fetch_holds made a x ≡ false) (sym same) (holds_made w.0 c a w.0 ∙ holds_instructions_same w.0 c a h.sets) in
            let bad : true ≡ false = sym still ∙ gone in
            absurd cc
        | inr stays ↦
            rw (dirty_fetched_line line made some.l2_ways l w sets (made_victim (Some w) c line ∙ e) apart stays, dirty_copies_evicted (Some w) c l)
            (h.l1i_inclusive a l (sym (holds_recalled w.0 c a l) ∙ sym (holds_instructions_other w.0 first a l stays) ∙ still))
      ]

  pub missed : (letter : Letter) → is_some (dirty_at c line) ≡ false → IsReady c (filled_into_l2 line (copies_evicted (l2_victim c line) c)) core line letter
  missed letter out =
      let victim : Option (ℕ × Bool) = l2_victim c line in
      let made : Caches = copies_evicted victim c in
      let d : Caches = filled_into_l2 line made in
      let fit : Fits made = room_fits victim c (fit_of_sets c h.sets) in
      let keeps : Keeps c made = room_keeps victim c in
      let sets : HaveSets made = sets_of_fit made fit (keeps.placed (placed_of_sets c h.sets)) in
      let some : HaveRoomForLines made = room_after c made (room_same victim c) keeps room in
      let all : Keeps c d = l2_step (Miss false) line c in
      let none : dirty_at made line ≡ None = dirty_copies_evicted victim c line ∙ none_from (dirty_at c line) out in
      let letters : (a l : ℕ) → (letter_at d a l ≡ letter_at c a l) ⊎ (letter_at d a l ≡ I)
      = λ a l. subst (λ (x : Letter). (x ≡ letter_at c a l) ⊎ (x ≡ I)) (sym (letter_fetched line made a l)) (made_letter victim c h.sets a l) in
      let gone : (a : ℕ) → letter_at d a line ≡ I
      = λ a. elim (letters a line) as (λ _. letter_at d a line ≡ I) [ inl same ↦ same ∙ absent c line h out a | inr e ↦ e ] in
      record {
        sets = sets_of_fit d (fetched_fits line made none fit) (all.placed (placed_of_sets c h.sets));
        room = room_after c d (l2_same (Miss false) line c) all room;
        known = omega (arith, all.cores);
        others = λ a l apart. letters a l;
        alone = λ k a apart. gone a;
        shared = λ a apart. lost_alone (letter_at d a line) (gone a);
        lines = fetched_lines victim refl sets some;
        fetched = fetched_instructions victim refl sets some;
        there = rw (dirty_fetched_same line made some.l2_ways some.l2_sets) refl;
      }

  -- ---- one access, by the table
  abbrev after_row : (own : Letter) (write in_l2 alone dirty : Bool) → Caches
  after_row own write in_l2 alone dirty =
      let has = some_other is_valid c core line in
      let outcome = outcome_by write own in_l2 alone has dirty in
      on_own own core line (own_after write own has) (on_others outcome write core line (on_l2 outcome line c))

  row_settles : (own : Letter) → letter_at c core line ≡ own → (write in_l2 alone dirty : Bool) → is_some (dirty_at c line) ≡ in_l2 → Settles c (after_row own write in_l2 alone dirty) line
  row_settles M e true in_l2 alone dirty i = hit c core line h known room M (rw e refl) (λ k. rw e refl)
  row_settles M e false in_l2 alone dirty i = hit c core line h known room M (rw e refl) (λ k. rw e refl)
  row_settles E e true in_l2 alone dirty i = hit c core line h known room M (rw e refl) (λ k. rw e refl)
  row_settles E e false in_l2 alone dirty i = hit c core line h known room E (rw e refl) (λ k. rw e refl)
  row_settles S e true in_l2 alone dirty i = upgrade c core line h known room (rw e refl)
  row_settles S e false in_l2 alone dirty i = hit c core line h known room S (rw e refl) (λ k. absurd cc)
  row_settles I e true true alone dirty i =
      comes c (on_others (L2 (some_other is_valid c core line)) true core line (on_l2 (L2 (some_other is_valid c core line)) line c)) core line M (found c core line h known room true (some_other is_valid c core line) i)
  row_settles I e true false alone dirty i = comes c (filled_into_l2 line (copies_evicted (l2_victim c line) c)) core line M (missed M i)
  row_settles I e false true alone dirty i =
      let has : Bool = some_other is_valid c core line in
      comes c (on_others (L2 alone) false core line (on_l2 (L2 alone) line c)) core line (own_after false I has) (found c core line h known room false alone i)
  row_settles I e false false alone dirty i =
      let has : Bool = some_other is_valid c core line in
      comes c (filled_into_l2 line (copies_evicted (l2_victim c line) c)) core line (own_after false I has) (missed (own_after false I has) i)

  -- ---- a fetch: the letters stay, but for those of a line that the L2 evicts
  still_held : (held : Bool) (d : Caches) (a l : ℕ) → l ≢ line → fetch_holds (on_l1i held core line d) a l ≡ true → fetch_holds d a l ≡ true
  still_held true d a l apart k = sym (holds_used core line d a l) ∙ k
  still_held false d a l apart k = holds_filled_other core line d a l apart k

  on_l1i_settles : (held : Bool) (d : Caches) → Settles c d line → Settles c (on_l1i held core line d) line
  on_l1i_settles held d s = record {
    others = λ a l apart. subst (λ (x : Letter). (x ≡ letter_at c a l) ⊎ (x ≡ I)) (sym (letter_on_l1i held core line d a l)) (s.others a l apart);
    single = λ a b apart alone. letter_on_l1i held core line d b line ∙ s.single a b apart (subst (λ (x : Letter). is_alone x ≡ true) (letter_on_l1i held core line d a line) alone);
    lines = λ a l apart k. rw (dirty_on_l1i held core line d l) (s.lines a l apart (subst (λ (x : Letter). is_valid x ≡ true) (letter_on_l1i held core line d a l) k));
    fetched = λ a l apart k. rw (dirty_on_l1i held core line d l) (s.fetched a l apart (still_held held d a l apart k));
    there = rw (dirty_on_l1i held core line d line) s.there;
  }

  -- the same lines everywhere
  unchanged : (d : Caches) → ((a l : ℕ) → letter_at d a l ≡ letter_at c a l) → ((l : ℕ) → dirty_at d l ≡ dirty_at c l) → ((a l : ℕ) → fetch_holds d a l ≡ fetch_holds c a l)
      → is_some (dirty_at c line) ≡ true → Settles c d line
  unchanged d letters lines holds there = record {
    others = λ a l apart. inl (letters a l);
    single = λ a b apart alone. letters b line ∙ h.single a b line apart (subst (λ (x : Letter). is_alone x ≡ true) (letters a line) alone);
    lines = λ a l apart k. rw (lines l) (h.inclusive a l (subst (λ (x : Letter). is_valid x ≡ true) (letters a l) k));
    fetched = λ a l apart k. rw (lines l) (h.l1i_inclusive a l (sym (holds a l) ∙ k));
    there = rw (lines line) there;
  }

  ready_settles : (d : Caches) → IsReady c d core line M → Settles c d line
  ready_settles d r = record {
    others = r.others;
    single = single_by d core line (λ _ a apart. r.alone refl a apart) r.shared;
    lines = r.lines;
    fetched = r.fetched;
    there = r.there;
  }

  fetch_settles : (held : Bool) → fetch_holds c core line ≡ held → (in_l2 dirty : Bool) → is_some (dirty_at c line) ≡ in_l2 → Settles c (on_l1i held core line (on_l2 (fetch_outcome_by held in_l2 dirty) line c)) line
  fetch_settles true e in_l2 dirty i = on_l1i_settles true c (unchanged c (λ a l. refl) (λ l. refl) (λ a l. refl) (h.l1i_inclusive core line e))
  fetch_settles false e true dirty i = on_l1i_settles false (looked_up line c) (unchanged (looked_up line c) (letter_looked_up line c) (dirty_looked_up line c) (holds_looked_up line c) i)
  fetch_settles false e false dirty i =
      let d : Caches = filled_into_l2 line (copies_evicted (l2_victim c line) c) in
      on_l1i_settles false d (ready_settles d (missed M i))

access_settles : (c : Caches) (core : ℕ) (request : Request) → AreCoherent c → HaveRoomForLines c → core < length c.l1 → Settles c (caches_after c core request) (line_of request)
unfolding caches_after
access_settles c core request h room known =
    let line : ℕ = line_of request in
    let write : Bool = is_write request in
    elim (is_fetch request) as (λ b. Settles c (cond b (after_fetch_at c core line) (after_at c core line write)) line) [
      | true ↦ fetch_settles c core line h known room (fetch_holds c core line) refl (is_some (dirty_at c line)) (is_dirty_victim c (l2_victim c line)) refl
      | false ↦ row_settles c core line h known room (letter_at c core line) refl write (is_some (dirty_at c line))
          (some_other is_alone c core line) (is_dirty_victim c (l2_victim c line)) refl
    ]

pub coherent_stays : CoherentStays
coherent_stays c core request h room known =
    let d : Caches = caches_after c core request in
    let keeps : Keeps c d = access_keeps c core request in
    let sets : HaveSets d = sets_of_fit d (access_fits c core request (fit_of_sets c h.sets)) (keeps.placed (placed_of_sets c h.sets)) in
    (settled c d (line_of request) h (access_settles c core request h room known) sets, room_after c d (access_same c core request) keeps room, keeps.cores, keeps.fetchers)

-- ---- what an access does to the L2, before it does anything to an L1
pub l2_laws : L2Laws
l2_laws = record {
  looked = λ c line h room known there.
      let d : Caches = looked_up line c in
      let keeps : Keeps c d = l2_step (Upgrade false) line c in
      let sets : HaveSets d = sets_of_fit d (looked_fits line c (fit_of_sets c h.sets)) (keeps.placed (placed_of_sets c h.sets)) in
      (settled c d line h (unchanged c 0 line h known room d (letter_looked_up line c) (dirty_looked_up line c) (holds_looked_up line c) there) sets, room_after c d (l2_same (Upgrade false) line c) keeps room);
  filled = λ c line h room known out.
      let d : Caches = filled_into_l2 line (copies_evicted (l2_victim c line) c) in
      let ready : IsReady c d 0 line M = missed c 0 line h known room M out in
      (settled c d line h (ready_settles c 0 line h known room d ready) ready.sets, ready.room);
}
