-- What each row of the table leaves of coherent caches, where the L2 has the line.
use Rattle.std.proofs.Common.{◌≡◌, ◌≢◌, ℕ, ◌<◌, ◌≤◌, Bool, true, false, cond, [], length, get_or, Option, Some, None, is_some, refl, sym, ap, ◌∙◌, subst, arith, inl, inr, ◌⊎◌}
use Rattle.std.specs.Prelude.{nat_lt}
use Rattle.std.proofs.lemmas.Bool.{cases_eq}
use Rattle.zs_num.specs.declared.entry.Outcome.TheVariants.{Upgrade, L2}
use Rattle.cache_set.specs.declared.letter.Letter.{Letter}
use Rattle.cache_set.specs.declared.letter.Letter.TheVariants.{M, E, S, I}
use Rattle.shard.specs.Coherence.{Caches, dirty_at, fetch_holds, is_alone, is_valid, is_modified, kept_first, letter_at, looked_up, marked_dirty, on_l2, on_others, other_after, others_changed, own_after, own_victim, some_other, filled_into_l1}
use Rattle.shard.specs.StandsFor.{AreCoherent, HaveRoomForLines, HaveSets}
use Rattle.shard.proofs.CoherentDirty.{dirty_first, dirty_looked_up, dirty_others, dirty_taken, there_after_back, there_after_marked}
use Rattle.shard.proofs.CoherentInstructions.{holds_first, holds_looked_up, holds_marked, holds_others, holds_taken}
use Rattle.shard.proofs.CoherentLetters.{letter_first_core, letter_first_line, letter_first_same, letter_looked_up, letter_marked, letter_others_other, letter_others_same, letter_taken_core, letter_taken_line, letter_taken_room, letter_taken_same, letter_taken_victim}
use Rattle.shard.proofs.CoherentPlaced.{Keeps, dirtied_keeps, keeps_both, l2_step, others_keeps}
use Rattle.shard.proofs.CoherentSets.{fit_of_sets, placed_of_sets, sets_of_fit}
use Rattle.shard.proofs.Fits.{Fits, dirtied, looked_fits, others_fits}
use Rattle.shard.proofs.Kept.{SameShape, after_same, l2_same, on_others_same}
use Rattle.shard.proofs.CoherentSettled.{Settles, lost, lost_alone, no_other, single_by}

looked_sets : (line : ℕ) (c : Caches) → HaveSets c → HaveSets (looked_up line c)
looked_sets line c h =
    let keeps : Keeps c (looked_up line c) = l2_step (Upgrade false) line c in
    sets_of_fit (looked_up line c) (looked_fits line c (fit_of_sets c h)) (keeps.placed (placed_of_sets c h))

-- ---- a hit
module _ (c : Caches) (core line : ℕ) (h : AreCoherent c) (known : core < length c.l1) (room : HaveRoomForLines c) where
  hit_shared : (a : ℕ) → a ≢ core → is_valid (letter_at c core line) ≡ true → is_alone (letter_at c a line) ≡ false
  hit_shared a apart held =
      elim (is_alone (letter_at c a line)) as (λ b. is_alone (letter_at c a line) ≡ b → b ≡ false) [
        | true ↦ λ (k : is_alone (letter_at c a line) ≡ true). absurd (lost (letter_at c core line) (h.single a core line (λ e. apart (sym e)) k) held)
        | false ↦ λ _. refl
      ] refl

  pub hit : (letter : Letter) → is_valid (letter_at c core line) ≡ true → (is_alone letter ≡ true → is_alone (letter_at c core line) ≡ true) → Settles c (kept_first core line letter c) line
  hit letter held same = record {
    others = λ a l apart. inl (letter_first_line core line letter c a l apart);
    single = single_by (kept_first core line letter c) core line
        (λ alone a apart.
        letter_first_core core line letter c a line apart
        ∙ h.single core a line apart (same (subst (λ (x : Letter). is_alone x ≡ true) (letter_first_same core line letter c known (room.l1_sets core known)) alone)))
        (λ a apart. rw (letter_first_core core line letter c a line apart) (hit_shared a apart held));
    lines = λ a l apart k. rw (dirty_first core line letter c l) (h.inclusive a l (subst (λ (x : Letter). is_valid x ≡ true) (letter_first_line core line letter c a l apart) k));
    fetched = λ a l apart k. rw (dirty_first core line letter c l) (h.l1i_inclusive a l (sym (holds_first core line letter c a l) ∙ k));
    there = rw (dirty_first core line letter c line) (h.inclusive core line held);
  }

  -- ---- an upgrade: the others lose the line
  pub upgrade : is_valid (letter_at c core line) ≡ true → Settles c (kept_first core line M (others_changed (other_after true) core line (looked_up line c))) line
  upgrade held =
      let d : Caches = others_changed (other_after true) core line (looked_up line c) in
      let gone : (a : ℕ) → a ≢ core → letter_at (kept_first core line M d) a line ≡ I
      = λ a apart. letter_first_core core line M d a line apart ∙ letter_others_same (other_after true) core line (looked_up line c) a apart refl (looked_sets line c h.sets) in
      let letters : (a l : ℕ) → l ≢ line → letter_at (kept_first core line M d) a l ≡ letter_at c a l
      = λ a l apart. letter_first_line core line M d a l apart ∙ letter_others_other (other_after true) core line (looked_up line c) a l apart ∙ letter_looked_up line c a l in
      let lines : (l : ℕ) → dirty_at (kept_first core line M d) l ≡ dirty_at c l
      = λ l. dirty_first core line M d l ∙ dirty_others (other_after true) core line (looked_up line c) l ∙ dirty_looked_up line c l in
      let holds : (a l : ℕ) → fetch_holds (kept_first core line M d) a l ≡ fetch_holds c a l
      = λ a l. holds_first core line M d a l ∙ holds_others (other_after true) core line (looked_up line c) a l ∙ holds_looked_up line c a l in
      record {
        others = λ a l apart. inl (letters a l apart);
        single = single_by (kept_first core line M d) core line (λ alone a apart. gone a apart) (λ a apart. lost_alone (letter_at (kept_first core line M d) a line) (gone a apart));
        lines = λ a l apart k. rw (lines l) (h.inclusive a l (subst (λ (x : Letter). is_valid x ≡ true) (letters a l apart) k));
        fetched = λ a l apart k. rw (lines l) (h.l1i_inclusive a l (sym (holds a l) ∙ k));
        there = rw (lines line) (h.inclusive core line held);
      }

-- ---- a line that comes into an L1
-- what stands before it comes in
pub record IsReady (c d : Caches) (core line : ℕ) (letter : Letter) : Type 0 where
  pub sets : HaveSets d
  pub room : HaveRoomForLines d
  pub known : core < length d.l1
  pub others : (a l : ℕ) → l ≢ line → (letter_at d a l ≡ letter_at c a l) ⊎ (letter_at d a l ≡ I)
  pub alone : is_alone letter ≡ true → (a : ℕ) → a ≢ core → letter_at d a line ≡ I
  pub shared : (a : ℕ) → a ≢ core → is_alone (letter_at d a line) ≡ false
  pub lines : (a l : ℕ) → l ≢ line → is_valid (letter_at d a l) ≡ true → is_some (dirty_at d l) ≡ true
  pub fetched : (a l : ℕ) → l ≢ line → fetch_holds d a l ≡ true → is_some (dirty_at d l) ≡ true
  pub there : is_some (dirty_at d line) ≡ true

module _ (c d : Caches) (core line : ℕ) (letter : Letter) (r : IsReady c d core line letter) where
  some_set : 1 ≤ length (get_or d.l1 core [])
  some_set = r.room.l1_sets core r.known

  -- a letter for another line stays or is lost
  kept_as : (a l : ℕ) → l ≢ line → (o : Option (ℕ × Letter)) → own_victim d core line ≡ o → (letter_at (filled_into_l1 core line letter d) a l ≡ letter_at d a l) ⊎ (letter_at (filled_into_l1 core line letter d) a l ≡ I)
  kept_as a l apart None e = inl (letter_taken_room core line letter d r.room.l1_ways a l e apart)
  kept_as a l apart (Some w) e =
      let T : Caches = filled_into_l1 core line letter d in
      elim (cases_eq l w.0) as (λ _. (letter_at T a l ≡ letter_at d a l) ⊎ (letter_at T a l ≡ I)) [
        | inl same ↦ elim (cases_eq a core) as (λ _. (letter_at T a l ≡ letter_at d a l) ⊎ (letter_at T a l ≡ I)) [
          | inl own ↦ inr (rw (own, same) (letter_taken_victim core line letter d r.room.l1_ways w r.sets r.known some_set e (λ k. apart (same ∙ k))))
          | inr other ↦ inl (letter_taken_core core line letter d r.room.l1_ways a l other)
        ]
        | inr stays ↦ inl (letter_taken_line core line letter d r.room.l1_ways a l w r.sets e apart stays)
      ]

  kept_or_lost : (a l : ℕ) → l ≢ line → (letter_at (filled_into_l1 core line letter d) a l ≡ letter_at d a l) ⊎ (letter_at (filled_into_l1 core line letter d) a l ≡ I)
  kept_or_lost a l apart = kept_as a l apart (own_victim d core line) refl

  there_after : (l : ℕ) → is_some (dirty_at (filled_into_l1 core line letter d) l) ≡ is_some (dirty_at d l)
  there_after l = rw (dirty_taken core line letter d l) (there_after_back (own_victim d core line) d l)

  pub comes : Settles c (filled_into_l1 core line letter d) line
  comes =
      let T : Caches = filled_into_l1 core line letter d in
      let others : (a : ℕ) → a ≢ core → letter_at T a line ≡ letter_at d a line = λ a apart. letter_taken_core core line letter d r.room.l1_ways a line apart in
      record {
        others = λ a l apart. elim (kept_or_lost a l apart) as (λ _. (letter_at T a l ≡ letter_at c a l) ⊎ (letter_at T a l ≡ I)) [
          | inl same ↦ elim (r.others a l apart) as (λ _. (letter_at T a l ≡ letter_at c a l) ⊎ (letter_at T a l ≡ I))
              [ inl before ↦ inl (same ∙ before) | inr gone ↦ inr (same ∙ gone) ]
          | inr gone ↦ inr gone
        ];
        single = single_by T core line
            (λ k a apart. others a apart ∙ r.alone (subst (λ (x : Letter). is_alone x ≡ true) (letter_taken_same core line letter d r.room.l1_ways r.known some_set) k) a apart)
            (λ a apart. rw (others a apart) (r.shared a apart));
        lines = λ a l apart held. rw (there_after l) (elim (kept_or_lost a l apart) as (λ _. is_some (dirty_at d l) ≡ true) [
          | inl same ↦ r.lines a l apart (subst (λ (x : Letter). is_valid x ≡ true) same held)
          | inr gone ↦ absurd (lost (letter_at T a l) gone held)
        ]);
        fetched = λ a l apart held. rw (there_after l) (r.fetched a l apart (sym (holds_taken core line letter d a l) ∙ held));
        there = rw (there_after line) r.there;
      }

-- ---- a line that the L2 has
other_lost : (write : Bool) → other_after write I ≡ I
other_lost true = refl
other_lost false = refl

other_shared : (write : Bool) (x : Letter) → is_alone (other_after write x) ≡ false
other_shared true x = refl
other_shared false M = refl
other_shared false E = refl
other_shared false S = refl
other_shared false I = refl

-- a letter that lets a core be alone comes of no other core having the line
alone_from : (write has : Bool) → is_alone (own_after write I has) ≡ true → (write ≡ true) ⊎ (has ≡ false)
alone_from true has h = inl refl
alone_from false true h = absurd cc
alone_from false false h = inr refl

pub dirtied_letter : (b : Bool) (line : ℕ) (c : Caches) (a l : ℕ) → letter_at (cond b (marked_dirty line c) c) a l ≡ letter_at c a l
dirtied_letter true line c a l = letter_marked line c a l
dirtied_letter false line c a l = refl

pub there_dirtied : (b : Bool) (line : ℕ) (c : Caches) (l : ℕ) → is_some (dirty_at (cond b (marked_dirty line c) c) l) ≡ is_some (dirty_at c l)
there_dirtied true line c l = there_after_marked line c l
there_dirtied false line c l = refl

holds_dirtied : (b : Bool) (line : ℕ) (c : Caches) (a l : ℕ) → fetch_holds (cond b (marked_dirty line c) c) a l ≡ fetch_holds c a l
holds_dirtied true line c a l = holds_marked line c a l
holds_dirtied false line c a l = refl

pub room_after : (c d : Caches) → SameShape d c → Keeps c d → HaveRoomForLines c → HaveRoomForLines d
room_after c d same k r = record {
  l1_ways = rw (same.l1_ways) r.l1_ways;
  l2_ways = rw (same.l2_ways) r.l2_ways;
  l1_sets = λ core known. rw (k.l1_sets core) (r.l1_sets core (omega (arith, k.cores)));
  l2_sets = rw (k.l2_sets) r.l2_sets;
  fetchers = elim r.fetchers as (λ _. (length d.l1i ≡ length d.l1) ⊎ (length d.l1i ≡ 0))
      [ inl e ↦ inl (omega (arith, e, k.fetchers, k.cores)) | inr e ↦ inr (omega (arith, e, k.fetchers)) ];
  l1i_ways = λ have. rw (same.l1i_ways) (r.l1i_ways (subst (λ (n : ℕ). nat_lt 0 n ≡ true) k.fetchers have));
  l1i_sets = λ core known. rw (k.l1i_sets core) (r.l1i_sets core (omega (arith, k.fetchers, known)));
}

module _ (c : Caches) (core line : ℕ) (h : AreCoherent c) (known : core < length c.l1) (room : HaveRoomForLines c) where
  pub found : (write others : Bool) → is_some (dirty_at c line) ≡ true → IsReady c (on_others (L2 others) write core line (on_l2 (L2 others) line c)) core line (own_after write I (some_other is_valid c core line))
  found write others there =
      let d1 : Caches = looked_up line c in
      let b : Bool = some_other is_modified d1 core line in
      let d2 : Caches = cond b (marked_dirty line d1) d1 in
      let d3 : Caches = others_changed (other_after write) core line d2 in
      let k1 : Keeps c d1 = l2_step (L2 others) line c in
      let k2 : Keeps d1 d2 = dirtied_keeps b line d1 in
      let k3 : Keeps d2 d3 = others_keeps (other_after write) core line d2 in
      let keeps : Keeps c d3 = keeps_both c d2 d3 (keeps_both c d1 d2 k1 k2) k3 in
      let fit : Fits c = fit_of_sets c h.sets in
      let fit2 : Fits d2 = dirtied b line d1 (looked_fits line c fit) in
      let sets2 : HaveSets d2 = sets_of_fit d2 fit2 (k2.placed (k1.placed (placed_of_sets c h.sets))) in
      let same : (a l : ℕ) → letter_at d2 a l ≡ letter_at c a l = λ a l. dirtied_letter b line d1 a l ∙ letter_looked_up line c a l in
      let letters : (a l : ℕ) → l ≢ line → letter_at d3 a l ≡ letter_at c a l = λ a l apart. letter_others_other (other_after write) core line d2 a l apart ∙ same a l in
      let here : (a : ℕ) → a ≢ core → letter_at d3 a line ≡ other_after write (letter_at c a line)
      = λ a apart. letter_others_same (other_after write) core line d2 a apart (other_lost write) sets2 ∙ ap (other_after write) (same a line) in
      let lines : (l : ℕ) → is_some (dirty_at d3 l) ≡ is_some (dirty_at c l)
      = λ l. rw (dirty_others (other_after write) core line d2 l) (there_dirtied b line d1 l ∙ rw (dirty_looked_up line c l) refl) in
      let holds : (a l : ℕ) → fetch_holds d3 a l ≡ fetch_holds c a l = λ a l. holds_others (other_after write) core line d2 a l ∙ holds_dirtied b line d1 a l ∙ holds_looked_up line c a l in
      let shape : SameShape d3 c = after_same d3 d1 c (l2_same (L2 others) line c) (on_others_same (L2 others) write core line d1) in
      record {
        sets = sets_of_fit d3 (others_fits (other_after write) core line d2 fit2) (keeps.placed (placed_of_sets c h.sets));
        room = room_after c d3 shape keeps room;
        known = omega (arith, keeps.cores);
        others = λ a l apart. inl (letters a l apart);
        alone = λ k a apart. elim (alone_from write (some_other is_valid c core line) k) as (λ _. letter_at d3 a line ≡ I) [
          | inl is ↦ here a apart ∙ rw is refl
          | inr none ↦ here a apart ∙ rw (no_other c core line a apart none) (other_lost write)
        ];
        shared = λ a apart. rw (here a apart) (other_shared write (letter_at c a line));
        lines = λ a l apart held. rw (lines l) (h.inclusive a l (subst (λ (x : Letter). is_valid x ≡ true) (letters a l apart) held));
        fetched = λ a l apart held. rw (lines l) (h.l1i_inclusive a l (sym (holds a l) ∙ held));
        there = rw (lines line) there;
      }
