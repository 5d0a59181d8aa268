-- Which lines the L2 has behind an access.
use Rattle.std.proofs.Common.{◌≡◌, ◌≢◌, ℕ, Bool, true, false, cond, eqb, Option, Some, None, is_some, refl, sym, ap, ◌∙◌, inl, inr}
use Rattle.std.proofs.lemmas.Bool.{cases_eq, eq-eqb, ne_eqb}
use Rattle.zs_num.specs.Request.{line_at}
use Rattle.zs_num.specs.declared.entry.Outcome.{Outcome}
use Rattle.zs_num.specs.declared.entry.Outcome.TheVariants.{Hit, Upgrade, L2, Miss}
use Rattle.zs_num.specs.declared.request.Request.TheVariants.{Load, Store, Lr, Sc, Amo, Fetch}
use Rattle.cache_set.specs.declared.letter.Letter.{Letter}
use Rattle.cache_set.specs.declared.letter.Letter.TheVariants.{M, E, S, I}
use Rattle.shard.specs.Coherence.{Caches, after_at, after_fetch_at, caches_after, copies_evicted, dirty_at, fetch_holds, fetch_met_at, fetch_outcome_by, filled_into_l2, is_alone, is_dirty_victim, is_modified, is_valid, l2_victim, letter_at, looked_up, marked_dirty, met_at, on_l2, on_others, on_own, other_after, outcome_by, own_after, own_victim, some_other}
use Rattle.shard.specs.Leaving.{is_this, l2_leaves, leaving_of, line_in_way}
use Rattle.shard.specs.LeavingLaws.{LinesBehind}
use Rattle.shard.specs.StandsFor.{AreCoherent, HaveRoomForLines, HaveSets}
use Rattle.shard.proofs.Coherent.{made_victim}
use Rattle.shard.proofs.CoherentDirty.{dirty_copies_evicted, dirty_fetched_line, dirty_fetched_room, dirty_fetched_same, dirty_fetched_victim, dirty_first, dirty_looked_up, dirty_on_l1i, dirty_others, dirty_taken, there_after_back}
use Rattle.shard.proofs.CoherentPlaced.{room_keeps}
use Rattle.shard.proofs.CoherentRows.{room_after, there_dirtied}
use Rattle.shard.proofs.CoherentSets.{fit_of_sets, placed_of_sets, sets_of_fit}
use Rattle.shard.proofs.Fits.{room_fits}
use Rattle.shard.proofs.Kept.{room_same}

-- ---- the steps behind the L2's leave its lines
there_own : (own : Letter) (core line : ℕ) (letter : Letter) (d : Caches) (l : ℕ) → is_some (dirty_at (on_own own core line letter d) l) ≡ is_some (dirty_at d l)
there_own M core line letter d l = ap (λ (o : Option Bool). is_some o) (dirty_first core line letter d l)
there_own E core line letter d l = ap (λ (o : Option Bool). is_some o) (dirty_first core line letter d l)
there_own S core line letter d l = ap (λ (o : Option Bool). is_some o) (dirty_first core line letter d l)
there_own I core line letter d l = ap (λ (o : Option Bool). is_some o) (dirty_taken core line letter d l) ∙ there_after_back (own_victim d core line) d l

there_others : (outcome : Outcome) (write : Bool) (core line : ℕ) (d : Caches) (l : ℕ) → is_some (dirty_at (on_others outcome write core line d) l) ≡ is_some (dirty_at d l)
there_others Hit write core line d l = refl
there_others (Upgrade others) write core line d l = ap (λ (o : Option Bool). is_some o) (dirty_others (other_after write) core line d l)
there_others (L2 others) write core line d l =
    let b : Bool = some_other is_modified d core line in
    ap (λ (o : Option Bool). is_some o) (dirty_others (other_after write) core line (cond b (marked_dirty line d) d) l) ∙ there_dirtied b line d l
there_others (Miss dirty) write core line d l = refl

module _ (c : Caches) (core line : ℕ) (h : AreCoherent c) (room : HaveRoomForLines c) (l : ℕ) where
  abbrev was : Bool
  was = is_some (dirty_at c l)

  abbrev behind : (shared : Option ℕ) → Bool
  behind shared = cond (eqb l line) true (cond (is_this shared l) false was)

  -- the L2 has the line
  stays : is_some (dirty_at c line) ≡ true → was ≡ behind None
  stays there =
      elim (cases_eq l line) as (λ _. was ≡ behind None) [
        | inl here ↦ rw (eq-eqb l line here) (ap (λ (x : ℕ). is_some (dirty_at c x)) here ∙ there)
        | inr off ↦ rw (ne_eqb l line off) refl
      ]

  looked : is_some (dirty_at c line) ≡ true → is_some (dirty_at (looked_up line c) l) ≡ behind None
  looked there = ap (λ (o : Option Bool). is_some o) (dirty_looked_up line c l) ∙ stays there

  -- it does not: the line comes in
  abbrev made : Caches
  made = copies_evicted (l2_victim c line) c

  made_sets : HaveSets made
  made_sets = sets_of_fit made (room_fits (l2_victim c line) c (fit_of_sets c h.sets)) ((room_keeps (l2_victim c line) c).placed (placed_of_sets c h.sets))

  made_room : HaveRoomForLines made
  made_room = room_after c made (room_same (l2_victim c line) c) (room_keeps (l2_victim c line) c) room

  abbrev filled_there : ℕ → Bool
  filled_there x = is_some (dirty_at (filled_into_l2 line made) x)

  off_line : l ≢ line → (v : Option (ℕ × Bool)) → l2_victim made line ≡ v → filled_there l ≡ cond (is_this (line_in_way v) l) false was
  off_line off None e =
      ap (λ (o : Option Bool). is_some o) (dirty_fetched_room line made made_room.l2_ways l e off ∙ dirty_copies_evicted (l2_victim c line) c l)
  off_line off (Some w) e =
      elim (cases_eq w.0 l) as (λ _. filled_there l ≡ cond (eqb w.0 l) false was) [
        | inl is ↦
            rw (eq-eqb w.0 l is)
            (ap filled_there (sym is)
            ∙ ap (λ (o : Option Bool). is_some o) (dirty_fetched_victim line made made_room.l2_ways w made_sets made_room.l2_sets e (λ at. off (sym is ∙ at))))
        | inr other ↦
            rw (ne_eqb w.0 l other)
            (ap (λ (o : Option Bool). is_some o)
            (dirty_fetched_line line made made_room.l2_ways l w made_sets e off (λ at. other (sym at)) ∙ dirty_copies_evicted (l2_victim c line) c l))
      ]

  came : filled_there l ≡ behind (line_in_way (l2_victim c line))
  came =
      elim (cases_eq l line) as (λ _. filled_there l ≡ behind (line_in_way (l2_victim c line))) [
        | inl here ↦
            rw (eq-eqb l line here)
            (ap filled_there here ∙ ap (λ (o : Option Bool). is_some o) (dirty_fetched_same line made made_room.l2_ways made_room.l2_sets))
        | inr off ↦ rw (ne_eqb l line off) (off_line off (l2_victim c line) (made_victim (l2_victim c line) c line))
      ]

  -- ---- by how the access is met
  by_row : (own : Letter) → letter_at c core line ≡ own → (write in_l2 alone has dirty : Bool) → is_some (dirty_at c line) ≡ in_l2
      → let outcome = outcome_by write own in_l2 alone has dirty in is_some (dirty_at (on_l2 outcome line c) l) ≡ behind (l2_leaves outcome c line)
  by_row M e true in_l2 alone has dirty i = stays (h.inclusive core line (rw e refl))
  by_row M e false in_l2 alone has dirty i = stays (h.inclusive core line (rw e refl))
  by_row E e true in_l2 alone has dirty i = stays (h.inclusive core line (rw e refl))
  by_row E e false in_l2 alone has dirty i = stays (h.inclusive core line (rw e refl))
  by_row S e true in_l2 alone has dirty i = looked (h.inclusive core line (rw e refl))
  by_row S e false in_l2 alone has dirty i = stays (h.inclusive core line (rw e refl))
  by_row I e true true alone has dirty i = looked i
  by_row I e false true alone has dirty i = looked i
  by_row I e true false alone has dirty i = came
  by_row I e false false alone has dirty i = came

  data_is : (write : Bool) → is_some (dirty_at (after_at c core line write) l) ≡ behind (l2_leaves (met_at c core line write) c line)
  data_is write =
      let own : Letter = letter_at c core line in
      let outcome : Outcome = met_at c core line write in
      let first : Caches = on_l2 outcome line c in
      there_own own core line (own_after write own (some_other is_valid c core line)) (on_others outcome write core line first) l
      ∙ (there_others outcome write core line first l
      ∙ by_row own refl write (is_some (dirty_at c line)) (some_other is_alone c core line) (some_other is_valid c core line) (is_dirty_victim c (l2_victim c line)) refl)

  by_fetch : (held : Bool) → fetch_holds c core line ≡ held → (in_l2 dirty : Bool) → is_some (dirty_at c line) ≡ in_l2
      → let outcome = fetch_outcome_by held in_l2 dirty in is_some (dirty_at (on_l2 outcome line c) l) ≡ behind (l2_leaves outcome c line)
  by_fetch true e in_l2 dirty i = stays (h.l1i_inclusive core line e)
  by_fetch false e true dirty i = looked i
  by_fetch false e false dirty i = came

  fetch_is : is_some (dirty_at (after_fetch_at c core line) l) ≡ behind (l2_leaves (fetch_met_at c core line) c line)
  fetch_is =
      ap (λ (o : Option Bool). is_some o) (dirty_on_l1i (fetch_holds c core line) core line (on_l2 (fetch_met_at c core line) line c) l)
      ∙ by_fetch (fetch_holds c core line) refl (is_some (dirty_at c line)) (is_dirty_victim c (l2_victim c line)) refl

pub lines_behind : LinesBehind
unfolding caches_after leaving_of
lines_behind c core (Load width addr) h room known l = data_is c core (line_at addr) h room l false
lines_behind c core (Store width addr value) h room known l = data_is c core (line_at addr) h room l true
lines_behind c core (Lr width addr) h room known l = data_is c core (line_at addr) h room l false
lines_behind c core (Sc width paired addr value) h room known l = data_is c core (line_at addr) h room l true
lines_behind c core (Amo width op addr value) h room known l = data_is c core (line_at addr) h room l true
lines_behind c core (Fetch addr) h room known l = fetch_is c core (line_at addr) h room l
