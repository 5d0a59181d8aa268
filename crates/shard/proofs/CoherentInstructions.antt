-- Which lines the instruction caches have after each step of an access.
use Rattle.std.proofs.Common.{◌≡◌, ◌≢◌, ℕ, zero, suc, ◌<◌, ◌≤◌, true, false, cond, eqb, List, [], ◌∷◌, length, get_or, set, take, Option, Some, None, is_some, refl, ap, ◌∙◌, subst}
use Rattle.std.specs.List.{All}
use Rattle.std.proofs.lemmas.List.{get_or-set_same, length-set}
use Rattle.std.proofs.lemmas.List.Elements.{All-nil}
use Rattle.cache_set.specs.declared.letter.Letter.{Letter}
use Rattle.cache_set.specs.Ways.{kept_of, without, used, filled}
use Rattle.shard.specs.Coherence.{Caches, fetch_holds, filled_into_l1, filled_into_l1i, filled_into_l2, instructions_recalled, is_modified, kept_first, l1i_lines_at, looked_up, marked_dirty, others_changed, own_victim, recalled, used_in_l1i, written_back}
use Rattle.cache_set.specs.Lines.{set_of, in_set_of, set_number}
use Rattle.shard.specs.StandsFor.{HaveSets, IsSet}
use Rattle.shard.proofs.CoherentLetters.{kept_here}
use Rattle.shard.proofs.CoherentLines.{kept_elsewhere, kept_filled_same, kept_front_other, kept_used, kept_without_other, kept_without_same, set_same}
use Rattle.shard.proofs.CoherentLists.{mapped_at, set_read}
use Rattle.shard.proofs.Fits.{at_or, set_nil}

-- the set of a line in a core's instruction cache
pub l1i_set : (c : Caches) → HaveSets c → (core line : ℕ) → IsSet c.l1i_ways (l1i_lines_at c core line)
l1i_set c h core line =
    let Is : List (ℕ × Unit {0}) → Type 0 = IsSet c.l1i_ways in
    let sets : List (List (ℕ × Unit {0})) = get_or c.l1i core [] in
    at_or Is sets (set_number c.shards line sets) [] (at_or (All Is) c.l1i core [] h.l1i (All-nil Is)) (set_nil c.l1i_ways)

-- ---- steps on the L1s and the L2 alone
pub holds_recalled : (line : ℕ) (c : Caches) (core l : ℕ) → fetch_holds (recalled line c) core l ≡ fetch_holds c core l
unfolding fetch_holds recalled
holds_recalled line c core l = refl

pub holds_marked : (line : ℕ) (c : Caches) (core l : ℕ) → fetch_holds (marked_dirty line c) core l ≡ fetch_holds c core l
unfolding fetch_holds marked_dirty
holds_marked line c core l = refl

pub holds_written_back : (victim : Option (ℕ × Letter)) (c : Caches) (core l : ℕ) → fetch_holds (written_back victim c) core l ≡ fetch_holds c core l
holds_written_back None c core l = refl
holds_written_back (Some victim) c core l =
    elim (is_modified victim.1) as (λ b. fetch_holds (cond b (marked_dirty victim.0 c) c) core l ≡ fetch_holds c core l)
    [ true ↦ holds_marked victim.0 c core l | false ↦ refl ]

pub holds_fetched : (line : ℕ) (c : Caches) (core l : ℕ) → fetch_holds (filled_into_l2 line c) core l ≡ fetch_holds c core l
unfolding fetch_holds filled_into_l2
holds_fetched line c core l = refl

pub holds_looked_up : (line : ℕ) (c : Caches) (core l : ℕ) → fetch_holds (looked_up line c) core l ≡ fetch_holds c core l
unfolding fetch_holds looked_up
holds_looked_up line c core l = refl

pub holds_others : (change : Letter → Letter) (core line : ℕ) (c : Caches) (a l : ℕ) → fetch_holds (others_changed change core line c) a l ≡ fetch_holds c a l
unfolding fetch_holds others_changed
holds_others change core line c a l = refl

pub holds_first : (core line : ℕ) (letter : Letter) (c : Caches) (a l : ℕ) → fetch_holds (kept_first core line letter c) a l ≡ fetch_holds c a l
unfolding fetch_holds kept_first
holds_first core line letter c a l = refl

taken_as_back : (core line : ℕ) (letter : Letter) (c : Caches) (a l : ℕ) → fetch_holds (filled_into_l1 core line letter c) a l ≡ fetch_holds (written_back (own_victim c core line) c) a l
unfolding fetch_holds filled_into_l1
taken_as_back core line letter c a l = refl

pub holds_taken : (core line : ℕ) (letter : Letter) (c : Caches) (a l : ℕ) → fetch_holds (filled_into_l1 core line letter c) a l ≡ fetch_holds c a l
holds_taken core line letter c a l = taken_as_back core line letter c a l ∙ holds_written_back (own_victim c core line) c a l

-- ---- a line that no core's instruction cache has any more
pub holds_instructions_same : (line : ℕ) (c : Caches) (core : ℕ) → HaveSets c → fetch_holds (instructions_recalled line c) core line ≡ false
unfolding fetch_holds instructions_recalled
holds_instructions_same line c core h =
    let sets : List (List (ℕ × Unit {0})) = get_or c.l1i core [] in
    rw (mapped_at (in_set_of c.shards line (without line)) c.l1i core refl, kept_here c.shards line (without line) sets refl)
    (ap (λ (o : Option (Unit {0})). is_some o) (kept_without_same line (set_of c.shards line sets) (l1i_set c h core line).distinct))

pub holds_instructions_other : (line : ℕ) (c : Caches) (core l : ℕ) → l ≢ line → fetch_holds (instructions_recalled line c) core l ≡ fetch_holds c core l
unfolding fetch_holds instructions_recalled
holds_instructions_other line c core l apart =
    let sets : List (List (ℕ × Unit {0})) = get_or c.l1i core [] in
    rw (mapped_at (in_set_of c.shards line (without line)) c.l1i core refl)
    (ap (λ (o : Option (Unit {0})). is_some o) (kept_elsewhere c.shards l line (without line) sets (kept_without_other l line (set_of c.shards line sets) apart)))

-- ---- a line of a core's instruction cache that is used
pub holds_used : (core line : ℕ) (c : Caches) (a l : ℕ) → fetch_holds (used_in_l1i core line c) a l ≡ fetch_holds c a l
unfolding fetch_holds used_in_l1i
holds_used core line c a l =
    let own : List (List (ℕ × Unit {0})) = get_or c.l1i core [] in
    set_read (λ sets. is_some (kept_of l (set_of c.shards l sets)) ≡ is_some (kept_of l (set_of c.shards l (get_or c.l1i a [])))) c.l1i core (in_set_of c.shards line (used line) own) a
    (λ e. rw e (ap (λ (o : Option (Unit {0})). is_some o) (kept_elsewhere c.shards l line (used line) own (kept_used l line (set_of c.shards line own))))) refl

-- ---- a line that comes into it
module _ {X : Type 0} where
  there_take : (l n : ℕ) (s : List (ℕ × X)) → is_some (kept_of l (take n s)) ≡ true → is_some (kept_of l s) ≡ true
  there_take l zero s h = absurd cc
  there_take l (suc n) [] h = h
  there_take l (suc n) (e ∷ s) h =
      elim (eqb l e.0) as (λ b. is_some (cond b (Some e.1) (kept_of l (take n s))) ≡ true → is_some (cond b (Some e.1) (kept_of l s)) ≡ true)
      [ true ↦ λ _. refl | false ↦ there_take l n s ] h

  -- another line that is there after a line has come in was there before
  there_filled : (ways l line : ℕ) (v : X) (s : List (ℕ × X)) → l ≢ line → is_some (kept_of l (filled ways line v s)) ≡ true → is_some (kept_of l s) ≡ true
  there_filled ways l line v s apart h =
      subst (λ (o : Option X). is_some o ≡ true) (kept_front_other l line v s apart) (there_take l ways ((line, v) ∷ s) h)

  there_elsewhere : (shards l line : ℕ) (change : List (ℕ × X) → List (ℕ × X)) (sets : List (List (ℕ × X)))
      → (is_some (kept_of l (change (set_of shards line sets))) ≡ true → is_some (kept_of l (set_of shards line sets)) ≡ true)
      → is_some (kept_of l (set_of shards l (in_set_of shards line change sets))) ≡ true → is_some (kept_of l (set_of shards l sets)) ≡ true
  there_elsewhere shards l line change sets step =
      let k : ℕ = set_number shards line sets in
      let after : List (ℕ × X) = change (get_or sets k []) in
      let at : (n : ℕ) → is_some (kept_of l (get_or (set sets k after) n [])) ≡ true → is_some (kept_of l (get_or sets n [])) ≡ true
      = λ n. set_read (λ s. is_some (kept_of l s) ≡ true → is_some (kept_of l (get_or sets n [])) ≡ true) sets k after n (λ e. rw e step) (λ h. h) in
      rw (length-set sets k after) (at (set_number shards l sets))

module _ (core line : ℕ) (c : Caches) where
  pub holds_filled_other : (a l : ℕ) → l ≢ line → fetch_holds (filled_into_l1i core line c) a l ≡ true → fetch_holds c a l ≡ true
  unfolding fetch_holds filled_into_l1i
  holds_filled_other a l apart =
      let own : List (List (ℕ × Unit {0})) = get_or c.l1i core [] in
      set_read (λ sets. is_some (kept_of l (set_of c.shards l sets)) ≡ true → is_some (kept_of l (set_of c.shards l (get_or c.l1i a []))) ≡ true) c.l1i core
      (in_set_of c.shards line (filled c.l1i_ways line tt) own) a
      (λ e. rw e (there_elsewhere c.shards l line (filled c.l1i_ways line tt) own (there_filled c.l1i_ways l line tt (set_of c.shards line own) apart))) (λ h. h)

  pub holds_filled_same : core < length c.l1i → 1 ≤ length (get_or c.l1i core []) → 1 ≤ c.l1i_ways → fetch_holds (filled_into_l1i core line c) core line ≡ true
  unfolding fetch_holds filled_into_l1i
  holds_filled_same known some room =
      let own : List (List (ℕ × Unit {0})) = get_or c.l1i core [] in
      rw (get_or-set_same c.l1i core (in_set_of c.shards line (filled c.l1i_ways line tt) own) [] known, set_same c.shards line (filled c.l1i_ways line tt) own some)
      (ap (λ (o : Option (Unit {0})). is_some o) (kept_filled_same c.l1i_ways line tt (set_of c.shards line own) room))
