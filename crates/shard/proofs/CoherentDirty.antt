-- Whether a line is dirty in the L2, where it is there, after each step of an access.
use Rattle.std.proofs.Common.{◌≡◌, ◌≢◌, ℕ, ◌<◌, ◌≤◌, Bool, true, false, cond, List, [], length, Option, Some, None, is_some, refl, ◌∙◌, arith, inl, inr}
use Rattle.std.specs.Option.{option_map_or}
use Rattle.std.proofs.lemmas.Bool.{cases_eq}
use Rattle.std.proofs.lemmas.List.{get_or-set_same, length-set}
use Rattle.cache_set.specs.declared.letter.Letter.{Letter}
use Rattle.cache_set.specs.Ways.{used, filled, changed}
use Rattle.shard.specs.Coherence.{Caches, dirty_at, filled_into_l1i, instructions_recalled, on_l1i, used_in_l1i, is_modified, kept_first, l2_victim, looked_up, marked_dirty, others_changed, own_victim, recalled, copies_evicted, filled_into_l1, filled_into_l2, written_back}
use Rattle.cache_set.specs.Lines.{set_of, set_number}
use Rattle.shard.specs.StandsFor.{HaveSets, IsSet}
use Rattle.shard.proofs.CoherentLetters.{at_victim, kept_here}
use Rattle.shard.proofs.CoherentLines.{kept_changed_other, kept_changed_same, kept_elsewhere, kept_filled_other, kept_filled_room, kept_filled_same, kept_filled_victim, kept_used, set_same}
use Rattle.shard.proofs.Fits.{at_or, set_nil}

-- the set of a line in the L2
pub l2_set : (c : Caches) → HaveSets c → (line : ℕ) → IsSet c.l2_ways (set_of c.shards line c.l2)
l2_set c h line =
    let Is : List (ℕ × Bool) → Type 0 = IsSet c.l2_ways in
    at_or Is c.l2 (set_number c.shards line c.l2) [] h.l2 (set_nil c.l2_ways)

-- ---- steps on the L1s and the L1Is alone
pub dirty_recalled : (line : ℕ) (c : Caches) (l : ℕ) → dirty_at (recalled line c) l ≡ dirty_at c l
unfolding dirty_at recalled
dirty_recalled line c l = refl

pub dirty_instructions : (line : ℕ) (c : Caches) (l : ℕ) → dirty_at (instructions_recalled line c) l ≡ dirty_at c l
unfolding dirty_at instructions_recalled
dirty_instructions line c l = refl

pub dirty_copies_evicted : (victim : Option (ℕ × Bool)) (c : Caches) (l : ℕ) → dirty_at (copies_evicted victim c) l ≡ dirty_at c l
dirty_copies_evicted None c l = refl
dirty_copies_evicted (Some victim) c l = dirty_instructions victim.0 (recalled victim.0 c) l ∙ dirty_recalled victim.0 c l

pub dirty_others : (change : Letter → Letter) (core line : ℕ) (c : Caches) (l : ℕ) → dirty_at (others_changed change core line c) l ≡ dirty_at c l
unfolding dirty_at others_changed
dirty_others change core line c l = refl

pub dirty_first : (core line : ℕ) (letter : Letter) (c : Caches) (l : ℕ) → dirty_at (kept_first core line letter c) l ≡ dirty_at c l
unfolding dirty_at kept_first
dirty_first core line letter c l = refl

-- a line that comes into an L1 is dirty in the L2 no more than before: only the one that leaves for it can be
pub dirty_taken : (core line : ℕ) (letter : Letter) (c : Caches) (l : ℕ) → dirty_at (filled_into_l1 core line letter c) l ≡ dirty_at (written_back (own_victim c core line) c) l
unfolding dirty_at filled_into_l1
dirty_taken core line letter c l = refl

pub dirty_on_l1i : (held : Bool) (core line : ℕ) (c : Caches) (l : ℕ) → dirty_at (on_l1i held core line c) l ≡ dirty_at c l
unfolding dirty_at used_in_l1i filled_into_l1i
dirty_on_l1i true core line c l = refl
dirty_on_l1i false core line c l = refl

-- ---- a line that is dirty from now on
pub dirty_marked_same : (line : ℕ) (c : Caches) → dirty_at (marked_dirty line c) line ≡ option_map_or (λ _. Some true) (dirty_at c line) None
unfolding dirty_at marked_dirty
dirty_marked_same line c = rw (kept_here c.shards line (changed line true) c.l2 refl) (kept_changed_same line true (set_of c.shards line c.l2))

pub dirty_marked_other : (line : ℕ) (c : Caches) (l : ℕ) → l ≢ line → dirty_at (marked_dirty line c) l ≡ dirty_at c l
unfolding dirty_at marked_dirty
dirty_marked_other line c l apart = kept_elsewhere c.shards l line (changed line true) c.l2 (kept_changed_other l line true (set_of c.shards line c.l2) apart)

there_marked : (o : Option Bool) → is_some (option_map_or (λ (_ : Bool). Some true) o None) ≡ is_some o
there_marked None = refl
there_marked (Some b) = refl

-- it is there where it was
pub there_after_marked : (line : ℕ) (c : Caches) (l : ℕ) → is_some (dirty_at (marked_dirty line c) l) ≡ is_some (dirty_at c l)
there_after_marked line c l =
    elim (cases_eq l line) as (λ _. is_some (dirty_at (marked_dirty line c) l) ≡ is_some (dirty_at c l)) [
      | inl e ↦ rw (e, dirty_marked_same line c) (there_marked (dirty_at c line))
      | inr e ↦ rw (dirty_marked_other line c l e) refl
    ]

pub there_after_back : (victim : Option (ℕ × Letter)) (c : Caches) (l : ℕ) → is_some (dirty_at (written_back victim c) l) ≡ is_some (dirty_at c l)
there_after_back None c l = refl
there_after_back (Some victim) c l =
    elim (is_modified victim.1) as (λ b. is_some (dirty_at (cond b (marked_dirty victim.0 c) c) l) ≡ is_some (dirty_at c l))
    [ true ↦ there_after_marked victim.0 c l | false ↦ refl ]

-- ---- a line that is used, and one that comes in
pub dirty_looked_up : (line : ℕ) (c : Caches) (l : ℕ) → dirty_at (looked_up line c) l ≡ dirty_at c l
unfolding dirty_at looked_up
dirty_looked_up line c l = kept_elsewhere c.shards l line (used line) c.l2 (kept_used l line (set_of c.shards line c.l2))

module _ (line : ℕ) (c : Caches) (room : 1 ≤ c.l2_ways) where
  abbrev here : List (ℕ × Bool)
  here = set_of c.shards line c.l2

  pub dirty_fetched_same : 1 ≤ length c.l2 → dirty_at (filled_into_l2 line c) line ≡ Some false
  unfolding dirty_at filled_into_l2
  dirty_fetched_same some = rw (set_same c.shards line (filled c.l2_ways line false) c.l2 some) (kept_filled_same c.l2_ways line false here room)

  -- another line stays unless it leaves
  pub dirty_fetched_room : (l : ℕ) → l2_victim c line ≡ None → l ≢ line → dirty_at (filled_into_l2 line c) l ≡ dirty_at c l
  unfolding dirty_at filled_into_l2
  dirty_fetched_room l none apart = kept_elsewhere c.shards l line (filled c.l2_ways line false) c.l2 (kept_filled_room c.l2_ways l line false here room none apart)

  pub dirty_fetched_line : (l : ℕ) (victim : ℕ × Bool) → HaveSets c → l2_victim c line ≡ Some victim → l ≢ line → l ≢ victim.0 → dirty_at (filled_into_l2 line c) l ≡ dirty_at c l
  unfolding dirty_at filled_into_l2
  dirty_fetched_line l victim h is apart stays =
      kept_elsewhere c.shards l line (filled c.l2_ways line false) c.l2 (kept_filled_other c.l2_ways l line false here victim room (l2_set c h line).within is apart stays)

  pub dirty_fetched_victim : (victim : ℕ × Bool) → HaveSets c → 1 ≤ length c.l2 → l2_victim c line ≡ Some victim → victim.0 ≢ line → dirty_at (filled_into_l2 line c) victim.0 ≡ None
  unfolding dirty_at filled_into_l2
  dirty_fetched_victim victim h some is apart =
      let k : ℕ = set_number c.shards line c.l2 in
      let placed : set_number c.shards victim.0 c.l2 ≡ k = at_victim (λ (way : ℕ × Bool). set_number c.shards way.0 c.l2 ≡ k) c.l2_ways here victim (h.l2_placed k) is in
      let after : List (ℕ × Bool) = filled c.l2_ways line false here in
      let within : k < length c.l2 = omega arith in
      rw (length-set c.l2 k after, placed, get_or-set_same c.l2 k after [] within) (kept_filled_victim c.l2_ways line false here victim room (l2_set c h line).distinct is apart)
