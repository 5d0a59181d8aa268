-- The line that the L2 evicts is one of the bank's own, in memory.
use Rattle.std.proofs.Common.{◌≡◌, ℕ, zero, suc, ◌-◌, Bool, List, [], ◌∷◌, length, get_or, Option, Some, None, refl, sym, ap, ◌∙◌, subst, arith, inl, inr}
use Rattle.std.specs.List.{All}
use Rattle.std.specs.Prelude.{IsSome, slice_get}
use Rattle.std.proofs.lemmas.Bool.{cases_lt}
use Rattle.std.proofs.lemmas.List.{get_or_past}
use Rattle.cache_set.specs.Ways.{kept_of, victim_of}
use Rattle.shard.specs.Coherence.{Caches, dirty_at, l2_victim}
use Rattle.home.specs.HomeState.{HomeLine, evicted_by, row_at}
use Rattle.cache_set.specs.Lines.{set_number, set_of}
use Rattle.shard.specs.PartsLaws.{AreParts, IsOwn}
use Rattle.shard.specs.Seen.{caches_seen}
use Rattle.shard.specs.SharedStep.{Bank}
use Rattle.shard.specs.StandsFor.{HaveSets}
use Rattle.shard.proofs.CoherentLines.{kept_victim}
use Rattle.shard.proofs.HomesAndL1s.RowsSeen.{dirty_of, see_maybe, seen_at, seen_kept, seen_ways}

pub all_at : {X : Type 0} (P : X → Type 0) (s : List X) (i : ℕ) (v : X) → All P s → slice_get s i ≡ Some v → P v
all_at P [] i v h e = absurd cc
all_at P (x ∷ s) zero v h e = let is : x ≡ v = cc in subst P is (h 0 x (omega arith))
all_at P (x ∷ s) (suc i) v h e = all_at P s i v (λ k d l. h (suc k) d (omega arith)) e

no_way : (s : List (ℕ × Bool)) (k : ℕ) (v : ℕ × Bool) → s ≡ [] → slice_get s k ≡ Some v → ⊥
no_way [] k v none e = absurd cc
no_way (x ∷ s) k v none e = absurd cc

pub victim_kept : (c : Caches) → HaveSets c → (line : ℕ) (v : ℕ × Bool) → l2_victim c line ≡ Some v → dirty_at c v.0 ≡ Some v.1
unfolding dirty_at
victim_kept c h line v e =
    elim (cases_lt (set_number c.shards line c.l2) (length c.l2)) as (λ _. kept_of v.0 (set_of c.shards v.0 c.l2) ≡ Some v.1) [
      | inl l ↦
          let place : set_number c.shards v.0 c.l2 ≡ set_number c.shards line c.l2
          = all_at (λ way. set_number c.shards way.0 c.l2 ≡ set_number c.shards line c.l2) (set_of c.shards line c.l2) (c.l2_ways - 1) v (h.l2_placed (set_number c.shards line c.l2)) e in
          ap (λ (k : ℕ). kept_of v.0 (get_or c.l2 k [])) place
          ∙ kept_victim c.l2_ways (set_of c.shards line c.l2) v (h.l2 (set_number c.shards line c.l2) [] l).distinct e
      | inr past ↦
          absurd (no_way (set_of c.shards line c.l2) (c.l2_ways - 1) v (get_or_past c.l2 (set_number c.shards line c.l2) [] past) e)
    ]

pub dirty_seen : (p : Bank) (line : ℕ) → dirty_at (caches_seen p) line ≡ see_maybe dirty_of (row_at p.home line)
unfolding caches_seen dirty_at row_at
dirty_seen p line =
    ap (kept_of line) (seen_at (seen_ways dirty_of) refl p.home.shards line p.home.sets) ∙ seen_kept dirty_of line (set_of p.home.shards line p.home.sets)

seen_get : (s : List (ℕ × HomeLine)) (i : ℕ) (w : ℕ × HomeLine) → slice_get s i ≡ Some w → slice_get (seen_ways dirty_of s) i ≡ Some (w.0, w.1.dirty)
seen_get [] i w e = absurd cc
seen_get (x ∷ s) zero w e = let is : x ≡ w = cc in ap (λ (x : ℕ × HomeLine). Some (x.0, x.1.dirty)) is
seen_get (x ∷ s) (suc i) w e = seen_get s i w e

pub victim_seen : (p : Bank) (line : ℕ) (w : ℕ × HomeLine) → evicted_by p.home line ≡ Some w → l2_victim (caches_seen p) line ≡ Some (w.0, w.1.dirty)
unfolding caches_seen
victim_seen p line w e =
    ap (victim_of p.home.ways) (seen_at (seen_ways dirty_of) refl p.home.shards line p.home.sets) ∙ seen_get (set_of p.home.shards line p.home.sets) (p.home.ways - 1) w e

has_row : (o : Option HomeLine) (b : Bool) → see_maybe dirty_of o ≡ Some b → IsSome o
has_row None b e = absurd cc
has_row (Some row) b e = refl

pub victim_row : (p : Bank) → AreParts p → (line : ℕ) (w : ℕ × HomeLine) → evicted_by p.home line ≡ Some w → IsSome (row_at p.home w.0)
victim_row p are line w e =
    has_row (row_at p.home w.0) w.1.dirty (sym (dirty_seen p w.0) ∙ victim_kept (caches_seen p) are.coherent.sets line (w.0, w.1.dirty) (victim_seen p line w e))

pub victim_own : (p : Bank) → AreParts p → (line : ℕ) (w : ℕ × HomeLine) → evicted_by p.home line ≡ Some w → IsOwn p w.0
victim_own p are line w e = (are.lines w.0 (victim_row p are line w e)).0
