-- A copy of a line that is shared: the same bytes, with the letter S.
use Rattle.std.proofs.Common.{◌≡◌, ◌≢◌, ℕ, List, Option, Some, None, refl, sym, ap, ◌∙◌}
use Rattle.std.specs.Option.{option_map_or}
use Rattle.cache_set.specs.Ways.{changed, kept_of}
use Rattle.l1_cache.specs.L1State.{Copy, L1State, as_shared, copies_at, copy_at, newer_bytes, shared_among, shared_in}
use Rattle.shard.proofs.CoherentLines.{kept_changed_other, kept_changed_same, kept_elsewhere, set_same}
use Rattle.shard.proofs.HomesAndL1s.Newest.{IsOld}
use Rattle.shard.proofs.HomesAndL1s.Rows.{has_sets}
use Rattle.shard.proofs.HomesAndL1s.SharedSeen.{shared_absent}

pub shared_copy : (line : ℕ) (l1 : L1State) (copy : Copy) → copy_at l1 line ≡ Some copy → copy_at (shared_in line l1) line ≡ Some (as_shared copy)
unfolding shared_in copy_at
shared_copy line l1 copy e =
    let s : List (ℕ × Copy) = copies_at l1 line in
    ap (kept_of line) (set_same l1.shards line (shared_among line) l1.sets (has_sets l1.shards line l1.sets copy e))
    ∙ (ap (λ (o : Option Copy). kept_of line (option_map_or (λ copy. changed line (as_shared copy) s) o s)) e
    ∙ (kept_changed_same line (as_shared copy) s ∙ ap (λ (o : Option Copy). option_map_or (λ _. Some (as_shared copy)) o None) e))

pub shared_none : (line : ℕ) (l1 : L1State) → copy_at l1 line ≡ None → copy_at (shared_in line l1) line ≡ None
shared_none line l1 e = ap (λ (x : L1State). copy_at x line) (shared_absent line l1 e) ∙ e

among_other : (line x : ℕ) (s : List (ℕ × Copy)) (o : Option Copy) → x ≢ line → kept_of x (option_map_or (λ copy. changed line (as_shared copy) s) o s) ≡ kept_of x s
among_other line x s None apart = refl
among_other line x s (Some copy) apart = kept_changed_other x line (as_shared copy) s apart

pub shared_elsewhere : (line x : ℕ) (l1 : L1State) → x ≢ line → copy_at (shared_in line l1) x ≡ copy_at l1 x
unfolding shared_in copy_at
shared_elsewhere line x l1 apart =
    let s : List (ℕ × Copy) = copies_at l1 line in
    kept_elsewhere l1.shards x line (shared_among line) l1.sets (among_other line x s (kept_of line s) apart)

-- a copy that is there after it was one before it
pub shared_from : (line : ℕ) (l1 : L1State) (o : Option Copy) → copy_at l1 line ≡ o → (after : Copy) → copy_at (shared_in line l1) line ≡ Some after → (copy : Copy) × (o ≡ Some copy) × (after ≡ as_shared copy)
shared_from line l1 None e after h = let bad : None ≡ Some after = sym (shared_none line l1 e) ∙ h in absurd cc
shared_from line l1 (Some copy) e after h =
    let same : Some after ≡ Some (as_shared copy) = sym h ∙ shared_copy line l1 copy e in
    (copy, refl, cc)

old_by : (line : ℕ) (l1 : L1State) (o : Option Copy) → copy_at l1 line ≡ o → IsOld line (shared_in line l1)
old_by line l1 None e h = ap (λ (o : Option Copy). newer_bytes o h) (shared_none line l1 e)
old_by line l1 (Some copy) e h = ap (λ (o : Option Copy). newer_bytes o h) (shared_copy line l1 copy e)

pub shared_old : (line : ℕ) (l1 : L1State) → IsOld line (shared_in line l1)
shared_old line l1 = old_by line l1 (copy_at l1 line) refl
