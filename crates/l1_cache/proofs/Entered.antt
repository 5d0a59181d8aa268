-- A line that came in, before its bytes came.
use Rattle.std.proofs.Common.{◌≡◌, ℕ, ◌<◌, Bool, true, false, List, [], get_or, set, Option, Some, None, refl, sym, ap, ◌∙◌}
use Rattle.std.proofs.lemmas.List.{set-get_or}
use Rattle.cache_set.specs.Pieces.{sets_in}
use Rattle.cache_set.specs.declared.letter.Letter.{Letter}
use Rattle.l1_cache.specs.declared.near.Kept.{Kept}
use Rattle.l1_cache.specs.declared.data_ways.DataWays.{DataWays}
use Rattle.l1_cache.specs.declared.l1i.InstructionWays.{InstructionWays}
use Rattle.l1_cache.specs.L1State.{Copy, HasEntered, L1State, answered_in, copy_at, filled_in, may_write, victim_in}
use Rattle.l1_cache.specs.Layout.{AreParts, HasAt, copies_in, copy_in, l1_view, no_kept}
use Rattle.l1_cache.proofs.Views.{answered, copy_there, with_sets}

-- the bytes of the victim, if there is one
bytes_in : Option (ℕ × Copy) → List ℕ
bytes_in None = []
bytes_in (Some victim) = victim.1.bytes

pub its_bytes : (found : Option (ℕ × Copy)) (evicts : Bool) (age tag : ℕ) (copy : Copy) → (evicts ≡ true → 0 < age) → (evicts ≡ false → age ≡ 0) → (0 < age → found ≡ Some (tag, copy)) → (age ≡ 0 → found ≡ None)
    → (victim : ℕ × Copy) → found ≡ Some victim → copy.bytes ≡ victim.1.bytes
unfolding bytes_in
its_bytes found true age tag copy live free this none victim e = ap bytes_in (sym (this (live refl)) ∙ e)
its_bytes found false age tag copy live free this none victim e = let bad = sym (none (free refl)) ∙ e in absurd cc

bytes_there : Option Copy → List ℕ
bytes_there None = []
bytes_there (Some copy) = copy.bytes

same_bytes : (o : Option Copy) (copy other : Copy) → o ≡ Some copy → o ≡ Some other → other.bytes ≡ copy.bytes
unfolding bytes_there
same_bytes o copy other e f = ap bytes_there (sym f ∙ e)

-- what is kept of it
abbrev came_with : Letter → Kept
came_with letter = record { letter = letter; free = false }

not_free : Kept → Kept
not_free x = record { letter = x.letter; free = false }

-- nor is it free to write
pub closed_there : {v : DataWays} {bytes : List (List ℕ)} {l1i : InstructionWays} (now : AreParts v bytes l1i) (line p : ℕ) (k : Kept) → HasAt v line p → get_or v.kept.items p no_kept ≡ k → k.free ≡ false
    → may_write (copy_at (l1_view v bytes l1i) line) ≡ false
closed_there now line p k at kept_is closed = ap may_write (copy_there now line p at) ∙ (ap (λ (x : Kept). x.free) kept_is ∙ closed)

module _ {v : DataWays} {bytes : List (List ℕ)} {l1i : InstructionWays} (now : AreParts v bytes l1i) (old : L1State) (line p : ℕ) (letter : Letter) (at : HasAt v line p)
    (kept_is : get_or v.kept.items p no_kept ≡ came_with letter)
    (fills : (b : List ℕ) → with_sets v l1i (sets_in v.tags.sets v.tags.ways v.tags.ages.items v.tags.tags.items (copies_in v.kept.items (set bytes p b))) ≡ filled_in line (copy_in (came_with letter) b) old)
    (its : (victim : ℕ × Copy) → victim_in old line ≡ Some victim → get_or bytes p [] ≡ victim.1.bytes) where
  same_kept : set v.kept.items p (came_with letter) ≡ v.kept.items
  same_kept = ap (set v.kept.items p) (sym kept_is) ∙ set-get_or v.kept.items p no_kept

  given_is : (b : List ℕ) → answered_in line b false (l1_view v bytes l1i) ≡ filled_in line (copy_in (came_with letter) b) old
  unfolding not_free
  given_is b =
      sym (answered now line p at false b b (came_with letter) (ap not_free (sym kept_is)) refl)
      ∙ (ap (λ (l : List Kept). with_sets v l1i (sets_in v.tags.sets v.tags.ways v.tags.ages.items v.tags.tags.items (copies_in l (set bytes p b)))) same_kept ∙ fills b)

  pub entered : HasEntered old line letter (l1_view v bytes l1i)
  entered = record {
    there = rw (copy_there now line p at) refl;
    left = λ victim e copy f. same_bytes (copy_at (l1_view v bytes l1i) line) _ copy (copy_there now line p at) f ∙ its victim e;
    given = given_is;
  }
