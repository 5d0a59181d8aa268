-- A line comes into a core's own L1: the code's steps one after the other.
use Rattle.std.proofs.Common.{◌≡◌, ℕ, Bool, false, List, get_or, set, Option, Some, None, refl, sym, ap, ◌∙◌}
use Rattle.std.specs.Prelude.{IfSome, IsSome, option_map}
use Rattle.std.proofs.lemmas.List.{set-set}
use Rattle.cache_set.specs.declared.letter.Letter.{Letter}
use Rattle.cache_set.specs.declared.letter.Letter.TheVariants.{M, E, S, I}
use Rattle.home.specs.HomeState.{HomeState, KeepsLine, bytes_at, dropped_in, marked_dirty_in, with_bytes_at}
use Rattle.l1_cache.specs.L1State.{AreBytesOf, Copy, HasEntered, L1State, answered_in, copy_at, filled_in, newer_bytes, no_l1, victim_in}
use Rattle.shard.specs.BankSteps.{KeepsVictim, StandsThere, bank_with, left_home}
use Rattle.shard.specs.SharedStep.{Bank, brought_to_own, bytes_of, copy_of, filled_from_home, l1_of, own_evicted, with_home, with_l1}

-- its line and its letter
abbrev pub victim_as : ℕ × Copy → ℕ × Letter
victim_as victim = (victim.0, victim.1.letter)

pub keeps_as : (home : HomeState) (o : Option (ℕ × Copy)) (r : Option (ℕ × Letter)) → r ≡ option_map victim_as o → KeepsVictim home o → IfSome r (λ evicted. KeepsLine home evicted.0)
keeps_as home None r e kept = rw e tt
keeps_as home (Some w) r e kept = rw e kept

pub bytes_read : (o : Option Copy) (bytes : List ℕ) → AreBytesOf o bytes → bytes ≡ bytes_of o
bytes_read None bytes of = absurd of
bytes_read (Some copy) bytes of = of.0

module _ (p : Bank) (core v : ℕ) (free : Bool) (its bytes : List ℕ) where
  by_letter : (x : Letter) → copy_of p core v ≡ Some (record { letter = x; free = free; bytes = its }) → bytes ≡ its
      → own_evicted (Some (v, record { letter = x; free = free; bytes = its })) core p ≡ with_home (left_home (Some (v, x)) core bytes) p
  by_letter M stands is =
      ap (λ (b : List ℕ). with_home (λ home. dropped_in v core (marked_dirty_in v (with_bytes_at v b home))) p)
      (ap (λ (o : Option Copy). newer_bytes o (bytes_at p.home v)) stands ∙ sym is)
  by_letter E stands is = refl
  by_letter S stands is = refl
  by_letter I stands is = refl

-- the victim's bytes are those that stand for the line
pub left_as : (p : Bank) (core : ℕ) (o : Option (ℕ × Copy)) (bytes : List ℕ) → StandsThere (l1_of p core) o → ((victim : ℕ × Copy) → o ≡ Some victim → bytes ≡ victim.1.bytes)
    → own_evicted o core p ≡ with_home (left_home (option_map victim_as o) core bytes) p
left_as p core None bytes stands its = refl
left_as p core (Some w) bytes stands its = by_letter p core w.0 w.1.free w.1.bytes bytes w.1.letter stands (its w refl)

pub its_bytes : (o : Option Copy) (bytes : List ℕ) → IsSome o → ((copy : Copy) → o ≡ Some copy → copy.bytes ≡ bytes) → bytes_of o ≡ bytes
its_bytes None bytes there each = absurd cc
its_bytes (Some copy) bytes there each = each copy refl

pub brought_own : (home then : HomeState) (l1s entered filled : List L1State) (core line : ℕ) (letter : Letter) (evicted : Option (ℕ × Letter))
    → StandsThere (get_or l1s core no_l1) (victim_in (get_or l1s core no_l1) line)
    → evicted ≡ option_map victim_as (victim_in (get_or l1s core no_l1) line)
    → HasEntered (get_or l1s core no_l1) line letter (get_or entered core no_l1)
    → entered ≡ set l1s core (get_or entered core no_l1)
    → then ≡ left_home evicted core (bytes_of (copy_at (get_or entered core no_l1) line)) home
    → bank_with then filled ≡ with_l1 core (answered_in line (bytes_at then line) false) (bank_with then entered)
    → bank_with then filled ≡ brought_to_own letter core line (bank_with home l1s)
unfolding brought_to_own
brought_own home then l1s entered filled core line letter evicted stands found came others did fill =
    let l1 : L1State = get_or entered core no_l1 in
    let bytes : List ℕ = bytes_of (copy_at l1 line) in
    let p : Bank = bank_with home l1s in
    let now : Option (ℕ × Copy) = victim_in (get_or l1s core no_l1) line in
    let left : bank_with then l1s ≡ own_evicted now core p
    = ap (λ (h : HomeState). bank_with h l1s) (did ∙ ap (λ (e : Option (ℕ × Letter)). left_home e core bytes home) found) ∙ sym (left_as p core now bytes stands (λ victim e. its_bytes (copy_at l1 line) victim.1.bytes came.there (came.left victim e))) in
    fill
    ∙ (ap (λ (x : L1State). bank_with then (set entered core x)) (came.given (bytes_at then line))
    ∙ (ap (λ (s : List L1State). bank_with then (set s core (filled_in line (record { letter = letter; free = false; bytes = bytes_at then line }) (get_or l1s core no_l1)))) others
    ∙ (ap (λ (s : List L1State). bank_with then s) (set-set l1s core l1 (filled_in line (record { letter = letter; free = false; bytes = bytes_at then line }) (get_or l1s core no_l1)))
    ∙ ap (filled_from_home letter core line) left)))
