-- A private store does what the store does where it is shared.
use Rattle.std.proofs.Common.{◌≡◌, ℕ, zero, suc, ◌/◌, ◌%◌, ◌<◌, ◌≤◌, Bool, true, false, not, cond, List, [], ◌∷◌, length, set, Option, Some, refl, sym, ap, ◌∙◌}
use Rattle.std.specs.Option.{option_map_or}
use Rattle.std.proofs.lemmas.Bool.{eq-eqb}
use Rattle.std.proofs.lemmas.List.{get_or-set_same, length-set}
use Rattle.zs_num.specs.Request.{line_at}
use Rattle.zs_num.specs.declared.request.Request.{Request}
use Rattle.zs_num.specs.declared.request.Request.TheVariants.{Store}
use Rattle.cache_set.specs.Ways.{changed, without}
use Rattle.cache_set.specs.declared.letter.Letter.TheVariants.{M}
use Rattle.flat_memory.specs.FlatMemory.{after_write}
use Rattle.flat_memory.specs.declared.reservation.Reservation.{Reservation}
use Rattle.home.specs.HomeState.{is_marked_by_others}
use Rattle.l1_cache.specs.L1State.{Copy, L1State, copies_at, copy_at, in_copies_of, kept_first_in, no_l1, place_in_line, stored}
use Rattle.cache_set.specs.Lines.{in_set_of, set_number, set_of}
use Rattle.shard.specs.Marks.{bytes_after, marks_after}
use Rattle.shard.specs.SharedStep.{Bank, answered, answered_with, copy_of, kept_with, l1_of, with_home, with_l1}
use Rattle.shard.proofs.CoherentLines.{set_same}
use Rattle.shard.proofs.HomesAndL1s.KeptGot.{first_same}
use Rattle.shard.proofs.HomesAndL1s.MarksApart.{write_stays}
use Rattle.shard.proofs.HomesAndL1s.Rows.{has_sets}

pub set_twice : {X : Type 0} (xs : List X) (k : ℕ) (v w : X) → set (set xs k v) k w ≡ set xs k w
set_twice [] k v w = refl
set_twice (x ∷ xs) zero v w = refl
set_twice {X = X} (x ∷ xs) (suc k) v w = ap (λ (ys : List X). x ∷ ys) (set_twice xs k v w)

-- two changes of one line's set
pub in_set_twice : {X : Type 0} (n line : ℕ) (f g : List X → List X) (sets : List (List X)) → 1 ≤ length sets → in_set_of n line g (in_set_of n line f sets) ≡ in_set_of n line (λ s. g (f s)) sets
in_set_twice {X = X} n line f g sets some =
    let after : List (List X) = in_set_of n line f sets in
    let k : ℕ = set_number n line sets in
    let same : set_number n line after ≡ k = ap (λ (z : ℕ). line / n % z) (length-set sets k (f (set_of n line sets))) in
    ap (λ (j : ℕ). set after j (g (set_of n line after))) same
    ∙ (ap (λ (s : List X). set after k (g s)) (set_same n line f sets some) ∙ set_twice sets k (f (set_of n line sets)) (g (f (set_of n line sets))))

changed_first : (line : ℕ) (after was : Copy) (s : List (ℕ × Copy)) → changed line after ((line, was) ∷ s) ≡ (line, after) ∷ s
changed_first line after was s = ap (λ (b : Bool). cond b ((line, after) ∷ s) ((line, was) ∷ changed line after s)) (eq-eqb line line refl)

first_changed : (line : ℕ) (after was : Copy) (l1 : L1State) → 1 ≤ length l1.sets → in_copies_of line (changed line after) (kept_first_in line was l1) ≡ kept_first_in line after l1
unfolding kept_first_in
first_changed line after was l1 some =
    ap (λ (sets : List (List (ℕ × Copy))). record l1 { sets = sets })
    (in_set_twice l1.shards line (λ copies. (line, was) ∷ without line copies) (changed line after) l1.sets some
    ∙ ap (λ (s : List (ℕ × Copy)). set l1.sets (set_number l1.shards line l1.sets) s) (changed_first line after was (without line (copies_at l1 line))))

module _ (p : Bank) (core addr width value : ℕ) (within : core < length p.l1s) (copy : Copy) (here : copy_of p core (line_at addr) ≡ Some copy) (free : copy.free ≡ true)
    (unmarked : is_marked_by_others p.home.marks core (line_at addr) ≡ false) where
  abbrev line : ℕ
  line = line_at addr

  abbrev request : Request
  request = Store width addr value

  abbrev modified : Copy
  modified = record copy { letter = M }

  abbrev r : Bank
  r = with_l1 core (kept_first_in line modified) p

  abbrev new : Copy
  new = stored (place_in_line addr) width value copy

  some : 1 ≤ length (l1_of p core).sets
  unfolding copy_at
  some = has_sets (l1_of p core).shards line (l1_of p core).sets copy here

  own_now : l1_of r core ≡ kept_first_in line modified (l1_of p core)
  own_now = get_or-set_same p.l1s core (kept_first_in line modified (l1_of p core)) no_l1 within

  r_here : copy_of r core line ≡ Some modified
  r_here = ap (λ (l1 : L1State). copy_at l1 line) own_now ∙ first_same line modified copy (l1_of p core) here

  kept_is : kept_with M core line p ≡ r
  kept_is = ap (λ (o : Option Copy). option_map_or (λ copy. with_l1 core (kept_first_in line (record copy { letter = M })) p) o p) here

  -- what the answer leaves, where these are the marks after it
  abbrev with_marks : List (Option Reservation) → Bank
  with_marks marks =
      with_home (λ home. record home { marks = marks })
      (with_l1 core (in_copies_of line (changed line (record modified { free = not (is_marked_by_others marks core line); bytes = new.bytes }))) r)

  answered_then : answered core request r ≡ with_marks (after_write core addr p.home.marks)
  unfolding marks_after bytes_after
  answered_then = ap (λ (o : Option Copy). option_map_or (λ copy. answered_with core line request copy r) o r) r_here

  as_free : record modified { free = not (is_marked_by_others p.home.marks core line); bytes = new.bytes } ≡ new
  as_free = ap (λ (b : Bool). record new { free = b }) (ap (λ (b : Bool). not b) unmarked ∙ sym free)

  same_l1s : set r.l1s core (in_copies_of line (changed line new) (l1_of r core)) ≡ set p.l1s core (kept_first_in line new (l1_of p core))
  same_l1s =
      ap (λ (l1 : L1State). set r.l1s core (in_copies_of line (changed line new) l1)) own_now
      ∙ (ap (λ (l1 : L1State). set r.l1s core l1) (first_changed line new modified (l1_of p core) some)
      ∙ set_twice p.l1s core (kept_first_in line modified (l1_of p core)) (kept_first_in line new (l1_of p core)))

  pub store_as_shared : answered core request (kept_with M core line p) ≡ with_l1 core (λ l1. option_map_or (λ copy. kept_first_in line (stored (place_in_line addr) width value copy) l1) (copy_at l1 line) l1) p
  store_as_shared =
      ap (answered core request) kept_is
      ∙ (answered_then
      ∙ (ap with_marks (write_stays core addr p.home.marks unmarked)
      ∙ (ap (λ (c : Copy). with_l1 core (in_copies_of line (changed line c)) r) as_free
      ∙ (ap (λ (l1s : List L1State). record p { l1s = l1s }) same_l1s
      ∙ sym (ap (λ (o : Option Copy). record p { l1s = set p.l1s core (option_map_or (λ copy. kept_first_in line (stored (place_in_line addr) width value copy) (l1_of p core)) o (l1_of p core)) }) here)))))
