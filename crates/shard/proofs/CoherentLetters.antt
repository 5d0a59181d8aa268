-- The letter that a core has for a line after each step of an access.
use Rattle.std.proofs.Common.{◌≡◌, ◌≢◌, ℕ, ◌-◌, ◌<◌, ◌≤◌, Bool, true, false, cond, eqb, List, [], ◌∷◌, length, get_or, map, set, Option, Some, None, refl, sym, ap, ◌∙◌, subst, arith}
use Rattle.std.specs.List.{All, IsDistinct, enumerate_from}
use Rattle.std.specs.Map.{keys_of}
use Rattle.std.specs.Option.{option_map_or}
use Rattle.std.specs.Prelude.{nat_eq, unwrap_or}
use Rattle.std.proofs.lemmas.Bool.{eq-eqb, ne_eqb}
use Rattle.std.proofs.lemmas.List.{get_or-set_same, get_or-set_other, length-set}
use Rattle.std.proofs.lemmas.List.Elements.{All-nil}
use Rattle.std.proofs.lemmas.Option.{get_or_from_slice_get, slice_get_within}
use Rattle.cache_set.specs.declared.letter.Letter.{Letter}
use Rattle.cache_set.specs.declared.letter.Letter.TheVariants.{M, E, S, I}
use Rattle.cache_set.specs.Ways.{kept_of, without, filled, victim_of}
use Rattle.shard.specs.Coherence.{Caches, filled_into_l1i, in_own_set_of, instructions_recalled, is_modified, kept_first, on_l1i, used_in_l1i, letter_at, letter_in, looked_up, marked_dirty, others_changed, own_victim, recalled, filled_into_l1, filled_into_l2, with_letter, written_back}
use Rattle.cache_set.specs.Lines.{set_of, in_set_of, set_number}
use Rattle.shard.specs.StandsFor.{HaveSets, IsSet}
use Rattle.shard.proofs.CoherentLines.{kept_changed_other, kept_changed_same, kept_elsewhere, kept_filled_other, kept_filled_room, kept_filled_same, kept_filled_victim, kept_front_other, kept_front_same, kept_without_other, kept_without_same, set_same}
use Rattle.shard.proofs.CoherentLists.{mapped_at, numbered_at, set_read}
use Rattle.shard.proofs.CoherentPlaced.{if_other, none_other}
use Rattle.shard.proofs.Fits.{at_or, set_nil}

-- the set of a line in a core's L1
pub l1_set : (c : Caches) → HaveSets c → (core line : ℕ) → IsSet c.l1_ways (set_of c.shards line (get_or c.l1 core []))
l1_set c h core line =
    let Is : List (ℕ × Letter) → Type 0 = IsSet c.l1_ways in
    let sets : List (List (ℕ × Letter)) = get_or c.l1 core [] in
    at_or Is sets (set_number c.shards line sets) [] (at_or (All Is) c.l1 core [] h.l1 (All-nil Is)) (set_nil c.l1_ways)

-- what holds of each way of a set holds of the one that leaves
pub at_victim : {X : Type 0} (P : ℕ × X → Type 0) (ways : ℕ) (s : List (ℕ × X)) (w : ℕ × X) → All P s → victim_of ways s ≡ Some w → P w
at_victim P ways s w h e = subst P (get_or_from_slice_get s (ways - 1) w w e) (h (ways - 1) w (slice_get_within s (ways - 1) w e))

-- ---- steps on the L2 alone
pub letter_fetched : (line : ℕ) (c : Caches) (core l : ℕ) → letter_at (filled_into_l2 line c) core l ≡ letter_at c core l
unfolding letter_at filled_into_l2
letter_fetched line c core l = refl

pub letter_looked_up : (line : ℕ) (c : Caches) (core l : ℕ) → letter_at (looked_up line c) core l ≡ letter_at c core l
unfolding letter_at looked_up
letter_looked_up line c core l = refl

pub letter_marked : (line : ℕ) (c : Caches) (core l : ℕ) → letter_at (marked_dirty line c) core l ≡ letter_at c core l
unfolding letter_at marked_dirty
letter_marked line c core l = refl

pub letter_written_back : (victim : Option (ℕ × Letter)) (c : Caches) (core l : ℕ) → letter_at (written_back victim c) core l ≡ letter_at c core l
letter_written_back None c core l = refl
letter_written_back (Some victim) c core l =
    elim (is_modified victim.1) as (λ b. letter_at (cond b (marked_dirty victim.0 c) c) core l ≡ letter_at c core l)
    [ true ↦ letter_marked victim.0 c core l | false ↦ refl ]

-- ---- steps on the instruction caches alone
pub letter_instructions : (line : ℕ) (c : Caches) (core l : ℕ) → letter_at (instructions_recalled line c) core l ≡ letter_at c core l
unfolding letter_at instructions_recalled
letter_instructions line c core l = refl

pub letter_on_l1i : (held : Bool) (core line : ℕ) (c : Caches) (a l : ℕ) → letter_at (on_l1i held core line c) a l ≡ letter_at c a l
unfolding letter_at used_in_l1i filled_into_l1i
letter_on_l1i true core line c a l = refl
letter_on_l1i false core line c a l = refl

-- ---- a line that no core has any more
-- a change that leaves an empty set empty
pub kept_here : {X : Type 0} (shards line : ℕ) (change : List (ℕ × X) → List (ℕ × X)) (sets : List (List (ℕ × X))) → change [] ≡ [] → set_of shards line (in_set_of shards line change sets) ≡ change (set_of shards line sets)
kept_here shards line change [] none = sym none
kept_here shards line change (s ∷ sets) none = set_same shards line change (s ∷ sets) (omega arith)

abbrev or_i : Option Letter → Letter
or_i o = unwrap_or o I

pub letter_recalled_same : (line : ℕ) (c : Caches) (core : ℕ) → HaveSets c → letter_at (recalled line c) core line ≡ I
unfolding letter_at recalled
letter_recalled_same line c core h =
    let sets : List (List (ℕ × Letter)) = get_or c.l1 core [] in
    rw (mapped_at (in_set_of c.shards line (without line)) c.l1 core refl, kept_here c.shards line (without line) sets refl)
    (ap or_i (kept_without_same line (set_of c.shards line sets) (l1_set c h core line).distinct))

pub letter_recalled_other : (line : ℕ) (c : Caches) (core l : ℕ) → l ≢ line → letter_at (recalled line c) core l ≡ letter_at c core l
unfolding letter_at recalled
letter_recalled_other line c core l apart =
    let sets : List (List (ℕ × Letter)) = get_or c.l1 core [] in
    rw (mapped_at (in_set_of c.shards line (without line)) c.l1 core refl)
    (ap or_i (kept_elsewhere c.shards l line (without line) sets (kept_without_other l line (set_of c.shards line sets) apart)))

-- ---- other letters for the other cores
letter_changed : (line : ℕ) (v : Letter) (o : Option Letter) → (o ≡ None → v ≡ I) → or_i (option_map_or (λ (_ : Letter). Some v) o None) ≡ v
letter_changed line v None h = sym (h refl)
letter_changed line v (Some w) h = refl

letter_with : (line : ℕ) (v : Letter) (s : List (ℕ × Letter)) → IsDistinct nat_eq (keys_of s) → (kept_of line s ≡ None → v ≡ I) → letter_in line (with_letter line v s) ≡ v
letter_with line M s d h = rw (kept_changed_same line M s) (letter_changed line M (kept_of line s) h)
letter_with line E s d h = rw (kept_changed_same line E s) (letter_changed line E (kept_of line s) h)
letter_with line S s d h = rw (kept_changed_same line S s) (letter_changed line S (kept_of line s) h)
letter_with line I s d h = rw (kept_without_same line s d) refl

kept_with_other : (line other : ℕ) (v : Letter) (s : List (ℕ × Letter)) → line ≢ other → kept_of line (with_letter other v s) ≡ kept_of line s
kept_with_other line other M s h = kept_changed_other line other M s h
kept_with_other line other E s h = kept_changed_other line other E s h
kept_with_other line other S s h = kept_changed_other line other S s h
kept_with_other line other I s h = kept_without_other line other s h

with_none : (line : ℕ) (v : Letter) → with_letter line v [] ≡ []
with_none line M = refl
with_none line E = refl
with_none line S = refl
with_none line I = refl

module _ (change : Letter → Letter) (core line : ℕ) (c : Caches) where
  abbrev on_copies : List (ℕ × Letter) → List (ℕ × Letter)
  on_copies copies = with_letter line (change (letter_in line copies)) copies

  others_at : (other : ℕ) → get_or (map (if_other change core line c.shards) (enumerate_from 0 c.l1)) other [] ≡ if_other change core line c.shards (other, get_or c.l1 other [])
  others_at other = numbered_at (if_other change core line c.shards) c.l1 other (none_other change core line c.shards other)

  pub letter_others_own : (l : ℕ) → letter_at (others_changed change core line c) core l ≡ letter_at c core l
  unfolding letter_at others_changed
  letter_others_own l = rw (others_at core, eq-eqb core core refl) refl

  pub letter_others_same : (other : ℕ) → other ≢ core → change I ≡ I → HaveSets c → letter_at (others_changed change core line c) other line ≡ change (letter_at c other line)
  unfolding letter_at others_changed
  letter_others_same other apart none h =
      let sets : List (List (ℕ × Letter)) = get_or c.l1 other [] in
      let copies : List (ℕ × Letter) = set_of c.shards line sets in
      let here : set_of c.shards line (in_set_of c.shards line on_copies sets) ≡ on_copies copies = kept_here c.shards line on_copies sets (with_none line (change I)) in
      rw (others_at other, ne_eqb other core apart, here)
      (letter_with line (change (letter_in line copies)) copies (l1_set c h other line).distinct (λ e. ap (λ (o : Option Letter). change (or_i o)) e ∙ none))

  pub letter_others_other : (other l : ℕ) → l ≢ line → letter_at (others_changed change core line c) other l ≡ letter_at c other l
  unfolding letter_at others_changed
  letter_others_other other l apart =
      let sets : List (List (ℕ × Letter)) = get_or c.l1 other [] in
      let copies : List (ℕ × Letter) = set_of c.shards line sets in
      let there : kept_of l (set_of c.shards l (in_set_of c.shards line on_copies sets)) ≡ kept_of l (set_of c.shards l sets)
      = kept_elsewhere c.shards l line on_copies sets (kept_with_other l line (change (letter_in line copies)) copies apart) in
      rw (others_at other) (elim (eqb other core) as (λ b. letter_in l (set_of c.shards l (cond b sets (in_set_of c.shards line on_copies sets))) ≡ letter_in l (set_of c.shards l sets)) [
        | true ↦ refl
        | false ↦ ap or_i there
      ])

-- ---- a line of a core's own L1
module _ (core line : ℕ) (change : List (ℕ × Letter) → List (ℕ × Letter)) (c : Caches) where
  own_here : (l : ℕ) → core < length c.l1 → 1 ≤ length (get_or c.l1 core []) → set_number c.shards l (get_or c.l1 core []) ≡ set_number c.shards line (get_or c.l1 core [])
      → letter_at (in_own_set_of core line change c) core l ≡ letter_in l (change (set_of c.shards line (get_or c.l1 core [])))
  unfolding letter_at
  own_here l known some e =
      let sets : List (List (ℕ × Letter)) = get_or c.l1 core [] in
      let k : ℕ = set_number c.shards line sets in
      let copies : List (ℕ × Letter) = change (get_or sets k []) in
      let within : k < length sets = omega arith in
      rw (get_or-set_same c.l1 core (set sets k copies) [] known, length-set sets k copies, e, get_or-set_same sets k copies [] within) refl

  own_elsewhere : (other l : ℕ) → kept_of l (change (set_of c.shards line (get_or c.l1 core []))) ≡ kept_of l (set_of c.shards line (get_or c.l1 core []))
      → letter_at (in_own_set_of core line change c) other l ≡ letter_at c other l
  unfolding letter_at
  own_elsewhere other l h =
      set_read (λ sets. letter_in l (set_of c.shards l sets) ≡ letter_in l (set_of c.shards l (get_or c.l1 other []))) c.l1 core (in_set_of c.shards line change (get_or c.l1 core [])) other
      (λ e. rw e (ap or_i (kept_elsewhere c.shards l line change (get_or c.l1 core []) h))) refl

  own_other_core : (other l : ℕ) → other ≢ core → letter_at (in_own_set_of core line change c) other l ≡ letter_at c other l
  unfolding letter_at
  own_other_core other l apart = rw (get_or-set_other c.l1 core other (in_set_of c.shards line change (get_or c.l1 core [])) [] apart) refl

-- a line that comes to the front
module _ (core line : ℕ) (letter : Letter) (c : Caches) where
  pub letter_first_same : core < length c.l1 → 1 ≤ length (get_or c.l1 core []) → letter_at (kept_first core line letter c) core line ≡ letter
  unfolding kept_first
  letter_first_same known some =
      own_here core line (λ copies. (line, letter) ∷ without line copies) c line known some refl
      ∙ ap or_i (kept_front_same line letter (without line (set_of c.shards line (get_or c.l1 core []))))

  pub letter_first_line : (other l : ℕ) → l ≢ line → letter_at (kept_first core line letter c) other l ≡ letter_at c other l
  unfolding kept_first
  letter_first_line other l apart =
      let copies : List (ℕ × Letter) = set_of c.shards line (get_or c.l1 core []) in
      own_elsewhere core line (λ copies. (line, letter) ∷ without line copies) c other l
      (kept_front_other l line letter (without line copies) apart ∙ kept_without_other l line copies apart)

  pub letter_first_core : (other l : ℕ) → other ≢ core → letter_at (kept_first core line letter c) other l ≡ letter_at c other l
  unfolding kept_first
  letter_first_core other l apart = own_other_core core line (λ copies. (line, letter) ∷ without line copies) c other l apart

-- a line that comes in
back_l1 : (victim : Option (ℕ × Letter)) (c : Caches) → (written_back victim c).l1 ≡ c.l1
unfolding marked_dirty
back_l1 None c = refl
back_l1 (Some victim) c = elim (is_modified victim.1) as (λ b. (cond b (marked_dirty victim.0 c) c).l1 ≡ c.l1) [ true ↦ refl | false ↦ refl ]

back_shards : (victim : Option (ℕ × Letter)) (c : Caches) → (written_back victim c).shards ≡ c.shards
unfolding marked_dirty
back_shards None c = refl
back_shards (Some victim) c = elim (is_modified victim.1) as (λ b. (cond b (marked_dirty victim.0 c) c).shards ≡ c.shards) [ true ↦ refl | false ↦ refl ]

back_copies : (victim : Option (ℕ × Letter)) (c : Caches) (core line : ℕ) → set_of (written_back victim c).shards line (get_or (written_back victim c).l1 core []) ≡ set_of c.shards line (get_or c.l1 core [])
unfolding marked_dirty
back_copies None c core line = refl
back_copies (Some victim) c core line =
    elim (is_modified victim.1) as (λ b. let d = cond b (marked_dirty victim.0 c) c in set_of d.shards line (get_or d.l1 core []) ≡ set_of c.shards line (get_or c.l1 core []))
    [ true ↦ refl | false ↦ refl ]

module _ (core line : ℕ) (letter : Letter) (c : Caches) (room : 1 ≤ c.l1_ways) where
  abbrev copies_of : List (ℕ × Letter)
  copies_of = set_of c.shards line (get_or c.l1 core [])

  abbrev back : Caches
  back = written_back (own_victim c core line) c

  abbrev comes_in : List (ℕ × Letter) → List (ℕ × Letter)
  comes_in = filled c.l1_ways line letter

  pub letter_taken_same : core < length c.l1 → 1 ≤ length (get_or c.l1 core []) → letter_at (filled_into_l1 core line letter c) core line ≡ letter
  unfolding filled_into_l1
  letter_taken_same known some =
      let same : back.l1 ≡ c.l1 = back_l1 (own_victim c core line) c in
      own_here core line comes_in back line (subst (λ (l1 : List (List (List (ℕ × Letter)))). core < length l1) (sym same) known) (subst (λ (l1 : List (List (List (ℕ × Letter)))). 1 ≤ length (get_or l1 core [])) (sym same) some) refl
      ∙ ap or_i (kept_filled_same c.l1_ways line letter (set_of back.shards line (get_or back.l1 core [])) room)

  pub letter_taken_core : (other l : ℕ) → other ≢ core → letter_at (filled_into_l1 core line letter c) other l ≡ letter_at c other l
  unfolding filled_into_l1
  letter_taken_core other l apart =
      own_other_core core line comes_in back other l apart ∙ letter_written_back (own_victim c core line) c other l

  taken_elsewhere : (other l : ℕ) → kept_of l (comes_in copies_of) ≡ kept_of l copies_of → letter_at (filled_into_l1 core line letter c) other l ≡ letter_at c other l
  unfolding filled_into_l1
  taken_elsewhere other l h =
      own_elsewhere core line comes_in back other l (subst (λ (s : List (ℕ × Letter)). kept_of l (comes_in s) ≡ kept_of l s) (sym (back_copies (own_victim c core line) c core line)) h)
      ∙ letter_written_back (own_victim c core line) c other l

  -- another line stays unless it leaves
  pub letter_taken_room : (other l : ℕ) → own_victim c core line ≡ None → l ≢ line → letter_at (filled_into_l1 core line letter c) other l ≡ letter_at c other l
  letter_taken_room other l none apart = taken_elsewhere other l (kept_filled_room c.l1_ways l line letter copies_of room none apart)

  pub letter_taken_line : (other l : ℕ) (victim : ℕ × Letter) → HaveSets c → own_victim c core line ≡ Some victim → l ≢ line → l ≢ victim.0 → letter_at (filled_into_l1 core line letter c) other l ≡ letter_at c other l
  letter_taken_line other l victim h is apart stays =
      taken_elsewhere other l (kept_filled_other c.l1_ways l line letter copies_of victim room (l1_set c h core line).within is apart stays)

  pub letter_taken_victim : (victim : ℕ × Letter) → HaveSets c → core < length c.l1 → 1 ≤ length (get_or c.l1 core []) → own_victim c core line ≡ Some victim → victim.0 ≢ line
      → letter_at (filled_into_l1 core line letter c) core victim.0 ≡ I
  unfolding filled_into_l1
  letter_taken_victim victim h known some is apart =
      let P : List (List (List (ℕ × Letter))) → ℕ → Type 0 = λ l1 shards. (core < length l1) × (1 ≤ length (get_or l1 core [])) × (set_number shards victim.0 (get_or l1 core []) ≡ set_number shards line (get_or l1 core [])) in
      let k : ℕ = set_number c.shards line (get_or c.l1 core []) in
      let placed : set_number c.shards victim.0 (get_or c.l1 core []) ≡ k = at_victim (λ (way : ℕ × Letter). set_number c.shards way.0 (get_or c.l1 core []) ≡ k) c.l1_ways copies_of victim (h.l1_placed core k) is in
      let before : P c.l1 c.shards = (known, some, placed) in
      let all : P back.l1 back.shards
      = subst (λ (n : ℕ). P back.l1 n) (sym (back_shards (own_victim c core line) c)) (subst (λ (l1 : List (List (List (ℕ × Letter)))). P l1 c.shards) (sym (back_l1 (own_victim c core line) c)) before) in
      own_here core line comes_in back victim.0 all.0 all.1 all.2
      ∙ ap (λ (s : List (ℕ × Letter)). letter_in victim.0 (comes_in s)) (back_copies (own_victim c core line) c core line)
      ∙ ap or_i (kept_filled_victim c.l1_ways line letter copies_of victim room (l1_set c h core line).distinct is apart)
