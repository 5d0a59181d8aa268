-- The steps of a bank read and write the L1s that they name, and no other.
use Rattle.std.proofs.Common.{◌≡◌, ◌≢◌, ℕ, ◌||◌, ◌&&◌, Bool, true, false, not, cond, List, [], ◌∷◌, ◌++◌, get_or, set, Option, Some, None, refl, sym, ap, ◌∙◌, inl, inr}
use Rattle.std.specs.Prelude.{nat_eq}
use Rattle.std.specs.Set.{is_member}
use Rattle.std.proofs.lemmas.Bool.{cases_eq, eq-eqb, ne_eqb}
use Rattle.std.proofs.lemmas.List.{get_or-set_other, set_comm}
use Rattle.cache_set.specs.declared.letter.Letter.{Letter}
use Rattle.std.specs.Option.{option_map_or}
use Rattle.cache_set.specs.Ways.{changed, victim_of}
use Rattle.zs_num.specs.declared.request.Request.{Request}
use Rattle.zs_num.specs.Request.{addr_of, line_of}
use Rattle.shard.specs.Coherence.{is_alone, is_modified}
use Rattle.home.specs.HomeState.{HomeLine, HomeState, brought_in, bytes_at, dropped_in, evicted_by, fetched_in, is_marked_by_others, marked_dirty_in, with_bytes_at}
use Rattle.l1_cache.specs.L1State.{Copy, L1State, copy_at, filled_in, given_up_in, in_copies_of, instruction_filled_in, instruction_given_up_in, instructions_at, kept_first_in, letter_of, newer_bytes, no_l1, place_in_line, shared_in, victim_in}
use Rattle.shard.specs.Marks.{bytes_after, marks_after}
use Rattle.shard.specs.SharedStep.{Bank, answered, answered_with, brought_home, brought_to_own, collected, copy_of, dirty_by, evicted_everywhere, filled_from_home, given_up_by, holders_of, instruction_brought, instructions_given_up_by, is_modified_by, kept_with, l1_of, left_by_others, others_of, own_evicted, own_instruction_evicted, own_letter, shared_by, shared_by_others, with_home, with_l1}

pub not_first : (c k : ℕ) (cs : List ℕ) → is_member nat_eq (c ∷ cs) k ≡ false → (k ≢ c) × (is_member nat_eq cs k ≡ false)
not_first c k cs h =
    elim (cases_eq k c) as (λ _. (k ≢ c) × (is_member nat_eq cs k ≡ false)) [
      | inl e ↦ let bad : true ≡ false = rw (eq-eqb k c e) at h in absurd cc
      | inr e ↦ (e, rw (ne_eqb k c e) at h)
    ]

pub not_in_either : (a b : List ℕ) (k : ℕ) → is_member nat_eq (a ++ b) k ≡ false → (is_member nat_eq a k ≡ false) × (is_member nat_eq b k ≡ false)
not_in_either [] b k h = (refl, h)
not_in_either (c ∷ a) b k h =
    let first = not_first c k (a ++ b) h in
    let rest = not_in_either a b k first.1 in
    (rw (ne_eqb k c first.0) (rest.0), rest.1)

module _ (other : ℕ) (change : L1State → L1State) where
  -- the bank after a change of the other L1
  abbrev pub W : Bank → Bank
  W p = with_l1 other change p

  pub l1_same : (core : ℕ) (p : Bank) → core ≢ other → l1_of (W p) core ≡ l1_of p core
  l1_same core p apart = get_or-set_other p.l1s other core (change (get_or p.l1s other no_l1)) no_l1 apart

  pub through_l1 : (core : ℕ) (f : L1State → L1State) (p : Bank) → core ≢ other → with_l1 core f (W p) ≡ W (with_l1 core f p)
  through_l1 core f p apart =
      ap (λ (l1s : List L1State). record p { l1s = l1s })
      (ap (λ (l1 : L1State). set (set p.l1s other (change (get_or p.l1s other no_l1))) core (f l1)) (l1_same core p apart)
      ∙ (set_comm p.l1s other core (change (get_or p.l1s other no_l1)) (f (get_or p.l1s core no_l1)) (λ e. apart (sym e))
      ∙ ap (λ (l1 : L1State). set (set p.l1s core (f (get_or p.l1s core no_l1))) other (change l1)) (sym (get_or-set_other p.l1s core other (f (get_or p.l1s core no_l1)) no_l1 (λ e. apart (sym e))))))

  pub through_if : (b : Bool) (g : HomeState → HomeState) (p : Bank) → cond b (with_home g (W p)) (W p) ≡ W (cond b (with_home g p) p)
  through_if true g p = refl
  through_if false g p = refl

  pub through_collected : (line core : ℕ) (p : Bank) → core ≢ other → collected line core (W p) ≡ W (collected line core p)
  through_collected line core p apart = ap (λ (l1 : L1State). W (with_home (with_bytes_at line (newer_bytes (copy_at l1 line) (bytes_at p.home line))) p)) (l1_same core p apart)

  pub through_given_up : (line : ℕ) (cores : List ℕ) (p : Bank) → is_member nat_eq cores other ≡ false → given_up_by line cores (W p) ≡ W (given_up_by line cores p)
  through_given_up line [] p h = refl
  through_given_up line (core ∷ cores) p h =
      let first = not_first core other cores h in
      let apart : core ≢ other = λ e. first.0 (sym e) in
      ap (λ (q : Bank). given_up_by line cores (with_l1 core (given_up_in line) q)) (through_collected line core p apart)
      ∙ (ap (given_up_by line cores) (through_l1 core (given_up_in line) (collected line core p) apart)
      ∙ through_given_up line cores (with_l1 core (given_up_in line) (collected line core p)) first.1)

  pub through_shared : (line : ℕ) (cores : List ℕ) (p : Bank) → is_member nat_eq cores other ≡ false → shared_by line cores (W p) ≡ W (shared_by line cores p)
  through_shared line [] p h = refl
  through_shared line (core ∷ cores) p h =
      let first = not_first core other cores h in
      let apart : core ≢ other = λ e. first.0 (sym e) in
      ap (λ (q : Bank). shared_by line cores (with_l1 core (shared_in line) q)) (through_collected line core p apart)
      ∙ (ap (shared_by line cores) (through_l1 core (shared_in line) (collected line core p) apart)
      ∙ through_shared line cores (with_l1 core (shared_in line) (collected line core p)) first.1)

  pub through_instructions : (line : ℕ) (cores : List ℕ) (p : Bank) → is_member nat_eq cores other ≡ false → instructions_given_up_by line cores (W p) ≡ W (instructions_given_up_by line cores p)
  through_instructions line [] p h = refl
  through_instructions line (core ∷ cores) p h =
      let first = not_first core other cores h in
      ap (instructions_given_up_by line cores) (through_l1 core (instruction_given_up_in line) p (λ e. first.0 (sym e)))
      ∙ through_instructions line cores (with_l1 core (instruction_given_up_in line) p) first.1

  pub modified_same : (line : ℕ) (cores : List ℕ) (p : Bank) → is_member nat_eq cores other ≡ false → is_modified_by (W p) line cores ≡ is_modified_by p line cores
  modified_same line [] p h = refl
  modified_same line (core ∷ cores) p h =
      let first = not_first core other cores h in
      ap (λ (l1 : L1State). is_modified (letter_of (copy_at l1 line)) || is_modified_by (W p) line cores) (l1_same core p (λ e. first.0 (sym e)))
      ∙ ap (λ (b : Bool). is_modified (own_letter p core line) || b) (modified_same line cores p first.1)

  pub through_dirty : (line : ℕ) (cores : List ℕ) (p : Bank) → is_member nat_eq cores other ≡ false → dirty_by line cores (W p) ≡ W (dirty_by line cores p)
  through_dirty line cores p h =
      ap (λ (b : Bool). cond b (with_home (marked_dirty_in line) (W p)) (W p)) (modified_same line cores p h)
      ∙ through_if (is_modified_by p line cores) (marked_dirty_in line) p

  pub through_left : (core line : ℕ) (row : HomeLine) (p : Bank) → is_member nat_eq (others_of core row) other ≡ false → left_by_others core line row (W p) ≡ W (left_by_others core line row p)
  unfolding left_by_others
  through_left core line row p h =
      ap (given_up_by line (others_of core row)) (through_dirty line (others_of core row) p h)
      ∙ through_given_up line (others_of core row) (dirty_by line (others_of core row) p) h

  sharing : (b : Bool) (line : ℕ) (sharers : List ℕ) (p : Bank) → (b ≡ true → is_member nat_eq sharers other ≡ false)
      → cond b (shared_by line sharers (dirty_by line sharers (W p))) (W p) ≡ W (cond b (shared_by line sharers (dirty_by line sharers p)) p)
  sharing false line sharers p h = refl
  sharing true line sharers p h =
      ap (shared_by line sharers) (through_dirty line sharers p (h refl)) ∙ through_shared line sharers (dirty_by line sharers p) (h refl)

  pub through_shared_by_others : (line : ℕ) (row : HomeLine) (p : Bank) → (row.alone ≡ true → is_member nat_eq row.sharers other ≡ false) → shared_by_others line row (W p) ≡ W (shared_by_others line row p)
  unfolding shared_by_others
  through_shared_by_others line row p h = sharing row.alone line row.sharers p h

  through_evicted : (v : Option (ℕ × HomeLine)) (p : Bank) → is_member nat_eq (holders_of v) other ≡ false → evicted_everywhere v (W p) ≡ W (evicted_everywhere v p)
  through_evicted None p h = refl
  through_evicted (Some v) p h =
      let both = not_in_either v.1.sharers v.1.fetchers other h in
      ap (instructions_given_up_by v.0 v.1.fetchers) (through_given_up v.0 v.1.sharers p both.0)
      ∙ through_instructions v.0 v.1.fetchers (given_up_by v.0 v.1.sharers p) both.1

  pub through_brought_home : (line : ℕ) (p : Bank) → is_member nat_eq (holders_of (evicted_by p.home line)) other ≡ false → brought_home line (W p) ≡ W (brought_home line p)
  unfolding brought_home
  through_brought_home line p h = ap (with_home (brought_in line)) (through_evicted (evicted_by p.home line) p h)

  -- ---- the core's own
  module _ (core : ℕ) (apart : core ≢ other) where
    keeping : (letter : Letter) (line : ℕ) (p : Bank) (o : Option Copy)
        → option_map_or (λ copy. with_l1 core (kept_first_in line (record copy { letter = letter })) (W p)) o (W p) ≡ W (option_map_or (λ copy. with_l1 core (kept_first_in line (record copy { letter = letter })) p) o p)
    keeping letter line p None = refl
    keeping letter line p (Some copy) = through_l1 core (kept_first_in line (record copy { letter = letter })) p apart

    pub through_kept : (letter : Letter) (line : ℕ) (p : Bank) → kept_with letter core line (W p) ≡ W (kept_with letter core line p)
    through_kept letter line p =
        ap (λ (l1 : L1State). option_map_or (λ copy. with_l1 core (kept_first_in line (record copy { letter = letter })) (W p)) (copy_at l1 line) (W p)) (l1_same core p apart)
        ∙ keeping letter line p (copy_of p core line)

    evicting : (b : Bool) (line : ℕ) (p : Bank)
        → cond b (with_home (marked_dirty_in line) (collected line core (W p))) (W p) ≡ W (cond b (with_home (marked_dirty_in line) (collected line core p)) p)
    evicting false line p = refl
    evicting true line p = ap (with_home (marked_dirty_in line)) (through_collected line core p apart)

    through_own_evicted : (v : Option (ℕ × Copy)) (p : Bank) → own_evicted v core (W p) ≡ W (own_evicted v core p)
    through_own_evicted None p = refl
    through_own_evicted (Some v) p = ap (with_home (dropped_in v.0 core)) (evicting (is_modified v.1.letter) v.0 p)

    pub through_brought : (letter : Letter) (line : ℕ) (p : Bank) → brought_to_own letter core line (W p) ≡ W (brought_to_own letter core line p)
    unfolding brought_to_own
    through_brought letter line p =
        let v : Option (ℕ × Copy) = victim_in (l1_of p core) line in
        ap (λ (l1 : L1State). filled_from_home letter core line (own_evicted (victim_in l1 line) core (W p))) (l1_same core p apart)
        ∙ (ap (filled_from_home letter core line) (through_own_evicted v p)
        ∙ through_l1 core (filled_in line (record { letter = letter; free = false; bytes = bytes_at (own_evicted v core p).home line })) (own_evicted v core p) apart)

    answering : (request : Request) (p : Bank) (o : Option Copy)
        → option_map_or (λ copy. answered_with core (line_of request) request copy (W p)) o (W p) ≡ W (option_map_or (λ copy. answered_with core (line_of request) request copy p) o p)
    answering request p None = refl
    answering request p (Some copy) =
        let line : ℕ = line_of request in
        let marks = marks_after p.home.marks core request in
        ap (with_home (λ home. record home { marks = marks }))
        (through_l1 core (in_copies_of line (changed line (record copy {
          free = is_alone copy.letter && not (is_marked_by_others marks core line);
          bytes = bytes_after copy.bytes (place_in_line (addr_of request)) p.home.marks core request;
        }))) p apart)

    pub through_answered : (request : Request) (p : Bank) → answered core request (W p) ≡ W (answered core request p)
    through_answered request p =
        ap (λ (l1 : L1State). option_map_or (λ copy. answered_with core (line_of request) request copy (W p)) (copy_at l1 (line_of request)) (W p)) (l1_same core p apart)
        ∙ answering request p (copy_of p core (line_of request))

    own_instruction : (v : Option (ℕ × Unit {0})) (p : Bank) → own_instruction_evicted v core (W p) ≡ W (own_instruction_evicted v core p)
    own_instruction None p = refl
    own_instruction (Some v) p = refl

    pub through_instruction_brought : (line : ℕ) (p : Bank) → instruction_brought core line (W p) ≡ W (instruction_brought core line p)
    through_instruction_brought line p =
        let v : Option (ℕ × Unit {0}) = victim_of (l1_of p core).l1i_ways (instructions_at (l1_of p core) line) in
        ap (λ (l1 : L1State). with_home (fetched_in line core) (with_l1 core (instruction_filled_in line) (own_instruction_evicted (victim_of l1.l1i_ways (instructions_at l1 line)) core (W p)))) (l1_same core p apart)
        ∙ (ap (λ (q : Bank). with_home (fetched_in line core) (with_l1 core (instruction_filled_in line) q)) (own_instruction v p)
        ∙ ap (with_home (fetched_in line core)) (through_l1 core (instruction_filled_in line) (own_instruction_evicted v core p) apart))
