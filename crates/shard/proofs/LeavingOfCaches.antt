-- What leaves caches for an access, read off the caches as they are before it.
use Rattle.std.proofs.Common.{◌≡◌, ℕ, Bool, true, false, cond, List, [], ◌∷◌, get_or, Option, Some, None, is_some, refl, sym, ap, ◌∙◌, inl, inr}
use Rattle.std.specs.List.{All}
use Rattle.std.proofs.lemmas.Bool.{cases_eq, eq-eqb, ne_eqb}
use Rattle.std.proofs.lemmas.List.Elements.{All-head, All-tail}
use Rattle.zs_num.specs.Request.{is_fetch, line_of}
use Rattle.zs_num.specs.declared.entry.Outcome.{Outcome}
use Rattle.zs_num.specs.declared.entry.Outcome.TheVariants.{L2}
use Rattle.zs_num.specs.declared.request.Request.{Request}
use Rattle.cache_set.specs.declared.letter.Letter.{Letter}
use Rattle.cache_set.specs.declared.letter.Letter.TheVariants.{M, E, S, I}
use Rattle.cache_set.specs.Lines.{in_set_of, set_number, set_of}
use Rattle.cache_set.specs.Ways.{kept_of, victim_of, without}
use Rattle.shard.specs.declared.leaving.Leaving.{Leaving}
use Rattle.shard.specs.Coherence.{Caches, copies_evicted, dirty_at, fetch_holds, fetch_outcome_by, filled_into_l2, instructions_recalled, is_alone, is_dirty_victim, is_modified, is_valid, is_write, l1i_lines_at, l2_victim, letter_at, letter_in, looked_up, marked_dirty, on_l2, on_others, other_after, others_changed, outcome_by, own_victim, recalled, some_other, with_letter}
use Rattle.shard.specs.Leaving.{fetch_leaving_at, l1_leaves, l1i_leaves, l2_leaves, leaving_at, leaving_by, leaving_of, left_beside, line_in_way}
use Rattle.shard.specs.StandsFor.{HaveSets}
use Rattle.shard.proofs.CoherentInstructions.{l1i_set}
use Rattle.shard.proofs.CoherentLetters.{l1_set}
use Rattle.shard.proofs.CoherentLists.{mapped_at, numbered_at}
use Rattle.shard.proofs.CoherentPlaced.{if_other, none_other}
use Rattle.shard.proofs.LeftBeside.{last_behind}

-- ---- the last line of a core's set
abbrev pub own_last : Caches → (core line : ℕ) → Option ℕ
own_last c core line = line_in_way (own_victim c core line)

abbrev pub instruction_last : Caches → (core line : ℕ) → Option ℕ
instruction_last c core line = line_in_way (victim_of c.l1i_ways (l1i_lines_at c core line))

-- ---- what leaves behind the line of the L2, by the caches before
abbrev pub own_behind : Caches → (core line : ℕ) → (left : Option ℕ) → Option ℕ
own_behind c core line None = own_last c core line
own_behind c core line (Some left) = left_beside (is_valid (letter_at c core left)) (own_last c core left) (own_last c core line)

abbrev pub instruction_behind : Caches → (core line : ℕ) → (left : Option ℕ) → Option ℕ
instruction_behind c core line None = instruction_last c core line
instruction_behind c core line (Some left) = left_beside (fetch_holds c core left) (instruction_last c core left) (instruction_last c core line)

abbrev pub shared_left : Caches → (line : ℕ) → Option ℕ
shared_left c line = cond (is_some (dirty_at c line)) None (line_in_way (l2_victim c line))

-- what a core has holds
all_valid : (line : ℕ) (s : List (ℕ × Letter)) → All (λ (way : ℕ × Letter). is_valid way.1 ≡ true) s → is_valid (letter_in line s) ≡ is_some (kept_of line s)
all_valid line [] h = refl
all_valid line (w ∷ s) h =
    let P : ℕ × Letter → Type 0 = λ way. is_valid way.1 ≡ true in
    elim (cases_eq line w.0) as (λ _. is_valid (letter_in line (w ∷ s)) ≡ is_some (kept_of line (w ∷ s))) [
      | inl same ↦ rw (eq-eqb line w.0 same) (All-head P w s h)
      | inr apart ↦ rw (ne_eqb line w.0 apart) (all_valid line s (All-tail P w s h))
    ]

module _ (c : Caches) (h : HaveSets c) (core : ℕ) where
  letter_there : (line : ℕ) → is_valid (letter_at c core line) ≡ is_some (kept_of line (set_of c.shards line (get_or c.l1 core [])))
  unfolding letter_at
  letter_there line =
      let sets : List (List (ℕ × Letter)) = get_or c.l1 core [] in
      all_valid line (set_of c.shards line sets) (h.held core (set_number c.shards line sets))

  -- the line of the L2 leaves
  own_recalled : (line left : ℕ) → own_last (recalled left c) core line ≡ left_beside (is_valid (letter_at c core left)) (own_last c core left) (own_last c core line)
  unfolding recalled
  own_recalled line left =
      let sets : List (List (ℕ × Letter)) = get_or c.l1 core [] in
      ap (λ (s : List (List (ℕ × Letter))). line_in_way (victim_of c.l1_ways (set_of c.shards line s))) (mapped_at (in_set_of c.shards left (without left)) c.l1 core refl)
      ∙ (last_behind c.shards c.l1_ways sets (λ l. (l1_set c h core l).within) (h.l1_placed core) line left
      ∙ ap (λ (b : Bool). left_beside b (own_last c core left) (own_last c core line)) (sym (letter_there left)))

  own_evicted : (v : Option (ℕ × Bool)) (line : ℕ) → own_last (copies_evicted v c) core line ≡ own_behind c core line (line_in_way v)
  unfolding instructions_recalled
  own_evicted None line = refl
  own_evicted (Some v) line = own_recalled line v.0

  instruction_recalled : (line left : ℕ) → instruction_last (instructions_recalled left (recalled left c)) core line ≡ left_beside (fetch_holds c core left) (instruction_last c core left) (instruction_last c core line)
  unfolding recalled instructions_recalled fetch_holds
  instruction_recalled line left =
      let sets : List (List (ℕ × Unit {0})) = get_or c.l1i core [] in
      ap (λ (s : List (List (ℕ × Unit {0}))). line_in_way (victim_of c.l1i_ways (set_of c.shards line s))) (mapped_at (in_set_of c.shards left (without left)) c.l1i core refl)
      ∙ last_behind c.shards c.l1i_ways sets (λ l. (l1i_set c h core l).within) (h.l1i_placed core) line left

  instruction_evicted : (v : Option (ℕ × Bool)) (line : ℕ) → instruction_last (copies_evicted v c) core line ≡ instruction_behind c core line (line_in_way v)
  instruction_evicted None line = refl
  instruction_evicted (Some v) line = instruction_recalled line v.0

  -- ---- what the steps before leave of the own L1
  others_own : (change : Letter → Letter) (line at : ℕ) (d : Caches) → own_last (others_changed change core line d) core at ≡ own_last d core at
  unfolding others_changed
  others_own change line at d =
      ap (λ (s : List (List (ℕ × Letter))). line_in_way (victim_of d.l1_ways (set_of d.shards at s)))
      (numbered_at (if_other change core line d.shards) d.l1 core (none_other change core line d.shards core)
      ∙ ap (λ (b : Bool). cond b (get_or d.l1 core []) (in_set_of d.shards line (λ copies. with_letter line (change (letter_in line copies)) copies) (get_or d.l1 core []))) (eq-eqb core core refl))

  marked_own : (b : Bool) (line at : ℕ) (d : Caches) → own_last (cond b (marked_dirty line d) d) core at ≡ own_last d core at
  unfolding marked_dirty
  marked_own true line at d = refl
  marked_own false line at d = refl

  looked_up_own : (line at : ℕ) (d : Caches) → own_last (looked_up line d) core at ≡ own_last d core at
  unfolding looked_up
  looked_up_own line at d = refl

  found_own : (write others : Bool) (line : ℕ) → own_last (on_others (L2 others) write core line (on_l2 (L2 others) line c)) core line ≡ own_last c core line
  found_own write others line =
      let d : Caches = looked_up line c in
      let b : Bool = some_other is_modified d core line in
      others_own (other_after write) line line (cond b (marked_dirty line d) d) ∙ (marked_own b line line d ∙ looked_up_own line line c)

  filled_own : (line at : ℕ) (d : Caches) → own_last (filled_into_l2 line d) core at ≡ own_last d core at
  unfolding filled_into_l2
  filled_own line at d = refl

  filled_instruction : (line at : ℕ) (d : Caches) → instruction_last (filled_into_l2 line d) core at ≡ instruction_last d core at
  unfolding filled_into_l2
  filled_instruction line at d = refl

  looked_up_instruction : (line at : ℕ) (d : Caches) → instruction_last (looked_up line d) core at ≡ instruction_last d core at
  unfolding looked_up
  looked_up_instruction line at d = refl

  -- ---- by how an access is met
  abbrev by_outcome : Outcome → Letter → (line : ℕ) → (write : Bool) → Leaving
  by_outcome outcome own line write = record {
    own = l1_leaves own (on_others outcome write core line (on_l2 outcome line c)) core line;
    shared = l2_leaves outcome c line;
  }

  abbrev told : (there : Bool) → (in_l2 : Bool) → (line : ℕ) → Leaving
  told there in_l2 line =
      let shared = cond in_l2 None (line_in_way (l2_victim c line)) in leaving_by there (own_behind c core line shared) shared

  by_row : (own : Letter) (write in_l2 alone has dirty : Bool) (line : ℕ) → by_outcome (outcome_by write own in_l2 alone has dirty) own line write ≡ told (is_valid own) in_l2 line
  by_row M true in_l2 alone has dirty line = refl
  by_row M false in_l2 alone has dirty line = refl
  by_row E true in_l2 alone has dirty line = refl
  by_row E false in_l2 alone has dirty line = refl
  by_row S true in_l2 alone has dirty line = refl
  by_row S false in_l2 alone has dirty line = refl
  by_row I true true alone has dirty line = ap (λ (o : Option ℕ). record { own = o; shared = None }) (found_own true has line)
  by_row I false true alone has dirty line = ap (λ (o : Option ℕ). record { own = o; shared = None }) (found_own false alone line)
  by_row I true false alone has dirty line =
      let v : Option (ℕ × Bool) = l2_victim c line in
      ap (λ (o : Option ℕ). record { own = o; shared = line_in_way v }) (filled_own line line (copies_evicted v c) ∙ own_evicted v line)
  by_row I false false alone has dirty line =
      let v : Option (ℕ × Bool) = l2_victim c line in
      ap (λ (o : Option ℕ). record { own = o; shared = line_in_way v }) (filled_own line line (copies_evicted v c) ∙ own_evicted v line)

  pub leaving_told : (line : ℕ) (write : Bool) → leaving_at c core line write ≡ told (is_valid (letter_at c core line)) (is_some (dirty_at c line)) line
  leaving_told line write =
      by_row (letter_at c core line) write (is_some (dirty_at c line)) (some_other is_alone c core line) (some_other is_valid c core line) (is_dirty_victim c (l2_victim c line)) line

  -- ---- a fetch
  abbrev by_fetch : Outcome → (held : Bool) → (line : ℕ) → Leaving
  by_fetch outcome held line = record {
    own = l1i_leaves held (on_l2 outcome line c) core line;
    shared = l2_leaves outcome c line;
  }

  abbrev told_fetch : (held : Bool) → (in_l2 : Bool) → (line : ℕ) → Leaving
  told_fetch held in_l2 line =
      let shared = cond in_l2 None (line_in_way (l2_victim c line)) in leaving_by held (instruction_behind c core line shared) shared

  by_fetch_row : (held in_l2 dirty : Bool) (line : ℕ) → by_fetch (fetch_outcome_by held in_l2 dirty) held line ≡ told_fetch held in_l2 line
  by_fetch_row true in_l2 dirty line = refl
  by_fetch_row false true dirty line = ap (λ (o : Option ℕ). record { own = o; shared = None }) (looked_up_instruction line line c)
  by_fetch_row false false dirty line =
      let v : Option (ℕ × Bool) = l2_victim c line in
      ap (λ (o : Option ℕ). record { own = o; shared = line_in_way v }) (filled_instruction line line (copies_evicted v c) ∙ instruction_evicted v line)

  pub fetch_told : (line : ℕ) → fetch_leaving_at c core line ≡ told_fetch (fetch_holds c core line) (is_some (dirty_at c line)) line
  fetch_told line = by_fetch_row (fetch_holds c core line) (is_some (dirty_at c line)) (is_dirty_victim c (l2_victim c line)) line

  -- what leaves, by the caches before the access
  abbrev pub leaving_before : Request → Leaving
  leaving_before request = let line = line_of request in let shared = shared_left c line in
      cond (is_fetch request) (leaving_by (fetch_holds c core line) (instruction_behind c core line shared) shared)
      (leaving_by (is_valid (letter_at c core line)) (own_behind c core line shared) shared)

  either : (b : Bool) (fetch other told_by_fetch told_by_other : Leaving) → fetch ≡ told_by_fetch → other ≡ told_by_other → cond b fetch other ≡ cond b told_by_fetch told_by_other
  either true fetch other told_by_fetch told_by_other e f = e
  either false fetch other told_by_fetch told_by_other e f = f

  pub leaving_is : (request : Request) → leaving_of c core request ≡ leaving_before request
  unfolding leaving_of
  leaving_is request =
      let line : ℕ = line_of request in let shared : Option ℕ = shared_left c line in
      either (is_fetch request) (fetch_leaving_at c core line) (leaving_at c core line (is_write request)) (leaving_by (fetch_holds c core line) (instruction_behind c core line shared) shared)
      (leaving_by (is_valid (letter_at c core line)) (own_behind c core line shared) shared) (fetch_told line) (leaving_told line (is_write request))
