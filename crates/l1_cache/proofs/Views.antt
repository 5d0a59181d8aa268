-- What each step of the arrays is to a caller, who sees lists; and that the table stays right.
use Rattle.std.proofs.Common.{◌≡◌, ℕ, ◌-◌, ◌*◌, ◌^◌, ◌<◌, ◌&&◌, Bool, false, List, [], ◌∷◌, length, get_or, set, Option, Some, None, refl, sym, ap, ◌∙◌, subst, arith}
use Rattle.std.specs.Int.Bits.{bit_and}
use Rattle.std.specs.Option.{option_map_or}
use Rattle.std.proofs.lemmas.List.{get_or-set_other, get_or-set_same, set-get_or}
use Rattle.cache_set.specs.declared.letter.Letter.{Letter}
use Rattle.cache_set.specs.declared.letter.Letter.TheVariants.{S}
use Rattle.cache_set.specs.LetterFacts.{is_modified}
use Rattle.cache_set.specs.Lines.{in_set_of, set_number, set_of}
use Rattle.cache_set.specs.Pieces.{AreAgedSets, IsSameOrder, sets_in}
use Rattle.cache_set.specs.Ways.{kept_of, without, used, filled, changed, victim_of}
use Rattle.cache_set.proofs.Pieces.{within_pieces}
use Rattle.cache_set.proofs.SetsInArrays.{sets_anew}
use Rattle.l1_cache.specs.declared.near.Kept.{Kept}
use Rattle.l1_cache.specs.declared.data_ways.DataWays.{DataWays}
use Rattle.l1_cache.specs.declared.l1i.InstructionWays.{InstructionWays}
use Rattle.l1_cache.specs.L1State.{Copy, L1State, answered_in, copy_at, filled_in, given_up_in, kept_first_in, kept_with_in, set_free_in, shared_in, shared_among, used_in, victim_in}
use Rattle.cache_set.specs.Places.{IsNext, StandsAt}
use Rattle.l1_cache.specs.Layout.{AreDataWays, AreInstructionWays, AreNear, AreParts, HasAt, HasNowhere, copies_in, copy_in, l1_view, near_of, no_kept, no_near, nothings_in, set_for, to_write}
use Rattle.l1_cache.proofs.Copies.{copies_kept, copies_set, copy_at_place, length_copies, no_copy}
use Rattle.cache_set.proofs.StepsInArrays.{aged_filled, aged_free_at, aged_next, aged_used_at, live_then, next_free, next_full, nowhere_kept, nowhere_without, sets_changed, sets_filled, sets_first, sets_used, sets_without, somewhere_kept, stands_next, within_all, n_within}
use Rattle.l1_cache.proofs.Table.{near_but_at, near_put, near_used, places_small, to_write_if}

-- an L1 with other sets
abbrev pub with_sets : DataWays → (l1i : InstructionWays) → List (List (ℕ × Copy)) → L1State
with_sets w l1i sets = record {
  shards = w.shards;
  ways = w.tags.ways;
  l1i_ways = l1i.tags.ways;
  sets = sets;
  l1i = sets_in l1i.tags.sets l1i.tags.ways l1i.tags.ages.items l1i.tags.tags.items (nothings_in l1i.tags.ages.items);
}

module _ {w : DataWays} {bytes : List (List ℕ)} {l1i : InstructionWays} (parts : AreParts w bytes l1i) (line : ℕ) where
  abbrev ages : List ℕ
  ages = w.tags.ages.items

  abbrev tags : List ℕ
  tags = w.tags.tags.items

  abbrev kept : List Kept
  kept = w.kept.items

  abbrev copies : List Copy
  copies = copies_in kept bytes

  abbrev view : L1State
  view = l1_view w bytes l1i

  abbrev Sets : List (List (ℕ × Copy))
  Sets = sets_in w.tags.sets w.tags.ways ages tags copies

  same_length : length bytes ≡ length kept
  same_length = parts.bytes_are ∙ sym parts.ways.kept_are

  long : length copies ≡ w.tags.sets * w.tags.ways
  long = length_copies kept bytes same_length ∙ parts.ways.kept_are

  pub copy_nowhere : HasNowhere w line → copy_at view line ≡ None
  unfolding copy_at
  copy_nowhere lacks = nowhere_kept parts.ways.tags.aged parts.ways.sets_are.0 w.shards line copies long no_copy lacks

  pub not_given_up : HasNowhere w line → with_sets w l1i Sets ≡ given_up_in line view
  unfolding given_up_in
  not_given_up lacks = ap (with_sets w l1i) (sym (nowhere_without parts.ways.tags.aged parts.ways.sets_are.0 w.shards line copies long no_copy lacks))

  none_there : HasNowhere w line → kept_of line (set_of w.shards line Sets) ≡ None
  none_there lacks = nowhere_kept parts.ways.tags.aged parts.ways.sets_are.0 w.shards line copies long no_copy lacks

  -- a change that changes nothing
  same_in_set : (f : List (ℕ × Copy) → List (ℕ × Copy)) → f (set_of w.shards line Sets) ≡ set_of w.shards line Sets → in_set_of w.shards line f Sets ≡ Sets
  same_in_set f e = ap (λ (l : List (ℕ × Copy)). in_set_of w.shards line (λ _. l) Sets) e ∙ set-get_or Sets (set_number w.shards line Sets) []

  pub not_shared : HasNowhere w line → with_sets w l1i Sets ≡ shared_in line view
  unfolding shared_in
  not_shared lacks =
      ap (with_sets w l1i) (sym (same_in_set (shared_among line) (ap (λ (o : Option Copy). option_map_or (λ copy. changed line (record copy { letter = S; free = false }) (set_of w.shards line Sets)) o (set_of w.shards line Sets)) (none_there lacks))))

  module _ (p : ℕ) (at : HasAt w line p) where
    abbrev its : Kept
    its = get_or kept p no_kept

    abbrev own_bytes : List ℕ
    own_bytes = get_or bytes p []

    some_there : kept_of line (set_of w.shards line Sets) ≡ Some (copy_in its own_bytes)
    some_there = somewhere_kept parts.ways.tags.aged parts.ways.sets_are.0 w.shards line copies long no_copy p at ∙ ap (λ (x : Copy). Some x) (copy_at_place kept bytes p same_length)

    pub copy_there : copy_at view line ≡ Some (copy_in its own_bytes)
    unfolding copy_at
    copy_there = some_there

    pub within : p < w.tags.sets * w.tags.ways
    within = within_all parts.ways.tags.aged parts.ways.sets_are.0 w.shards line p at

    -- a change by what is kept
    by_copy : (f : Copy → List (ℕ × Copy)) → option_map_or f (kept_of line (set_of w.shards line Sets)) (set_of w.shards line Sets) ≡ f (copy_in its own_bytes)
    by_copy f = ap (λ (o : Option Copy). option_map_or f o (set_of w.shards line Sets)) some_there

    -- ---- it leaves

    pub given_up : with_sets w l1i (sets_in w.tags.sets w.tags.ways (set ages p 0) tags copies) ≡ given_up_in line view
    unfolding given_up_in
    given_up = ap (with_sets w l1i) (sets_without parts.ways.tags.aged parts.ways.sets_are.0 w.shards line copies long no_copy p at)

    pub near_given_up : (index : ℕ) → index ≡ bit_and line w.mask → AreNear w.shards w.tags.sets w.tags.ways (set ages p 0) tags kept w.mask (set w.near.items index no_near)
    near_given_up =
        near_but_at parts.ways.near p line at.tag (set ages p 0) tags kept
        (λ q apart live. subst (λ (v : ℕ). 0 < v) (sym (get_or-set_other ages p q 0 0 apart)) live) (λ q apart. refl) (λ q apart. refl)

    pub aged_given_up : AreAgedSets w.tags.sets w.tags.ways w.tags.tick (set ages p 0) tags
    aged_given_up = aged_free_at parts.ways.tags.aged parts.ways.sets_are.0 w.shards line p at

    -- ---- something else is kept of it

    pub shared : (k : Kept) → k ≡ record { letter = S; free = false } → with_sets w l1i (sets_in w.tags.sets w.tags.ways ages tags (copies_in (set kept p k) bytes)) ≡ shared_in line view
    unfolding shared_in
    shared k e =
        ap (with_sets w l1i)
        (ap (λ (l : List Copy). sets_in w.tags.sets w.tags.ways ages tags l) (copies_kept kept bytes p k)
        ∙ (sets_changed parts.ways.tags.aged parts.ways.sets_are.0 w.shards line copies long no_copy p at (copy_in k own_bytes)
        ∙ (ap (λ (x : Kept). in_set_of w.shards line (changed line (copy_in x own_bytes)) Sets) e
        ∙ ap (λ (l : List (ℕ × Copy)). in_set_of w.shards line (λ _. l) Sets) (sym (by_copy (λ copy. changed line (record copy { letter = S; free = false }) (set_of w.shards line Sets)))))))

    answered_with : (free : Bool) (b : List ℕ) (k : Kept) → k ≡ record { letter = its.letter; free = free }
        → with_sets w l1i (sets_in w.tags.sets w.tags.ways ages tags (copies_in (set kept p k) (set bytes p b))) ≡ answered_in line b free view
    unfolding answered_in
    answered_with free b k e =
        ap (with_sets w l1i)
        (ap (λ (l : List Copy). sets_in w.tags.sets w.tags.ways ages tags l) (copies_set kept bytes p k b)
        ∙ (sets_changed parts.ways.tags.aged parts.ways.sets_are.0 w.shards line copies long no_copy p at (copy_in k b)
        ∙ (ap (λ (x : Kept). in_set_of w.shards line (changed line (copy_in x b)) Sets) e
        ∙ ap (λ (l : List (ℕ × Copy)). in_set_of w.shards line (λ _. l) Sets) (sym (by_copy (λ copy. changed line (record copy { free = free; bytes = b }) (set_of w.shards line Sets)))))))

    pub answered : (free : Bool) (b now : List ℕ) (k : Kept) → k ≡ record { letter = its.letter; free = free } → b ≡ now
        → with_sets w l1i (sets_in w.tags.sets w.tags.ways ages tags (copies_in (set kept p k) (set bytes p b))) ≡ answered_in line now free view
    answered free b now k e same = answered_with free b k e ∙ ap (λ (l : List ℕ). answered_in line l free view) same

    -- where it isn't free to write, its bytes alone are others
    pub given : its.free ≡ false → (b now : List ℕ) → b ≡ now
        → with_sets w l1i (sets_in w.tags.sets w.tags.ways ages tags (copies_in kept (set bytes p b))) ≡ answered_in line now false view
    given closed b now same =
        ap (λ (l : List Kept). with_sets w l1i (sets_in w.tags.sets w.tags.ways ages tags (copies_in l (set bytes p b)))) (sym (set-get_or kept p no_kept))
        ∙ answered false b now its (ap (λ (f : Bool). record { letter = its.letter; free = f }) closed) same

    -- ---- it is used: the ages are written anew, or not, before

    module _ (age : ℕ) (anew : List ℕ) (order : IsSameOrder w.tags.sets w.tags.ways ages anew) (all : length anew ≡ w.tags.sets * w.tags.ways)
        (later : (q : ℕ) → q < w.tags.sets * w.tags.ways → get_or anew q 0 < age) where
      some_age : 0 < age
      some_age = omega (arith, later p within)

      next : AreAgedSets w.tags.sets w.tags.ways (age - 1) anew tags
      next = aged_next parts.ways.tags.aged age anew order all later some_age

      at_next : StandsAt w.tags.ways anew tags (set_for w line) line p
      at_next = stands_next parts.ways.tags.aged age anew order all later (set_for w line) line p (n_within parts.ways.tags.aged parts.ways.sets_are.0 w.shards line copies long no_copy) at

      same_sets : sets_in w.tags.sets w.tags.ways anew tags copies ≡ Sets
      same_sets = sets_anew w.tags.sets w.tags.ways ages anew tags copies order

      pub aged_then : AreAgedSets w.tags.sets w.tags.ways age (set anew p age) tags
      aged_then = aged_used_at next parts.ways.sets_are.0 w.shards line p at_next age (omega (arith, some_age))

      pub near_then : AreNear w.shards w.tags.sets w.tags.ways (set anew p age) tags kept w.mask w.near.items
      near_then = near_used parts.ways.near (set anew p age) (λ q l live. live_then parts.ways.tags.aged age anew order all later p q l some_age live) parts.ways.tags.aged.ages_are

      pub used_now : with_sets w l1i (sets_in w.tags.sets w.tags.ways (set anew p age) tags copies) ≡ used_in line view
      unfolding used_in
      used_now =
          ap (with_sets w l1i)
          (sets_used next parts.ways.sets_are.0 w.shards line copies long no_copy p at_next age (omega (arith, some_age))
          ∙ ap (λ (s : List (List (ℕ × Copy))). in_set_of w.shards line (used line) s) same_sets)

      pub first_now : (k : Kept) (b : List ℕ) → with_sets w l1i (sets_in w.tags.sets w.tags.ways (set anew p age) tags (copies_in (set kept p k) (set bytes p b))) ≡ kept_first_in line (copy_in k b) view
      unfolding kept_first_in
      first_now k b =
          ap (with_sets w l1i)
          (ap (λ (l : List Copy). sets_in w.tags.sets w.tags.ways (set anew p age) tags l) (copies_set kept bytes p k b)
          ∙ (sets_first next parts.ways.sets_are.0 w.shards line copies long no_copy p at_next age (copy_in k b) (omega (arith, some_age))
          ∙ ap (λ (s : List (List (ℕ × Copy))). in_set_of w.shards line (λ others. (line, copy_in k b) ∷ without line others) s) same_sets))

      pub kept_now : (letter : Letter) (k : Kept) → k ≡ record { letter = letter; free = its.free }
          → with_sets w l1i (sets_in w.tags.sets w.tags.ways (set anew p age) tags (copies_in (set kept p k) bytes)) ≡ kept_with_in line letter view
      unfolding kept_with_in
      kept_now letter k e =
          ap (λ (l : List (List ℕ)). with_sets w l1i (sets_in w.tags.sets w.tags.ways (set anew p age) tags (copies_in (set kept p k) l))) (sym (set-get_or bytes p []))
          ∙ (first_now k own_bytes
          ∙ (ap (λ (x : Kept). kept_first_in line (copy_in x own_bytes) view) e
          ∙ sym (ap (λ (o : Option Copy). option_map_or (λ copy. kept_first_in line (record copy { letter = letter }) view) o view) copy_there)))

  -- ---- another line comes in

  pub next_within : (anew : List ℕ) (p : ℕ) → IsNext w.tags.ways anew (set_for w line) p → p < w.tags.sets * w.tags.ways
  next_within anew p next =
      omega (arith, next.to, within_pieces w.tags.sets w.tags.ways (set_for w line) (n_within parts.ways.tags.aged parts.ways.sets_are.0 w.shards line copies long no_copy))

  pub next_small : (anew : List ℕ) (p : ℕ) → IsNext w.tags.ways anew (set_for w line) p → p < 2 ^ 32
  next_small anew p next = omega (arith, places_small parts.ways, next_within anew p next)

  module _ (p age : ℕ) (anew : List ℕ) (order : IsSameOrder w.tags.sets w.tags.ways ages anew) (all : length anew ≡ w.tags.sets * w.tags.ways)
      (later : (q : ℕ) → q < w.tags.sets * w.tags.ways → get_or anew q 0 < age) (next : IsNext w.tags.ways anew (set_for w line) p) where
    first_age : 0 < age
    first_age = omega (arith, later p (next_within anew p next))

    aged_now : AreAgedSets w.tags.sets w.tags.ways (age - 1) anew tags
    aged_now = aged_next parts.ways.tags.aged age anew order all later first_age

    sets_now : sets_in w.tags.sets w.tags.ways anew tags copies ≡ Sets
    sets_now = sets_anew w.tags.sets w.tags.ways ages anew tags copies order

    filled_with : (k : Kept) (b : List ℕ) → with_sets w l1i (sets_in w.tags.sets w.tags.ways (set anew p age) (set tags p line) (copies_in (set kept p k) (set bytes p b))) ≡ filled_in line (copy_in k b) view
    unfolding filled_in
    filled_with k b =
        ap (with_sets w l1i)
        (ap (λ (l : List Copy). sets_in w.tags.sets w.tags.ways (set anew p age) (set tags p line) l) (copies_set kept bytes p k b)
        ∙ (sets_filled aged_now parts.ways.sets_are.0 w.shards line copies long no_copy p (parts.ways.tags.some parts.ways.sets_are.0) next age (copy_in k b) (omega (arith, first_age))
        ∙ ap (λ (s : List (List (ℕ × Copy))). in_set_of w.shards line (filled w.tags.ways line (copy_in k b)) s) sets_now))

    -- the victim for it
    evicted_now : victim_in view line ≡ victim_of w.tags.ways (set_of w.shards line (sets_in w.tags.sets w.tags.ways anew tags copies))
    evicted_now = ap (λ (s : List (List (ℕ × Copy))). victim_of w.tags.ways (set_of w.shards line s)) (sym sets_now)

    pub evicts_none : get_or anew p 0 ≡ 0 → victim_in view line ≡ None
    evicts_none free =
        evicted_now ∙ next_free aged_now parts.ways.sets_are.0 w.shards line copies long no_copy p (parts.ways.tags.some parts.ways.sets_are.0) next free

    pub evicts_this : 0 < get_or anew p 0 → victim_in view line ≡ Some (get_or tags p 0, copy_in (get_or kept p no_kept) (get_or bytes p []))
    evicts_this live =
        evicted_now
        ∙ (next_full aged_now parts.ways.sets_are.0 w.shards line copies long no_copy p (parts.ways.tags.some parts.ways.sets_are.0) next live
        ∙ ap (λ (x : Copy). Some (get_or tags p 0, x)) (copy_at_place kept bytes p same_length))

    pub filled_now : (k : Kept) (b now : List ℕ) → b ≡ now
        → with_sets w l1i (sets_in w.tags.sets w.tags.ways (set anew p age) (set tags p line) (copies_in (set kept p k) (set bytes p b))) ≡ filled_in line (copy_in k now) view
    filled_now k b now same = filled_with k b ∙ ap (λ (l : List ℕ). filled_in line (copy_in k l) view) same

    pub aged_after : copy_at view line ≡ None → AreAgedSets w.tags.sets w.tags.ways age (set anew p age) (set tags p line)
    unfolding copy_at
    aged_after none =
        aged_filled aged_now parts.ways.sets_are.0 w.shards line copies long no_copy p (parts.ways.tags.some parts.ways.sets_are.0) next age (omega (arith, first_age))
        (ap (λ (s : List (List (ℕ × Copy))). kept_of line (set_of w.shards line s)) sets_now ∙ none)

    pub near_filled : (k : Kept) (evicted : ℕ) → get_or tags p 0 ≡ evicted → (index : ℕ) → index ≡ bit_and evicted w.mask
        → AreNear w.shards w.tags.sets w.tags.ways (set anew p age) (set tags p line) (set kept p k) w.mask (set w.near.items index no_near)
    near_filled k evicted had =
        near_but_at (near_used parts.ways.near (set anew p age) (λ q l live. live_then parts.ways.tags.aged age anew order all later p q l first_age live) parts.ways.tags.aged.ages_are)
        p evicted had (set anew p age) (set tags p line) (set kept p k) (λ q apart live. live) (λ q apart. get_or-set_other tags p q line 0 apart) (λ q apart. get_or-set_other kept p q k no_kept apart)

    pub stands_filled : StandsAt w.tags.ways (set anew p age) (set tags p line) (set_for w line) line p
    stands_filled = record {
      from = next.from;
      to = next.to;
      live = subst (λ (v : ℕ). 0 < v) (sym (get_or-set_same anew p age 0 (omega (arith, all, next_within anew p next)))) first_age;
      tag = get_or-set_same tags p line 0 (omega (arith, parts.ways.tags.aged.tags_are, next_within anew p next));
    }

    pub near_taken : (k : Kept) (evicted : ℕ) → get_or tags p 0 ≡ evicted → (index : ℕ) → index ≡ bit_and evicted w.mask → (own : ℕ) → own ≡ bit_and line w.mask
        → AreNear w.shards w.tags.sets w.tags.ways (set anew p age) (set tags p line) (set kept p k) w.mask (set (set w.near.items index no_near) own (near_of line p k))
    near_taken k evicted had index e own f =
        subst (λ (j : ℕ). AreNear w.shards w.tags.sets w.tags.ways (set anew p age) (set tags p line) (set kept p k) w.mask (set (set w.near.items index no_near) j (near_of line p k))) (sym f)
        (near_put (near_filled k evicted had index e) line p (k.free && is_modified k.letter) stands_filled
        (λ w. get_or-set_same kept p k no_kept (omega (arith, parts.ways.kept_are, next_within anew p next)) ∙ to_write_if k w))

  -- ---- the victim

  module _ (p : ℕ) (next : IsNext w.tags.ways ages (set_for w line) p) where
    pub no_victim : get_or ages p 0 ≡ 0 → victim_in view line ≡ None
    no_victim free = next_free parts.ways.tags.aged parts.ways.sets_are.0 w.shards line copies long no_copy p (parts.ways.tags.some parts.ways.sets_are.0) next free

    pub the_victim : 0 < get_or ages p 0 → victim_in view line ≡ Some (get_or tags p 0, copy_in (get_or kept p no_kept) (get_or bytes p []))
    the_victim live =
        next_full parts.ways.tags.aged parts.ways.sets_are.0 w.shards line copies long no_copy p (parts.ways.tags.some parts.ways.sets_are.0) next live
        ∙ ap (λ (x : Copy). Some (get_or tags p 0, x)) (copy_at_place kept bytes p same_length)

-- ---- an L1 whose table alone is another

module _ {w v : DataWays} {bytes : List (List ℕ)} {l1i : InstructionWays} (parts : AreParts w bytes l1i) (ways : AreDataWays v) where
  -- what was met is in the table now
  module _ (same : v ≡ record w { near = v.near }) where
    pub parts_met : AreParts v bytes l1i
    parts_met = record { ways = ways; bytes_are = subst (λ (x : DataWays). length bytes ≡ x.tags.sets * x.tags.ways) (sym same) parts.bytes_are; instructions = subst (λ (x : DataWays). AreInstructionWays x.shards l1i) (sym same) parts.instructions }

    pub at_met : (line p : ℕ) → HasAt w line p → HasAt v line p
    at_met line p at = subst (λ (x : DataWays). HasAt x line p) (sym same) at

    pub view_met : l1_view v bytes l1i ≡ l1_view w bytes l1i
    view_met = ap (λ (x : DataWays). l1_view x bytes l1i) same

  -- what was met to write is M and free
  module _ (same : v ≡ record w { kept = v.kept; near = v.near }) where
    pub parts_written : AreParts v bytes l1i
    parts_written = record { ways = ways; bytes_are = subst (λ (x : DataWays). length bytes ≡ x.tags.sets * x.tags.ways) (sym same) parts.bytes_are; instructions = subst (λ (x : DataWays). AreInstructionWays x.shards l1i) (sym same) parts.instructions }

    pub at_written : (line p : ℕ) → HasAt w line p → HasAt v line p
    at_written line p at = subst (λ (x : DataWays). HasAt x line p) (sym same) at

    -- after the store, whatever has the tags of these ways
    abbrev pub Written : (line p age : ℕ) (anew b : List ℕ) → DataWays → Type 0
    Written line p age anew b x =
        IsSameOrder x.tags.sets x.tags.ways x.tags.ages.items anew → length anew ≡ x.tags.sets * x.tags.ways → ((q : ℕ) → q < x.tags.sets * x.tags.ways → get_or anew q 0 < age)
        → with_sets x l1i (sets_in x.tags.sets x.tags.ways (set anew p age) x.tags.tags.items (copies_in v.kept.items (set bytes p b))) ≡ kept_first_in line (copy_in to_write b) (l1_view w bytes l1i)

    pub written : (line p age : ℕ) (anew b : List ℕ) → HasAt w line p → v.kept.items ≡ set w.kept.items p to_write → Written line p age anew b v
    written line p age anew b at kept_is =
        subst (Written line p age anew b) (sym same)
        (λ order all later. ap (λ (l : List Kept). with_sets w l1i (sets_in w.tags.sets w.tags.ways (set anew p age) w.tags.tags.items (copies_in l (set bytes p b)))) kept_is
        ∙ first_now parts line p at age anew order all later to_write b)

    -- after an access that was served elsewhere
    abbrev pub Answered : (line p : ℕ) (b : List ℕ) (free : Bool) → DataWays → Type 0
    Answered line p b free x =
        with_sets x l1i (sets_in x.tags.sets x.tags.ways x.tags.ages.items x.tags.tags.items (copies_in v.kept.items (set bytes p b))) ≡ answered_in line b free (l1_view w bytes l1i)

    module _ (line p : ℕ) (free : Bool) (at : HasAt w line p) (kept_is : v.kept.items ≡ set w.kept.items p (record (get_or w.kept.items p no_kept) { free = free })) where
      answered_by : (b : List ℕ) → l1_view v (set bytes p b) l1i ≡ answered_in line b free (l1_view w bytes l1i)
      answered_by b =
          subst (Answered line p b free) (sym same)
          (ap (λ (l : List Kept). with_sets w l1i (sets_in w.tags.sets w.tags.ways w.tags.ages.items w.tags.tags.items (copies_in l (set bytes p b)))) kept_is
          ∙ answered parts line p at free b b (record (get_or w.kept.items p no_kept) { free = free }) refl refl)

      pub answered_then : (b now : List ℕ) → b ≡ now → l1_view v (set bytes p b) l1i ≡ answered_in line now free (l1_view w bytes l1i)
      answered_then b now e = answered_by b ∙ ap (λ (l : List ℕ). answered_in line l free (l1_view w bytes l1i)) e

      -- its own bytes stay
      pub set_free_then : l1_view v bytes l1i ≡ set_free_in line free (l1_view w bytes l1i)
      unfolding set_free_in
      set_free_then =
          ap (λ (l : List (List ℕ)). l1_view v l l1i) (sym (set-get_or bytes p []))
          ∙ (answered_by (get_or bytes p [])
          ∙ sym (ap (λ (o : Option Copy). option_map_or (λ copy. answered_in line copy.bytes free (l1_view w bytes l1i)) o (l1_view w bytes l1i)) (copy_there parts line p at)))

    -- a line that is shared from now on
    abbrev pub Shared : (line : ℕ) → DataWays → Type 0
    Shared line x =
        with_sets x l1i (sets_in x.tags.sets x.tags.ways x.tags.ages.items x.tags.tags.items (copies_in v.kept.items bytes)) ≡ shared_in line (l1_view w bytes l1i)

    pub shared_then : (line p : ℕ) → HasAt w line p → (k : Kept) → k ≡ record { letter = S; free = false } → v.kept.items ≡ set w.kept.items p k → l1_view v bytes l1i ≡ shared_in line (l1_view w bytes l1i)
    shared_then line p at k is kept_is =
        subst (Shared line) (sym same)
        (ap (λ (l : List Kept). with_sets w l1i (sets_in w.tags.sets w.tags.ways w.tags.ages.items w.tags.tags.items (copies_in l bytes))) kept_is ∙ shared parts line p at k is)

    -- a line that is used, with another letter
    abbrev pub KeptFirst : (line p age : ℕ) (letter : Letter) (anew : List ℕ) → DataWays → Type 0
    KeptFirst line p age letter anew x =
        IsSameOrder x.tags.sets x.tags.ways x.tags.ages.items anew → length anew ≡ x.tags.sets * x.tags.ways → ((q : ℕ) → q < x.tags.sets * x.tags.ways → get_or anew q 0 < age)
        → with_sets x l1i (sets_in x.tags.sets x.tags.ways (set anew p age) x.tags.tags.items (copies_in v.kept.items bytes)) ≡ kept_with_in line letter (l1_view w bytes l1i)

    pub kept_then : (line p age : ℕ) (letter : Letter) (anew : List ℕ) → HasAt w line p → v.kept.items ≡ set w.kept.items p (record (get_or w.kept.items p no_kept) { letter = letter })
        → KeptFirst line p age letter anew v
    kept_then line p age letter anew at kept_is =
        subst (KeptFirst line p age letter anew) (sym same)
        (λ order all later. ap (λ (l : List Kept). with_sets w l1i (sets_in w.tags.sets w.tags.ways (set anew p age) w.tags.tags.items (copies_in l bytes))) kept_is
        ∙ kept_now parts line p at age anew order all later letter (record (get_or w.kept.items p no_kept) { letter = letter }) refl)
