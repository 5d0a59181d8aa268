-- The same of the instruction cache, of whose lines nothing is kept.
use Rattle.std.proofs.Common.{◌≡◌, ℕ, ◌-◌, ◌*◌, ◌^◌, ◌<◌, true, false, List, [], ◌∷◌, length, get_or, set, replicate, Option, Some, None, refl, sym, ap, ◌∙◌, subst, arith, inl, inr}
use Rattle.std.specs.Prelude.{◌⊎◌, IfNone, IfSome, is_some}
use Rattle.std.specs.Int.Bits.{bit_and}
use Rattle.std.proofs.lemmas.List.{get_or-set_other, get_or-set_same, length-replicate, length-set, set-get_or}
use Rattle.cache_set.specs.Lines.{in_set_of, set_of}
use Rattle.cache_set.specs.Pieces.{AreAgedSets, IsSameOrder, sets_in}
use Rattle.cache_set.specs.Ways.{kept_of, without, used, filled, victim_of}
use Rattle.cache_set.proofs.Pieces.{within_pieces}
use Rattle.cache_set.proofs.SetsInArrays.{length_sets, sets_anew}
use Rattle.l1_cache.specs.declared.data_ways.DataWays.{DataWays}
use Rattle.l1_cache.specs.declared.l1i.InstructionWays.{InstructionWays}
use Rattle.l1_cache.specs.L1State.{L1State, has_instructions, instruction_filled_in, instruction_given_up_in, instruction_used_in, instruction_victim_in}
use Rattle.cache_set.specs.Places.{IsNext, StandsAt, StandsNowhere, set_number_in}
use Rattle.l1_cache.specs.Layout.{AreInstructionWays, AreNear, AreParts, HasInstructionsAt, copies_in, l1_view, near_of, no_kept, no_near, nothings_in}
use Rattle.cache_set.proofs.StepsInArrays.{aged_filled, aged_free_at, aged_next, aged_used_at, live_then, n_within, next_free, next_full, nowhere_kept, nowhere_without, sets_filled, sets_used, sets_without, somewhere_kept, stands_next, within_all}
use Rattle.l1_cache.proofs.Table.{instruction_places_small, near_but_at, near_put, near_used}

-- an L1 with other sets of the instruction cache
abbrev pub with_l1i : DataWays → (bytes : List (List ℕ)) → (l1i : InstructionWays) → List (List (ℕ × Unit {0})) → L1State
with_l1i w bytes l1i sets = record {
  shards = w.shards;
  ways = w.tags.ways;
  l1i_ways = l1i.tags.ways;
  sets = sets_in w.tags.sets w.tags.ways w.tags.ages.items w.tags.tags.items (copies_in w.kept.items bytes);
  l1i = sets;
}

empty : {Y : Type 0} (ys : List Y) → length ys ≡ 0 → ys ≡ []
empty [] e = refl
empty (y ∷ ys) e = absurd (omega arith)

set_nothing : (nothings : List (Unit {0})) (p : ℕ) → set nothings p tt ≡ nothings
set_nothing nothings p = set-get_or nothings p tt

module _ {w : DataWays} {bytes : List (List ℕ)} {l1i : InstructionWays} (parts : AreParts w bytes l1i) (line : ℕ) where
  abbrev ages : List ℕ
  ages = l1i.tags.ages.items

  abbrev tags : List ℕ
  tags = l1i.tags.tags.items

  abbrev nothings : List (Unit {0})
  nothings = nothings_in ages

  abbrev view : L1State
  view = l1_view w bytes l1i

  abbrev Sets : List (List (ℕ × Unit {0}))
  Sets = sets_in l1i.tags.sets l1i.tags.ways ages tags nothings

  long : length nothings ≡ l1i.tags.sets * l1i.tags.ways
  long = length-replicate {A = Unit {0}} (length ages) tt ∙ parts.instructions.tags.aged.ages_are

  abbrev number : ℕ
  number = set_number_in w.shards l1i.tags.sets line

  no_sets : l1i.tags.sets ≡ 0 → Sets ≡ []
  no_sets none = empty Sets (length_sets l1i.tags.sets l1i.tags.ways ages tags nothings ∙ none)

  pub unchanged : (f : List (ℕ × Unit {0}) → List (ℕ × Unit {0})) → l1i.tags.sets ≡ 0 → in_set_of w.shards line f Sets ≡ Sets
  unchanged f none = ap (λ (s : List (List (ℕ × Unit {0}))). in_set_of w.shards line f s) (no_sets none) ∙ sym (no_sets none)

  pub no_fill : l1i.tags.sets ≡ 0 → with_l1i w bytes l1i Sets ≡ instruction_filled_in line view
  unfolding instruction_filled_in
  no_fill none = ap (with_l1i w bytes l1i) (sym (unchanged (filled l1i.tags.ways line tt) none))

  pub no_set_victim : l1i.tags.sets ≡ 0 → instruction_victim_in view line ≡ None
  no_set_victim none = ap (λ (s : List (List (ℕ × Unit {0}))). victim_of l1i.tags.ways (set_of w.shards line s)) (no_sets none)

  none_kept : (l1i.tags.sets ≡ 0) ⊎ ((0 < l1i.tags.sets) × StandsNowhere l1i.tags.ways ages tags number line) → kept_of line (set_of w.shards line Sets) ≡ None
  none_kept (inl none) = ap (λ (s : List (List (ℕ × Unit {0}))). kept_of line (set_of w.shards line s)) (no_sets none)
  none_kept (inr lacks) = nowhere_kept parts.instructions.tags.aged lacks.0 w.shards line nothings long tt lacks.1

  pub has_none : (l1i.tags.sets ≡ 0) ⊎ ((0 < l1i.tags.sets) × StandsNowhere l1i.tags.ways ages tags number line) → has_instructions view line ≡ false
  unfolding has_instructions
  has_none lacks = ap (λ (o : Option (Unit {0})). is_some o) (none_kept lacks)

  pub not_given_up : (l1i.tags.sets ≡ 0) ⊎ ((0 < l1i.tags.sets) × StandsNowhere l1i.tags.ways ages tags number line) → with_l1i w bytes l1i Sets ≡ instruction_given_up_in line view
  unfolding instruction_given_up_in
  not_given_up (inl none) = ap (with_l1i w bytes l1i) (sym (unchanged (without line) none))
  not_given_up (inr lacks) = ap (with_l1i w bytes l1i) (sym (nowhere_without parts.instructions.tags.aged lacks.0 w.shards line nothings long tt lacks.1))

  module _ (some : 0 < l1i.tags.sets) where
    module _ (p : ℕ) (at : StandsAt l1i.tags.ways ages tags number line p) where
      pub has_some : has_instructions view line ≡ true
      unfolding has_instructions
      has_some = ap (λ (o : Option (Unit {0})). is_some o) (somewhere_kept parts.instructions.tags.aged some w.shards line nothings long tt p at)

      pub within : p < l1i.tags.sets * l1i.tags.ways
      within = within_all parts.instructions.tags.aged some w.shards line p at

      pub aged_given_up : AreAgedSets l1i.tags.sets l1i.tags.ways l1i.tags.tick (set ages p 0) tags
      aged_given_up = aged_free_at parts.instructions.tags.aged some w.shards line p at

      pub given_up : with_l1i w bytes l1i (sets_in l1i.tags.sets l1i.tags.ways (set ages p 0) tags (nothings_in (set ages p 0))) ≡ instruction_given_up_in line view
      unfolding instruction_given_up_in
      given_up =
          ap (with_l1i w bytes l1i)
          (ap (λ (c : ℕ). sets_in l1i.tags.sets l1i.tags.ways (set ages p 0) tags (replicate c tt)) (length-set ages p 0)
          ∙ sets_without parts.instructions.tags.aged some w.shards line nothings long tt p at)

      pub near_given_up : (index : ℕ) → index ≡ bit_and line l1i.mask → AreNear w.shards l1i.tags.sets l1i.tags.ways (set ages p 0) tags [] l1i.mask (set l1i.near.items index no_near)
      near_given_up =
          near_but_at parts.instructions.near p line at.tag (set ages p 0) tags []
          (λ q apart live. subst (λ (v : ℕ). 0 < v) (sym (get_or-set_other ages p q 0 0 apart)) live) (λ q apart. refl) (λ q apart. refl)

      module _ (age : ℕ) (anew : List ℕ) (order : IsSameOrder l1i.tags.sets l1i.tags.ways ages anew) (all : length anew ≡ l1i.tags.sets * l1i.tags.ways)
          (later : (q : ℕ) → q < l1i.tags.sets * l1i.tags.ways → get_or anew q 0 < age) where
        some_age : 0 < age
        some_age = omega (arith, later p within)

        next : AreAgedSets l1i.tags.sets l1i.tags.ways (age - 1) anew tags
        next = aged_next parts.instructions.tags.aged age anew order all later some_age

        at_next : StandsAt l1i.tags.ways anew tags number line p
        at_next = stands_next parts.instructions.tags.aged age anew order all later number line p (n_within parts.instructions.tags.aged some w.shards line nothings long tt) at

        pub aged_then : AreAgedSets l1i.tags.sets l1i.tags.ways age (set anew p age) tags
        aged_then = aged_used_at next some w.shards line p at_next age (omega (arith, some_age))

        pub near_then : AreNear w.shards l1i.tags.sets l1i.tags.ways (set anew p age) tags [] l1i.mask l1i.near.items
        near_then = near_used parts.instructions.near (set anew p age) (λ q l live. live_then parts.instructions.tags.aged age anew order all later p q l some_age live) parts.instructions.tags.aged.ages_are

        pub used_now : with_l1i w bytes l1i (sets_in l1i.tags.sets l1i.tags.ways (set anew p age) tags (nothings_in (set anew p age))) ≡ instruction_used_in line view
        unfolding instruction_used_in
        used_now =
            ap (with_l1i w bytes l1i)
            (ap (λ (c : ℕ). sets_in l1i.tags.sets l1i.tags.ways (set anew p age) tags (replicate c tt)) (length-set anew p age ∙ (all ∙ sym parts.instructions.tags.aged.ages_are))
            ∙ (sets_used next some w.shards line nothings long tt p at_next age (omega (arith, some_age))
            ∙ ap (λ (s : List (List (ℕ × Unit {0}))). in_set_of w.shards line (used line) s) (sets_anew l1i.tags.sets l1i.tags.ways ages anew tags nothings order)))

    pub next_within : (anew : List ℕ) (p : ℕ) → IsNext l1i.tags.ways anew number p → p < l1i.tags.sets * l1i.tags.ways
    next_within anew p next =
        omega (arith, next.to, within_pieces l1i.tags.sets l1i.tags.ways number (n_within parts.instructions.tags.aged some w.shards line nothings long tt))

    pub next_small : (anew : List ℕ) (p : ℕ) → IsNext l1i.tags.ways anew number p → p < 2 ^ 32
    next_small anew p next = omega (arith, instruction_places_small parts.instructions, next_within anew p next)

    module _ (p age : ℕ) (anew : List ℕ) (order : IsSameOrder l1i.tags.sets l1i.tags.ways ages anew) (all : length anew ≡ l1i.tags.sets * l1i.tags.ways)
        (later : (q : ℕ) → q < l1i.tags.sets * l1i.tags.ways → get_or anew q 0 < age) (next : IsNext l1i.tags.ways anew number p) where
      first_age : 0 < age
      first_age = omega (arith, later p (next_within anew p next))

      aged_now : AreAgedSets l1i.tags.sets l1i.tags.ways (age - 1) anew tags
      aged_now = aged_next parts.instructions.tags.aged age anew order all later first_age

      sets_now : sets_in l1i.tags.sets l1i.tags.ways anew tags nothings ≡ Sets
      sets_now = sets_anew l1i.tags.sets l1i.tags.ways ages anew tags nothings order

      pub filled_now : with_l1i w bytes l1i (sets_in l1i.tags.sets l1i.tags.ways (set anew p age) (set tags p line) (nothings_in (set anew p age))) ≡ instruction_filled_in line view
      unfolding instruction_filled_in
      filled_now =
          ap (with_l1i w bytes l1i)
          (ap (λ (c : ℕ). sets_in l1i.tags.sets l1i.tags.ways (set anew p age) (set tags p line) (replicate c tt)) (length-set anew p age ∙ (all ∙ sym parts.instructions.tags.aged.ages_are))
          ∙ (ap (λ (k : List (Unit {0})). sets_in l1i.tags.sets l1i.tags.ways (set anew p age) (set tags p line) k) (sym (set_nothing nothings p))
          ∙ (sets_filled aged_now some w.shards line nothings long tt p (parts.instructions.tags.some some) next age tt (omega (arith, first_age))
          ∙ ap (λ (s : List (List (ℕ × Unit {0}))). in_set_of w.shards line (filled l1i.tags.ways line tt) s) sets_now)))

      lacked : (o : Option (Unit {0})) → is_some o ≡ false → o ≡ None
      lacked None e = refl
      lacked (Some u) e = absurd cc

      pub aged_after : has_instructions view line ≡ false → AreAgedSets l1i.tags.sets l1i.tags.ways age (set anew p age) (set tags p line)
      unfolding has_instructions
      aged_after none =
          aged_filled aged_now some w.shards line nothings long tt p (parts.instructions.tags.some some) next age (omega (arith, first_age))
          (ap (λ (s : List (List (ℕ × Unit {0}))). kept_of line (set_of w.shards line s)) sets_now ∙ lacked (kept_of line (set_of w.shards line Sets)) none)

      near_filled : (evicted : ℕ) → get_or tags p 0 ≡ evicted → (index : ℕ) → index ≡ bit_and evicted l1i.mask
          → AreNear w.shards l1i.tags.sets l1i.tags.ways (set anew p age) (set tags p line) [] l1i.mask (set l1i.near.items index no_near)
      near_filled evicted had =
          near_but_at (near_used parts.instructions.near (set anew p age) (λ q l live. live_then parts.instructions.tags.aged age anew order all later p q l first_age live) parts.instructions.tags.aged.ages_are)
          p evicted had (set anew p age) (set tags p line) [] (λ q apart live. live) (λ q apart. get_or-set_other tags p q line 0 apart) (λ q apart. refl)

      stands_filled : StandsAt l1i.tags.ways (set anew p age) (set tags p line) number line p
      stands_filled = record {
        from = next.from;
        to = next.to;
        live = subst (λ (v : ℕ). 0 < v) (sym (get_or-set_same anew p age 0 (omega (arith, all, next_within anew p next)))) first_age;
        tag = get_or-set_same tags p line 0 (omega (arith, parts.instructions.tags.aged.tags_are, next_within anew p next));
      }

      pub near_taken : (evicted : ℕ) → get_or tags p 0 ≡ evicted → (index : ℕ) → index ≡ bit_and evicted l1i.mask → (own : ℕ) → own ≡ bit_and line l1i.mask
          → AreNear w.shards l1i.tags.sets l1i.tags.ways (set anew p age) (set tags p line) [] l1i.mask (set (set l1i.near.items index no_near) own (near_of line p no_kept))
      near_taken evicted had index e own f =
          subst (λ (j : ℕ). AreNear w.shards l1i.tags.sets l1i.tags.ways (set anew p age) (set tags p line) [] l1i.mask (set (set l1i.near.items index no_near) j (near_of line p no_kept))) (sym f)
          (near_put (near_filled evicted had index e) line p false stands_filled (λ w. absurd cc))

    module _ (p : ℕ) (next : IsNext l1i.tags.ways ages number p) where
      pub no_victim : get_or ages p 0 ≡ 0 → instruction_victim_in view line ≡ None
      no_victim free = next_free parts.instructions.tags.aged some w.shards line nothings long tt p (parts.instructions.tags.some some) next free

      pub the_victim : 0 < get_or ages p 0 → instruction_victim_in view line ≡ Some (get_or tags p 0, get_or nothings p tt)
      the_victim live = next_full parts.instructions.tags.aged some w.shards line nothings long tt p (parts.instructions.tags.some some) next live

  -- by the answer of a search
  pub has_by : (found : Option ℕ) → IfSome found (λ p. 0 < l1i.tags.sets) → IfSome found (λ p. StandsAt l1i.tags.ways ages tags number line p)
      → IfNone found ((l1i.tags.sets ≡ 0) ⊎ ((0 < l1i.tags.sets) × StandsNowhere l1i.tags.ways ages tags number line)) → is_some found ≡ has_instructions view line
  has_by None some here none = sym (has_none none)
  has_by (Some p) some here none = sym (has_some some p here)

-- ---- an L1 whose table of instructions alone is another

module _ {w : DataWays} {bytes : List (List ℕ)} {l1i v : InstructionWays} (parts : AreParts w bytes l1i) (ways : AreInstructionWays w.shards v) (same : v ≡ record l1i { near = v.near }) where
  pub parts_met : AreParts w bytes v
  parts_met = record { ways = parts.ways; bytes_are = parts.bytes_are; instructions = ways }

  pub some_met : 0 < l1i.tags.sets → 0 < v.tags.sets
  some_met some = subst (λ (x : InstructionWays). 0 < x.tags.sets) (sym same) some

  pub at_met : (line p : ℕ) → HasInstructionsAt w.shards l1i line p → HasInstructionsAt w.shards v line p
  at_met line p at = subst (λ (x : InstructionWays). HasInstructionsAt w.shards x line p) (sym same) at

  pub view_met : l1_view w bytes v ≡ l1_view w bytes l1i
  view_met = ap (λ (x : InstructionWays). l1_view w bytes x) same
