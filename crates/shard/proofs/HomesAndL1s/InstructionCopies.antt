-- The set of a core's instruction cache into which a line comes: what it is like, and which lines it has after it.
use Rattle.std.proofs.Common.{◌≡◌, ◌≢◌, ℕ, ◌-◌, ◌*◌, ◌/◌, ◌%◌, ◌<◌, ◌≤◌, Bool, true, false, cond, List, [], length, get_or, map, Option, Some, None, is_some, refl, sym, ap, ◌∙◌, subst, arith}
use Rattle.std.specs.List.{All, IsDistinct}
use Rattle.std.specs.Map.{keys_of}
use Rattle.std.specs.Prelude.{IsSome, IsTrue, nat_eq, nat_lt, slice_get}
use Rattle.std.proofs.lemmas.Bool.{lt-ltb, ltb-true}
use Rattle.std.proofs.lemmas.List.{get_or-map, length-map, length-set}
use Rattle.cache_set.specs.Ways.{filled, kept_of, victim_of}
use Rattle.shard.specs.Coherence.{dirty_at, fetch_holds}
use Rattle.shard.specs.HaveL1i.{have_l1i}
use Rattle.home.specs.HomeState.{HomeLine, row_at}
use Rattle.l1_cache.specs.L1State.{L1State, has_instructions, in_instructions_of, instruction_filled_in, instructions_at, no_l1}
use Rattle.cache_set.specs.Lines.{in_set_of, set_number, set_of}
use Rattle.shard.specs.PartsLaws.{AreParts, IsOwn}
use Rattle.shard.specs.Seen.{caches_seen, part_of}
use Rattle.shard.specs.SharedStep.{Bank, l1_of}
use Rattle.shard.proofs.CoherentLines.{kept_elsewhere, kept_filled_other, kept_filled_room, kept_filled_same, kept_filled_victim, kept_victim, set_same}
use Rattle.shard.proofs.HomesAndL1s.EvictedSeen.{distinct_instructions}
use Rattle.shard.proofs.HomesAndL1s.Fit.{IsFit}
use Rattle.shard.proofs.HomesAndL1s.FitOf.{fit_of}
use Rattle.shard.proofs.HomesAndL1s.LettersSeen.{fetched_seen, holds_seen}
use Rattle.shard.proofs.HomesAndL1s.PartOf.{part_sets, seen_reads, seen_set}
use Rattle.shard.proofs.HomesAndL1s.RowsSeen.{dirty_of, see_maybe}
use Rattle.shard.proofs.HomesAndL1s.Victims.{all_at, dirty_seen}

-- what is seen of one instruction cache of coherent caches
within_set : (p : Bank) → AreParts p → (core line : ℕ) → core < length (caches_seen p).l1i → set_number p.home.shards line (get_or (caches_seen p).l1i core []) < length (get_or (caches_seen p).l1i core [])
    → length (set_of p.home.shards line (get_or (caches_seen p).l1i core [])) ≤ (caches_seen p).l1i_ways
within_set p are core line many inside =
    (are.coherent.sets.l1i core [] many (set_number p.home.shards line (get_or (caches_seen p).l1i core [])) [] inside).within

placed_at : (p : Bank) → AreParts p → (core line : ℕ)
    → All (λ way. set_number p.home.shards way.0 (get_or (caches_seen p).l1i core []) ≡ set_number p.home.shards line (get_or (caches_seen p).l1i core [])) (set_of p.home.shards line (get_or (caches_seen p).l1i core []))
unfolding caches_seen
placed_at p are core line = are.coherent.sets.l1i_placed core (set_number p.home.shards line (get_or (caches_seen p).l1i core []))

ways_seen : (p : Bank) → (l1_of p 0).l1i_ways ≡ (caches_seen p).l1i_ways
unfolding caches_seen
ways_seen p = refl

-- a line that an instruction cache has is in the L2
has_line : (p : Bank) → AreParts p → (core line : ℕ) → fetch_holds (caches_seen p) core line ≡ true → IsSome (row_at p.home line)
has_line p are core line held = some_row (row_at p.home line) (dirty_at (caches_seen p) line) (dirty_seen p line) (are.coherent.l1i_inclusive core line held) where
  some_row : (o : Option HomeLine) (d : Option Bool) → d ≡ see_maybe dirty_of o → IsSome d → IsSome o
  some_row None None e h = h
  some_row None (Some b) e h = absurd cc
  some_row (Some row) d e h = refl

held_as : (p : Bank) (core line : ℕ) → fetch_holds (caches_seen p) core line ≡ is_some (kept_of line (set_of p.home.shards line (get_or (caches_seen p).l1i core [])))
unfolding caches_seen fetch_holds
held_as p core line = refl

many_as : (p : Bank) → IsTrue (have_l1i (caches_seen p)) → 0 < length (l1_of p 0).l1i
unfolding caches_seen
many_as p has = by_many (nat_lt 0 (length (l1_of p 0).l1i)) refl has where
  i : L1State → List (List (ℕ × Unit {0}))
  i x = (part_of p.home.shards p.home.number x).l1i

  by_many : (b : Bool) → nat_lt 0 (length (l1_of p 0).l1i) ≡ b → IsTrue (nat_lt 0 (length (cond b (map i p.l1s) []))) → 0 < length (l1_of p 0).l1i
  by_many true e h = ltb-true 0 (length (l1_of p 0).l1i) e
  by_many false e h = absurd cc

seen_as : (p : Bank) (core : ℕ) → core < length p.l1s → 0 < length (l1_of p 0).l1i → get_or (caches_seen p).l1i core [] ≡ part_sets (l1_of p core).shards p.home.shards p.home.number (l1_of p core).l1i
unfolding caches_seen
seen_as p core within has =
    ap (λ (b : Bool). get_or (cond b (map i p.l1s) []) core []) (lt-ltb 0 (length (l1_of p 0).l1i) has) ∙ get_or-map i p.l1s core no_l1 [] within where
      i : L1State → List (List (ℕ × Unit {0}))
      i x = (part_of p.home.shards p.home.number x).l1i

many_cores : (p : Bank) → 0 < length (l1_of p 0).l1i → length (caches_seen p).l1i ≡ length p.l1s
unfolding caches_seen
many_cores p has = ap (λ (b : Bool). length (cond b (map i p.l1s) [])) (lt-ltb 0 (length (l1_of p 0).l1i) has) ∙ length-map p.l1s i where
  i : L1State → List (List (ℕ × Unit {0}))
  i x = (part_of p.home.shards p.home.number x).l1i

module _ (p : Bank) (are : AreParts p) (core line : ℕ) (within : core < length p.l1s) (own : IsOwn p line) (fetching : IsTrue (have_l1i (caches_seen p))) where
  abbrev x : L1State
  x = l1_of p core

  abbrev n : ℕ
  n = p.home.shards

  abbrev part : List (List (ℕ × Unit {0}))
  part = part_sets x.shards n p.home.number x.l1i

  abbrev seen_sets : List (List (ℕ × Unit {0}))
  seen_sets = get_or (caches_seen p).l1i core []

  is : IsFit n (l1_of p 0) x
  is = (fit_of p are).each core within

  has : 0 < length (l1_of p 0).l1i
  has = many_as p fetching

  some : 1 ≤ length x.l1i
  some = omega (arith, has, is.fetchers)

  here : set_of n line seen_sets ≡ instructions_at x line
  here = fetched_seen p (fit_of p are) core line own

  distinct : IsDistinct nat_eq (keys_of (instructions_at x line))
  distinct = distinct_instructions p are line own core

  ways : 1 ≤ x.l1i_ways
  ways = subst (λ (z : ℕ). 1 ≤ z) (sym (is.l1i_ways ∙ ways_seen p)) (are.room.l1i_ways fetching)

  many : core < length (caches_seen p).l1i
  many = subst (λ (z : ℕ). core < z) (sym (many_cores p has)) within

  inside : set_number n line seen_sets < length seen_sets
  inside = let l : 1 ≤ length seen_sets = are.room.l1i_sets core many in omega arith

  fewer : length (instructions_at x line) ≤ x.l1i_ways
  fewer =
      subst (λ (z : ℕ). z ≤ x.l1i_ways) (ap (λ (s : List (ℕ × Unit {0})). length s) here)
      (subst (λ (z : ℕ). length (set_of n line seen_sets) ≤ z) (sym (is.l1i_ways ∙ ways_seen p)) (within_set p are core line many inside))

  module _ (w : ℕ × Unit {0}) (victim : victim_of x.l1i_ways (instructions_at x line) ≡ Some w) where
    seen_victim : slice_get (set_of n line seen_sets) (x.l1i_ways - 1) ≡ Some w
    seen_victim = ap (λ (s : List (ℕ × Unit {0})). slice_get s (x.l1i_ways - 1)) here ∙ victim

    place : set_number n w.0 seen_sets ≡ set_number n line seen_sets
    place = all_at (λ way. set_number n way.0 seen_sets ≡ set_number n line seen_sets) (set_of n line seen_sets) (x.l1i_ways - 1) w (placed_at p are core line) seen_victim

    seen_distinct : IsDistinct nat_eq (keys_of (set_of n line seen_sets))
    seen_distinct = subst (λ (s : List (ℕ × Unit {0})). IsDistinct nat_eq (keys_of s)) (sym here) distinct

    held : fetch_holds (caches_seen p) core w.0 ≡ true
    held =
        held_as p core w.0
        ∙ (ap (λ (k : ℕ). is_some (kept_of w.0 (get_or seen_sets k []))) place
        ∙ ap (λ (o : Option (Unit {0})). is_some o) (kept_victim x.l1i_ways (set_of n line seen_sets) w seen_distinct seen_victim))

    pub line_there : IsSome (row_at p.home w.0)
    line_there = has_line p are core w.0 held

    pub line_owned : IsOwn p w.0
    line_owned = (are.lines w.0 line_there).0

    pub line_held : has_instructions x w.0 ≡ true
    line_held = sym (holds_seen p (fit_of p are) core w.0 line_owned) ∙ held

    pub fetched_other : (q : ℕ) → q ≢ line → q ≢ w.0 → has_instructions (instruction_filled_in line x) q ≡ has_instructions x q
    unfolding has_instructions instruction_filled_in
    fetched_other q apart stays =
        ap (λ (o : Option (Unit {0})). is_some o) (kept_elsewhere x.shards q line (filled x.l1i_ways line tt) x.l1i (kept_filled_other x.l1i_ways q line tt (instructions_at x line) w ways fewer victim apart stays))

    pub fetched_victim : w.0 ≢ line → has_instructions (instruction_filled_in line x) w.0 ≡ false
    unfolding has_instructions instruction_filled_in
    fetched_victim apart =
        let f : List (ℕ × Unit {0}) → List (ℕ × Unit {0}) = filled x.l1i_ways line tt in
        let after : L1State = in_instructions_of line f x in
        let part_after : List (List (ℕ × Unit {0})) = in_set_of n line f part in
        let sets_are : seen_sets ≡ part = seen_as p core within has in
        let still : length after.l1i * after.shards % n ≡ 0 = ap (λ (z : ℕ). z * x.shards % n) (length-set x.l1i (set_number x.shards line x.l1i) (f (instructions_at x line))) ∙ is.l1i_sets in
        let count : length part_after ≡ length part = length-set part (set_number n line part) (f (set_of n line part)) in
        let here_part : set_number n w.0 part ≡ set_number n line part = subst (λ (s : List (List (ℕ × Unit {0}))). set_number n w.0 s ≡ set_number n line s) sets_are place in
        let same : set_number n w.0 part_after ≡ set_number n line part_after
        = ap (λ (z : ℕ). w.0 / n % z) count ∙ (here_part ∙ sym (ap (λ (z : ℕ). line / n % z) count)) in
        let long : 1 ≤ length part = subst (λ (s : List (List (ℕ × Unit {0}))). 1 ≤ length s) sets_are (are.room.l1i_sets core many) in
        let reads : set_of n line part ≡ instructions_at x line = seen_reads n p.home.number are.some.0 are.some.1 x.shards x.l1i is.shards is.l1i_sets line own in
        ap (λ (o : Option (Unit {0})). is_some o)
        (sym (ap (kept_of w.0) (seen_reads n p.home.number are.some.0 are.some.1 after.shards after.l1i is.shards still w.0 line_owned))
        ∙ (ap (λ (z : List (List (ℕ × Unit {0}))). kept_of w.0 (set_of n w.0 z)) (seen_set n p.home.number are.some.0 are.some.1 x.shards x.l1i is.shards is.l1i_sets f line own some)
        ∙ (ap (λ (k : ℕ). kept_of w.0 (get_or part_after k [])) same
        ∙ (ap (kept_of w.0) (set_same n line f part long)
        ∙ (ap (λ (s : List (ℕ × Unit {0})). kept_of w.0 (f s)) reads
        ∙ kept_filled_victim x.l1i_ways line tt (instructions_at x line) w ways distinct victim apart)))))

  pub fetched_room : (q : ℕ) → victim_of x.l1i_ways (instructions_at x line) ≡ None → q ≢ line → has_instructions (instruction_filled_in line x) q ≡ has_instructions x q
  unfolding has_instructions instruction_filled_in
  fetched_room q none apart =
      ap (λ (o : Option (Unit {0})). is_some o) (kept_elsewhere x.shards q line (filled x.l1i_ways line tt) x.l1i (kept_filled_room x.l1i_ways q line tt (instructions_at x line) ways none apart))

  pub fetched_same : has_instructions (instruction_filled_in line x) line ≡ true
  unfolding has_instructions instruction_filled_in
  fetched_same =
      ap (λ (o : Option (Unit {0})). is_some o)
      (ap (kept_of line) (set_same x.shards line (filled x.l1i_ways line tt) x.l1i some) ∙ kept_filled_same x.l1i_ways line tt (instructions_at x line) ways)
