-- The set of a core's own L1 into which a line comes: what it is like, and what is kept of each line after it.
use Rattle.std.proofs.Common.{◌≡◌, ◌≢◌, ℕ, ◌-◌, ◌*◌, ◌/◌, ◌%◌, ◌<◌, ◌≤◌, Bool, true, List, [], length, get_or, map, Option, Some, None, refl, sym, ap, ◌∙◌, subst, arith}
use Rattle.std.specs.List.{All, IsDistinct}
use Rattle.std.specs.Map.{keys_of}
use Rattle.std.specs.Option.{unwrap_or}
use Rattle.std.specs.Prelude.{IsSome, nat_eq, slice_get}
use Rattle.std.proofs.lemmas.List.{get_or-map, length-map, length-set}
use Rattle.cache_set.specs.Ways.{filled, kept_of}
use Rattle.cache_set.specs.declared.letter.Letter.{Letter}
use Rattle.cache_set.specs.declared.letter.Letter.TheVariants.{I}
use Rattle.shard.specs.Coherence.{dirty_at, is_valid, letter_at, letter_in, own_victim}
use Rattle.home.specs.HomeState.{HomeLine, row_at}
use Rattle.l1_cache.specs.L1State.{Copy, L1State, copies_at, copy_at, filled_in, in_copies_of, no_l1, victim_in}
use Rattle.cache_set.specs.Lines.{in_set_of, set_number, set_of}
use Rattle.shard.specs.PartsLaws.{AreParts, IsOwn}
use Rattle.shard.specs.Seen.{caches_seen, letters_in, sets_seen}
use Rattle.shard.specs.SharedStep.{Bank, copy_of, l1_of}
use Rattle.shard.proofs.HomesAndL1s.BroughtSeen.{own_victim_seen, see_way}
use Rattle.shard.proofs.CoherentLines.{kept_elsewhere, kept_filled_other, kept_filled_room, kept_filled_same, kept_filled_victim, kept_victim, set_same}
use Rattle.shard.proofs.HomesAndL1s.Decisions.{cores_seen}
use Rattle.shard.proofs.HomesAndL1s.Fit.{IsFit}
use Rattle.shard.proofs.HomesAndL1s.FitOf.{fit_of}
use Rattle.shard.proofs.HomesAndL1s.LettersSeen.{copies_seen}
use Rattle.shard.proofs.HomesAndL1s.PartOf.{part_sets, seen_reads, seen_set}
use Rattle.shard.proofs.HomesAndL1s.RecalledSeen.{distinct_at, keys_seen}
use Rattle.shard.proofs.HomesAndL1s.Victims.{all_at, dirty_seen}
use Rattle.shard.proofs.HomesAndL1s.RowsSeen.{dirty_of, see_maybe}

-- what is seen of one L1 of coherent caches
ways_seen : (p : Bank) → (l1_of p 0).ways ≡ (caches_seen p).l1_ways
unfolding caches_seen
ways_seen p = refl

seen_within : (p : Bank) → AreParts p → (core line : ℕ) → core < length (caches_seen p).l1 → set_number p.home.shards line (get_or (caches_seen p).l1 core []) < length (get_or (caches_seen p).l1 core [])
    → length (set_of p.home.shards line (get_or (caches_seen p).l1 core [])) ≤ (caches_seen p).l1_ways
seen_within p are core line many inside =
    (are.coherent.sets.l1 core [] many (set_number p.home.shards line (get_or (caches_seen p).l1 core [])) [] inside).within

victim_as : (p : Bank) (core line : ℕ) → slice_get (set_of p.home.shards line (get_or (caches_seen p).l1 core [])) ((caches_seen p).l1_ways - 1) ≡ own_victim (caches_seen p) core line
unfolding caches_seen
victim_as p core line = refl

placed_at : (p : Bank) → AreParts p → (core line : ℕ)
    → All (λ way. set_number p.home.shards way.0 (get_or (caches_seen p).l1 core []) ≡ set_number p.home.shards line (get_or (caches_seen p).l1 core [])) (set_of p.home.shards line (get_or (caches_seen p).l1 core []))
unfolding caches_seen
placed_at p are core line = are.coherent.sets.l1_placed core (set_number p.home.shards line (get_or (caches_seen p).l1 core []))

held_at : (p : Bank) → AreParts p → (core line : ℕ) → All (λ way. is_valid way.1 ≡ true) (set_of p.home.shards line (get_or (caches_seen p).l1 core []))
held_at p are core line = are.coherent.sets.held core (set_number p.home.shards line (get_or (caches_seen p).l1 core []))

letter_as : (p : Bank) (core line : ℕ) → is_valid (letter_in line (set_of p.home.shards line (get_or (caches_seen p).l1 core []))) ≡ true → is_valid (letter_at (caches_seen p) core line) ≡ true
unfolding caches_seen letter_at
letter_as p core line valid = valid

-- a line that an L1 has is in the L2
has_line : (p : Bank) → AreParts p → (core line : ℕ) → is_valid (letter_in line (set_of p.home.shards line (get_or (caches_seen p).l1 core []))) ≡ true → IsSome (row_at p.home line)
has_line p are core line valid =
    some_row (row_at p.home line) (dirty_at (caches_seen p) line) (dirty_seen p line) (are.coherent.inclusive core line (letter_as p core line valid)) where
      some_row : (o : Option HomeLine) (d : Option Bool) → d ≡ see_maybe dirty_of o → IsSome d → IsSome o
      some_row None None e h = h
      some_row None (Some b) e h = absurd cc
      some_row (Some row) d e h = refl

module _ (p : Bank) (are : AreParts p) (core line : ℕ) (within : core < length p.l1s) (own : IsOwn p line) where
  abbrev x : L1State
  x = l1_of p core

  abbrev n : ℕ
  n = p.home.shards

  abbrev part : List (List (ℕ × Copy))
  part = part_sets x.shards n p.home.number x.sets

  abbrev seen_sets : List (List (ℕ × Letter))
  seen_sets = get_or (caches_seen p).l1 core []

  is : IsFit n (l1_of p 0) x
  is = (fit_of p are).each core within

  part_reads : (q : ℕ) → IsOwn p q → set_of n q part ≡ copies_at x q
  part_reads q own_q = seen_reads n p.home.number are.some.0 are.some.1 x.shards x.sets is.shards is.sets q own_q

  pub own_distinct : IsDistinct nat_eq (keys_of (copies_at x line))
  own_distinct = distinct_at p are line own core within

  sets_are : seen_sets ≡ map letters_in part
  unfolding caches_seen
  sets_are = get_or-map (sets_seen p.home) p.l1s core no_l1 [] within

  long : length seen_sets ≡ length part
  long = ap (λ (s : List (List (ℕ × Letter))). length s) sets_are ∙ length-map part letters_in

  pub own_ways : 1 ≤ x.ways
  own_ways = subst (λ (z : ℕ). 1 ≤ z) (sym (is.ways ∙ ways_seen p)) are.room.l1_ways

  many : core < length (caches_seen p).l1
  many = subst (λ (z : ℕ). core < z) (sym (cores_seen p)) within

  inside : set_number n line seen_sets < length seen_sets
  inside = let some : 1 ≤ length seen_sets = are.room.l1_sets core many in omega arith

  here : set_of n line seen_sets ≡ letters_in (copies_at x line)
  here = copies_seen p (fit_of p are) core line own

  pub own_within : length (copies_at x line) ≤ x.ways
  own_within =
      subst (λ (z : ℕ). z ≤ x.ways) (ap (λ (s : List (ℕ × Letter)). length s) here ∙ length-map (copies_at x line) (λ way. (way.0, way.1.letter)))
      (subst (λ (z : ℕ). length (set_of n line seen_sets) ≤ z) (sym (is.ways ∙ ways_seen p)) (seen_within p are core line many inside))

  module _ (w : ℕ × Copy) (victim : victim_in x line ≡ Some w) where
    seen_victim : slice_get (set_of n line seen_sets) ((caches_seen p).l1_ways - 1) ≡ Some (w.0, w.1.letter)
    seen_victim = victim_as p core line ∙ (own_victim_seen p (fit_of p are) core line within own ∙ ap see_way victim)

    seen_place : set_number n w.0 seen_sets ≡ set_number n line seen_sets
    seen_place =
        all_at (λ way. set_number n way.0 seen_sets ≡ set_number n line seen_sets) (set_of n line seen_sets) ((caches_seen p).l1_ways - 1) (w.0, w.1.letter)
        (placed_at p are core line) seen_victim

    place : set_number n w.0 part ≡ set_number n line part
    place = sym (ap (λ (z : ℕ). w.0 / n % z) long) ∙ (seen_place ∙ ap (λ (z : ℕ). line / n % z) long)

    valid : is_valid w.1.letter ≡ true
    valid =
        all_at (λ way. is_valid way.1 ≡ true) (set_of n line seen_sets) ((caches_seen p).l1_ways - 1) (w.0, w.1.letter) (held_at p are core line) seen_victim

    seen_distinct : IsDistinct nat_eq (keys_of (set_of n line seen_sets))
    seen_distinct = subst (λ (ks : List ℕ). IsDistinct nat_eq ks) (sym (ap (λ (s : List (ℕ × Letter)). keys_of s) here ∙ keys_seen (copies_at x line))) own_distinct

    letter : letter_in w.0 (set_of n w.0 seen_sets) ≡ w.1.letter
    letter =
        ap (λ (k : ℕ). letter_in w.0 (get_or seen_sets k [])) seen_place
        ∙ ap (λ (o : Option Letter). unwrap_or o I) (kept_victim (caches_seen p).l1_ways (set_of n line seen_sets) (w.0, w.1.letter) seen_distinct seen_victim)

    in_l2 : IsSome (row_at p.home w.0)
    in_l2 = has_line p are core w.0 (ap is_valid letter ∙ valid)

    -- it is a line of the bank's own, and a copy is kept of it
    pub victim_owned : IsOwn p w.0
    victim_owned = (are.lines w.0 in_l2).0

    pub victim_copy : copy_of p core w.0 ≡ Some w.1
    unfolding copy_at
    victim_copy =
        ap (kept_of w.0) (sym (part_reads w.0 victim_owned))
        ∙ (ap (λ (k : ℕ). kept_of w.0 (get_or part k [])) place
        ∙ (ap (kept_of w.0) (part_reads line own) ∙ kept_victim x.ways (copies_at x line) w own_distinct victim))

    -- after another line came in, it is there no more
    pub filled_victim : (copy : Copy) → w.0 ≢ line → copy_at (filled_in line copy x) w.0 ≡ None
    unfolding copy_at filled_in
    filled_victim copy apart =
        let f : List (ℕ × Copy) → List (ℕ × Copy) = filled x.ways line copy in
        let after : L1State = in_copies_of line f x in
        let part_after : List (List (ℕ × Copy)) = in_set_of n line f part in
        let still : length after.sets * after.shards % n ≡ 0 = ap (λ (z : ℕ). z * x.shards % n) (length-set x.sets (set_number x.shards line x.sets) (f (copies_at x line))) ∙ is.sets in
        let count : length part_after ≡ length part = length-set part (set_number n line part) (f (set_of n line part)) in
        let same : set_number n w.0 part_after ≡ set_number n line part_after
        = ap (λ (z : ℕ). w.0 / n % z) count ∙ (place ∙ sym (ap (λ (z : ℕ). line / n % z) count)) in
        let some : 1 ≤ length part = omega (arith, inside, long) in
        sym (ap (kept_of w.0) (seen_reads n p.home.number are.some.0 are.some.1 after.shards after.sets is.shards still w.0 victim_owned))
        ∙ (ap (λ (z : List (List (ℕ × Copy))). kept_of w.0 (set_of n w.0 z)) (seen_set n p.home.number are.some.0 are.some.1 x.shards x.sets is.shards is.sets f line own is.room)
        ∙ (ap (λ (k : ℕ). kept_of w.0 (get_or part_after k [])) same
        ∙ (ap (kept_of w.0) (set_same n line f part some)
        ∙ (ap (λ (s : List (ℕ × Copy)). kept_of w.0 (f s)) (part_reads line own)
        ∙ kept_filled_victim x.ways line copy (copies_at x line) w own_ways own_distinct victim apart))))

    pub filled_other : (copy : Copy) (q : ℕ) → q ≢ line → q ≢ w.0 → copy_at (filled_in line copy x) q ≡ copy_at x q
    unfolding copy_at filled_in
    filled_other copy q apart stays =
        kept_elsewhere x.shards q line (filled x.ways line copy) x.sets (kept_filled_other x.ways q line copy (copies_at x line) w own_ways own_within victim apart stays)

  pub filled_room : (copy : Copy) (q : ℕ) → victim_in x line ≡ None → q ≢ line → copy_at (filled_in line copy x) q ≡ copy_at x q
  unfolding copy_at filled_in
  filled_room copy q none apart =
      kept_elsewhere x.shards q line (filled x.ways line copy) x.sets (kept_filled_room x.ways q line copy (copies_at x line) own_ways none apart)

  pub filled_same : (copy : Copy) → copy_at (filled_in line copy x) line ≡ Some copy
  unfolding copy_at filled_in
  filled_same copy =
      ap (kept_of line) (set_same x.shards line (filled x.ways line copy) x.sets (omega (arith, is.room))) ∙ kept_filled_same x.ways line copy (copies_at x line) own_ways
