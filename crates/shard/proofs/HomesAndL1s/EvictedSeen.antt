-- The line that the L2 evicts leaves every L1, and another comes in: what is seen of it.
use Rattle.std.proofs.Common.{◌≡◌, ℕ, zero, suc, ◌-◌, ◌/◌, ◌%◌, ◌<◌, ◌≤◌, ◌||◌, Bool, false, List, [], ◌∷◌, length, get_or, map, Option, Some, None, is_some, refl, sym, ap, ◌∙◌, subst, arith, inl, inr}
use Rattle.std.specs.List.{IsDistinct}
use Rattle.std.specs.Map.{keys_of}
use Rattle.std.specs.Option.{unwrap_or}
use Rattle.std.specs.Prelude.{nat_eq, slice_get}
use Rattle.std.specs.Set.{is_member}
use Rattle.std.proofs.Math.ListN as listn
use Rattle.std.proofs.lemmas.Bool.{cases_lt}
use Rattle.std.proofs.lemmas.List.{get_or_past, length-map}
use Rattle.cache_set.specs.Ways.{kept_of, victim_of}
use Rattle.shard.specs.Coherence.{Caches, copies_evicted, dirty_at, filled_into_l2, instructions_recalled, is_dirty_victim, l2_victim}
use Rattle.home.specs.HomeState.{HomeLine, evicted_by, nobody, row_at, row_of}
use Rattle.l1_cache.specs.L1State.{L1State, given_up_in, has_instructions, instructions_at, no_l1}
use Rattle.cache_set.specs.Lines.{set_number, set_of}
use Rattle.shard.specs.PartsLaws.{AreParts, IsOwn}
use Rattle.shard.specs.Seen.{caches_seen}
use Rattle.shard.specs.SharedStep.{Bank, brought_home, evicted_everywhere, given_up_by, is_dirty_here, is_modified_by, l1_of}
use Rattle.shard.proofs.HomesAndL1s.Banks.{IsBankOf, given_up_bank, same_bank}
use Rattle.shard.proofs.CoherentLines.{kept_victim}
use Rattle.shard.proofs.HomesAndL1s.Decisions.{modified_seen}
use Rattle.shard.proofs.HomesAndL1s.FitOf.{fit_of}
use Rattle.shard.proofs.HomesAndL1s.FoldIsMap.{no_given_up}
use Rattle.shard.proofs.HomesAndL1s.InstructionsSeen.{dropped_seen}
use Rattle.shard.proofs.HomesAndL1s.LettersSeen.{fetched_seen}
use Rattle.shard.proofs.HomesAndL1s.ListsSeen.{brought_in_seen}
use Rattle.shard.proofs.HomesAndL1s.RecalledCaches.{recalled_seen}
use Rattle.shard.proofs.HomesAndL1s.RecalledSeen.{given_up_is_map}
use Rattle.shard.proofs.HomesAndL1s.RowsSeen.{dirty_of, see_maybe, seen_at, seen_ways}
use Rattle.shard.proofs.HomesAndL1s.Victims.{all_at, dirty_seen, victim_own}

abbrev pub see_row : Option (ℕ × HomeLine) → Option (ℕ × Bool)
see_row None = None
see_row (Some way) = Some (way.0, way.1.dirty)

pub row_way : (s : List (ℕ × HomeLine)) (i : ℕ) → slice_get (seen_ways dirty_of s) i ≡ see_row (slice_get s i)
row_way [] i = refl
row_way (w ∷ s) zero = refl
row_way (w ∷ s) (suc i) = row_way s i

pub evicted_seen : (p : Bank) (line : ℕ) → l2_victim (caches_seen p) line ≡ see_row (evicted_by p.home line)
unfolding caches_seen
evicted_seen p line =
    ap (victim_of p.home.ways) (seen_at (seen_ways dirty_of) refl p.home.shards line p.home.sets) ∙ row_way (set_of p.home.shards line p.home.sets) (p.home.ways - 1)

pub keys_of_rows : (s : List (ℕ × HomeLine)) → keys_of (seen_ways dirty_of s) ≡ keys_of s
keys_of_rows [] = refl
keys_of_rows (e ∷ s) = ap (λ (ks : List ℕ). e.0 ∷ ks) (keys_of_rows s)

-- the row of the line that is evicted
pub victim_is : (p : Bank) → AreParts p → (line : ℕ) (w : ℕ × HomeLine) → evicted_by p.home line ≡ Some w → row_at p.home w.0 ≡ Some w.1
unfolding row_at caches_seen
victim_is p are line w e =
    let n : ℕ = p.home.shards in
    let c : Caches = caches_seen p in
    let s : List (ℕ × HomeLine) = set_of n line p.home.sets in
    let long : length c.l2 ≡ length p.home.sets = length-map p.home.sets (seen_ways dirty_of) in
    let seen : set_of n line c.l2 ≡ seen_ways dirty_of s = seen_at (seen_ways dirty_of) refl n line p.home.sets in
    let some : 1 ≤ length c.l2 = are.room.l2_sets in
    let inside : set_number n line c.l2 < length c.l2 = omega arith in
    let is : slice_get (set_of n line c.l2) (p.home.ways - 1) ≡ Some (w.0, w.1.dirty)
    = ap (λ (x : List (ℕ × Bool)). slice_get x (p.home.ways - 1)) seen ∙ (row_way s (p.home.ways - 1) ∙ ap see_row e) in
    let place : set_number n w.0 c.l2 ≡ set_number n line c.l2
    = all_at (λ way. set_number n way.0 c.l2 ≡ set_number n line c.l2) (set_of n line c.l2) (p.home.ways - 1) (w.0, w.1.dirty) (are.coherent.sets.l2_placed (set_number n line c.l2)) is in
    let distinct : IsDistinct nat_eq (keys_of s)
    = subst (λ (ks : List ℕ). IsDistinct nat_eq ks) (ap (λ (x : List (ℕ × Bool)). keys_of x) seen ∙ keys_of_rows s) (are.coherent.sets.l2 (set_number n line c.l2) [] inside).distinct in
    ap (λ (k : ℕ). kept_of w.0 (get_or p.home.sets k [])) (sym (ap (λ (z : ℕ). w.0 / n % z) long) ∙ (place ∙ ap (λ (z : ℕ). line / n % z) long))
    ∙ kept_victim p.home.ways s w distinct e

-- ---- is it dirty
dirty_victim : (p : Bank) → AreParts p → (v : Option (ℕ × HomeLine)) → ((w : ℕ × HomeLine) → v ≡ Some w → (row_of p.home w.0 ≡ w.1) × IsOwn p w.0) → is_dirty_here p v ≡ is_dirty_victim (caches_seen p) (see_row v)
dirty_victim p are None is = refl
dirty_victim p are (Some w) is =
    let here = is w refl in
    ap (λ (b : Bool). w.1.dirty || b)
    (ap (λ (row : HomeLine). is_modified_by p w.0 row.sharers) (sym here.0) ∙ modified_seen p are w.0 here.1)

pub row_is : (p : Bank) → AreParts p → (line : ℕ) (w : ℕ × HomeLine) → evicted_by p.home line ≡ Some w → row_of p.home w.0 ≡ w.1
row_is p are line w e = ap (λ (o : Option HomeLine). unwrap_or o nobody) (victim_is p are line w e)

pub dirt_seen : (p : Bank) → AreParts p → (line : ℕ) → is_dirty_here p (evicted_by p.home line) ≡ is_dirty_victim (caches_seen p) (l2_victim (caches_seen p) line)
dirt_seen p are line =
    dirty_victim p are (evicted_by p.home line) (λ w e. (row_is p are line w e, victim_own p are line w e))
    ∙ ap (is_dirty_victim (caches_seen p)) (sym (evicted_seen p line))

is_there : (o : Option HomeLine) → is_some (see_maybe dirty_of o) ≡ is_some o
is_there None = refl
is_there (Some row) = refl

pub in_l2_seen : (p : Bank) (line : ℕ) → is_some (dirty_at (caches_seen p) line) ≡ is_some (row_at p.home line)
in_l2_seen p line = ap (λ (o : Option Bool). is_some o) (dirty_seen p line) ∙ is_there (row_at p.home line)

-- ---- it leaves every L1
module _ (p : Bank) (are : AreParts p) (v : ℕ) (own : IsOwn p v) where
  pub recalled_at : (k : ℕ) → l1_of (given_up_by v (row_of p.home v).sharers p) k ≡ given_up_in v (l1_of p k)
  recalled_at k =
      ap (λ (l1s : List L1State). get_or l1s k no_l1) (given_up_is_map p are v own)
      ∙ subst (λ (d : L1State). get_or (map (given_up_in v) p.l1s) k d ≡ given_up_in v (get_or p.l1s k no_l1)) (no_given_up v) (listn.get_or-map (given_up_in v) p.l1s k no_l1)

  pub distinct_instructions : (k : ℕ) → IsDistinct nat_eq (keys_of (instructions_at (l1_of p k) v))
  unfolding IsDistinct
  distinct_instructions k =
      let c : Caches = caches_seen p in
      let sets : List (List (ℕ × Unit {0})) = get_or c.l1i k [] in
      subst (λ (s : List (ℕ × Unit {0})). IsDistinct nat_eq (keys_of s)) (fetched_seen p (fit_of p are) k v own)
      (elim (cases_lt k (length c.l1i)) as (λ _. IsDistinct nat_eq (keys_of (set_of p.home.shards v sets))) [
        | inl many ↦
            let some : 1 ≤ length sets = are.room.l1i_sets k many in
            let place : v / p.home.shards % length sets < length sets = omega arith in
            (are.coherent.sets.l1i k [] many (v / p.home.shards % length sets) [] place).distinct
        | inr past ↦ subst (λ (x : List (List (ℕ × Unit {0}))). IsDistinct nat_eq (keys_of (set_of p.home.shards v x))) (sym (get_or_past c.l1i k [] past)) tt
      ])

  abbrev pub gone : Bank
  gone = given_up_by v (row_of p.home v).sharers p

  -- instruction caches are as they were
  instructions_still : (l1 : L1State) → instructions_at (given_up_in v l1) v ≡ instructions_at l1 v
  unfolding given_up_in
  instructions_still l1 = refl

  has_still : (l1 : L1State) → has_instructions (given_up_in v l1) v ≡ has_instructions l1 v
  unfolding given_up_in has_instructions
  has_still l1 = refl

  pub gone_distinct : (k : ℕ) → IsDistinct nat_eq (keys_of (instructions_at (l1_of gone k) v))
  gone_distinct k =
      subst (λ (s : List (ℕ × Unit {0})). IsDistinct nat_eq (keys_of s)) (sym (ap (λ (l1 : L1State). instructions_at l1 v) (recalled_at k) ∙ instructions_still (l1_of p k))) (distinct_instructions k)

  pub gone_absent : (k : ℕ) → is_member nat_eq (row_of p.home v).fetchers k ≡ false → has_instructions (l1_of gone k) v ≡ false
  gone_absent k none = ap (λ (l1 : L1State). has_instructions l1 v) (recalled_at k) ∙ (has_still (l1_of p k) ∙ (sym (are.fetches k v own) ∙ none))

  pub leaves_seen : caches_seen (evicted_everywhere (Some (v, row_of p.home v)) p) ≡ copies_evicted (Some (v, (row_of p.home v).dirty)) (caches_seen p)
  leaves_seen =
      let bank : IsBankOf p gone = given_up_bank p p (same_bank p (fit_of p are)) v (row_of p.home v).sharers in
      dropped_seen gone bank.fit v (ap (λ (z : ℕ). v % z) bank.count ∙ (own ∙ sym bank.number)) (row_of p.home v).fetchers gone_distinct gone_absent
      ∙ ap (instructions_recalled v) (recalled_seen p are v own)

leaving : (p : Bank) → AreParts p → (v : Option (ℕ × HomeLine)) → ((w : ℕ × HomeLine) → v ≡ Some w → (row_of p.home w.0 ≡ w.1) × IsOwn p w.0)
    → caches_seen (evicted_everywhere v p) ≡ copies_evicted (see_row v) (caches_seen p)
leaving p are None is = refl
leaving p are (Some w) is =
    let here = is w refl in
    subst (λ (row : HomeLine). caches_seen (evicted_everywhere (Some (w.0, row)) p) ≡ copies_evicted (Some (w.0, row.dirty)) (caches_seen p)) here.0 (leaves_seen p are w.0 here.1)

pub home_seen : (p : Bank) → AreParts p → (line : ℕ) → caches_seen (brought_home line p) ≡ filled_into_l2 line (copies_evicted (l2_victim (caches_seen p) line) (caches_seen p))
unfolding brought_home
home_seen p are line =
    brought_in_seen line (evicted_everywhere (evicted_by p.home line) p)
    ∙ ap (filled_into_l2 line)
    (leaving p are (evicted_by p.home line) (λ w e. (row_is p are line w e, victim_own p are line w e))
    ∙ ap (λ (o : Option (ℕ × Bool)). copies_evicted o (caches_seen p)) (sym (evicted_seen p line)))
