-- The rows of a home's set, and those after a line came in.
use Rattle.std.proofs.Common.{◌≡◌, ◌≢◌, ℕ, ◌-◌, ◌/◌, ◌%◌, ◌<◌, ◌≤◌, Bool, List, [], length, get_or, Some, None, refl, sym, ap, ◌∙◌, subst, arith}
use Rattle.std.specs.List.{IsDistinct}
use Rattle.std.specs.Map.{keys_of}
use Rattle.std.specs.Prelude.{nat_eq, slice_get}
use Rattle.std.proofs.lemmas.List.{length-map, length-set}
use Rattle.cache_set.specs.Ways.{filled, kept_of}
use Rattle.shard.specs.Coherence.{Caches}
use Rattle.home.specs.HomeState.{HomeLine, brought_in, evicted_by, nobody, row_at}
use Rattle.cache_set.specs.Lines.{in_set_of, set_number, set_of}
use Rattle.shard.specs.PartsLaws.{AreParts}
use Rattle.shard.specs.Seen.{caches_seen}
use Rattle.shard.specs.SharedStep.{Bank}
use Rattle.shard.proofs.CoherentLines.{kept_elsewhere, kept_filled_other, kept_filled_room, kept_filled_same, kept_filled_victim, set_same}
use Rattle.shard.proofs.HomesAndL1s.EvictedSeen.{keys_of_rows, row_way, see_row}
use Rattle.shard.proofs.HomesAndL1s.RowsSeen.{dirty_of, seen_at, seen_ways}
use Rattle.shard.proofs.HomesAndL1s.Victims.{all_at}

module _ (p : Bank) (are : AreParts p) (line : ℕ) where
  abbrev s : List (ℕ × HomeLine)
  s = set_of p.home.shards line p.home.sets

  pub home_ways : 1 ≤ p.home.ways
  unfolding caches_seen
  home_ways = are.room.l2_ways

  long : length (caches_seen p).l2 ≡ length p.home.sets
  unfolding caches_seen
  long = length-map p.home.sets (seen_ways dirty_of)

  pub home_some : 1 ≤ length p.home.sets
  home_some = omega (arith, are.room.l2_sets, long)

  seen : set_of p.home.shards line (caches_seen p).l2 ≡ seen_ways dirty_of s
  unfolding caches_seen
  seen = seen_at (seen_ways dirty_of) refl p.home.shards line p.home.sets

  inside : set_number p.home.shards line (caches_seen p).l2 < length (caches_seen p).l2
  inside = let some : 1 ≤ length (caches_seen p).l2 = are.room.l2_sets in omega arith

  pub home_distinct : IsDistinct nat_eq (keys_of s)
  unfolding caches_seen
  home_distinct =
      subst (λ (ks : List ℕ). IsDistinct nat_eq ks) (ap (λ (x : List (ℕ × Bool)). keys_of x) seen ∙ keys_of_rows s)
      (are.coherent.sets.l2 (set_number p.home.shards line (caches_seen p).l2) [] inside).distinct

  pub home_within : length s ≤ p.home.ways
  unfolding caches_seen
  home_within =
      subst (λ (z : ℕ). z ≤ p.home.ways) (ap (λ (x : List (ℕ × Bool)). length x) seen ∙ length-map s (λ way. (way.0, way.1.dirty)))
      (are.coherent.sets.l2 (set_number p.home.shards line (caches_seen p).l2) [] inside).within

  pub victim_place : (w : ℕ × HomeLine) → evicted_by p.home line ≡ Some w → set_number p.home.shards w.0 p.home.sets ≡ set_number p.home.shards line p.home.sets
  unfolding caches_seen
  victim_place w e =
      let n : ℕ = p.home.shards in
      let c : Caches = caches_seen p in
      let is : slice_get (set_of n line c.l2) (p.home.ways - 1) ≡ Some (w.0, w.1.dirty)
      = ap (λ (x : List (ℕ × Bool)). slice_get x (p.home.ways - 1)) seen ∙ (row_way s (p.home.ways - 1) ∙ ap see_row e) in
      let place : set_number n w.0 c.l2 ≡ set_number n line c.l2
      = all_at (λ way. set_number n way.0 c.l2 ≡ set_number n line c.l2) (set_of n line c.l2) (p.home.ways - 1) (w.0, w.1.dirty) (are.coherent.sets.l2_placed (set_number n line c.l2)) is in
      sym (ap (λ (z : ℕ). w.0 / n % z) long) ∙ (place ∙ ap (λ (z : ℕ). line / n % z) long)

  -- ---- after the line came in
  pub row_filled_same : row_at (brought_in line p.home) line ≡ Some nobody
  unfolding row_at brought_in
  row_filled_same =
      ap (kept_of line) (set_same p.home.shards line (filled p.home.ways line nobody) p.home.sets home_some) ∙ kept_filled_same p.home.ways line nobody s home_ways

  pub row_filled_room : (x : ℕ) → evicted_by p.home line ≡ None → x ≢ line → row_at (brought_in line p.home) x ≡ row_at p.home x
  unfolding row_at brought_in
  row_filled_room x none apart =
      kept_elsewhere p.home.shards x line (filled p.home.ways line nobody) p.home.sets (kept_filled_room p.home.ways x line nobody s home_ways none apart)

  pub row_filled_other : (x : ℕ) (w : ℕ × HomeLine) → evicted_by p.home line ≡ Some w → x ≢ line → x ≢ w.0 → row_at (brought_in line p.home) x ≡ row_at p.home x
  unfolding row_at brought_in
  row_filled_other x w e apart stays =
      kept_elsewhere p.home.shards x line (filled p.home.ways line nobody) p.home.sets (kept_filled_other p.home.ways x line nobody s w home_ways home_within e apart stays)

  pub row_filled_victim : (w : ℕ × HomeLine) → evicted_by p.home line ≡ Some w → w.0 ≢ line → row_at (brought_in line p.home) w.0 ≡ None
  unfolding row_at brought_in
  row_filled_victim w e apart =
      let n : ℕ = p.home.shards in
      let after : List (List (ℕ × HomeLine)) = in_set_of n line (filled p.home.ways line nobody) p.home.sets in
      let many : length after ≡ length p.home.sets = length-set p.home.sets (set_number n line p.home.sets) (filled p.home.ways line nobody s) in
      let here : set_number n w.0 after ≡ set_number n line after
      = ap (λ (z : ℕ). w.0 / n % z) many ∙ (victim_place w e ∙ sym (ap (λ (z : ℕ). line / n % z) many)) in
      ap (λ (k : ℕ). kept_of w.0 (get_or after k [])) here
      ∙ (ap (kept_of w.0) (set_same n line (filled p.home.ways line nobody) p.home.sets home_some)
      ∙ kept_filled_victim p.home.ways line nobody s w home_ways home_distinct e apart)
