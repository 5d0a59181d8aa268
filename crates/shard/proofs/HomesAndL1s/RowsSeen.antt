-- The L2's lists after a change of what the home keeps of a line.
use Rattle.std.proofs.Common.{◌≡◌, ℕ, ◌/◌, ◌%◌, Bool, true, false, cond, eqb, List, [], ◌∷◌, length, get_or, map, set, Option, Some, None, refl, sym, ap, ◌∙◌, subst, inl, inr}
use Rattle.std.specs.Option.{option_map_or}
use Rattle.std.specs.Prelude.{nat_eq}
use Rattle.std.proofs.Math.ListN as listn
use Rattle.std.proofs.lemmas.Bool.{cases_eq, eq-eqb, ne_eqb}
use Rattle.std.proofs.lemmas.List.{length-map, map-set, set-get_or}
use Rattle.std.proofs.lemmas.Map.Steps.{set_value_same}
use Rattle.cache_set.specs.Ways.{changed, kept_of}
use Rattle.home.specs.HomeState.{HomeLine, HomeState, dropped_in, in_row_of, marked_dirty_in, with_bytes_at}
use Rattle.mesi_dir.specs.CoreSets.{without_core}
use Rattle.shard.specs.Coherence.{is_modified}
use Rattle.l1_cache.specs.L1State.{Copy}
use Rattle.cache_set.specs.Lines.{in_set_of, set_of}
use Rattle.shard.specs.SharedStep.{Bank, collected, own_evicted, with_home}

-- ---- a change of one set, seen through a function of each set
module _ {X Y : Type 0} (g : List X → List Y) (empty : g [] ≡ []) where
  pub seen_at : (n line : ℕ) (sets : List (List X)) → set_of n line (map g sets) ≡ g (set_of n line sets)
  seen_at n line sets =
      rw (length-map sets g) (subst (λ (d : List Y). get_or (map g sets) (line / n % length sets) d ≡ g (get_or sets (line / n % length sets) [])) empty (listn.get_or-map g sets (line / n % length sets) []))

  pub seen_in_set : (n line : ℕ) (f : List X → List X) (h : List Y → List Y) (sets : List (List X)) → g (f (set_of n line sets)) ≡ h (g (set_of n line sets))
      → map g (in_set_of n line f sets) ≡ in_set_of n line h (map g sets)
  seen_in_set n line f h sets e =
      map-set g sets (line / n % length sets) (f (set_of n line sets))
      ∙ (ap (set (map g sets) (line / n % length sets)) (e ∙ ap h (sym (seen_at n line sets)))
      ∙ ap (λ (l : ℕ). set (map g sets) (line / n % l) (h (set_of n line (map g sets)))) (sym (length-map sets g)))

-- a set that stays
pub in_set_same : {Y : Type 0} (n line : ℕ) (h : List Y → List Y) (sets : List (List Y)) → h (set_of n line sets) ≡ set_of n line sets → in_set_of n line h sets ≡ sets
in_set_same n line h sets e = ap (set sets (line / n % length sets)) e ∙ set-get_or sets (line / n % length sets) []

-- ---- what is kept, seen through a function of it
module _ {X Y : Type 0} (see : X → Y) where
  abbrev pub seen_ways : List (ℕ × X) → List (ℕ × Y)
  seen_ways ways = map (λ way. (way.0, see way.1)) ways

  pub seen_changed : (line : ℕ) (v : X) (s : List (ℕ × X)) → seen_ways (changed line v s) ≡ changed line (see v) (seen_ways s)
  seen_changed line v [] = refl
  seen_changed line v (e ∷ s) =
      elim (cases_eq line e.0) as (λ _. seen_ways (cond (eqb line e.0) ((e.0, v) ∷ s) (e ∷ changed line v s)) ≡ cond (eqb line e.0) ((e.0, see v) ∷ seen_ways s) ((e.0, see e.1) ∷ changed line (see v) (seen_ways s))) [
        | inl same ↦ rw (eq-eqb line e.0 same) refl
        | inr apart ↦ rw (ne_eqb line e.0 apart) (ap (λ (es : List (ℕ × Y)). (e.0, see e.1) ∷ es) (seen_changed line v s))
      ]

  abbrev pub see_maybe : Option X → Option Y
  see_maybe None = None
  see_maybe (Some x) = Some (see x)

  pub seen_kept : (line : ℕ) (s : List (ℕ × X)) → kept_of line (seen_ways s) ≡ see_maybe (kept_of line s)
  seen_kept line [] = refl
  seen_kept line (e ∷ s) =
      elim (cases_eq line e.0) as (λ _. cond (eqb line e.0) (Some (see e.1)) (kept_of line (seen_ways s)) ≡ see_maybe (cond (eqb line e.0) (Some e.1) (kept_of line s))) [
        | inl same ↦ rw (eq-eqb line e.0 same) refl
        | inr apart ↦ rw (ne_eqb line e.0 apart) (seen_kept line s)
      ]

pub changed_absent : {Y : Type 0} (line : ℕ) (v : Y) (s : List (ℕ × Y)) → kept_of line s ≡ None → changed line v s ≡ s
changed_absent line v [] none = refl
changed_absent {Y} line v (e ∷ s) none =
    elim (cases_eq line e.0) as (λ _. cond (eqb line e.0) ((e.0, v) ∷ s) (e ∷ changed line v s) ≡ e ∷ s) [
      | inl same ↦ let bad : Some e.1 ≡ None = sym (ap (λ (b : Bool). cond b (Some e.1) (kept_of line s)) (eq-eqb line e.0 same)) ∙ none in absurd cc
      | inr apart ↦
          let rest : kept_of line s ≡ None = sym (ap (λ (b : Bool). cond b (Some e.1) (kept_of line s)) (ne_eqb line e.0 apart)) ∙ none in
          ap (λ (b : Bool). cond b ((e.0, v) ∷ s) (e ∷ changed line v s)) (ne_eqb line e.0 apart) ∙ ap (λ (es : List (ℕ × Y)). e ∷ es) (changed_absent line v s rest)
    ]

-- ---- the rows of a home
abbrev pub dirty_of : HomeLine → Bool
dirty_of row = row.dirty

abbrev pub rows_seen : HomeState → List (List (ℕ × Bool))
rows_seen home = map (seen_ways dirty_of) home.sets

abbrev pub in_row : (line : ℕ) → (HomeLine → HomeLine) → List (ℕ × HomeLine) → List (ℕ × HomeLine)
in_row line change rows = option_map_or (λ row. changed line (change row) rows) (kept_of line rows) rows

module _ (line : ℕ) (change : HomeLine → HomeLine) (rows : List (ℕ × HomeLine)) where
  -- one that leaves it as dirty as it was
  row_kept : (o : Option HomeLine) → kept_of line rows ≡ o → ((row : HomeLine) → (change row).dirty ≡ row.dirty)
      → seen_ways dirty_of (option_map_or (λ row. changed line (change row) rows) o rows) ≡ seen_ways dirty_of rows
  row_kept None e same = refl
  row_kept (Some row) e same =
      seen_changed dirty_of line (change row) rows
      ∙ set_value_same (nat_eq line) (seen_ways dirty_of rows) (change row).dirty (seen_kept dirty_of line rows ∙ (ap (see_maybe dirty_of) e ∙ ap (λ (b : Bool). Some b) (sym (same row))))

  -- one that makes it dirty
  row_dirty : (o : Option HomeLine) → kept_of line rows ≡ o → ((row : HomeLine) → (change row).dirty ≡ true)
      → seen_ways dirty_of (option_map_or (λ row. changed line (change row) rows) o rows) ≡ changed line true (seen_ways dirty_of rows)
  row_dirty None e now = sym (changed_absent line true (seen_ways dirty_of rows) (seen_kept dirty_of line rows ∙ ap (see_maybe dirty_of) e))
  row_dirty (Some row) e now = seen_changed dirty_of line (change row) rows ∙ ap (λ (b : Bool). changed line b (seen_ways dirty_of rows)) (now row)

pub rows_kept : (line : ℕ) (change : HomeLine → HomeLine) (home : HomeState) → ((row : HomeLine) → (change row).dirty ≡ row.dirty) → rows_seen (in_row_of line change home) ≡ rows_seen home
rows_kept line change home same =
    let rows : List (ℕ × HomeLine) = set_of home.shards line home.sets in
    seen_in_set (seen_ways dirty_of) refl home.shards line (in_row line change) (λ s. s) home.sets (row_kept line change rows (kept_of line rows) refl same)
    ∙ in_set_same home.shards line (λ s. s) (rows_seen home) refl

pub rows_dirty : (line : ℕ) (change : HomeLine → HomeLine) (home : HomeState) → ((row : HomeLine) → (change row).dirty ≡ true)
    → rows_seen (in_row_of line change home) ≡ in_set_of home.shards line (changed line true) (rows_seen home)
rows_dirty line change home now =
    let rows : List (ℕ × HomeLine) = set_of home.shards line home.sets in
    seen_in_set (seen_ways dirty_of) refl home.shards line (in_row line change) (changed line true) home.sets (row_dirty line change rows (kept_of line rows) refl now)

-- a core's victim that was modified makes its line dirty, in its own set and in its place, as its core is dropped there
pub own_victim_dirty : (v : ℕ × Copy) (core : ℕ) (p : Bank) → is_modified v.1.letter ≡ true
    → rows_seen (own_evicted (Some v) core p).home ≡ in_set_of p.home.shards v.0 (changed v.0 true) (rows_seen p.home)
unfolding dropped_in marked_dirty_in with_bytes_at
own_victim_dirty v core p modified =
    let marked : Bank = with_home (marked_dirty_in v.0) (collected v.0 core p) in
    ap (λ (b : Bool). rows_seen (dropped_in v.0 core (cond b marked p).home)) modified
    ∙ (rows_kept v.0 (λ row. record row { sharers = without_core core row.sharers; alone = false }) marked.home (λ row. refl)
    ∙ rows_dirty v.0 (λ row. record row { dirty = true }) (collected v.0 core p).home (λ row. refl))

-- and one that was not leaves the L2's lists
pub own_victim_clean : (v : ℕ × Copy) (core : ℕ) (p : Bank) → is_modified v.1.letter ≡ false → rows_seen (own_evicted (Some v) core p).home ≡ rows_seen p.home
unfolding dropped_in marked_dirty_in with_bytes_at
own_victim_clean v core p clean =
    let marked : Bank = with_home (marked_dirty_in v.0) (collected v.0 core p) in
    ap (λ (b : Bool). rows_seen (dropped_in v.0 core (cond b marked p).home)) clean
    ∙ rows_kept v.0 (λ row. record row { sharers = without_core core row.sharers; alone = false }) p.home (λ row. refl)
