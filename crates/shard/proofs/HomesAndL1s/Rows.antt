-- What the home has of a line after a step of a row.
use Rattle.std.proofs.Common.{◌≡◌, ◌≢◌, ℕ, ◌≤◌, List, length, Option, Some, None, refl, sym, ap, ◌∙◌, subst, arith, inl, inr}
use Rattle.std.specs.Option.{option_map_or, unwrap_or}
use Rattle.std.proofs.lemmas.Bool.{cases_lt}
use Rattle.cache_set.specs.Ways.{changed, kept_of, used}
use Rattle.home.specs.HomeState.{HomeLine, HomeState, in_row_of, looked_up_in, nobody, row_at, row_of}
use Rattle.cache_set.specs.Lines.{set_of}
use Rattle.shard.proofs.CoherentLines.{kept_changed_other, kept_changed_same, kept_elsewhere, kept_used, set_same}
use Rattle.shard.proofs.HomesAndL1s.PartOf.{no_sets}

-- a line that is there has a set
pub has_sets : {X : Type 0} (n line : ℕ) (sets : List (List (ℕ × X))) (v : X) → kept_of line (set_of n line sets) ≡ Some v → 1 ≤ length sets
has_sets {X = X} n line sets v e =
    elim (cases_lt 0 (length sets)) as (λ _. 1 ≤ length sets) [
      | inl l ↦ omega arith
      | inr none ↦
          let bad : None ≡ Some v = subst (λ (s : List (List (ℕ × X))). kept_of line (set_of n line s) ≡ Some v) (no_sets sets (omega arith)) e in
          absurd cc
    ]

pub row_looked : (line x : ℕ) (home : HomeState) → row_at (looked_up_in line home) x ≡ row_at home x
unfolding row_at looked_up_in
row_looked line x home = kept_elsewhere home.shards x line (used line) home.sets (kept_used x line (set_of home.shards line home.sets))

module _ (line : ℕ) (change : HomeLine → HomeLine) where
  abbrev in_row : List (ℕ × HomeLine) → List (ℕ × HomeLine)
  in_row rows = option_map_or (λ row. changed line (change row) rows) (kept_of line rows) rows

  other_in_row : (x : ℕ) (rows : List (ℕ × HomeLine)) (o : Option HomeLine) → x ≢ line → kept_of x (option_map_or (λ row. changed line (change row) rows) o rows) ≡ kept_of x rows
  other_in_row x rows None apart = refl
  other_in_row x rows (Some row) apart = kept_changed_other x line (change row) rows apart

  same_in_row : (rows : List (ℕ × HomeLine)) (row : HomeLine) → kept_of line rows ≡ Some row → kept_of line (in_row rows) ≡ Some (change row)
  same_in_row rows row e =
      ap (λ (o : Option HomeLine). kept_of line (option_map_or (λ row. changed line (change row) rows) o rows)) e
      ∙ (kept_changed_same line (change row) rows ∙ ap (λ (o : Option HomeLine). option_map_or (λ _. Some (change row)) o None) e)

  none_in_row : (rows : List (ℕ × HomeLine)) → kept_of line rows ≡ None → kept_of line (in_row rows) ≡ None
  none_in_row rows e = ap (λ (o : Option HomeLine). kept_of line (option_map_or (λ row. changed line (change row) rows) o rows)) e ∙ e

  module _ (home : HomeState) where
    pub row_other : (x : ℕ) → x ≢ line → row_at (in_row_of line change home) x ≡ row_at home x
    unfolding row_at
    row_other x apart =
        let rows : List (ℕ × HomeLine) = set_of home.shards line home.sets in
        kept_elsewhere home.shards x line in_row home.sets (other_in_row x rows (kept_of line rows) apart)

    pub row_there : (row : HomeLine) → row_at home line ≡ Some row → row_at (in_row_of line change home) line ≡ Some (change row)
    unfolding row_at
    row_there row e =
        let rows : List (ℕ × HomeLine) = set_of home.shards line home.sets in
        ap (kept_of line) (set_same home.shards line in_row home.sets (has_sets home.shards line home.sets row e)) ∙ same_in_row rows row e

    pub row_none : row_at home line ≡ None → row_at (in_row_of line change home) line ≡ None
    unfolding row_at
    row_none e =
        let rows : List (ℕ × HomeLine) = set_of home.shards line home.sets in
        kept_elsewhere home.shards line line in_row home.sets (none_in_row rows e ∙ sym e) ∙ e

-- a row as it is read
pub as_row : (home : HomeState) (line : ℕ) (row : HomeLine) → row_at home line ≡ Some row → row_of home line ≡ row
as_row home line row e = ap (λ (o : Option HomeLine). unwrap_or o nobody) e

pub as_nobody : (home : HomeState) (line : ℕ) → row_at home line ≡ None → row_of home line ≡ nobody
as_nobody home line e = ap (λ (o : Option HomeLine). unwrap_or o nobody) e
