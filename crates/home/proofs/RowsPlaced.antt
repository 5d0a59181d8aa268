-- What the rows beside the ways of the L2 are as their chunks stand.
use Rattle.std.proofs.Common.{subst, ◌≡◌, ◌≢◌, inl, inr, ℕ, ◌/◌, ◌%◌, ◌<◌, List, length, get_or, set, sym, ap, ◌∙◌, arith}
use Rattle.std.proofs.lemmas.List.{get_or_default, get_or-set_other, get_or-set_same, length-set}
use Rattle.home.specs.declared.row.Row.{Row}
use Rattle.home.specs.Chunks.{ArePlaced, stands_at}
use Rattle.home.specs.HomeState.{HomeLine}
use Rattle.home.specs.RowChunks.{IsChanged, rows_in, unheld}
use Rattle.home.specs.Rows.{line_in}
use Rattle.home.proofs.Placed.{equal_or_not}
use Rattle.home.proofs.Placed.{count_is, item_is, items_are}

pub big : 0 < 64
big = omega arith

pub rows_are : (count : ℕ) (places : List ℕ) (rows : List Row) → length (rows_in count places rows) ≡ count
rows_are count places rows = count_is unheld 64 big count places rows

module _ {places : List ℕ} {rows : List Row} {capacity : ℕ} (h : ArePlaced unheld 64 places rows capacity) where
  pub stands_within : (at : ℕ) → stands_at 64 places at < length rows
  stands_within at = omega (arith, h.within (at / 64))

  -- what is read at a row's place is the row
  pub row_read : (count at : ℕ) (row : Row) → at < count → row ≡ get_or rows (stands_at 64 places at) row → row ≡ get_or (rows_in count places rows) at row
  row_read count at row l is =
      is ∙ (get_or_default rows (stands_at 64 places at) row unheld (stands_within at) ∙ sym (item_is unheld 64 big count places rows at row l))

  module _ (at : ℕ) (own : 0 < get_or places (at / 64) 0) (row : Row) where
    abbrev now : List Row
    now = set rows (stands_at 64 places at) row

    -- no other row stands in its place
    elsewhere : (other : ℕ) → other ≢ at → stands_at 64 places other ≢ stands_at 64 places at
    elsewhere other not same = elim (equal_or_not (at / 64) (other / 64)) [
      | inl e ↦
          let place = ap (λ (c : ℕ). get_or places c 0) e in
          not (omega (arith, e, place, same))
      | inr far ↦
          let differ : get_or places (at / 64) 0 ≢ get_or places (other / 64) 0 = λ equal. far (h.apart (at / 64) (other / 64) own equal) in
          absurd (omega (arith, same, differ, h.aligned (at / 64), h.aligned (other / 64)))
    ]

    pub row_put : (count : ℕ) → at < count → rows_in count places now ≡ set (rows_in count places rows) at row
    row_put count l =
        let was : List Row = rows_in count places rows in
        items_are unheld 64 big count places now (set was at row) (length-set was at row ∙ rows_are count places rows) (λ other below.
        elim (equal_or_not other at) [
          | inl e ↦
              let here : stands_at 64 places other ≡ stands_at 64 places at = ap (stands_at 64 places) e in
              ap (λ (i : ℕ). get_or now i unheld) here
              ∙ (get_or-set_same rows (stands_at 64 places at) row unheld (stands_within at)
              ∙ sym (ap (λ (i : ℕ). get_or (set was at row) i unheld) e ∙ get_or-set_same was at row unheld (omega (arith, l, rows_are count places rows))))
          | inr not ↦
              get_or-set_other rows (stands_at 64 places at) (stands_at 64 places other) row unheld (elsewhere other not)
              ∙ sym (get_or-set_other was at other row unheld not ∙ item_is unheld 64 big count places rows other unheld below)
        ])

    pub are_kept : ArePlaced unheld 64 places now capacity
    are_kept =
        let long : length now ≡ length rows = length-set rows (stands_at 64 places at) row in
        record {
          some = omega (arith, long, h.some);
          whole = ap (λ (n : ℕ). n % 64) long ∙ h.whole;
          aligned = h.aligned;
          within = λ c. omega (arith, long, h.within c);
          alike = λ k l. same k l ∙ (h.alike k l ∙ sym (same 0 (omega arith)));
          apart = h.apart;
          room = omega (arith, long, h.room);
        } where
          -- the first chunk stays, since the row's own is another
          same : (k : ℕ) → k < 64 → get_or now k unheld ≡ get_or rows k unheld
          same k l = get_or-set_other rows (stands_at 64 places at) k row unheld (λ e. omega (arith, e, l, own, h.aligned (at / 64)))

-- ---- the row of a way is changed in place

module _ {places : List ℕ} {rows : List Row} {capacity : ℕ} (h : ArePlaced unheld 64 places rows capacity) (way : ℕ) (own : 0 < get_or places (way / 64) 0)
    (place : ℕ) (is : place ≡ stands_at 64 places way) where
  pub are_changed : (row : Row) → ArePlaced unheld 64 places (set rows place row) capacity
  are_changed row = subst (λ (at : ℕ). ArePlaced unheld 64 places (set rows at row) capacity) (sym is) (are_kept h way own row)

  pub row_changed : (count : ℕ) (old : List Row) → rows_in count places rows ≡ old → way < length old → (change : HomeLine → HomeLine) (was row : Row) → was ≡ get_or rows place was
      → line_in row ≡ change (line_in was) → IsChanged change old way (rows_in count places (set rows place row))
  row_changed count old same less change was row read changed =
      let below : way < count = omega (arith, less, ap length same, rows_are count places rows) in
      let there : was ≡ get_or old way unheld =
      row_read h count way was below (read ∙ ap (λ (i : ℕ). get_or rows i was) is)
      ∙ (ap (λ (l : List Row). get_or l way was) same ∙ get_or_default old way was unheld less) in
      record {
        row = row;
        put = ap (λ (at : ℕ). rows_in count places (set rows at row)) is ∙ (row_put h way own row count below ∙ ap (λ (l : List Row). set l way row) same);
        changed = changed ∙ ap (λ (r : Row). change (line_in r)) there;
      }
