-- Where rows stand: way by way, where the ways stand set by set.
use Rattle.std.proofs.Common.{◌≡◌, inl, inr, ℕ, ◌+◌, ◌*◌, ◌/◌, ◌%◌, ◌<◌, List, length, get_or, set, sym, ap, ap₂, ◌∙◌, arith}
use Rattle.std.proofs.Math.Nat.{div-add-mod', div-lt_iff_lt-mul}
use Rattle.std.proofs.lemmas.Bool.{cases_eq, cases_lt}
use Rattle.std.proofs.lemmas.Nat.{mod_below}
use Rattle.std.proofs.lemmas.List.{ext_get_or, get_or-set_other, get_or-set_same, length-set}
use Rattle.std.proofs.lemmas.List.FromFn.{get_or-map-range_with_len, length-map-range_with_len}
use Rattle.cache_set.proofs.Pieces.{within_pieces}
use Rattle.home.specs.declared.row.Row.{Row}
use Rattle.home.specs.HomeState.{HomeLine, nobody}
use Rattle.home.specs.Layout.{lines_in, row_place, way_place}
use Rattle.home.specs.RowChunks.{unheld}
use Rattle.home.specs.Rows.{line_in}

-- a place is in one piece, at one of its items
pub same_parts : (size n w m v : ℕ) → w < size → v < size → n * size + w ≡ m * size + v → (n ≡ m) × (w ≡ v)
same_parts size n w m v first second same = elim (cases_lt n m) [
  | inl less ↦ absurd (omega (arith, first, second, same, within_pieces m size n less))
  | inr least ↦ elim (cases_lt m n) [
    | inl more ↦ absurd (omega (arith, first, second, same, within_pieces n size m more))
    | inr most ↦
        let e : n ≡ m = omega (arith, least, most) in
        let product : n * size ≡ m * size = ap (λ (k : ℕ). k * size) e in
        (e, omega (arith, same, product))
  ]
]

module _ (sets ways : ℕ) where
  -- the row of way w of set n
  pub row_of_parts : (n w : ℕ) → w < ways → row_place sets ways (n * ways + w) ≡ w * sets + n
  row_of_parts n w below =
      let p = n * ways + w in
      let parts = same_parts ways (p / ways) (p % ways) n w (mod_below p ways (omega (arith, below))) below (div-add-mod' p ways) in
      ap₂ (λ (q r : ℕ). r * sets + q) parts.0 parts.1

  module _ (p : ℕ) (within : p < sets * ways) where
    some : 0 < ways
    some = elim (cases_lt 0 ways) as (λ _. 0 < ways) [
      | inl yes_some ↦ yes_some
      | inr none ↦ let e : ways ≡ 0 = omega (arith, none) in absurd (omega (arith, within, ap (λ (w : ℕ). sets * w) e))
    ]

    set_below : p / ways < sets
    set_below = (div-lt_iff_lt-mul {k = ways} {x = p} {y = sets} some).1 within

    pub row_within : row_place sets ways p < sets * ways
    row_within = omega (arith, set_below, within_pieces ways sets (p % ways) (mod_below p ways some))

  -- a way has a row, and a row a way
  pub way_of_row : (p : ℕ) → p < sets * ways → way_place sets ways (row_place sets ways p) ≡ p
  way_of_row p within =
      let r = row_place sets ways p in
      let parts = same_parts sets (r / sets) (r % sets) (p % ways) (p / ways) (mod_below r sets (omega (arith, set_below p within))) (set_below p within) (div-add-mod' r sets) in
      ap₂ (λ (n w : ℕ). n * ways + w) parts.1 parts.0 ∙ div-add-mod' p ways

  -- no two ways have one row
  pub row_once : (p q : ℕ) → p < sets * ways → q < sets * ways → row_place sets ways p ≡ row_place sets ways q → p ≡ q
  row_once p q first second same =
      let parts = same_parts sets (p % ways) (p / ways) (q % ways) (q / ways) (set_below p first) (set_below q second) same in
      sym (div-add-mod' p ways) ∙ (ap₂ (λ (n w : ℕ). n * ways + w) parts.1 parts.0 ∙ div-add-mod' q ways)

  -- ---- what the rows say, by the places of their ways

  module _ (rows : List Row) where
    pub length_lines : length (lines_in sets ways rows) ≡ sets * ways
    unfolding lines_in
    length_lines = length-map-range_with_len (λ (p : ℕ). line_in (get_or rows (row_place sets ways p) unheld)) 0 (sets * ways)

    pub line_at : (p : ℕ) → p < sets * ways → (d : HomeLine) → get_or (lines_in sets ways rows) p d ≡ line_in (get_or rows (row_place sets ways p) unheld)
    unfolding lines_in
    line_at p within d = get_or-map-range_with_len (λ (q : ℕ). line_in (get_or rows (row_place sets ways q) unheld)) 0 (sets * ways) p p d within (let e : 0 + p ≡ p = omega arith in e)

  pub lines_set : (rows : List Row) (p : ℕ) (row : Row) → length rows ≡ sets * ways → p < sets * ways
      → lines_in sets ways (set rows (row_place sets ways p) row) ≡ set (lines_in sets ways rows) p (line_in row)
  lines_set rows p row long within =
      let after = set rows (row_place sets ways p) row in
      let was = lines_in sets ways rows in
      ext_get_or nobody (lines_in sets ways after) (set was p (line_in row)) (length_lines after ∙ sym (length-set was p (line_in row) ∙ length_lines rows)) (λ q less.
      let below : q < sets * ways = omega (arith, less, length_lines after) in
      line_at after q below nobody
      ∙ elim (cases_eq q p) as (λ _. line_in (get_or after (row_place sets ways q) unheld) ≡ get_or (set was p (line_in row)) q nobody) [
        | inl e ↦
            ap (λ (k : ℕ). line_in (get_or after (row_place sets ways k) unheld)) e
            ∙ (ap line_in (get_or-set_same rows (row_place sets ways p) row unheld (omega (arith, long, row_within p within)))
            ∙ sym (ap (λ (k : ℕ). get_or (set was p (line_in row)) k nobody) e ∙ get_or-set_same was p (line_in row) nobody (omega (arith, within, length_lines rows))))
        | inr apart ↦
            ap line_in (get_or-set_other rows (row_place sets ways p) (row_place sets ways q) row unheld (λ same. apart (row_once q p below within same)))
            ∙ sym (get_or-set_other was p q (line_in row) nobody apart ∙ line_at rows q below nobody)
      ])
