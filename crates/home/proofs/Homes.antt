-- What the calls of a home do to its arrays, seen as the lists of its sets.
use Rattle.std.proofs.Common.{◌≡◌, ℕ, ◌-◌, ◌*◌, ◌^◌, ◌<◌, ◌≤◌, List, [], length, get_or, set, Option, Some, None, sym, ap, ◌∙◌, subst, arith}
use Rattle.std.specs.Option.{option_map_or}
use Rattle.std.specs.Prelude.{IsSome}
use Rattle.std.proofs.lemmas.List.{get_or_default, get_or-set_same, length-set, set-get_or, set-set}
use Rattle.cache_set.specs.Lines.{in_set_of, set_number, set_of}
use Rattle.cache_set.specs.Pieces.{IsSameOrder, sets_in}
use Rattle.cache_set.specs.Places.{IsNext, StandsAt, StandsNowhere, set_number_in}
use Rattle.cache_set.specs.Ways.{kept_of, used, filled, changed, victim_of}
use Rattle.cache_set.proofs.Pieces.{within_pieces}
use Rattle.cache_set.proofs.SetsInArrays.{absent_where_none, aged_sets_anew, live_after, live_before, sets_anew}
use Rattle.cache_set.proofs.StepsInArrays.{aged_filled, aged_used_at, n_within, next_free, next_full, nowhere_kept, set_is, sets_changed, sets_filled, sets_used, somewhere_kept, stands_next, within_all}
use Rattle.home.specs.declared.met.Last.{Last}
use Rattle.home.specs.declared.row.Row.{Row}
use Rattle.flat_memory.specs.declared.reservation.Reservation.{Reservation}
use Rattle.home.specs.HomeState.{HomeLine, HomeState, nobody}
use Rattle.home.specs.Layout.{AreHome, AreKnown, lines_in, row_place, way_place}
use Rattle.home.proofs.RowPlaces.{length_lines, line_at, lines_set, row_within, way_of_row}
use Rattle.home.proofs.KnownWays.{known_anew, known_used}
use Rattle.home.specs.RowChunks.{IsChanged, unheld}
use Rattle.home.specs.Rows.{line_in}

-- a home with these sets
abbrev pub home_with : (number shards base size ways : ℕ) → (bytes : List ℕ) → (marks : List (Option Reservation)) → List (List (ℕ × HomeLine)) → HomeState
home_with number shards base size ways bytes marks sets = record {
  number = number;
  shards = shards;
  base = base;
  size = size;
  ways = ways;
  sets = sets;
  bytes = bytes;
  marks = marks;
}

pub is_some_none : {X : Type 0} (o : Option X) → IsSome o → o ≡ None → ⊥
is_some_none o some none = let bad = rw none at some in absurd cc

pub same_home : (number : ℕ) {shards s base b size z ways w : ℕ} {sets l : List (List (ℕ × HomeLine))} {bytes y : List ℕ} {marks m : List (Option Reservation)}
    → shards ≡ s → base ≡ b → size ≡ z → ways ≡ w → sets ≡ l → bytes ≡ y → marks ≡ m
    → home_with number shards base size ways bytes marks sets ≡ home_with number s b z w y m l
same_home number {shards} {s} {base} {b} {size} {z} {ways} {w} {sets} {l} {bytes} {y} {marks} {m} e0 e1 e2 e3 e4 e5 e6 =
    ap (λ (x : ℕ). home_with number x base size ways bytes marks sets) e0
    ∙ (ap (λ (x : ℕ). home_with number s x size ways bytes marks sets) e1
    ∙ (ap (λ (x : ℕ). home_with number s b x ways bytes marks sets) e2
    ∙ (ap (λ (x : ℕ). home_with number s b z x bytes marks sets) e3
    ∙ (ap (λ (x : List (List (ℕ × HomeLine))). home_with number s b z w bytes marks x) e4
    ∙ (ap (λ (x : List ℕ). home_with number s b z w x marks l) e5
    ∙ ap (λ (x : List (Option Reservation)). home_with number s b z w y x l) e6)))))

-- a way that has a line, told by its row
stands_by_row : (sets ways p : ℕ) → p < sets * ways → (r : ℕ) → r ≡ row_place sets ways p → (ages tags : List ℕ) (n line : ℕ) → StandsAt ways ages tags n line p
    → StandsAt ways ages tags n line (way_place sets ways r) × ((r < sets * ways) × (r ≡ row_place sets ways (way_place sets ways r)))
stands_by_row sets ways p within r is ages tags n line at =
    let back : way_place sets ways r ≡ p = ap (way_place sets ways) is ∙ way_of_row sets ways p within in
    (subst (λ (q : ℕ). StandsAt ways ages tags n line q) (sym back) at, (omega (arith, is, row_within sets ways p within), is ∙ ap (row_place sets ways) (sym back)))

module _ {number shards below base sets ways tick : ℕ} {ages tags : List ℕ} {rows : List Row} {last : Option Last} {known : List ℕ} (h : AreHome number shards below base sets ways tick ages tags rows last known) where
  abbrev lines : List HomeLine
  lines = lines_in sets ways rows

  abbrev lists : List (List (ℕ × HomeLine))
  lists = sets_in sets ways ages tags lines

  lines_are : length lines ≡ sets * ways
  lines_are = length_lines sets ways rows

  -- ---- ages that are written anew, or not
  module _ (age : ℕ) (anew : List ℕ) (order : IsSameOrder sets ways ages anew) (long : length anew ≡ sets * ways)
      (later : (p : ℕ) → p < sets * ways → get_or anew p 0 < age) (early : age < 2 ^ 62) where
    pub lists_anew : sets_in sets ways anew tags lines ≡ lists
    lists_anew = sets_anew sets ways ages anew tags lines order

    pub age_later : age - 1 < age
    age_later = omega (arith, later 0 (omega (arith, within_pieces sets ways 0 h.sets_are.0, h.ways_are.some h.sets_are.0)))

    -- a way that has a line has it still
    pub stands_anew : (line p : ℕ) → StandsAt ways ages tags (set_number_in shards sets line) line p → StandsAt ways anew tags (set_number_in shards sets line) line p
    stands_anew line p at =
        stands_next h.ways_are.aged age anew order long later (set_number_in shards sets line) line p (n_within h.ways_are.aged h.sets_are.0 shards line lines lines_are nobody) at

    pub home_anew : AreHome number shards below base sets ways (age - 1) anew tags rows None known
    home_anew = record {
      shards_are = h.shards_are;
      sets_are = h.sets_are;
      below_are = h.below_are;
      ways_are = record {
        few = h.ways_are.few;
        some = h.ways_are.some;
        early = omega (arith, early);
        aged = aged_sets_anew (age - 1) anew h.ways_are.aged (long ∙ sym h.ways_are.aged.ages_are) (λ p l. omega (arith, later p (omega (arith, l, h.ways_are.aged.ages_are)))) order;
      };
      rows_are = h.rows_are;
      last_is = tt;
      known_are = known_anew h.ways_are.aged h.sets_are.0 h.known_are anew (live_before h.ways_are.aged anew order) (live_after h.ways_are.aged anew order);
    }

  -- ---- a row is another
  pub with_row : (p : ℕ) (row : Row) → AreHome number shards below base sets ways tick ages tags (set rows p row) last known
  with_row p row = record {
    shards_are = h.shards_are;
    sets_are = h.sets_are;
    below_are = h.below_are;
    ways_are = h.ways_are;
    rows_are = length-set rows p row ∙ h.rows_are;
    last_is = h.last_is;
    known_are = h.known_are;
  }

  module _ (line : ℕ) where
    abbrev now : List (ℕ × HomeLine)
    now = set_of shards line lists

    -- ---- no way has the line
    module _ (none : StandsNowhere ways ages tags (set_number_in shards sets line) line) where
      pub row_nowhere : kept_of line now ≡ None
      row_nowhere = nowhere_kept h.ways_are.aged h.sets_are.0 shards line lines lines_are nobody none

      pub same_nowhere : (change : HomeLine → HomeLine) → in_set_of shards line (λ found. option_map_or (λ row. changed line (change row) found) (kept_of line found) found) lists ≡ lists
      same_nowhere change =
          ap (λ (o : Option HomeLine). in_set_of shards line (λ _. option_map_or (λ row. changed line (change row) now) o now) lists) row_nowhere
          ∙ set-get_or lists (set_number shards line lists) []

    -- ---- a way has it
    module _ (p : ℕ) (at : StandsAt ways ages tags (set_number_in shards sets line) line p) where
      pub row_standing : kept_of line now ≡ Some (get_or lines p nobody)
      row_standing = somewhere_kept h.ways_are.aged h.sets_are.0 shards line lines lines_are nobody p at

      pub p_within : p < length rows
      p_within = omega (arith, h.rows_are, within_all h.ways_are.aged h.sets_are.0 shards line p at)

      pub r_within : (r : ℕ) → r ≡ row_place sets ways p → r < length rows
      r_within r is = omega (arith, is, h.rows_are, row_within sets ways p (omega (arith, p_within, h.rows_are)))

      pub line_there : (r : ℕ) → r ≡ row_place sets ways p → (row : Row) → row ≡ get_or rows r row → get_or lines p nobody ≡ line_in row
      line_there r is row e =
          line_at sets ways rows p (omega (arith, p_within, h.rows_are)) nobody
          ∙ sym (ap line_in (e ∙ (get_or_default rows r row unheld (r_within r is) ∙ ap (λ (k : ℕ). get_or rows k unheld) is)))

      pub used_there : (age : ℕ) → tick < age → sets_in sets ways (set ages p age) tags lines ≡ in_set_of shards line (used line) lists
      used_there age later = sets_used h.ways_are.aged h.sets_are.0 shards line lines lines_are nobody p at age later

      pub home_used : (age r : ℕ) → r ≡ row_place sets ways p → tick < age → age < 2 ^ 62
          → AreHome number shards below base sets ways age (set ages p age) tags rows (Some (record { line = line; row = Some r })) known
      home_used age r is later early = record {
        shards_are = h.shards_are;
        sets_are = h.sets_are;
        below_are = h.below_are;
        ways_are = record { few = h.ways_are.few; some = h.ways_are.some; early = early; aged = aged_used_at h.ways_are.aged h.sets_are.0 shards line p at age later };
        rows_are = h.rows_are;
        last_is = stands_by_row sets ways p (omega (arith, p_within, h.rows_are)) r is (set ages p age) tags (set_number_in shards sets line) line
            (record {
              from = at.from;
              to = at.to;
              live = subst (λ (a : ℕ). 0 < a) (sym (get_or-set_same ages p age 0 (omega (arith, p_within, h.rows_are, h.ways_are.aged.ages_are)))) (omega (arith, later));
              tag = at.tag;
            });
        known_are = known_used h.ways_are.aged h.sets_are.0 h.known_are p age at.live (omega (arith, p_within, h.rows_are, h.ways_are.aged.ages_are)) (omega (arith, later));
      }

      -- its row is another, which a change makes of it
      module _ (r : ℕ) (is : r ≡ row_place sets ways p) where
        pub row_changed : (was to : Row) (change : HomeLine → HomeLine) → was ≡ get_or rows r was → line_in to ≡ change (line_in was)
            → sets_in sets ways ages tags (lines_in sets ways (set rows r to)) ≡ in_set_of shards line (λ found. option_map_or (λ row. changed line (change row) found) (kept_of line found) found) lists
        row_changed was to change there changes =
            ap (λ (k : ℕ). sets_in sets ways ages tags (lines_in sets ways (set rows k to))) is
            ∙ (ap (λ (l : List HomeLine). sets_in sets ways ages tags l) (lines_set sets ways rows p to h.rows_are (omega (arith, p_within, h.rows_are)))
            ∙ (sets_changed h.ways_are.aged h.sets_are.0 shards line lines lines_are nobody p at (line_in to)
            ∙ (ap (λ (x : HomeLine). in_set_of shards line (changed line x) lists) changes
            ∙ sym (ap (λ (o : Option HomeLine). in_set_of shards line (λ _. option_map_or (λ row. changed line (change row) now) o now) lists)
            (row_standing ∙ ap (λ (x : HomeLine). Some x) (line_there r is was there))))))

        pub row_changed_there : (change : HomeLine → HomeLine) {after : List Row} → IsChanged change rows r after
            → sets_in sets ways ages tags (lines_in sets ways after) ≡ in_set_of shards line (λ found. option_map_or (λ row. changed line (change row) found) (kept_of line found) found) lists
        row_changed_there change changes =
            ap (λ (l : List Row). sets_in sets ways ages tags (lines_in sets ways l)) changes.put
            ∙ row_changed (get_or rows r unheld) changes.row change (get_or_default rows r unheld (get_or rows r unheld) (r_within r is)) changes.changed

    -- ---- the way that the next line takes
    module _ (p : ℕ) (next : IsNext ways ages (set_number_in shards sets line) p) where
      some : 1 ≤ ways
      some = h.ways_are.some h.sets_are.0

      pub next_within : p < sets * ways
      next_within =
          omega (arith, next.to, within_pieces sets ways (set_number_in shards sets line) (n_within h.ways_are.aged h.sets_are.0 shards line lines lines_are nobody))

      pub no_victim : get_or ages p 0 ≡ 0 → victim_of ways now ≡ None
      no_victim free = next_free h.ways_are.aged h.sets_are.0 shards line lines lines_are nobody p some next free

      pub the_victim : (r : ℕ) → r ≡ row_place sets ways p → (row : Row) → row ≡ get_or rows r row → 0 < get_or ages p 0 → victim_of ways now ≡ Some (get_or tags p 0, line_in row)
      the_victim r is row e live =
          next_full h.ways_are.aged h.sets_are.0 shards line lines lines_are nobody p some next live
          ∙ ap (λ (x : HomeLine). Some (get_or tags p 0, x))
          (line_at sets ways rows p next_within nobody
          ∙ sym (ap line_in (e ∙ (get_or_default rows r row unheld (omega (arith, is, h.rows_are, row_within sets ways p next_within)) ∙ ap (λ (k : ℕ). get_or rows k unheld) is))))

      pub filled_there : (age r : ℕ) (row : Row) → r ≡ row_place sets ways p → tick < age → line_in row ≡ nobody
          → sets_in sets ways (set ages p age) (set tags p line) (lines_in sets ways (set rows r row)) ≡ in_set_of shards line (filled ways line nobody) lists
      filled_there age r row is later empty =
          ap (λ (l : List HomeLine). sets_in sets ways (set ages p age) (set tags p line) l)
          (ap (λ (k : ℕ). lines_in sets ways (set rows k row)) is ∙ (lines_set sets ways rows p row h.rows_are next_within ∙ ap (set lines p) empty))
          ∙ sets_filled h.ways_are.aged h.sets_are.0 shards line lines lines_are nobody p some next age nobody later

      pub absent : kept_of line now ≡ None → StandsNowhere ways ages tags (set_number_in shards sets line) line
      absent none = record {
        nowhere = absent_where_none h.ways_are.aged (set_number_in shards sets line) (n_within h.ways_are.aged h.sets_are.0 shards line lines lines_are nobody) line lines lines_are nobody
            (sym (ap (kept_of line) (set_is h.ways_are.aged h.sets_are.0 shards line lines lines_are nobody)) ∙ none);
      }

      pub home_filled : (age r : ℕ) (row : Row) (after : List ℕ) → r ≡ row_place sets ways p → tick < age → age < 2 ^ 62 → kept_of line now ≡ None
          → AreKnown number shards below sets ways (set ages p age) (set tags p line) after
          → AreHome number shards below base sets ways age (set ages p age) (set tags p line) (set rows r row) (Some (record { line = line; row = Some r })) after
      home_filled age r row after is later early none are = record {
        shards_are = h.shards_are;
        sets_are = h.sets_are;
        below_are = h.below_are;
        ways_are = record {
          few = h.ways_are.few;
          some = h.ways_are.some;
          early = early;
          aged = aged_filled h.ways_are.aged h.sets_are.0 shards line lines lines_are nobody p some next age later none;
        };
        rows_are = length-set rows r row ∙ h.rows_are;
        last_is = stands_by_row sets ways p next_within r is (set ages p age) (set tags p line) (set_number_in shards sets line) line
            (record {
              from = next.from;
              to = next.to;
              live = subst (λ (a : ℕ). 0 < a) (sym (get_or-set_same ages p age 0 (omega (arith, next_within, h.ways_are.aged.ages_are)))) (omega (arith, later));
              tag = get_or-set_same tags p line 0 (omega (arith, next_within, h.ways_are.aged.tags_are));
            });
        known_are = are;
      }

-- the row of a line is changed, if the line is there
abbrev pub in_row : (shards line : ℕ) → (HomeLine → HomeLine) → List (List (ℕ × HomeLine)) → List (List (ℕ × HomeLine))
in_row shards line change l = in_set_of shards line (λ found. option_map_or (λ row. changed line (change row) found) (kept_of line found) found) l

-- two changes one after the other
module _ {number shards below base sets ways tick : ℕ} {ages tags : List ℕ} {rows : List Row} {last : Option Last} {known : List ℕ} (h : AreHome number shards below base sets ways tick ages tags rows last known) (line p : ℕ)
    (at : StandsAt ways ages tags (set_number_in shards sets line) line p) (r : ℕ) (is : r ≡ row_place sets ways p) where
  pub row_changed_twice : (was mid to : Row) (first second : HomeLine → HomeLine) → was ≡ get_or rows r was → line_in mid ≡ first (line_in was) → line_in to ≡ second (line_in mid)
      → sets_in sets ways ages tags (lines_in sets ways (set rows r to)) ≡ in_row shards line second (in_row shards line first (lists h))
  row_changed_twice was mid to first second there one two =
      ap (λ (l : List Row). sets_in sets ways ages tags (lines_in sets ways l)) (sym (set-set rows r mid to))
      ∙ (row_changed (with_row h r mid) line p at r is mid to second (sym (get_or-set_same rows r mid mid (r_within h line p at r is))) two
      ∙ ap (in_row shards line second) (row_changed h line p at r is was mid first there one))

  pub row_changed_twice_there : (first second : HomeLine → HomeLine) (mid : Row) {after : List Row} → line_in mid ≡ first (line_in (get_or rows r unheld))
      → IsChanged (λ row. second (first row)) rows r after → sets_in sets ways ages tags (lines_in sets ways after) ≡ in_row shards line second (in_row shards line first (lists h))
  row_changed_twice_there first second mid {after} one changes =
      ap (λ (l : List Row). sets_in sets ways ages tags (lines_in sets ways l)) changes.put
      ∙ row_changed_twice (get_or rows r unheld) mid changes.row first second (get_or_default rows r unheld (get_or rows r unheld) (r_within h line p at r is)) one (changes.changed ∙ ap second (sym one))
