-- What the rows of a directory say, and that they stay those of a map when one line's row changes.
use Rattle.std.proofs.Common.{◌≡◌, ℕ, ◌+◌, ◌<◌, ◌≤◌, true, false, List, [], ◌∷◌, ◌++◌, length, get_or, set, map, Option, Some, None, refl, sym, ap, ◌∙◌, arith, inl, inr}
use Rattle.std.specs.List.{position, zip, remove, insert, IsDistinct}
use Rattle.std.specs.Map.{keys_of, lookup}
use Rattle.std.specs.Prelude.{nat_eq, IsTrue}
use Rattle.std.specs.Set.{is_member}
use Rattle.std.proofs.lemmas.Bool.{eqb-true, eq-eqb}
use Rattle.std.proofs.lemmas.Cmp.{nat_eq_equiv}
use Rattle.std.proofs.lemmas.List.{length-map, get_or-map, map-set, map-append, length-append, length-set}
use Rattle.std.proofs.lemmas.List.Edits.{length-remove, insert_end}
use Rattle.std.proofs.lemmas.List.Quantifiers.{position-Some}
use Rattle.std.proofs.lemmas.Map.{none_passes_from_lookup, lookup-insert, lookup-set_value, lookup-remove_entry}
use Rattle.std.proofs.lemmas.Map.Keys.{IsDistinct-push}
use Rattle.std.proofs.lemmas.Map.Made.{keys_of-zip}
use Rattle.std.proofs.lemmas.Slice.Zip.{length-zip}
use Rattle.mesi_dir.specs.declared.row.DirectoryRow.{DirectoryRow}
use Rattle.mesi_dir.specs.CoreSets.{cores_in, HasNone}
use Rattle.mesi_dir.specs.LineMap.{Sharing, nobody, is_among, sharing_of, is_sharer, HasRoomForLine, IsSharing}
use Rattle.mesi_dir.specs.Rows.{sharing_in, directory_view, AreDirectoryRows}
use Rattle.mesi_dir.proofs.CoreSets.{is_member-cores_in, cores_in-none, some_core}
use Rattle.mesi_dir.proofs.Maps.{IsUpdated, updated_map}
use Rattle.mesi_dir.proofs.Places.{first-position, lookup_at, remove_at, set_at, absent, zip-push, distinct-remove, map-remove}

-- ---- rows alone
owner_none : (cores : ℕ) (row : DirectoryRow) (owner : Option ℕ) → row.owner ≡ owner → IsSharing cores (sharing_in row) → cores_in row.sharers.words ≡ [] → owner ≡ None
owner_none cores row None e s h = refl
owner_none cores row (Some o) e s h =
    let one : is_member nat_eq (cores_in row.sharers.words) o ≡ nat_eq o o = s.alone o o e in
    let none : is_member nat_eq (cores_in row.sharers.words) o ≡ false = rw h refl in
    let same : nat_eq o o ≡ true = eq-eqb o o refl in
    absurd cc

-- a row in which no core has the line says that nobody has it
pub empty_row : (cores : ℕ) (row : DirectoryRow) → IsSharing cores (sharing_in row) → HasNone row.sharers.words → sharing_in row ≡ nobody
empty_row cores row s h =
    let e : cores_in row.sharers.words ≡ [] = cores_in-none row.sharers.words h in
    rw (e, owner_none cores row row.owner refl s e) refl

-- in another row some core has it
pub shared_row : (row : DirectoryRow) → (HasNone row.sharers.words → ⊥) → (core : ℕ) × IsTrue (is_among (sharing_in row) core)
shared_row row h =
    let c = some_core row.sharers.words h in (c.0, is_member-cores_in row.sharers.words c.0 ∙ c.1)

nobody_shares : (cores : ℕ) → IsSharing cores nobody
nobody_shares cores = record {
  below = λ core (h : false ≡ true). absurd cc;
  alone = λ owner core (h : None ≡ Some owner). absurd cc;
}

same_key : (line x y : ℕ) → nat_eq line x ≡ true → nat_eq line y ≡ nat_eq x y
same_key line x y h = rw (eqb-true line x h) refl

-- ---- the rows of a directory
module _ {room cores : ℕ} {tags : List ℕ} {rows : List DirectoryRow} {tag_room row_room : ℕ} (r : AreDirectoryRows room cores tags rows tag_room row_room) (line : ℕ) where
  paired : length (map sharing_in rows) ≡ length tags
  paired = length-map rows sharing_in ∙ r.together

  keys : keys_of (zip tags (map sharing_in rows)) ≡ tags
  keys = keys_of-zip tags (map sharing_in rows) paired

  distinct : IsDistinct nat_eq tags
  distinct = rw keys at r.is_map.distinct

  lines : length (zip tags (map sharing_in rows)) ≡ length tags
  lines = omega (arith, length-zip tags (map sharing_in rows), paired)

  pub row_none : position (nat_eq line) tags ≡ None → sharing_of (directory_view room cores tags rows) line ≡ nobody
  row_none h = rw ((absent (nat_eq line) tags (map sharing_in rows) h).0) refl

  module _ {i : ℕ} (h : position (nat_eq line) tags ≡ Some i) where
    is_place : i < length tags
    is_place = (position-Some (nat_eq line) tags i 0 h).0

    looked : (row : DirectoryRow) → row ≡ get_or rows i row → lookup (nat_eq line) (zip tags (map sharing_in rows)) ≡ Some (sharing_in row)
    looked row at =
        let within : i < length rows = omega (arith, r.together, is_place) in
        let one : get_or (map sharing_in rows) i nobody ≡ sharing_in (get_or rows i row) = get_or-map sharing_in rows i row nobody within in
        let other : sharing_in row ≡ sharing_in (get_or rows i row) = ap (λ (x : DirectoryRow). sharing_in x) at in
        lookup_at (nat_eq line) tags (map sharing_in rows) i nobody paired (first-position (nat_eq line) tags i h)
        ∙ ap (λ (s : Sharing). Some s) (one ∙ sym other)

    pub row_some : (row : DirectoryRow) → row ≡ get_or rows i row → sharing_in row ≡ sharing_of (directory_view room cores tags rows) line
    row_some row at = rw (looked row at) refl

    pub row_removed : IsUpdated (directory_view room cores tags rows) (directory_view room cores (remove tags i) (remove rows i)) line None
    row_removed = record {
      looks = λ q. rw (map-remove sharing_in rows i, remove_at (nat_eq line) tags (map sharing_in rows) i paired (first-position (nat_eq line) tags i h))
          (lookup-remove_entry nat_eq_equiv (nat_eq line) (same_key line) q (zip tags (map sharing_in rows)) r.is_map.distinct);
      room = refl;
      cores = refl;
    }

    pub rows_removed : (s t : ℕ) → tag_room ≤ s → row_room ≤ t → AreDirectoryRows room cores (remove tags i) (remove rows i) s t
    rows_removed s t p q =
        let l : length (remove tags i) + 1 ≡ length tags = length-remove tags i is_place in
        let m : length (remove rows i) + 1 ≡ length rows = length-remove rows i (omega (arith, r.together, is_place)) in
        let k : length (map sharing_in (remove rows i)) ≡ length (remove tags i) = omega (arith, length-map (remove rows i) sharing_in, r.together) in
        record {
          is_map = updated_map row_removed r.is_map
              (rw (keys_of-zip (remove tags i) (map sharing_in (remove rows i)) k) (distinct-remove tags i is_place distinct))
              (omega (arith, length-zip (remove tags i) (map sharing_in (remove rows i)), lines, r.is_map.within))
              (nobody_shares cores)
              (λ (e : false ≡ true). absurd cc);
          together = omega (arith, r.together);
          tag_rooms = omega (arith, r.tag_rooms);
          row_rooms = omega (arith, r.row_rooms);
        }

    module _ (row : DirectoryRow) where
      pub row_replaced : IsUpdated (directory_view room cores tags rows) (directory_view room cores tags (set rows i row)) line (Some (sharing_in row))
      row_replaced = record {
        looks = λ q. rw (map-set sharing_in rows i row, set_at (nat_eq line) tags (map sharing_in rows) i (sharing_in row) paired (first-position (nat_eq line) tags i h))
            (lookup-set_value nat_eq_equiv (nat_eq line) (same_key line) q (sharing_in row) (zip tags (map sharing_in rows))
            (rw (lookup_at (nat_eq line) tags (map sharing_in rows) i nobody paired (first-position (nat_eq line) tags i h)) refl));
        room = refl;
        cores = refl;
      }

      pub rows_replaced : (s t : ℕ) → tag_room ≤ s → row_room ≤ t → IsSharing cores (sharing_in row) → (core : ℕ) × IsTrue (is_among (sharing_in row) core) → AreDirectoryRows room cores tags (set rows i row) s t
      rows_replaced s t p q sharing shared =
          let m : length (set rows i row) ≡ length rows = length-set rows i row in
          let k : length (map sharing_in (set rows i row)) ≡ length tags = omega (arith, length-map (set rows i row) sharing_in, r.together) in
          record {
            is_map = updated_map row_replaced r.is_map
                (rw (keys_of-zip tags (map sharing_in (set rows i row)) k) distinct)
                (omega (arith, length-zip tags (map sharing_in (set rows i row)), lines, r.is_map.within))
                sharing
                (λ _. shared);
            together = omega (arith, r.together);
            tag_rooms = omega (arith, r.tag_rooms);
            row_rooms = omega (arith, r.row_rooms);
          }

  module _ (h : position (nat_eq line) tags ≡ None) (row : DirectoryRow) where
    added : zip (tags ++ line ∷ []) (map sharing_in (rows ++ row ∷ [])) ≡ insert (zip tags (map sharing_in rows)) (length (zip tags (map sharing_in rows))) (line, sharing_in row)
    added =
        let e : map sharing_in (rows ++ row ∷ []) ≡ map sharing_in rows ++ sharing_in row ∷ [] = map-append sharing_in rows (row ∷ []) in
        rw (e, zip-push tags (map sharing_in rows) line (sharing_in row) paired) (sym (insert_end (zip tags (map sharing_in rows)) (line, sharing_in row)))

    pub row_added : IsUpdated (directory_view room cores tags rows) (directory_view room cores (tags ++ line ∷ []) (rows ++ row ∷ [])) line (Some (sharing_in row))
    row_added = record {
      looks = λ q. rw added
          (lookup-insert nat_eq_equiv line (sharing_in row) q (zip tags (map sharing_in rows)) (length (zip tags (map sharing_in rows)))
          (none_passes_from_lookup (nat_eq line) (zip tags (map sharing_in rows)) ((absent (nat_eq line) tags (map sharing_in rows) h).0)));
      room = refl;
      cores = refl;
    }

    -- a line that no core has comes into a directory with room
    pub is_below_room : HasRoomForLine (directory_view room cores tags rows) line → length tags < room
    is_below_room (inl has) =
        let none : is_sharer (directory_view room cores tags rows) line has.0 ≡ false = rw (row_none h) refl in
        let some : is_sharer (directory_view room cores tags rows) line has.0 ≡ true = has.1 in
        absurd cc
    is_below_room (inr l) = omega (arith, lines)

    pub rows_added : (s t : ℕ) → tag_room ≤ s → row_room ≤ t → HasRoomForLine (directory_view room cores tags rows) line → IsSharing cores (sharing_in row) → (core : ℕ) × IsTrue (is_among (sharing_in row) core) → AreDirectoryRows room cores (tags ++ line ∷ []) (rows ++ row ∷ []) s t
    rows_added s t p q has sharing shared =
        let l : length (tags ++ line ∷ []) ≡ length tags + 1 = length-append tags (line ∷ []) in
        let m : length (rows ++ row ∷ []) ≡ length rows + 1 = length-append rows (row ∷ []) in
        let k : length (map sharing_in (rows ++ row ∷ [])) ≡ length (tags ++ line ∷ []) = omega (arith, length-map (rows ++ row ∷ []) sharing_in, r.together) in
        record {
          is_map = updated_map row_added r.is_map
              (rw (keys_of-zip (tags ++ line ∷ []) (map sharing_in (rows ++ row ∷ [])) k) (IsDistinct-push nat_eq_equiv tags line distinct ((absent (nat_eq line) tags (map sharing_in rows) h).1)))
              (omega (arith, length-zip (tags ++ line ∷ []) (map sharing_in (rows ++ row ∷ [])), is_below_room has))
              sharing
              (λ _. shared);
          together = omega (arith, r.together);
          tag_rooms = omega (arith, r.tag_rooms);
          row_rooms = omega (arith, r.row_rooms);
        }

pub rows_empty : (room cores s t : ℕ) → cores ≤ 256 → room ≤ s → room ≤ t → AreDirectoryRows room cores [] [] s t
unfolding IsDistinct
rows_empty room cores s t c p q = record {
  is_map = record {
    distinct = tt;
    within = omega arith;
    cores_within = c;
    sharing = λ line. nobody_shares cores;
    shared = λ line (e : false ≡ true). absurd cc;
  };
  together = refl;
  tag_rooms = p;
  row_rooms = q;
}
