-- Seats are put together, one after the other.
use Rattle.std.proofs.Common.{◌≡◌, ◌<◌, List, [], ◌∷◌, ◌++◌, map, length, drop, sym, ap, ◌∙◌, arith}
use Rattle.std.specs.Prelude.{slice_index_or}
use Rattle.std.specs.List.{flat_map}
use Rattle.std.proofs.lemmas.List.{append-nil, append_assoc, flat_map_more, length-append, map-append}
use Rattle.zs_num.specs.declared.entry.Entry.{Entry}
use Rattle.shard_table.specs.declared.view.CoreAccesses.{CoreAccesses}
use Rattle.shard_table.specs.declared.view.ShardAccesses.{ShardAccesses}
use Rattle.shard_table.specs.Access.{SeatState}
use Rattle.shard_table.proofs.Closing.{part_of}

-- so far these parts, notes and lists are those of the first of all seats, and the rest is left
pub record Joined (all rest : List SeatState) (parts : List CoreAccesses) (notes : List ShardAccesses) (lists : List (List Entry)) : Type 0 where
  pub done : List SeatState
  pub whole : done ++ rest ≡ all
  pub parts_are : parts ≡ map part_of done
  pub notes_are : notes ≡ flat_map (λ seat. seat.knows.notes) done
  pub lists_are : lists ≡ map (λ seat. seat.entries) done
  pub some_done : 0 < length done

pub first_joined : (all : List SeatState) (x : SeatState) (parts : List CoreAccesses) (notes : List ShardAccesses) (lists : List (List Entry)) → 0 < length all → x ≡ slice_index_or all 0 x
    → parts ≡ part_of x ∷ [] → notes ≡ x.knows.notes → lists ≡ x.entries ∷ [] → Joined all (drop 1 all) parts notes lists
first_joined [] x parts notes lists more is parts_are notes_are lists_are = absurd (omega (arith, more))
first_joined (y ∷ ys) x parts notes lists more is parts_are notes_are lists_are = record {
  done = x ∷ [];
  whole = ap (λ z. z ∷ ys) is;
  parts_are = parts_are;
  notes_are = notes_are ∙ sym (append-nil x.knows.notes);
  lists_are = lists_are;
  some_done = omega arith;
}

pub one_joined : (all rest : List SeatState) (x : SeatState) (parts : List CoreAccesses) (notes : List ShardAccesses) (lists : List (List Entry)) → Joined all rest parts notes lists → 0 < length rest → x ≡ slice_index_or rest 0 x
    → Joined all (drop 1 rest) (parts ++ part_of x ∷ []) (notes ++ x.knows.notes) (lists ++ x.entries ∷ [])
one_joined all [] x parts notes lists j more is = absurd (omega (arith, more))
one_joined all (y ∷ ys) x parts notes lists j more is = record {
  done = j.done ++ x ∷ [];
  whole = append_assoc j.done (x ∷ []) ys ∙ (ap (λ z. j.done ++ z ∷ ys) is ∙ j.whole);
  parts_are = ap (λ ps. ps ++ part_of x ∷ []) j.parts_are ∙ sym (map-append part_of j.done (x ∷ []));
  notes_are = ap (λ ns. ns ++ x.knows.notes) j.notes_are ∙ flat_map_more (λ (seat : SeatState). seat.knows.notes) [] j.done x;
  lists_are = ap (λ ls. ls ++ x.entries ∷ []) j.lists_are ∙ sym (map-append (λ (seat : SeatState). seat.entries) j.done (x ∷ []));
  some_done = let n = length-append j.done (x ∷ []) in let one = j.some_done in omega (arith, n, one);
}

pub all_joined : (all : List SeatState) (parts : List CoreAccesses) (notes : List ShardAccesses) (lists : List (List Entry)) → Joined all [] parts notes lists
    → (parts ≡ map part_of all) × (notes ≡ flat_map (λ seat. seat.knows.notes) all) × (lists ≡ map (λ seat. seat.entries) all)
all_joined all parts notes lists j =
    let whole : j.done ≡ all = sym (append-nil j.done) ∙ j.whole in
    (j.parts_are ∙ ap (map part_of) whole, j.notes_are ∙ ap (flat_map (λ (seat : SeatState). seat.knows.notes)) whole, j.lists_are ∙ ap (map (λ (seat : SeatState). seat.entries)) whole)
