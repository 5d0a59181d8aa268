-- The table whose entries are those of its chunks.
use Rattle.std.proofs.Common.{◌≡◌, ℕ, zero, suc, ◌/◌, ◌%◌, ◌<◌, ◌^◌, List, [], ◌∷◌, Option, None, Some, map, replicate, set, refl, sym, ◌∙◌, ap, arith, subst, length-set}
use Rattle.std.specs.List.{insert}
use Rattle.sparse_table.specs.Sparse.{RiseFrom, Sparse, entries_from, value_of, with_value}
use Rattle.sparse_table.specs.Chunks.{AreChunks, IsAt, IsPlace, entries_of, kept_at, put_at}
use Rattle.sparse_table.proofs.InChunks.{absent_value, absent_with, below_of, chunks_insert, chunks_put, found_value, found_with, rise_of}
use Rattle.sparse_table.proofs.Entries.{none_past}

map_insert : {X Y : Type 0} (f : X → Y) (xs : List X) (at : ℕ) (x : X) → map f (insert xs at x) ≡ insert (map f xs) at (f x)
map_insert f xs zero x = refl
map_insert f [] (suc at) x = refl
map_insert f (y ∷ xs) (suc at) x = ap (λ zs. f y ∷ zs) (map_insert f xs at x)

module _ {T : Type 0} where
  -- tables of the same entries
  same_entries : (none : T) (xs ys : List (ℕ × T)) → xs ≡ ys → ◌≡◌ {A = Sparse T} (record { none = none; entries = xs }) (record { none = none; entries = ys })
  same_entries none xs ys same = ap (λ (es : List (ℕ × T)). let table : Sparse T = record { none = none; entries = es } in table) same

  module _ {X : Type 0} (f : X → ℕ × List (Option T)) (xs : List X) (are : AreChunks 0 (map f xs)) (none : T) (table : Sparse T) (number at : ℕ) where
    -- the table is that of the chunks
    abbrev IsTableOf : Type 0
    IsTableOf = ◌≡◌ {A = Sparse T} (record { none = none; entries = entries_of (map f xs) }) table

    pub value_found : IsTableOf → IsAt (map f xs) (number / 64) at → kept_at none at (number % 64) (map f xs) ≡ value_of table number
    value_found view here =
        sym (found_value (number / 64) (number % 64) number (omega arith) (omega arith) none 0 (map f xs) at are here.within here.number_is)
        ∙ ap (λ t. value_of t number) view

    pub value_absent : IsTableOf → IsPlace (map f xs) (number / 64) at → (IsAt (map f xs) (number / 64) at → ⊥) → none ≡ value_of table number
    value_absent view place absent =
        sym (absent_value (number / 64) (number % 64) number (omega arith) (omega arith) none 0 (map f xs) at are place (λ lt same. absent (record { within = lt; number_is = same })))
        ∙ ap (λ t. value_of t number) view

    module _ (value : T) (place : ℕ) (ys : List X) where
      pub keeps_found : map f ys ≡ put_at at place value (map f xs) → AreChunks 0 (map f ys)
      keeps_found put = subst (AreChunks 0) (sym put) (chunks_put 0 (map f xs) at place value are)

      pub set_found : map f ys ≡ put_at at place value (map f xs) → place ≡ number % 64 → IsTableOf → IsAt (map f xs) (number / 64) at → ◌≡◌ {A = Sparse T} (record { none = none; entries = entries_of (map f ys) }) (with_value table number value)
      set_found put place_is view here =
          same_entries none _ _ (ap entries_of put ∙ sym (found_with (number / 64) place number (omega arith) (omega arith) value 0 (map f xs) at are here.within here.number_is))
          ∙ ap (λ t. with_value t number value) view

      module _ (x : X) (x_is : f x ≡ (number / 64, set (replicate 64 None) place (Some value))) (is_place : IsPlace (map f xs) (number / 64) at) (absent : IsAt (map f xs) (number / 64) at → ⊥) (inserted : ys ≡ insert xs at x) where
        mapped : map f ys ≡ insert (map f xs) at (number / 64, set (replicate 64 None) place (Some value))
        mapped = ap (map f) inserted ∙ map_insert f xs at x ∙ ap (insert (map f xs) at) x_is

        pub keeps_absent : number < 2 ^ 64 → AreChunks 0 (map f ys)
        keeps_absent fits =
            subst (AreChunks 0) (sym mapped)
            (chunks_insert (number / 64) 0 (map f xs) at _ (omega arith) (omega arith) (length-set (replicate 64 None) place (Some value)) are is_place (λ lt same. absent (record { within = lt; number_is = same })))

        pub set_absent : place ≡ number % 64 → IsTableOf → ◌≡◌ {A = Sparse T} (record { none = none; entries = entries_of (map f ys) }) (with_value table number value)
        set_absent place_is view =
            same_entries none _ _ (ap entries_of mapped ∙ sym (absent_with (number / 64) place number (omega arith) (omega arith) value 0 (map f xs) at are is_place (λ lt same. absent (record { within = lt; number_is = same }))))
            ∙ ap (λ t. with_value t number value) view

  -- the entries of chunks rise, and fit 64 bits
  pub entries_rise : (chunks : List (ℕ × List (Option T))) (none : T) (table : Sparse T) → ◌≡◌ {A = Sparse T} (record { none = none; entries = entries_of chunks }) table → AreChunks 0 chunks → RiseFrom 0 table.entries
  entries_rise chunks none table view are = subst (λ (t : Sparse T). RiseFrom 0 t.entries) view (rise_of 0 chunks are)

  pub entries_fit : (chunks : List (ℕ × List (Option T))) (none : T) (table : Sparse T) → ◌≡◌ {A = Sparse T} (record { none = none; entries = entries_of chunks }) table → AreChunks 0 chunks → entries_from (2 ^ 64) table.entries ≡ []
  entries_fit chunks none table view are = subst (λ (t : Sparse T). entries_from (2 ^ 64) t.entries ≡ []) view (none_past (2 ^ 64) (entries_of chunks) (below_of 0 chunks are))
