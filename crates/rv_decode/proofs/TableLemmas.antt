-- What holds of the whole table, by tests that are computed over it.
use Rattle.std.proofs.Common.{◌≡◌, ℕ, Bool, true, false, not, ◌==◌, find, Option, Some, None, option_map, refl, sym, ap, ◌∙◌, bit_and, eq-eqb, ne_eqb, eqb-true, Contains}
use Rattle.std.proofs.lemmas.Option.{same_Some}
use Rattle.std.proofs.lemmas.Nat.{and_assoc, and_comm}
use Rattle.rv_decode.specs.InstructionTable.{Row, table, matches, decoded, by_row}
use Rattle.rv_decode.specs.Matching.{IsByRow, NoRowMatches, OneRowMatches}
use Rattle.rv_decode.specs.declared.inst.Inst.{Inst}
use Rattle.rv_decode.proofs.SearchLemmas.{find_listed, find_none, find_only, pairs_all, AllPairs-from_test, not_equal}

-- two rows state different values for a bit that both state
differ : Row → Row → Bool
differ row other = not (bit_and row.value other.mask == bit_and other.value row.mask)

table_differs : pairs_all differ table ≡ true
unfolding differ table
table_differs = refl

same_bits : (word : ℕ) (row other : Row) → bit_and word row.mask ≡ row.value → bit_and word other.mask ≡ other.value → bit_and row.value other.mask ≡ bit_and other.value row.mask
same_bits word row other p q =
    ap (λ x. bit_and x other.mask) (sym p)
    ∙ and_assoc other.mask word row.mask
    ∙ ap (bit_and word) (and_comm row.mask other.mask)
    ∙ sym (and_assoc row.mask word other.mask)
    ∙ ap (λ x. bit_and x row.mask) q

apart : (word : ℕ) (row other : Row) → differ row other ≡ true → matches row word ≡ true → matches other word ≡ false
unfolding differ
apart word row other d m = ne_eqb _ _ (λ e.
    let same = eq-eqb _ _ (same_bits word row other (eqb-true _ _ m) e) in
    let other_way = not_equal (bit_and row.value other.mask == bit_and other.value row.mask) d in
    cc)

pub one_row : (word : ℕ) → OneRowMatches word
one_row word = AllPairs-from_test differ (λ row other. matches row word ≡ true → matches other word ≡ false) (apart word) table table_differs

module _ (word : ℕ) where
  -- a word is the instruction of each row that matches it
  pub decoded_by_row : (row : Row) → Contains table row → matches row word ≡ true → decoded word ≡ Some (by_row row word)
  unfolding decoded
  decoded_by_row row c m = ap (option_map (λ row. by_row row word)) (find_only (λ row. matches row word) table (one_row word) row c m)

  row_of_instruction : (i : Inst) (o : Option Row) → find (λ row. matches row word) table ≡ o → option_map (λ row. by_row row word) o ≡ Some i → IsByRow word i
  row_of_instruction i (Some row) e s =
      let found = find_listed (λ row. matches row word) table row e in
      record { row = row; listed = found.0; matched = found.1; fields = sym (same_Some (by_row row word) i s) }
  row_of_instruction i None e s = cc

  -- and where it is an instruction, a row matches it
  pub row_from_decoded : (i : Inst) → decoded word ≡ Some i → IsByRow word i
  unfolding decoded
  row_from_decoded i s = row_of_instruction i (find (λ row. matches row word) table) refl s

  no_row_by : (o : Option Row) → find (λ row. matches row word) table ≡ o → option_map (λ row. by_row row word) o ≡ None → NoRowMatches word
  no_row_by (Some row) e s = cc
  no_row_by None e s = λ row c. find_none (λ row. matches row word) table row e c

  pub no_row_from_decoded : decoded word ≡ None → NoRowMatches word
  unfolding decoded
  no_row_from_decoded s = no_row_by (find (λ row. matches row word) table) refl s

  none_by : (o : Option Row) → find (λ row. matches row word) table ≡ o → NoRowMatches word → option_map (λ row. by_row row word) o ≡ None
  none_by (Some row) e h =
      let found = find_listed (λ row. matches row word) table row e in
      let not_matched = h row found.0 in
      cc
  none_by None e h = refl

  pub decoded_by_no_row : NoRowMatches word → decoded word ≡ None
  unfolding decoded
  decoded_by_no_row h = none_by (find (λ row. matches row word) table) refl h
