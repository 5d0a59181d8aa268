-- The word of an instruction in range decodes to it, and no other word does.
use Rattle.std.proofs.Common.{◌≡◌, ℕ, ◌+◌, ◌^◌, ◌<◌, Bool, true, ◌&&◌, ◌==◌, Some, Contains, refl, sym, ap, ap₂, ◌∙◌, subst, arith, bit_and, eqb-true, eq-eqb, lit<, SFits, to_z, of_z, w64, to_z-of_z}
use Rattle.std.specs.List.{list_all}
use Rattle.std.proofs.lemmas.Bool.{and_parts}
use Rattle.std.proofs.lemmas.List.Sums.{AllPass-from_list_all}
use Rattle.std.proofs.lemmas.Nat.{and_le_r}
use Rattle.rv_decode.specs.InstructionTable.{Row, table, decoded, by_row, instruction}
use Rattle.rv_decode.specs.NamedRows.{value_of, format_of}
use Rattle.rv_decode.specs.Ranges.{FitsFormat, FitsItsFormat}
use Rattle.rv_decode.specs.declared.format.Format.{Format}
use Rattle.rv_decode.specs.declared.format.Format.TheVariants.{U, J, I, B, S, R, Shift, WordShift, Atomic, LoadReserved, Whole}
use Rattle.rv_decode.specs.declared.inst.Inst.{Inst}
use Rattle.rv_encode.specs.Encoding.{registers_of, immediate_of}
use Rattle.rv_encode.proofs.TableLaws.{MaskLaws, TableLaws}
use Rattle.rv_encode.proofs.FormatLemmas.{mask_of, IsWordOf, word_of, is_word_of, word_again}

-- each row states the bits that its format leaves, and its value is within them
is_stated : Row → Bool
is_stated row = (row.mask == mask_of row.format) && (bit_and row.value (mask_of row.format) == row.value)

table_is_stated : list_all is_stated table ≡ true
unfolding is_stated table
table_is_stated = refl

stated : (row : Row) → Contains table row → (row.mask ≡ mask_of row.format) × (bit_and row.value (mask_of row.format) ≡ row.value)
unfolding is_stated
stated row c =
    let passes : is_stated row ≡ true = subst (λ r. is_stated r ≡ true) c.2 (AllPass-from_list_all is_stated table table_is_stated c.0 row c.1) in
    let two = and_parts (row.mask == mask_of row.format) (bit_and row.value (mask_of row.format) == row.value) passes in
    (eqb-true _ _ two.0, eqb-true _ _ two.1)

mask_below : (f : Format) → mask_of f < 2 ^ 32
mask_below U = lit< tt
mask_below J = lit< tt
mask_below I = lit< tt
mask_below B = lit< tt
mask_below S = lit< tt
mask_below R = lit< tt
mask_below Shift = lit< tt
mask_below WordShift = lit< tt
mask_below Atomic = lit< tt
mask_below LoadReserved = lit< tt
mask_below Whole = lit< tt

value_below : (row : Row) → Contains table row → row.value < 2 ^ 32
value_below row c = let e = (stated row c).1 in omega (arith, mask_below row.format, and_le_r row.value (mask_of row.format))

-- the word that the code puts together
abbrev pub encoded : Inst → ℕ
encoded i = word_of (format_of i.name) (value_of i.name) i

module _ (laws : TableLaws) (masks : MaskLaws) where
  -- the word of an instruction, by the row of its name
  encoded_by_row : (i : Inst) (row : Row) → Contains table row → row.name ≡ i.name → FitsFormat row.format i → IsWordOf row.format row.value i (word_of row.format row.value i)
  encoded_by_row i row c n h = is_word_of masks row.format row.value i (stated row c).1 (value_below row c) h

  decodes_by_row : (i : Inst) (row : Row) → Contains table row → row.name ≡ i.name → FitsFormat row.format i → decoded (word_of row.format row.value i) ≡ Some i
  decodes_by_row i row c n h =
      let is = encoded_by_row i row c n h in
      let word = word_of row.format row.value i in
      let matched : bit_and word row.mask ≡ row.value = ap (bit_and word) (stated row c).0 ∙ is.stated in
      laws.matching word row c (eq-eqb _ _ matched)
      ∙ ap Some (ap (λ name. instruction row.format name word) n ∙ is.fields)

  -- the same, at the row of the instruction's name
  at_row : (i : Inst) (row : Row) → Contains table row → row.name ≡ i.name → (format_of i.name ≡ row.format) × (value_of i.name ≡ row.value)
  at_row i row c n = (ap format_of (sym n) ∙ (laws.listed row c).1, ap value_of (sym n) ∙ (laws.listed row c).0)

  pub encoded_decodes : (i : Inst) → FitsItsFormat i → decoded (encoded i) ≡ Some i
  encoded_decodes i h =
      let it = laws.each i.name in
      let at = at_row i it.0 it.1 it.2 in
      ap₂ (λ f v. decoded (word_of f v i)) at.0 at.1
      ∙ decodes_by_row i it.0 it.1 it.2 (subst (λ f. FitsFormat f i) at.0 h)

  pub encoded_below : (i : Inst) → FitsItsFormat i → encoded i < 2 ^ 32
  encoded_below i h =
      let it = laws.each i.name in
      let at = at_row i it.0 it.1 it.2 in
      let is = encoded_by_row i it.0 it.1 it.2 (subst (λ f. FitsFormat f i) at.0 h) in
      let same : encoded i ≡ word_of it.0.format it.0.value i = ap₂ (λ f v. word_of f v i) at.0 at.1 in
      subst (λ w. w < 2 ^ 32) (sym same) is.below

  encoded_again : (word : ℕ) (row : Row) → word < 2 ^ 32 → Contains table row → bit_and word row.mask ≡ row.value → encoded (by_row row word) ≡ word
  encoded_again word row b c m =
      let name = laws.kept row.format row.name word in
      let at = at_row (by_row row word) row c (sym name) in
      let value : row.value ≡ bit_and word (mask_of row.format) = sym m ∙ ap (bit_and word) (stated row c).0 in
      ap₂ (λ f v. word_of f v (by_row row word)) at.0 (at.1 ∙ value)
      ∙ word_again masks row.format row.name word b

  pub encoded_only : (i : Inst) (word : ℕ) → word < 2 ^ 32 → decoded word ≡ Some i → encoded i ≡ word
  encoded_only i word b e =
      let is = laws.matched word i e in
      ap encoded is.fields ∙ encoded_again word is.row b is.listed (eqb-true _ _ is.matched)

-- what the code adds up
pub put_together : (i : Inst) (value registers immediate : ℕ) (f : Format) → SFits w64 i.imm → value ≡ value_of i.name → f ≡ format_of i.name → registers ≡ registers_of i → immediate ≡ immediate_of f (to_z w64 (of_z w64 i.imm)) → value + registers + immediate ≡ encoded i
put_together i value registers immediate f fits a b d e =
    ap₂ (λ v r. v + r + immediate) a d
    ∙ ap (λ n. value_of i.name + registers_of i + n) (e ∙ ap₂ immediate_of b (to_z-of_z fits))

pub first_parts_below : (i : Inst) (value registers : ℕ) → encoded i < 2 ^ 32 → value ≡ value_of i.name → registers ≡ registers_of i → value + registers < 2 ^ 32
first_parts_below i value registers h a b = first (value_of i.name) (registers_of i) (immediate_of (format_of i.name) i.imm) value registers h a b
  where
    first : (v r m value registers : ℕ) → v + r + m < 2 ^ 32 → value ≡ v → registers ≡ r → value + registers < 2 ^ 32
    first v r m value registers h a b = omega arith
