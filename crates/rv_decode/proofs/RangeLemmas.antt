-- The fields of a word are in the ranges of its format, and each row is the row of its name.
use Rattle.std.proofs.Common.{◌≡◌, ℕ, ◌+◌, ◌*◌, ◌%◌, ◌^◌, ◌-◌, ◌<◌, ◌≤◌, Bool, true, false, not, Option, Some, None, option_map, refl, sym, ap, ◌∙◌, subst, arith, pos, negsuc, neg_ℤ, ◌-ℤ◌, Contains, AllPairs, nat_lt, cond, ltb-true, ltb-false, suc, ne_eqb, eq-eqb, eqb-true, unwrap_or, is_some, IfSome, ◌≢◌}
use denote.Enum.Bare.{sameb, true_same, same_true}
use denote.Enum.Declared.{tag_of}
use Rattle.rv_decode.specs.contracts.name.Name.{the_type}
use Rattle.rv_decode.specs.declared.name.Name.TheVariants.{Lui}
use Rattle.rv_decode.specs.Matching.{IsByRow}
use Rattle.rv_decode.proofs.SearchLemmas.{find_listed, find_only, pairs_all, AllPairs-from_test, not_equal}
use Rattle.rv_decode.proofs.TableLemmas.{row_from_decoded}
use Rattle.std.proofs.lemmas.Int.{ints}
use Rattle.rv_decode.specs.InstructionWord.{bits_of, signed}
use Rattle.rv_decode.specs.InstructionTable.{Row, table, decoded, by_row, instruction}
use Rattle.rv_decode.specs.Ranges.{AreRegisters, FitsFormat, IsMultipleWithin, FitsItsFormat}
use Rattle.rv_decode.specs.NamedRows.{format_of, value_of, row_named}
use Rattle.rv_decode.specs.declared.format.Format.{Format}
use Rattle.rv_decode.specs.declared.format.Format.TheVariants.{U, J, I, B, S, R, Shift, WordShift, Atomic, LoadReserved, Whole}
use Rattle.rv_decode.specs.declared.inst.Inst.{Inst}
use Rattle.rv_decode.specs.declared.name.Name.{Name}

negative : (n k m : ℕ) → n + suc m ≡ k → pos n -ℤ pos k ≡ negsuc m
negative n k m e = omega (arith, ints)

twelve_by : (n : ℕ) (b : Bool) → (b ≡ true → n < 2048) → (b ≡ false → 2048 ≤ n) → n < 4096 → IsMultipleWithin (neg_ℤ (pos 2048)) (pos 2047) 1 (cond b (pos n) (pos n -ℤ pos 4096))
twelve_by n true below above h = let small = below refl in (omega (arith, ints), omega (arith, ints), omega arith)
twelve_by n false below above h =
    let large : 2048 ≤ n = above refl in
    rw (negative n 4096 (4095 - n) (omega arith)) (omega (arith, ints), omega (arith, ints), omega arith)

twelve : (n : ℕ) → n < 4096 → IsMultipleWithin (neg_ℤ (pos 2048)) (pos 2047) 1 (signed 12 n)
twelve n = twelve_by n (nat_lt n 2048) (ltb-true n 2048) (ltb-false n 2048)

thirteen_by : (n : ℕ) (b : Bool) → (b ≡ true → n < 4096) → (b ≡ false → 4096 ≤ n) → n < 8192 → n % 2 ≡ 0 → IsMultipleWithin (neg_ℤ (pos 4096)) (pos 4094) 2 (cond b (pos n) (pos n -ℤ pos 8192))
thirteen_by n true below above h e = let small = below refl in (omega (arith, ints), omega (arith, ints), omega arith)
thirteen_by n false below above h e =
    let large : 4096 ≤ n = above refl in
    rw (negative n 8192 (8191 - n) (omega arith)) (omega (arith, ints), omega (arith, ints), omega arith)

thirteen : (n : ℕ) → n < 8192 → n % 2 ≡ 0 → IsMultipleWithin (neg_ℤ (pos 4096)) (pos 4094) 2 (signed 13 n)
thirteen n = thirteen_by n (nat_lt n 4096) (ltb-true n 4096) (ltb-false n 4096)

twenty_one_by : (n : ℕ) (b : Bool) → (b ≡ true → n < 1048576) → (b ≡ false → 1048576 ≤ n) → n < 2097152 → n % 2 ≡ 0 → IsMultipleWithin (neg_ℤ (pos 1048576)) (pos 1048574) 2 (cond b (pos n) (pos n -ℤ pos 2097152))
twenty_one_by n true below above h e = let small = below refl in (omega (arith, ints), omega (arith, ints), omega arith)
twenty_one_by n false below above h e =
    let large : 1048576 ≤ n = above refl in
    rw (negative n 2097152 (2097151 - n) (omega arith)) (omega (arith, ints), omega (arith, ints), omega arith)

twenty_one : (n : ℕ) → n < 2097152 → n % 2 ≡ 0 → IsMultipleWithin (neg_ℤ (pos 1048576)) (pos 1048574) 2 (signed 21 n)
twenty_one n = twenty_one_by n (nat_lt n 1048576) (ltb-true n 1048576) (ltb-false n 1048576)

thirty_two_by : (n : ℕ) (b : Bool) → (b ≡ true → n < 2147483648) → (b ≡ false → 2147483648 ≤ n) → n < 4294967296 → n % 4096 ≡ 0 → IsMultipleWithin (neg_ℤ (pos 2147483648)) (pos 2147479552) 4096 (cond b (pos n) (pos n -ℤ pos 4294967296))
thirty_two_by n true below above h e = let small = below refl in (omega (arith, ints), omega (arith, ints), omega arith)
thirty_two_by n false below above h e =
    let large : 2147483648 ≤ n = above refl in
    rw (negative n 4294967296 (4294967295 - n) (omega arith)) (omega (arith, ints), omega (arith, ints), omega arith)

thirty_two : (n : ℕ) → n < 4294967296 → n % 4096 ≡ 0 → IsMultipleWithin (neg_ℤ (pos 2147483648)) (pos 2147479552) 4096 (signed 32 n)
thirty_two n = thirty_two_by n (nat_lt n 2147483648) (ltb-true n 2147483648) (ltb-false n 2147483648)

amount : (bound n : ℕ) → n < suc bound → IsMultipleWithin (pos 0) (pos bound) 1 (pos n)
amount bound n h = (omega (arith, ints), omega (arith, ints), omega arith)

abbrev s_bits : ℕ → ℕ
s_bits word = bits_of 31 25 word * 2 ^ 5 + bits_of 11 7 word

abbrev b_bits : ℕ → ℕ
b_bits word = bits_of 31 31 word * 2 ^ 12 + bits_of 7 7 word * 2 ^ 11 + bits_of 30 25 word * 2 ^ 5 + bits_of 11 8 word * 2 ^ 1

abbrev j_bits : ℕ → ℕ
j_bits word = bits_of 31 31 word * 2 ^ 20 + bits_of 19 12 word * 2 ^ 12 + bits_of 20 20 word * 2 ^ 11 + bits_of 30 21 word * 2 ^ 1

-- what a word is in a format has fields in the format's ranges
pub fits_instruction : (format : Format) (name : Name) (word : ℕ) → FitsFormat format (instruction format name word)
fits_instruction U name word = ((omega arith, refl, refl), thirty_two (bits_of 31 12 word * 2 ^ 12) (omega arith) (omega arith))
fits_instruction J name word = ((omega arith, refl, refl), twenty_one (j_bits word) (omega arith) (omega arith))
fits_instruction I name word = ((omega arith, omega arith, refl), twelve (bits_of 31 20 word) (omega arith))
fits_instruction B name word = ((refl, omega arith, omega arith), thirteen (b_bits word) (omega arith) (omega arith))
fits_instruction S name word = ((refl, omega arith, omega arith), twelve (s_bits word) (omega arith))
fits_instruction R name word = ((omega arith, omega arith, omega arith), refl)
fits_instruction Shift name word = ((omega arith, omega arith, refl), amount 63 (bits_of 25 20 word) (omega arith))
fits_instruction WordShift name word = ((omega arith, omega arith, refl), amount 31 (bits_of 24 20 word) (omega arith))
fits_instruction Atomic name word = ((omega arith, omega arith, omega arith), amount 3 (bits_of 26 25 word) (omega arith))
fits_instruction LoadReserved name word = ((omega arith, omega arith, refl), amount 3 (bits_of 26 25 word) (omega arith))
fits_instruction Whole name word = ((refl, refl, refl), refl)

-- ---- the rows by their names

names_differ : pairs_all (λ row other. not (sameb the_type row.name other.name)) table ≡ true
unfolding table
names_differ = refl

other_name : (name : Name) (row other : Row) → not (sameb the_type row.name other.name) ≡ true → sameb the_type row.name name ≡ true → sameb the_type other.name name ≡ false
other_name name row other d e = ne_eqb _ _ (λ f.
    let same = eq-eqb (tag_of the_type row.name) (tag_of the_type other.name) (eqb-true _ _ e ∙ sym f) in
    let apart = not_equal (sameb the_type row.name other.name) d in
    cc)

named_once : (name : Name) → AllPairs (λ row other. sameb the_type row.name name ≡ true → sameb the_type other.name name ≡ false) table
named_once name = AllPairs-from_test (λ row other. not (sameb the_type row.name other.name)) _ (other_name name) table names_differ

-- each row is the row of its name
pub row_named_listed : (row : Row) → Contains table row → row_named row.name ≡ Some row
unfolding row_named
row_named_listed row c = find_only (λ other. sameb the_type other.name row.name) table (named_once row.name) row c (true_same the_type row.name row.name refl)

pub format_of_listed : (row : Row) → Contains table row → format_of row.name ≡ row.format
unfolding format_of
format_of_listed row c = ap (λ o. unwrap_or (option_map (λ r. r.format) o) Whole) (row_named_listed row c)

pub value_of_listed : (row : Row) → Contains table row → value_of row.name ≡ row.value
unfolding value_of
value_of_listed row c = ap (λ o. unwrap_or (option_map (λ r. r.value) o) 0) (row_named_listed row c)

has_row : (name : Name) → is_some (row_named name) ≡ true
unfolding row_named table
has_row Lui = refl
has_row _ = refl

row_of_name : (name : Name) (o : Option Row) → row_named name ≡ o → is_some o ≡ true → (row : Row) × Contains table row × (row.name ≡ name)
unfolding row_named
row_of_name name (Some row) e s =
    let found = find_listed (λ row. sameb the_type row.name name) table row e in
    (row, found.0, same_true the_type tt row.name name found.1)
row_of_name name None e s = cc

-- and each name has one
pub row_for : (name : Name) → (row : Row) × Contains table row × (row.name ≡ name)
row_for name = row_of_name name (row_named name) refl (has_row name)

pub instruction-name : (format : Format) (name : Name) (word : ℕ) → (instruction format name word).name ≡ name
instruction-name U name word = refl
instruction-name J name word = refl
instruction-name I name word = refl
instruction-name B name word = refl
instruction-name S name word = refl
instruction-name R name word = refl
instruction-name Shift name word = refl
instruction-name WordShift name word = refl
instruction-name Atomic name word = refl
instruction-name LoadReserved name word = refl
instruction-name Whole name word = refl

-- the instruction that a word is, by its row, is in the ranges of its name's format
pub in_range_by_row : (word : ℕ) (i : Inst) → IsByRow word i → FitsItsFormat i
in_range_by_row word i is =
    subst FitsItsFormat (sym is.fields)
    (subst (λ f. FitsFormat f (by_row is.row word))
    (sym (format_of_listed is.row is.listed) ∙ ap format_of (sym (instruction-name is.row.format is.row.name word)))
    (fits_instruction is.row.format is.row.name word))

registers_by_format : (format : Format) (i : Inst) → AreRegisters format i → (i.rd < 32) × (i.rs1 < 32) × (i.rs2 < 32)
registers_by_format U i h = (omega arith, omega arith, omega arith)
registers_by_format J i h = (omega arith, omega arith, omega arith)
registers_by_format I i h = (omega arith, omega arith, omega arith)
registers_by_format B i h = (omega arith, omega arith, omega arith)
registers_by_format S i h = (omega arith, omega arith, omega arith)
registers_by_format R i h = (omega arith, omega arith, omega arith)
registers_by_format Shift i h = (omega arith, omega arith, omega arith)
registers_by_format WordShift i h = (omega arith, omega arith, omega arith)
registers_by_format Atomic i h = (omega arith, omega arith, omega arith)
registers_by_format LoadReserved i h = (omega arith, omega arith, omega arith)
registers_by_format Whole i h = (omega arith, omega arith, omega arith)

-- what a word is, an instruction or none
pub instruction_by_row : (word : ℕ) (o : Option Inst) → o ≡ decoded word → IfSome o (IsByRow word)
instruction_by_row word (Some i) e = row_from_decoded word i (sym e)
instruction_by_row word None e = tt

pub in_range : (word : ℕ) (i : Inst) → decoded word ≡ Some i → FitsItsFormat i
in_range word i e = in_range_by_row word i (row_from_decoded word i e)

pub registers : (word : ℕ) (i : Inst) → decoded word ≡ Some i → (i.rd < 32) × (i.rs1 < 32) × (i.rs2 < 32)
registers word i e = registers_by_format (format_of i.name) i (in_range word i e).0

pub instruction_in_range : (word : ℕ) (o : Option Inst) → o ≡ decoded word → IfSome o FitsItsFormat
instruction_in_range word (Some i) e = in_range word i (sym e)
instruction_in_range word None e = tt

pub instruction_registers : (word : ℕ) (o : Option Inst) → o ≡ decoded word → IfSome o (λ i. (i.rd < 32) × (i.rs1 < 32) × (i.rs2 < 32))
instruction_registers word (Some i) e = registers word i (sym e)
instruction_registers word None e = tt

-- ---- each name is that of one row

other_names : (row other : Row) → not (sameb the_type row.name other.name) ≡ true → row.name ≢ other.name
other_names row other d e =
    let apart = not_equal (sameb the_type row.name other.name) d in
    let same = true_same the_type row.name other.name e in
    cc

pub names_once : AllPairs (λ row other. row.name ≢ other.name) table
names_once = AllPairs-from_test (λ row other. not (sameb the_type row.name other.name)) _ other_names table names_differ

pub name_with_format : (name : Name) → (row : Row) × Contains table row × (row.name ≡ name) × (row.value ≡ value_of name) × (row.format ≡ format_of name)
name_with_format name =
    let it = row_for name in
    (it.0, it.1, it.2, sym (value_of_listed it.0 it.1) ∙ ap value_of it.2, sym (format_of_listed it.0 it.1) ∙ ap format_of it.2)
