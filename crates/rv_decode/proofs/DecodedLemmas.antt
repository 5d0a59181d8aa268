-- What a word decodes to, by its fields: the families in order, each with a test of its stated bits.
use Rattle.std.proofs.Common.{◌≡◌, ℕ, ◌+◌, ◌-◌, ◌^◌, ◌<◌, ◌≤◌, Bool, true, false, ◌&&◌, ◌==◌, if◌then◌else◌, cond, arith, List, [], ◌∷◌, map, flat_map, find, Option, Some, None, option_map, refl, sym, ap, ap₂, ◌∙◌, eqb-true, bit_and, nat_lt, nat_le, ltb-true, leb-true, ne_eqb, ◌≢◌, not, drop}
use Rattle.std.specs.List.{list_all}
use Rattle.std.specs.Option.{option_or}
use Rattle.std.proofs.lemmas.List.Folds.{find-append}
use Rattle.rv_decode.specs.InstructionWord.{bits_of, ones, rd_of, rs1_of, rs2_of}
use Rattle.rv_decode.specs.Fields.{opcode_of, funct3_of, funct7_of}
use Rattle.rv_decode.specs.Opcodes as opcodes
use Rattle.rv_decode.specs.InstructionTable.{Family, row_at, matches, families, table, decoded, by_row, instruction, upper_rows, jump_rows, register_jump_rows, branch_rows, load_rows, store_rows, immediate_rows, left_shift_rows, right_shift_rows, word_immediate_rows, left_word_shift_rows, right_word_shift_rows, fence_rows, call_rows, operation_rows, alternate_operation_rows, extension_m_rows, word_operation_rows, alternate_word_operation_rows, extension_m_word_rows, word_atomic_rows, doubleword_atomic_rows}
use Rattle.rv_decode.specs.Names.{named}
use Rattle.rv_decode.specs.declared.format.Format.{Format}
use Rattle.rv_decode.specs.declared.format.Format.TheVariants.{U, J, I, B, S, R, Shift, WordShift, Atomic, LoadReserved, Whole}
use Rattle.rv_decode.specs.declared.name.Name.TheVariants.{Lui, Auipc, Jal, LrW, LrD}
use Rattle.rv_decode.specs.declared.inst.Inst.{Inst}
use Rattle.rv_decode.specs.declared.name.Name.{Name}
use Rattle.rv_decode.proofs.WordLemmas.{states, and-states}
use Rattle.rv_decode.proofs.FamilyLemmas.{is_family, find-rows, both_true}

-- a family whose numbers are 32 bits wide
abbrev pub is_word_family : Family → Bool
is_word_family f = is_family f && (nat_lt f.mask (2 ^ 32) && nat_lt f.value (2 ^ 32))

-- the bits in which the rows of a family differ
abbrev pub number_of : Family → ℕ → ℕ → ℕ → ℕ
number_of f opcode funct3 word =
    if (f.high == 6) && (f.low == 0) then opcode else (if (f.high == 14) && (f.low == 12) then funct3 else bits_of f.high f.low word)

-- the instruction of a family's row
abbrev pub of_family : Family → ℕ → ℕ → ℕ → Option Inst
of_family f opcode funct3 word = option_map (λ name. instruction f.format name word) (named f.names (number_of f opcode funct3 word))

-- the first family that has a row for these fields
abbrev pub choose : List Family → (opcode rd funct3 rs1 rs2 funct7 word : ℕ) → Option Inst
choose [] opcode rd funct3 rs1 rs2 funct7 word = None
choose (f ∷ fs) opcode rd funct3 rs1 rs2 funct7 word =
    if states f.mask f.value opcode rd funct3 rs1 rs2 funct7
    then option_or (of_family f opcode funct3 word) (choose fs opcode rd funct3 rs1 rs2 funct7 word)
    else choose fs opcode rd funct3 rs1 rs2 funct7 word

at_place : (high low h l n word : ℕ) (a b : Bool) (x : ℕ) → (a ≡ true → high ≡ h) → (b ≡ true → low ≡ l) → n ≡ bits_of h l word → x ≡ bits_of high low word → (if a && b then n else x) ≡ bits_of high low word
at_place high low h l n word true true x p q e f = e ∙ sym (ap₂ (λ i j. bits_of i j word) (p refl) (q refl))
at_place high low h l n word true false x p q e f = f
at_place high low h l n word false b x p q e f = f

number-bits : (f : Family) (word : ℕ) → number_of f (opcode_of word) (funct3_of word) word ≡ bits_of f.high f.low word
number-bits f word =
    at_place f.high f.low 6 0 (opcode_of word) word (f.high == 6) (f.low == 0) _ (eqb-true f.high 6) (eqb-true f.low 0) refl
    (at_place f.high f.low 14 12 (funct3_of word) word (f.high == 14) (f.low == 12) _ (eqb-true f.high 14) (eqb-true f.low 12) refl refl)

option_map-option_or : {A B : Type 0} (g : A → B) (x y : Option A) → option_map g (option_or x y) ≡ option_or (option_map g x) (option_map g y)
option_map-option_or g None y = refl
option_map-option_or g (Some x) y = refl

tested : (f : Family) (word : ℕ) (t : Bool) (o : Option (ℕ × Name)) (y : Option Inst) → option_or (option_map (λ row. by_row row word) (cond t (option_map (row_at f) o) None)) y ≡ cond t (option_or (option_map (λ name. instruction f.format name word) (option_map (λ entry. entry.1) o)) y) y
tested f word true None y = refl
tested f word true (Some entry) y = refl
tested f word false o y = refl

-- the parts of the test of a family
record IsFamily (f : Family) : Type 0 where
  ordered : f.low ≤ f.high
  apart : bit_and f.mask (ones f.high f.low) ≡ 0
  within : bit_and f.value f.mask ≡ f.value
  numbers : list_all (λ entry. nat_lt entry.0 (2 ^ (f.high + 1 - f.low))) f.names ≡ true
  mask_below : f.mask < 2 ^ 32
  value_below : f.value < 2 ^ 32

from_test : (f : Family) → is_word_family f ≡ true → IsFamily f
from_test f t =
    let a = both_true (is_family f) (nat_lt f.mask (2 ^ 32) && nat_lt f.value (2 ^ 32)) t in
    let b = both_true (nat_lt f.mask (2 ^ 32)) (nat_lt f.value (2 ^ 32)) a.1 in
    let numbers = list_all (λ entry. nat_lt entry.0 (2 ^ (f.high + 1 - f.low))) f.names in
    let c = both_true (nat_le f.low f.high) ((bit_and f.mask (ones f.high f.low) == 0) && ((bit_and f.value f.mask == f.value) && numbers)) a.0 in
    let d = both_true (bit_and f.mask (ones f.high f.low) == 0) ((bit_and f.value f.mask == f.value) && numbers) c.1 in
    let e = both_true (bit_and f.value f.mask == f.value) numbers d.1 in
    record {
      ordered = leb-true _ _ c.0;
      apart = eqb-true _ _ d.0;
      within = eqb-true _ _ e.0;
      numbers = e.1;
      mask_below = ltb-true _ _ b.0;
      value_below = ltb-true _ _ b.1;
    }

find-families : (word : ℕ) (fs : List Family) → list_all is_word_family fs ≡ true → option_map (λ row. by_row row word) (find (λ row. matches row word) (flat_map (λ f. map (row_at f) f.names) fs)) ≡ choose fs (opcode_of word) (rd_of word) (funct3_of word) (rs1_of word) (rs2_of word) (funct7_of word) word
find-families word [] t = refl
find-families word (f ∷ fs) t =
    let two = both_true (is_word_family f) (list_all is_word_family fs) t in
    let is = from_test f two.0 in
    let rest = choose fs (opcode_of word) (rd_of word) (funct3_of word) (rs1_of word) (rs2_of word) (funct7_of word) word in
    let here = find (λ entry. entry.0 == bits_of f.high f.low word) f.names in
    ap (option_map (λ row. by_row row word)) (find-append (λ row. matches row word) (map (row_at f) f.names) (flat_map (λ f. map (row_at f) f.names) fs))
    ∙ option_map-option_or (λ row. by_row row word) (find (λ row. matches row word) (map (row_at f) f.names)) (find (λ row. matches row word) (flat_map (λ f. map (row_at f) f.names) fs))
    ∙ ap₂ (λ x y. option_or (option_map (λ row. by_row row word) x) y) (find-rows f is.ordered is.apart is.within word f.names is.numbers) (find-families word fs two.1)
    ∙ tested f word (bit_and word f.mask == f.value) here rest
    ∙ ap₂ (λ t n. cond t (option_or (option_map (λ name. instruction f.format name word) (named f.names n)) rest) rest) (and-states f.mask f.value word is.mask_below is.value_below) (sym (number-bits f word))

families_pass : list_all is_word_family families ≡ true
families_pass = refl

pub decoded-choose : (word : ℕ) → decoded word ≡ choose families (opcode_of word) (rd_of word) (funct3_of word) (rs1_of word) (rs2_of word) (funct7_of word) word
unfolding decoded table
decoded-choose word = find-families word families families_pass

-- a word of this opcode
pub decoded_at : (opcode word : ℕ) → opcode_of word ≡ opcode → decoded word ≡ choose families opcode (rd_of word) (funct3_of word) (rs1_of word) (rs2_of word) (funct7_of word) word
decoded_at opcode word e = decoded-choose word ∙ ap (λ o. choose families o (rd_of word) (funct3_of word) (rs1_of word) (rs2_of word) (funct7_of word) word) e

-- a word of this opcode and funct3
decoded_at_funct3 : (opcode funct3 word : ℕ) → opcode_of word ≡ opcode → funct3_of word ≡ funct3 → decoded word ≡ choose families opcode (rd_of word) funct3 (rs1_of word) (rs2_of word) (funct7_of word) word
decoded_at_funct3 opcode funct3 word e f = decoded_at opcode word e ∙ ap (λ n. choose families opcode (rd_of word) n (rs1_of word) (rs2_of word) (funct7_of word) word) f

-- a word of this opcode and funct7
decoded_at_funct7 : (opcode funct7 word : ℕ) → opcode_of word ≡ opcode → funct7_of word ≡ funct7 → decoded word ≡ choose families opcode (rd_of word) (funct3_of word) (rs1_of word) (rs2_of word) funct7 word
decoded_at_funct7 opcode funct7 word e f = decoded_at opcode word e ∙ ap (λ n. choose families opcode (rd_of word) (funct3_of word) (rs1_of word) (rs2_of word) n word) f

option_or-None : {A : Type 0} (o : Option A) → option_or o None ≡ o
option_or-None None = refl
option_or-None (Some x) = refl

-- an instruction of this format, if there is a name
abbrev pub formatted : Format → Option Name → ℕ → Option Inst
formatted format name word = option_map (λ n. instruction format n word) name

pub decoded-lui : (word : ℕ) → opcode_of word ≡ opcodes.lui → decoded word ≡ Some (instruction U Lui word)
decoded-lui word e = decoded_at opcodes.lui word e

pub decoded-auipc : (word : ℕ) → opcode_of word ≡ opcodes.auipc → decoded word ≡ Some (instruction U Auipc word)
decoded-auipc word e = decoded_at opcodes.auipc word e

pub decoded-jal : (word : ℕ) → opcode_of word ≡ opcodes.jal → decoded word ≡ Some (instruction J Jal word)
decoded-jal word e = decoded_at opcodes.jal word e

pub decoded-register_jumps : (word : ℕ) → opcode_of word ≡ opcodes.jalr → decoded word ≡ formatted I (named register_jump_rows.names (funct3_of word)) word
decoded-register_jumps word e = decoded_at opcodes.jalr word e ∙ option_or-None _

pub decoded-branches : (word : ℕ) → opcode_of word ≡ opcodes.branch → decoded word ≡ formatted B (named branch_rows.names (funct3_of word)) word
decoded-branches word e = decoded_at opcodes.branch word e ∙ option_or-None _

pub decoded-loads : (word : ℕ) → opcode_of word ≡ opcodes.load → decoded word ≡ formatted I (named load_rows.names (funct3_of word)) word
decoded-loads word e = decoded_at opcodes.load word e ∙ option_or-None _

pub decoded-stores : (word : ℕ) → opcode_of word ≡ opcodes.store → decoded word ≡ formatted S (named store_rows.names (funct3_of word)) word
decoded-stores word e = decoded_at opcodes.store word e ∙ option_or-None _

pub decoded-fences : (word : ℕ) → opcode_of word ≡ opcodes.misc_mem → decoded word ≡ formatted I (named fence_rows.names (funct3_of word)) word
decoded-fences word e = decoded_at opcodes.misc_mem word e ∙ option_or-None _

pub decoded-left_shifts : (word : ℕ) → opcode_of word ≡ opcodes.op_imm → funct3_of word ≡ 1 → decoded word ≡ formatted Shift (named left_shift_rows.names (bits_of 31 26 word)) word
decoded-left_shifts word e f = decoded_at_funct3 opcodes.op_imm 1 word e f ∙ option_or-None _

pub decoded-right_shifts : (word : ℕ) → opcode_of word ≡ opcodes.op_imm → funct3_of word ≡ 5 → decoded word ≡ formatted Shift (named right_shift_rows.names (bits_of 31 26 word)) word
decoded-right_shifts word e f = decoded_at_funct3 opcodes.op_imm 5 word e f ∙ option_or-None _

pub decoded-immediates : (word : ℕ) → opcode_of word ≡ opcodes.op_imm → funct3_of word ≢ 1 → funct3_of word ≢ 5 → decoded word ≡ formatted I (named immediate_rows.names (funct3_of word)) word
decoded-immediates word e a b = decoded_at opcodes.op_imm word e ∙ rw (ne_eqb _ _ a, ne_eqb _ _ b) (option_or-None _)

pub decoded-left_word_shifts : (word : ℕ) → opcode_of word ≡ opcodes.op_imm_32 → funct3_of word ≡ 1 → decoded word ≡ formatted WordShift (named left_word_shift_rows.names (bits_of 31 25 word)) word
decoded-left_word_shifts word e f = decoded_at_funct3 opcodes.op_imm_32 1 word e f ∙ option_or-None _

pub decoded-right_word_shifts : (word : ℕ) → opcode_of word ≡ opcodes.op_imm_32 → funct3_of word ≡ 5 → decoded word ≡ formatted WordShift (named right_word_shift_rows.names (bits_of 31 25 word)) word
decoded-right_word_shifts word e f = decoded_at_funct3 opcodes.op_imm_32 5 word e f ∙ option_or-None _

pub decoded-word_immediates : (word : ℕ) → opcode_of word ≡ opcodes.op_imm_32 → funct3_of word ≢ 1 → funct3_of word ≢ 5 → decoded word ≡ formatted I (named word_immediate_rows.names (funct3_of word)) word
decoded-word_immediates word e a b = decoded_at opcodes.op_imm_32 word e ∙ rw (ne_eqb _ _ a, ne_eqb _ _ b) (option_or-None _)

pub decoded-operations : (word : ℕ) → opcode_of word ≡ opcodes.op → funct7_of word ≡ 0x00 → decoded word ≡ formatted R (named operation_rows.names (funct3_of word)) word
decoded-operations word e f = decoded_at_funct7 opcodes.op 0x00 word e f ∙ option_or-None _

pub decoded-alternate_operations : (word : ℕ) → opcode_of word ≡ opcodes.op → funct7_of word ≡ 0x20 → decoded word ≡ formatted R (named alternate_operation_rows.names (funct3_of word)) word
decoded-alternate_operations word e f = decoded_at_funct7 opcodes.op 0x20 word e f ∙ option_or-None _

pub decoded-extension_m : (word : ℕ) → opcode_of word ≡ opcodes.op → funct7_of word ≡ 0x01 → decoded word ≡ formatted R (named extension_m_rows.names (funct3_of word)) word
decoded-extension_m word e f = decoded_at_funct7 opcodes.op 0x01 word e f ∙ option_or-None _

pub no_operation : (word : ℕ) → opcode_of word ≡ opcodes.op → funct7_of word ≢ 0x00 → funct7_of word ≢ 0x20 → funct7_of word ≢ 0x01 → decoded word ≡ None
no_operation word e a b d = decoded_at opcodes.op word e ∙ rw (ne_eqb _ _ a, ne_eqb _ _ b, ne_eqb _ _ d) refl

pub decoded-word_operations : (word : ℕ) → opcode_of word ≡ opcodes.op_32 → funct7_of word ≡ 0x00 → decoded word ≡ formatted R (named word_operation_rows.names (funct3_of word)) word
decoded-word_operations word e f = decoded_at_funct7 opcodes.op_32 0x00 word e f ∙ option_or-None _

pub decoded-alternate_word_operations : (word : ℕ) → opcode_of word ≡ opcodes.op_32 → funct7_of word ≡ 0x20 → decoded word ≡ formatted R (named alternate_word_operation_rows.names (funct3_of word)) word
decoded-alternate_word_operations word e f = decoded_at_funct7 opcodes.op_32 0x20 word e f ∙ option_or-None _

pub decoded-extension_m_words : (word : ℕ) → opcode_of word ≡ opcodes.op_32 → funct7_of word ≡ 0x01 → decoded word ≡ formatted R (named extension_m_word_rows.names (funct3_of word)) word
decoded-extension_m_words word e f = decoded_at_funct7 opcodes.op_32 0x01 word e f ∙ option_or-None _

pub no_word_operation : (word : ℕ) → opcode_of word ≡ opcodes.op_32 → funct7_of word ≢ 0x00 → funct7_of word ≢ 0x20 → funct7_of word ≢ 0x01 → decoded word ≡ None
no_word_operation word e a b d = decoded_at opcodes.op_32 word e ∙ rw (ne_eqb _ _ a, ne_eqb _ _ b, ne_eqb _ _ d) refl

fields_zero : (word : ℕ) → bits_of 19 7 word ≡ 0 → (rd_of word ≡ 0) × (funct3_of word ≡ 0) × (rs1_of word ≡ 0)
fields_zero word e = (omega arith, omega arith, omega arith)

-- a word whose fields rd, funct3 and rs1 are 0
pub decoded-calls : (word : ℕ) → opcode_of word ≡ opcodes.system → bits_of 19 7 word ≡ 0 → decoded word ≡ formatted Whole (named call_rows.names (bits_of 31 20 word)) word
decoded-calls word e z =
    let rd = (fields_zero word z).0 in
    let funct3 = (fields_zero word z).1 in
    let rs1 = (fields_zero word z).2 in
    decoded_at opcodes.system word e
    ∙ ap (λ n. choose families opcodes.system n (funct3_of word) (rs1_of word) (rs2_of word) (funct7_of word) word) rd
    ∙ ap (λ n. choose families opcodes.system 0 n (rs1_of word) (rs2_of word) (funct7_of word) word) funct3
    ∙ ap (λ n. choose families opcodes.system 0 0 n (rs2_of word) (funct7_of word) word) rs1
    ∙ option_or-None _

no_call_by : (a b d : Bool) (x : Option Inst) → (a ≡ true → b ≡ true → d ≡ true → ⊥) → cond (a && (b && (d && true))) x None ≡ None
no_call_by true true true x h = absurd (h refl refl refl)
no_call_by true true false x h = refl
no_call_by true false d x h = refl
no_call_by false b d x h = refl

no_fields : (word : ℕ) → rd_of word ≡ 0 → rs1_of word ≡ 0 → funct3_of word ≡ 0 → bits_of 19 7 word ≡ 0
no_fields word a b d = omega arith

pub no_call : (word : ℕ) → opcode_of word ≡ opcodes.system → bits_of 19 7 word ≢ 0 → decoded word ≡ None
no_call word e h = decoded_at opcodes.system word e ∙ no_call_by (funct3_of word == 0) (rd_of word == 0) (rs1_of word == 0) _ (λ a b d. h (no_fields word (eqb-true _ _ b) (eqb-true _ _ d) (eqb-true _ _ a)))

cond_same : {A : Type 0} (b : Bool) (x : A) → cond b x x ≡ x
cond_same true x = refl
cond_same false x = refl

pub decoded-lr_w : (word : ℕ) → opcode_of word ≡ opcodes.amo → funct3_of word ≡ 2 → bits_of 31 27 word ≡ 2 → decoded word ≡ (if rs2_of word == 0 then Some (instruction LoadReserved LrW word) else None)
decoded-lr_w word e f n = decoded_at_funct3 opcodes.amo 2 word e f ∙ rw n refl

pub decoded-lr_d : (word : ℕ) → opcode_of word ≡ opcodes.amo → funct3_of word ≡ 3 → bits_of 31 27 word ≡ 2 → decoded word ≡ (if rs2_of word == 0 then Some (instruction LoadReserved LrD word) else None)
decoded-lr_d word e f n = decoded_at_funct3 opcodes.amo 3 word e f ∙ rw n refl

pub decoded-word_atomics : (word : ℕ) → opcode_of word ≡ opcodes.amo → funct3_of word ≡ 2 → bits_of 31 27 word ≢ 2 → decoded word ≡ formatted Atomic (named word_atomic_rows.names (bits_of 31 27 word)) word
decoded-word_atomics word e f n = decoded_at_funct3 opcodes.amo 2 word e f ∙ rw (ne_eqb _ _ (λ p. n (sym p))) (cond_same _ _ ∙ option_or-None _)

pub decoded-doubleword_atomics : (word : ℕ) → opcode_of word ≡ opcodes.amo → funct3_of word ≡ 3 → bits_of 31 27 word ≢ 2 → decoded word ≡ formatted Atomic (named doubleword_atomic_rows.names (bits_of 31 27 word)) word
decoded-doubleword_atomics word e f n = decoded_at_funct3 opcodes.amo 3 word e f ∙ rw (ne_eqb _ _ (λ p. n (sym p))) (cond_same _ _ ∙ option_or-None _)

pub no_atomic : (word : ℕ) → opcode_of word ≡ opcodes.amo → funct3_of word ≢ 2 → funct3_of word ≢ 3 → decoded word ≡ None
no_atomic word e a b = decoded_at opcodes.amo word e ∙ rw (ne_eqb _ _ a, ne_eqb _ _ b) refl

-- families of other opcodes
states_other : (f : Family) (opcode rd funct3 rs1 rs2 funct7 : ℕ) → (bits_of 6 0 f.mask == 127) ≡ true → (opcode == bits_of 6 0 f.value) ≡ false → states f.mask f.value opcode rd funct3 rs1 rs2 funct7 ≡ false
states_other f opcode rd funct3 rs1 rs2 funct7 whole other = rw (eqb-true _ _ whole, other) refl

choose_other : (fs : List Family) (opcode rd funct3 rs1 rs2 funct7 word : ℕ) → list_all (λ f. bits_of 6 0 f.mask == 127) fs ≡ true → list_all (λ f. not (opcode == bits_of 6 0 f.value)) fs ≡ true → choose fs opcode rd funct3 rs1 rs2 funct7 word ≡ None
choose_other [] opcode rd funct3 rs1 rs2 funct7 word whole other = refl
choose_other (f ∷ fs) opcode rd funct3 rs1 rs2 funct7 word whole other =
    let a = both_true (bits_of 6 0 f.mask == 127) (list_all (λ f. bits_of 6 0 f.mask == 127) fs) whole in
    let b = both_true (not (opcode == bits_of 6 0 f.value)) (list_all (λ f. not (opcode == bits_of 6 0 f.value)) fs) other in
    ap (λ t. cond t (option_or (of_family f opcode funct3 word) (choose fs opcode rd funct3 rs1 rs2 funct7 word)) (choose fs opcode rd funct3 rs1 rs2 funct7 word)) (states_other f opcode rd funct3 rs1 rs2 funct7 a.0 (not_true (opcode == bits_of 6 0 f.value) b.0))
    ∙ choose_other fs opcode rd funct3 rs1 rs2 funct7 word a.1 b.1
  where
    not_true : (b : Bool) → not b ≡ true → b ≡ false
    not_true true e = cc
    not_true false e = refl

no_upper : (opcode funct3 word : ℕ) → opcode ≢ opcodes.lui → opcode ≢ opcodes.auipc → of_family upper_rows opcode funct3 word ≡ None
no_upper opcode funct3 word a b = rw (ne_eqb opcodes.lui opcode (λ p. a (sym p)), ne_eqb opcodes.auipc opcode (λ p. b (sym p))) refl

no_jump : (opcode funct3 word : ℕ) → opcode ≢ opcodes.jal → of_family jump_rows opcode funct3 word ≡ None
no_jump opcode funct3 word a = rw (ne_eqb opcodes.jal opcode (λ p. a (sym p))) refl

none_of_three : (x y z : Option Inst) → x ≡ None → y ≡ None → z ≡ None → option_or x (option_or y z) ≡ None
none_of_three x y z a b d = rw (a, b, d) refl

-- the families after the first two
others : List Family
others = drop 2 families

pub no_row : (word : ℕ) → opcode_of word ≢ opcodes.lui → opcode_of word ≢ opcodes.auipc → opcode_of word ≢ opcodes.jal → opcode_of word ≢ opcodes.jalr → opcode_of word ≢ opcodes.branch → opcode_of word ≢ opcodes.load → opcode_of word ≢ opcodes.store → opcode_of word ≢ opcodes.op_imm → opcode_of word ≢ opcodes.op_imm_32 → opcode_of word ≢ opcodes.misc_mem → opcode_of word ≢ opcodes.system → opcode_of word ≢ opcodes.op → opcode_of word ≢ opcodes.op_32 → opcode_of word ≢ opcodes.amo → decoded word ≡ None
unfolding others
no_row word a b c d e f g h i j k l m n =
    let o = opcode_of word in
    let other : list_all (λ f. not (o == bits_of 6 0 f.value)) others ≡ true =
    rw (ne_eqb o opcodes.jalr d, ne_eqb o opcodes.branch e, ne_eqb o opcodes.load f, ne_eqb o opcodes.store g, ne_eqb o opcodes.op_imm h, ne_eqb o opcodes.op_imm_32 i, ne_eqb o opcodes.misc_mem j, ne_eqb o opcodes.system k, ne_eqb o opcodes.op l, ne_eqb o opcodes.op_32 m, ne_eqb o opcodes.amo n) refl in
    decoded-choose word
    ∙ none_of_three (of_family upper_rows o (funct3_of word) word) (of_family jump_rows o (funct3_of word) word) (choose others o (rd_of word) (funct3_of word) (rs1_of word) (rs2_of word) (funct7_of word) word)
    (no_upper o (funct3_of word) word a b)
    (no_jump o (funct3_of word) word c)
    (choose_other others o (rd_of word) (funct3_of word) (rs1_of word) (rs2_of word) (funct7_of word) word refl other)

-- what each function of the decoder goes by
pub ruleset by_opcode = (decoded-lui, decoded-auipc, decoded-jal, decoded-register_jumps, decoded-branches, decoded-loads, decoded-stores, decoded-fences, no_row)

pub ruleset by_immediate = (decoded-left_shifts, decoded-right_shifts, decoded-immediates)

pub ruleset by_word_immediate = (decoded-left_word_shifts, decoded-right_word_shifts, decoded-word_immediates)

pub ruleset by_call = (decoded-calls, no_call)

pub ruleset by_operation = (decoded-operations, decoded-alternate_operations, decoded-extension_m, no_operation)

pub ruleset by_word_operation = (decoded-word_operations, decoded-alternate_word_operations, decoded-extension_m_words, no_word_operation)

pub ruleset by_atomic = (decoded-lr_w, decoded-lr_d, decoded-word_atomics, decoded-doubleword_atomics, no_atomic)
