-- What is put together decodes to the instruction, and a word is what is put together from its own
-- instruction: format by format.
use Rattle.std.proofs.Common.{◌≡◌, ℕ, ◌+◌, ◌*◌, ◌^◌, ◌<◌, refl, sym, ap, ap₂, ◌∙◌, arith, bit_and, pos, ℤ}
use Rattle.rv_decode.specs.InstructionWord.{bits_of, signed, rd_of, rs1_of, rs2_of}
use Rattle.rv_decode.specs.InstructionTable.{instruction}
use Rattle.rv_decode.specs.Ranges.{FitsFormat}
use Rattle.rv_decode.specs.declared.format.Format.{Format}
use Rattle.rv_decode.specs.declared.format.Format.TheVariants.{U, J, I, B, S, R, Shift, WordShift, Atomic, LoadReserved, Whole}
use Rattle.rv_decode.specs.declared.inst.Inst.{Inst}
use Rattle.rv_decode.specs.declared.name.Name.{Name}
use Rattle.rv_encode.specs.Encoding.{unsigned, registers_of, immediate_of, b_placed, s_placed, j_placed}
use Rattle.rv_encode.proofs.PlaceLemmas.{under_opcode, under_funct3, under_funct7, under_shift, under_funct5, under_load_reserved, under_all, twelve, thirteen, twenty_one, thirty_two, read_twelve, read_thirteen, read_twenty_one, read_thirty_two, amount}
use Rattle.rv_encode.proofs.PutLemmas as put
use Rattle.rv_encode.proofs.TableLaws.{MaskLaws}
use Rattle.rv_encode.proofs.PutLemmas.{put}

-- the bits that the rows of a format state
abbrev pub mask_of : Format → ℕ
mask_of U = 0x7f
mask_of J = 0x7f
mask_of I = 0x707f
mask_of B = 0x707f
mask_of S = 0x707f
mask_of R = 0xfe00_707f
mask_of Shift = 0xfc00_707f
mask_of WordShift = 0xfe00_707f
mask_of Atomic = 0xf800_707f
mask_of LoadReserved = 0xf9f0_707f
mask_of Whole = 0xffff_ffff

-- the word has the value in the stated bits, and the instruction's fields
pub record IsWordOf (f : Format) (value : ℕ) (i : Inst) (word : ℕ) : Type 0 where
  pub stated : bit_and word (mask_of f) ≡ value
  pub fields : instruction f i.name word ≡ i
  pub below : word < 2 ^ 32

same_inst : (i : Inst) (rd rs1 rs2 : ℕ) (imm : ℤ) → rd ≡ i.rd → rs1 ≡ i.rs1 → rs2 ≡ i.rs2 → imm ≡ i.imm → record { name = i.name; rd = rd; rs1 = rs1; rs2 = rs2; imm = imm } ≡ i
same_inst i rd rs1 rs2 imm a b d e = rw (a, b, d, e) refl

-- the word that is put together
abbrev pub word_of : Format → ℕ → Inst → ℕ
word_of f value i = value + registers_of i + immediate_of f i.imm

module _ (laws : MaskLaws) where
  pub is_word_of : (f : Format) (value : ℕ) (i : Inst) → bit_and value (mask_of f) ≡ value → value < 2 ^ 32 → FitsFormat f i → IsWordOf f value i (word_of f value i)
  is_word_of U v i e b h =
      let t = thirty_two i.imm h.1 in
      let p = put.upper v i.rd i.rs1 i.rs2 (unsigned 32 i.imm) (sym e ∙ under_opcode laws v) h.0.0 h.0.1 h.0.2 t.0 t.1 in
      record {
        stated = under_opcode laws (word_of U v i) ∙ p.0;
        fields = same_inst i (rd_of (word_of U v i)) 0 0 _ p.1 (sym h.0.1) (sym h.0.2) (ap (signed 32) p.2 ∙ t.2);
        below = p.3;
      }
  is_word_of J v i e b h =
      let t = twenty_one i.imm h.1 in
      let p = put.jump v i.rd i.rs1 i.rs2 (unsigned 21 i.imm) (sym e ∙ under_opcode laws v) h.0.0 h.0.1 h.0.2 t.0 t.1 in
      record {
        stated = under_opcode laws (word_of J v i) ∙ p.0;
        fields = same_inst i (rd_of (word_of J v i)) 0 0 _ p.1 (sym h.0.1) (sym h.0.2) (ap (signed 21) p.2 ∙ t.2);
        below = p.3;
      }
  is_word_of I v i e b h =
      let t = twelve i.imm h.1 in
      let p = put.immediate v i.rd i.rs1 i.rs2 (unsigned 12 i.imm) (sym e ∙ under_funct3 laws v) h.0.0 h.0.1 h.0.2 t.0 in
      record {
        stated = under_funct3 laws (word_of I v i) ∙ p.0;
        fields = same_inst i (rd_of (word_of I v i)) (rs1_of (word_of I v i)) 0 _ p.1 p.2 (sym h.0.2) (ap (signed 12) p.3 ∙ t.2);
        below = p.4;
      }
  is_word_of B v i e b h =
      let t = thirteen i.imm h.1 in
      let p = put.branch v i.rd i.rs1 i.rs2 (unsigned 13 i.imm) (sym e ∙ under_funct3 laws v) h.0.0 h.0.1 h.0.2 t.0 t.1 in
      record {
        stated = under_funct3 laws (word_of B v i) ∙ p.0;
        fields = same_inst i 0 (rs1_of (word_of B v i)) (rs2_of (word_of B v i)) _ (sym h.0.0) p.1 p.2 (ap (signed 13) p.3 ∙ t.2);
        below = p.4;
      }
  is_word_of S v i e b h =
      let t = twelve i.imm h.1 in
      let p = put.store v i.rd i.rs1 i.rs2 (unsigned 12 i.imm) (sym e ∙ under_funct3 laws v) h.0.0 h.0.1 h.0.2 t.0 in
      record {
        stated = under_funct3 laws (word_of S v i) ∙ p.0;
        fields = same_inst i 0 (rs1_of (word_of S v i)) (rs2_of (word_of S v i)) _ (sym h.0.0) p.1 p.2 (ap (signed 12) p.3 ∙ t.2);
        below = p.4;
      }
  is_word_of R v i e b h =
      let p = put.register v i.rd i.rs1 i.rs2 (sym e ∙ under_funct7 laws v) h.0.0 h.0.1 h.0.2 in
      record {
        stated = under_funct7 laws (word_of R v i) ∙ p.0;
        fields = same_inst i (rd_of (word_of R v i)) (rs1_of (word_of R v i)) (rs2_of (word_of R v i)) _ p.1 p.2 p.3 (sym h.1);
        below = p.4;
      }
  is_word_of Shift v i e b h =
      let t = amount 6 63 i.imm h.1 in
      let p = put.shift v i.rd i.rs1 i.rs2 (unsigned 6 i.imm) (sym e ∙ under_shift laws v) h.0.0 h.0.1 h.0.2 t.0 in
      record {
        stated = under_shift laws (word_of Shift v i) ∙ p.0;
        fields = same_inst i (rd_of (word_of Shift v i)) (rs1_of (word_of Shift v i)) 0 _ p.1 p.2 (sym h.0.2) (ap pos p.3 ∙ t.1);
        below = p.4;
      }
  is_word_of WordShift v i e b h =
      let t = amount 5 31 i.imm h.1 in
      let p = put.word_shift v i.rd i.rs1 i.rs2 (unsigned 5 i.imm) (sym e ∙ under_funct7 laws v) h.0.0 h.0.1 h.0.2 t.0 in
      record {
        stated = under_funct7 laws (word_of WordShift v i) ∙ p.0;
        fields = same_inst i (rd_of (word_of WordShift v i)) (rs1_of (word_of WordShift v i)) 0 _ p.1 p.2 (sym h.0.2) (ap pos p.3 ∙ t.1);
        below = p.4;
      }
  is_word_of Atomic v i e b h =
      let t = amount 2 3 i.imm h.1 in
      let p = put.atomic v i.rd i.rs1 i.rs2 (unsigned 2 i.imm) (sym e ∙ under_funct5 laws v) h.0.0 h.0.1 h.0.2 t.0 in
      record {
        stated = under_funct5 laws (word_of Atomic v i) ∙ p.0;
        fields = same_inst i (rd_of (word_of Atomic v i)) (rs1_of (word_of Atomic v i)) (rs2_of (word_of Atomic v i)) _ p.1 p.2 p.3 (ap pos p.4 ∙ t.1);
        below = p.5;
      }
  is_word_of LoadReserved v i e b h =
      let t = amount 2 3 i.imm h.1 in
      let p = put.load_reserved v i.rd i.rs1 i.rs2 (unsigned 2 i.imm) (sym e ∙ under_load_reserved laws v) h.0.0 h.0.1 h.0.2 t.0 in
      record {
        stated = under_load_reserved laws (word_of LoadReserved v i) ∙ p.0;
        fields = same_inst i (rd_of (word_of LoadReserved v i)) (rs1_of (word_of LoadReserved v i)) 0 _ p.1 p.2 (sym h.0.2) (ap pos p.3 ∙ t.1);
        below = p.4;
      }
  is_word_of Whole v i e b h =
      let same : word_of Whole v i ≡ v = omega (arith, h.0.0, h.0.1, h.0.2) in
      record {
        stated = ap (λ w. bit_and w 0xffff_ffff) same ∙ e;
        fields = same_inst i 0 0 0 (pos 0) (sym h.0.0) (sym h.0.1) (sym h.0.2) (sym h.1);
        below = omega arith;
      }

  -- a word is what is put together from its stated bits and its own instruction
  pub word_again : (f : Format) (name : Name) (word : ℕ) → word < 2 ^ 32 → word_of f (bit_and word (mask_of f)) (instruction f name word) ≡ word
  word_again U name w h = ap₂ (λ v u. put v (rd_of w) 0 0 (u)) (under_opcode laws w) (read_thirty_two (bits_of 31 12 w * 2 ^ 12) (omega arith)) ∙ omega arith
  word_again J name w h = ap₂ (λ v u. put v (rd_of w) 0 0 (j_placed u)) (under_opcode laws w) (read_twenty_one (bits_of 31 31 w * 2 ^ 20 + bits_of 19 12 w * 2 ^ 12 + bits_of 20 20 w * 2 ^ 11 + bits_of 30 21 w * 2 ^ 1) (omega arith)) ∙ omega arith
  word_again I name w h = ap₂ (λ v u. put v (rd_of w) (rs1_of w) 0 (u * 2 ^ 20)) (under_funct3 laws w) (read_twelve (bits_of 31 20 w) (omega arith)) ∙ omega arith
  word_again B name w h = ap₂ (λ v u. put v 0 (rs1_of w) (rs2_of w) (b_placed u)) (under_funct3 laws w) (read_thirteen (bits_of 31 31 w * 2 ^ 12 + bits_of 7 7 w * 2 ^ 11 + bits_of 30 25 w * 2 ^ 5 + bits_of 11 8 w * 2 ^ 1) (omega arith)) ∙ omega arith
  word_again S name w h = ap₂ (λ v u. put v 0 (rs1_of w) (rs2_of w) (s_placed u)) (under_funct3 laws w) (read_twelve (bits_of 31 25 w * 2 ^ 5 + bits_of 11 7 w) (omega arith)) ∙ omega arith
  word_again R name w h = let e = under_funct7 laws w in omega arith
  word_again Shift name w h = let e = under_shift laws w in omega arith
  word_again WordShift name w h = let e = under_funct7 laws w in omega arith
  word_again Atomic name w h = let e = under_funct5 laws w in omega arith
  word_again LoadReserved name w h = let e = under_load_reserved laws w in omega arith
  word_again Whole name w h = let e = under_all w h in omega arith
