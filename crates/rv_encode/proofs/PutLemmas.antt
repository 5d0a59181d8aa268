-- The word that is put together from a row's value and an instruction's fields, format by format:
-- it has the value in the stated bits, and the fields in the others.
use Rattle.std.proofs.Common.{◌≡◌, ℕ, ◌+◌, ◌*◌, ◌%◌, ◌^◌, ◌<◌, arith}
use Rattle.rv_decode.specs.InstructionWord.{bits_of, rd_of, rs1_of, rs2_of}
use Rattle.rv_encode.specs.Encoding.{b_placed, s_placed, j_placed}

-- a value, the registers at their places, and the immediate's bits
abbrev pub put : (value rd rs1 rs2 immediate : ℕ) → ℕ
put value rd rs1 rs2 immediate = value + (rd * 2 ^ 7 + rs1 * 2 ^ 15 + rs2 * 2 ^ 20) + immediate

pub upper : (v d a b u : ℕ) → v ≡ bits_of 6 0 v * 2 ^ 0 → d < 32 → a ≡ 0 → b ≡ 0 → u < 2 ^ 32 → u % 4096 ≡ 0
    → (bits_of 6 0 (put v d a b (u)) * 2 ^ 0 ≡ v) × (rd_of (put v d a b (u)) ≡ d) × (bits_of 31 12 (put v d a b (u)) * 2 ^ 12 ≡ u) × ((put v d a b (u)) < 2 ^ 32)
upper v d a b u hv hd ha hb hu hm = (omega arith, omega arith, omega arith, omega arith)

pub jump : (v d a b u : ℕ) → v ≡ bits_of 6 0 v * 2 ^ 0 → d < 32 → a ≡ 0 → b ≡ 0 → u < 2 ^ 21 → u % 2 ≡ 0
    → (bits_of 6 0 (put v d a b (j_placed u)) * 2 ^ 0 ≡ v) × (rd_of (put v d a b (j_placed u)) ≡ d) × (bits_of 31 31 (put v d a b (j_placed u)) * 2 ^ 20 + bits_of 19 12 (put v d a b (j_placed u)) * 2 ^ 12 + bits_of 20 20 (put v d a b (j_placed u)) * 2 ^ 11 + bits_of 30 21 (put v d a b (j_placed u)) * 2 ^ 1 ≡ u) × ((put v d a b (j_placed u)) < 2 ^ 32)
jump v d a b u hv hd ha hb hu hm = (omega arith, omega arith, omega arith, omega arith)

pub immediate : (v d a b u : ℕ) → v ≡ bits_of 6 0 v * 2 ^ 0 + bits_of 14 12 v * 2 ^ 12 → d < 32 → a < 32 → b ≡ 0 → u < 2 ^ 12
    → (bits_of 6 0 (put v d a b (u * 2 ^ 20)) * 2 ^ 0 + bits_of 14 12 (put v d a b (u * 2 ^ 20)) * 2 ^ 12 ≡ v) × (rd_of (put v d a b (u * 2 ^ 20)) ≡ d) × (rs1_of (put v d a b (u * 2 ^ 20)) ≡ a) × (bits_of 31 20 (put v d a b (u * 2 ^ 20)) ≡ u) × ((put v d a b (u * 2 ^ 20)) < 2 ^ 32)
immediate v d a b u hv hd ha hb hu = (omega arith, omega arith, omega arith, omega arith, omega arith)

pub branch : (v d a b u : ℕ) → v ≡ bits_of 6 0 v * 2 ^ 0 + bits_of 14 12 v * 2 ^ 12 → d ≡ 0 → a < 32 → b < 32 → u < 2 ^ 13 → u % 2 ≡ 0
    → (bits_of 6 0 (put v d a b (b_placed u)) * 2 ^ 0 + bits_of 14 12 (put v d a b (b_placed u)) * 2 ^ 12 ≡ v) × (rs1_of (put v d a b (b_placed u)) ≡ a) × (rs2_of (put v d a b (b_placed u)) ≡ b) × (bits_of 31 31 (put v d a b (b_placed u)) * 2 ^ 12 + bits_of 7 7 (put v d a b (b_placed u)) * 2 ^ 11 + bits_of 30 25 (put v d a b (b_placed u)) * 2 ^ 5 + bits_of 11 8 (put v d a b (b_placed u)) * 2 ^ 1 ≡ u) × ((put v d a b (b_placed u)) < 2 ^ 32)
branch v d a b u hv hd ha hb hu hm = (omega arith, omega arith, omega arith, omega arith, omega arith)

pub store : (v d a b u : ℕ) → v ≡ bits_of 6 0 v * 2 ^ 0 + bits_of 14 12 v * 2 ^ 12 → d ≡ 0 → a < 32 → b < 32 → u < 2 ^ 12
    → (bits_of 6 0 (put v d a b (s_placed u)) * 2 ^ 0 + bits_of 14 12 (put v d a b (s_placed u)) * 2 ^ 12 ≡ v) × (rs1_of (put v d a b (s_placed u)) ≡ a) × (rs2_of (put v d a b (s_placed u)) ≡ b) × (bits_of 31 25 (put v d a b (s_placed u)) * 2 ^ 5 + bits_of 11 7 (put v d a b (s_placed u)) ≡ u) × ((put v d a b (s_placed u)) < 2 ^ 32)
store v d a b u hv hd ha hb hu = (omega arith, omega arith, omega arith, omega arith, omega arith)

pub register : (v d a b : ℕ) → v ≡ bits_of 6 0 v * 2 ^ 0 + bits_of 14 12 v * 2 ^ 12 + bits_of 31 25 v * 2 ^ 25 → d < 32 → a < 32 → b < 32
    → (bits_of 6 0 (put v d a b (0)) * 2 ^ 0 + bits_of 14 12 (put v d a b (0)) * 2 ^ 12 + bits_of 31 25 (put v d a b (0)) * 2 ^ 25 ≡ v) × (rd_of (put v d a b (0)) ≡ d) × (rs1_of (put v d a b (0)) ≡ a) × (rs2_of (put v d a b (0)) ≡ b) × ((put v d a b (0)) < 2 ^ 32)
register v d a b hv hd ha hb = (omega arith, omega arith, omega arith, omega arith, omega arith)

pub shift : (v d a b u : ℕ) → v ≡ bits_of 6 0 v * 2 ^ 0 + bits_of 14 12 v * 2 ^ 12 + bits_of 31 26 v * 2 ^ 26 → d < 32 → a < 32 → b ≡ 0 → u < 2 ^ 6
    → (bits_of 6 0 (put v d a b (u * 2 ^ 20)) * 2 ^ 0 + bits_of 14 12 (put v d a b (u * 2 ^ 20)) * 2 ^ 12 + bits_of 31 26 (put v d a b (u * 2 ^ 20)) * 2 ^ 26 ≡ v) × (rd_of (put v d a b (u * 2 ^ 20)) ≡ d) × (rs1_of (put v d a b (u * 2 ^ 20)) ≡ a) × (bits_of 25 20 (put v d a b (u * 2 ^ 20)) ≡ u) × ((put v d a b (u * 2 ^ 20)) < 2 ^ 32)
shift v d a b u hv hd ha hb hu = (omega arith, omega arith, omega arith, omega arith, omega arith)

pub word_shift : (v d a b u : ℕ) → v ≡ bits_of 6 0 v * 2 ^ 0 + bits_of 14 12 v * 2 ^ 12 + bits_of 31 25 v * 2 ^ 25 → d < 32 → a < 32 → b ≡ 0 → u < 2 ^ 5
    → (bits_of 6 0 (put v d a b (u * 2 ^ 20)) * 2 ^ 0 + bits_of 14 12 (put v d a b (u * 2 ^ 20)) * 2 ^ 12 + bits_of 31 25 (put v d a b (u * 2 ^ 20)) * 2 ^ 25 ≡ v) × (rd_of (put v d a b (u * 2 ^ 20)) ≡ d) × (rs1_of (put v d a b (u * 2 ^ 20)) ≡ a) × (bits_of 24 20 (put v d a b (u * 2 ^ 20)) ≡ u) × ((put v d a b (u * 2 ^ 20)) < 2 ^ 32)
word_shift v d a b u hv hd ha hb hu = (omega arith, omega arith, omega arith, omega arith, omega arith)

pub atomic : (v d a b u : ℕ) → v ≡ bits_of 6 0 v * 2 ^ 0 + bits_of 14 12 v * 2 ^ 12 + bits_of 31 27 v * 2 ^ 27 → d < 32 → a < 32 → b < 32 → u < 2 ^ 2
    → (bits_of 6 0 (put v d a b (u * 2 ^ 25)) * 2 ^ 0 + bits_of 14 12 (put v d a b (u * 2 ^ 25)) * 2 ^ 12 + bits_of 31 27 (put v d a b (u * 2 ^ 25)) * 2 ^ 27 ≡ v) × (rd_of (put v d a b (u * 2 ^ 25)) ≡ d) × (rs1_of (put v d a b (u * 2 ^ 25)) ≡ a) × (rs2_of (put v d a b (u * 2 ^ 25)) ≡ b) × (bits_of 26 25 (put v d a b (u * 2 ^ 25)) ≡ u) × ((put v d a b (u * 2 ^ 25)) < 2 ^ 32)
atomic v d a b u hv hd ha hb hu = (omega arith, omega arith, omega arith, omega arith, omega arith, omega arith)

pub load_reserved : (v d a b u : ℕ) → v ≡ bits_of 6 0 v * 2 ^ 0 + bits_of 14 12 v * 2 ^ 12 + bits_of 31 27 v * 2 ^ 27 + bits_of 24 20 v * 2 ^ 20 → d < 32 → a < 32 → b ≡ 0 → u < 2 ^ 2
    → (bits_of 6 0 (put v d a b (u * 2 ^ 25)) * 2 ^ 0 + bits_of 14 12 (put v d a b (u * 2 ^ 25)) * 2 ^ 12 + bits_of 31 27 (put v d a b (u * 2 ^ 25)) * 2 ^ 27 + bits_of 24 20 (put v d a b (u * 2 ^ 25)) * 2 ^ 20 ≡ v) × (rd_of (put v d a b (u * 2 ^ 25)) ≡ d) × (rs1_of (put v d a b (u * 2 ^ 25)) ≡ a) × (bits_of 26 25 (put v d a b (u * 2 ^ 25)) ≡ u) × ((put v d a b (u * 2 ^ 25)) < 2 ^ 32)
load_reserved v d a b u hv hd ha hb hu = (omega arith, omega arith, omega arith, omega arith, omega arith)
