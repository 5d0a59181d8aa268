-- The stated bits of a word, and its fields where a row's value and an instruction's fields are put
-- together.
use Rattle.std.proofs.Common.{◌≡◌, ℕ, ◌+◌, ◌-◌, ◌*◌, ◌%◌, ◌^◌, ◌<◌, ◌≤◌, Bool, true, false, cond, refl, ap, ap₂, ◌∙◌, arith, bit_and, pos, negsuc, neg_ℤ, ◌-ℤ◌, ℤ, nat_lt, suc, lt-ltb, le-ltb, ltb-false}
use Rattle.std.proofs.lemmas.Int.{ints}
use Rattle.std.proofs.lemmas.Nat.{and_mask}
use Rattle.rv_decode.specs.InstructionWord.{bits_of, ones, signed}
use Rattle.rv_decode.specs.Ranges.{IsMultipleWithin}
use Rattle.rv_encode.specs.Encoding.{unsigned}
use Rattle.rv_encode.proofs.TableLaws.{MaskLaws}

module _ (laws : MaskLaws) where
  -- a number under a mask of two runs of ones
  two_runs : (high low high' low' x : ℕ) → bit_and (ones high low) (ones high' low') ≡ 0 → low ≤ high → low' ≤ high' → bit_and x (ones high low + ones high' low') ≡ bits_of high low x * 2 ^ low + bits_of high' low' x * 2 ^ low'
  two_runs high low high' low' x apart a b = laws.sums (ones high low) (ones high' low') x apart ∙ ap₂ (λ m n. m + n) (laws.bits high low x a) (laws.bits high' low' x b)

  -- the opcode and funct3
  pub under_funct3 : (x : ℕ) → bit_and x 0x707f ≡ bits_of 6 0 x * 2 ^ 0 + bits_of 14 12 x * 2 ^ 12
  under_funct3 x = two_runs 6 0 14 12 x refl (omega arith) (omega arith)

  pub under_opcode : (x : ℕ) → bit_and x 0x7f ≡ bits_of 6 0 x * 2 ^ 0
  under_opcode x = laws.bits 6 0 x (omega arith)

  -- the opcode, funct3 and the bits from low on
  three_runs : (high low x : ℕ) → bit_and 0x707f (ones high low) ≡ 0 → low ≤ high → bit_and x (0x707f + ones high low) ≡ bits_of 6 0 x * 2 ^ 0 + bits_of 14 12 x * 2 ^ 12 + bits_of high low x * 2 ^ low
  three_runs high low x apart a = laws.sums 0x707f (ones high low) x apart ∙ ap₂ (λ m n. m + n) (under_funct3 x) (laws.bits high low x a)

  pub under_funct7 : (x : ℕ) → bit_and x 0xfe00_707f ≡ bits_of 6 0 x * 2 ^ 0 + bits_of 14 12 x * 2 ^ 12 + bits_of 31 25 x * 2 ^ 25
  under_funct7 x = three_runs 31 25 x refl (omega arith)

  pub under_shift : (x : ℕ) → bit_and x 0xfc00_707f ≡ bits_of 6 0 x * 2 ^ 0 + bits_of 14 12 x * 2 ^ 12 + bits_of 31 26 x * 2 ^ 26
  under_shift x = three_runs 31 26 x refl (omega arith)

  pub under_funct5 : (x : ℕ) → bit_and x 0xf800_707f ≡ bits_of 6 0 x * 2 ^ 0 + bits_of 14 12 x * 2 ^ 12 + bits_of 31 27 x * 2 ^ 27
  under_funct5 x = three_runs 31 27 x refl (omega arith)

  pub under_load_reserved : (x : ℕ) → bit_and x 0xf9f0_707f ≡ bits_of 6 0 x * 2 ^ 0 + bits_of 14 12 x * 2 ^ 12 + bits_of 31 27 x * 2 ^ 27 + bits_of 24 20 x * 2 ^ 20
  under_load_reserved x = laws.sums 0xf800_707f (ones 24 20) x refl ∙ ap₂ (λ m n. m + n) (under_funct5 x) (laws.bits 24 20 x (omega arith))

pub under_all : (x : ℕ) → x < 2 ^ 32 → bit_and x 0xffff_ffff ≡ x
under_all x h = and_mask x 32 ∙ omega arith

-- ---- an immediate in two's complement and back

twelve_signed : (n : ℕ) (b : Bool) → nat_lt n 2048 ≡ b → signed 12 n ≡ cond b (pos n) (pos n -ℤ pos 4096)
twelve_signed n b e = ap (λ t. cond t (pos n) (pos n -ℤ pos 4096)) e

pub twelve : (z : ℤ) → IsMultipleWithin (neg_ℤ (pos 2048)) (pos 2047) 1 z → (unsigned 12 z < 4096) × (unsigned 12 z % 1 ≡ 0) × (signed 12 (unsigned 12 z) ≡ z)
twelve (pos n) h = let small : n < 2048 = omega (arith, ints) in (omega arith, omega (arith, h.2), twelve_signed n true (lt-ltb _ _ small))
twelve (negsuc n) h =
    let small : suc n ≤ 2048 = omega (arith, ints) in
    let high : 2048 ≤ 4096 - suc n = omega arith in
    (omega arith, omega (arith, h.2), twelve_signed (4096 - suc n) false (le-ltb _ _ high) ∙ omega (arith, ints))

thirteen_signed : (n : ℕ) (b : Bool) → nat_lt n 4096 ≡ b → signed 13 n ≡ cond b (pos n) (pos n -ℤ pos 8192)
thirteen_signed n b e = ap (λ t. cond t (pos n) (pos n -ℤ pos 8192)) e

pub thirteen : (z : ℤ) → IsMultipleWithin (neg_ℤ (pos 4096)) (pos 4094) 2 z → (unsigned 13 z < 8192) × (unsigned 13 z % 2 ≡ 0) × (signed 13 (unsigned 13 z) ≡ z)
thirteen (pos n) h = let small : n < 4096 = omega (arith, ints) in (omega arith, omega (arith, h.2), thirteen_signed n true (lt-ltb _ _ small))
thirteen (negsuc n) h =
    let small : suc n ≤ 4096 = omega (arith, ints) in
    let high : 4096 ≤ 8192 - suc n = omega arith in
    (omega arith, omega (arith, h.2), thirteen_signed (8192 - suc n) false (le-ltb _ _ high) ∙ omega (arith, ints))

twenty_one_signed : (n : ℕ) (b : Bool) → nat_lt n 1048576 ≡ b → signed 21 n ≡ cond b (pos n) (pos n -ℤ pos 2097152)
twenty_one_signed n b e = ap (λ t. cond t (pos n) (pos n -ℤ pos 2097152)) e

pub twenty_one : (z : ℤ) → IsMultipleWithin (neg_ℤ (pos 1048576)) (pos 1048574) 2 z → (unsigned 21 z < 2097152) × (unsigned 21 z % 2 ≡ 0) × (signed 21 (unsigned 21 z) ≡ z)
twenty_one (pos n) h = let small : n < 1048576 = omega (arith, ints) in (omega arith, omega (arith, h.2), twenty_one_signed n true (lt-ltb _ _ small))
twenty_one (negsuc n) h =
    let small : suc n ≤ 1048576 = omega (arith, ints) in
    let high : 1048576 ≤ 2097152 - suc n = omega arith in
    (omega arith, omega (arith, h.2), twenty_one_signed (2097152 - suc n) false (le-ltb _ _ high) ∙ omega (arith, ints))

thirty_two_signed : (n : ℕ) (b : Bool) → nat_lt n 2147483648 ≡ b → signed 32 n ≡ cond b (pos n) (pos n -ℤ pos 4294967296)
thirty_two_signed n b e = ap (λ t. cond t (pos n) (pos n -ℤ pos 4294967296)) e

pub thirty_two : (z : ℤ) → IsMultipleWithin (neg_ℤ (pos 2147483648)) (pos 2147479552) 4096 z → (unsigned 32 z < 4294967296) × (unsigned 32 z % 4096 ≡ 0) × (signed 32 (unsigned 32 z) ≡ z)
thirty_two (pos n) h = let small : n < 2147483648 = omega (arith, ints) in (omega arith, omega (arith, h.2), thirty_two_signed n true (lt-ltb _ _ small))
thirty_two (negsuc n) h =
    let small : suc n ≤ 2147483648 = omega (arith, ints) in
    let high : 2147483648 ≤ 4294967296 - suc n = omega arith in
    (omega arith, omega (arith, h.2), thirty_two_signed (4294967296 - suc n) false (le-ltb _ _ high) ∙ omega (arith, ints))

-- ---- and the other way

below_zero : (n k m : ℕ) → n + suc m ≡ k → pos n -ℤ pos k ≡ negsuc m
below_zero n k m e = omega (arith, ints)

read_twelve_by : (n : ℕ) (b : Bool) → (b ≡ false → 2048 ≤ n) → n < 4096 → unsigned 12 (cond b (pos n) (pos n -ℤ pos 4096)) ≡ n
read_twelve_by n true large h = refl
read_twelve_by n false large h = let high : 2048 ≤ n = large refl in ap (unsigned 12) (below_zero n 4096 (4095 - n) (omega arith)) ∙ omega arith

pub read_twelve : (n : ℕ) → n < 4096 → unsigned 12 (signed 12 n) ≡ n
read_twelve n h = read_twelve_by n (nat_lt n 2048) (ltb-false n 2048) h

read_thirteen_by : (n : ℕ) (b : Bool) → (b ≡ false → 4096 ≤ n) → n < 8192 → unsigned 13 (cond b (pos n) (pos n -ℤ pos 8192)) ≡ n
read_thirteen_by n true large h = refl
read_thirteen_by n false large h = let high : 4096 ≤ n = large refl in ap (unsigned 13) (below_zero n 8192 (8191 - n) (omega arith)) ∙ omega arith

pub read_thirteen : (n : ℕ) → n < 8192 → unsigned 13 (signed 13 n) ≡ n
read_thirteen n h = read_thirteen_by n (nat_lt n 4096) (ltb-false n 4096) h

read_twenty_one_by : (n : ℕ) (b : Bool) → (b ≡ false → 1048576 ≤ n) → n < 2097152 → unsigned 21 (cond b (pos n) (pos n -ℤ pos 2097152)) ≡ n
read_twenty_one_by n true large h = refl
read_twenty_one_by n false large h = let high : 1048576 ≤ n = large refl in ap (unsigned 21) (below_zero n 2097152 (2097151 - n) (omega arith)) ∙ omega arith

pub read_twenty_one : (n : ℕ) → n < 2097152 → unsigned 21 (signed 21 n) ≡ n
read_twenty_one n h = read_twenty_one_by n (nat_lt n 1048576) (ltb-false n 1048576) h

read_thirty_two_by : (n : ℕ) (b : Bool) → (b ≡ false → 2147483648 ≤ n) → n < 4294967296 → unsigned 32 (cond b (pos n) (pos n -ℤ pos 4294967296)) ≡ n
read_thirty_two_by n true large h = refl
read_thirty_two_by n false large h = let high : 2147483648 ≤ n = large refl in ap (unsigned 32) (below_zero n 4294967296 (4294967295 - n) (omega arith)) ∙ omega arith

pub read_thirty_two : (n : ℕ) → n < 4294967296 → unsigned 32 (signed 32 n) ≡ n
read_thirty_two n h = read_thirty_two_by n (nat_lt n 2147483648) (ltb-false n 2147483648) h

pub amount : (width bound : ℕ) (z : ℤ) → IsMultipleWithin (pos 0) (pos bound) 1 z → (unsigned width z < suc bound) × (pos (unsigned width z) ≡ z)
amount width bound (pos n) h = (omega (arith, ints), refl)
amount width bound (negsuc n) h = absurd (omega (arith, ints))
