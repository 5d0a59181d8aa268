-- The image of a program is sound.
use Rattle.std.proofs.Common.{◌≡◌, ℕ, ◌+◌, ◌%◌, ◌^◌, ◌<◌, ◌≤◌, max, min, nat_le, true, false, length, refl, arith}
use Rattle.std.proofs.lemmas.Bool.{le-leb, le-ltb, lt-leb}
use Rattle.std.proofs.Math.Bool.{and-false}
use Rattle.elf_load.specs.MemoryImage.{ranges_overlap, is_within}
use Rattle.elf_load.specs.SoundImage.{IsSoundImage, do_overlap, is_placed}
use Rattle.gen_prog.specs.Assembly.{assembled}
use Rattle.gen_prog.specs.Generated.{data_of, generated_image, instructions}

pub length-code : (n : ℕ) → length (assembled (instructions n)) ≡ 112
length-code n = refl

pub length-data : (n : ℕ) → length (data_of n) ≡ 16
length-data n = refl

-- a range that begins and ends in another one
pub within : (start count base size : ℕ) → base ≤ start → start + count ≤ base + size → is_within start count base size ≡ true
within start count base size begins ends =
    let b : nat_le base start ≡ true = le-leb base start begins in
    let e : nat_le (start + count) (base + size) ≡ true = le-leb (start + count) (base + size) ends in
    rw (b, e) refl

-- a range that ends behind another one
pub past : (start count base size : ℕ) → base + size < start + count → is_within start count base size ≡ false
past start count base size behind =
    let e : nat_le (start + count) (base + size) ≡ false = lt-leb (start + count) (base + size) behind in
    rw e (and-false (nat_le base start))

-- ranges one after the other do not meet
pub apart : (first count second others : ℕ) → first + count ≤ second → ranges_overlap first count second others ≡ false
apart first count second others order = le-ltb (max first second) (min (first + count) (second + others)) (omega arith)

pub sound : (n base : ℕ) → base % 4096 ≡ 0 → base ≤ 2 ^ 40 → IsSoundImage (generated_image n base)
unfolding generated_image is_placed do_overlap
sound n base page low =
    let first : is_within base 112 base 8192 ≡ true = within base 112 base 8192 (omega arith) (omega arith) in
    let second : is_within (base + 4096) 2112 base 8192 ≡ true = within (base + 4096) 2112 base 8192 (omega arith) (omega arith) in
    let entered : is_within base 4 base 112 ≡ true = within base 4 base 112 (omega arith) (omega arith) in
    let no_meeting : ranges_overlap base 112 (base + 4096) 2112 ≡ false = apart base 112 (base + 4096) 2112 (omega arith) in
    record {
      reach = omega (arith, low);
      few = omega arith;
      placed = rw (first, second) refl;
      apart = rw no_meeting refl;
      aligned = omega (arith, page);
      entered = rw entered refl;
    }
