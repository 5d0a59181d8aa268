-- What the definitions mean in other words.
use Rattle.std.proofs.Common.{◌≡◌, ◌==◌, ◌&&◌, ℕ, ◌+◌, ◌%◌, ◌^◌, ◌<◌, ◌≤◌, min, max, bit_and, bit_or, true, List, [], ◌∷◌, length, Option, Some, None, Ok, refl, sym, ap, subst, arith}
use Rattle.std.proofs.lemmas.Bool.{and_from, le-leb, lt-ltb, ltb-true}
use Rattle.elf_load.specs.declared.bad_elf.BadElf.{BadElf}
use Rattle.elf_load.specs.declared.bad_elf.BadElf.TheVariants as bad
use Rattle.elf_load.specs.declared.header.Header.{Header}
use Rattle.elf_load.specs.declared.segment.Segment.{Segment}
use Rattle.elf_load.specs.Checks.{header_refusal, has_table, refusal_unless}
use Rattle.elf_load.specs.Constants.{elf_magic, elfclass64, elfdata2lsb, et_exec, em_riscv, ef_riscv_rvc, ef_riscv_float_abi}
use Rattle.elf_load.specs.Meaning.{LiesIn}
use Rattle.elf_load.specs.Header.{header_of, program_headers}
use Rattle.elf_load.specs.Image.{image_of, image_unless, elf_refusal}
use Rattle.elf_load.specs.MemoryImage.{MemoryImage, ranges_overlap, covers}
use Rattle.elf_load.specs.SoundImage.{IsSoundImage, is_placed}
use Rattle.elf_load.proofs.Lists.{option_or-None}
use Rattle.elf_load.proofs.Refusals.{passes, unless-None}
use Rattle.elf_load.proofs.Sound.{sound}
use Rattle.elf_load.proofs.Table.{few_in_table}

-- two ranges overlap exactly where they have a number in common
pub ranges_overlap-common : (first count second others : ℕ) → ranges_overlap first count second others ≡ true → (x : ℕ) × LiesIn first count x × LiesIn second others x
ranges_overlap-common first count second others h =
    let order : max first second < min (first + count) (second + others) = ltb-true _ _ h in
    (max first second, record { begins = omega arith; ends = omega arith }, record { begins = omega arith; ends = omega arith })

pub ranges_overlap-from_common : (first count second others x : ℕ) → LiesIn first count x → LiesIn second others x → ranges_overlap first count second others ≡ true
ranges_overlap-from_common first count second others x a b =
    let a_begins = a.begins in
    let a_ends = a.ends in
    let b_begins = b.begins in
    let b_ends = b.ends in
    lt-ltb (max first second) (min (first + count) (second + others)) (omega arith)

unless_ok : (refusal : Option BadElf) (image other : MemoryImage) → image_unless refusal image ≡ Ok other → (refusal ≡ None) × (image ≡ other)
unless_ok None image other h = (refl, cc)
unless_ok (Some b) image other h = cc

-- the image of a file has the memory that it was read for
pub image_of-memory : (file : List ℕ) (base size : ℕ) (image : MemoryImage) → image_of file base size ≡ Ok image → (image.base ≡ base) × (image.size ≡ size)
unfolding image_of
image_of-memory file base size image h =
    let same = (unless_ok _ _ _ h).1 in
    (ap (λ i. i.base) (sym same), ap (λ i. i.size) (sym same))

header_refusal-None : (h : Header) (len : ℕ) → header_refusal h len ≡ None → has_table h len ≡ true
unfolding header_refusal
header_refusal-None h len e =
    let magic = (option_or-None (refusal_unless (h.magic == elf_magic) bad.Magic) _ e).1 in
    let class = (option_or-None (refusal_unless ((h.class == elfclass64) && (h.encoding == elfdata2lsb)) bad.ClassOrData) _ magic).1 in
    let kind = (option_or-None (refusal_unless (h.type_ == et_exec) bad.Type_) _ class).1 in
    let machine = (option_or-None (refusal_unless (h.machine == em_riscv) bad.Machine) _ kind).1 in
    let flags = (option_or-None (refusal_unless (bit_and h.flags (bit_or ef_riscv_rvc ef_riscv_float_abi) == 0) bad.Flags) _ machine).1 in
    unless-None (has_table h len) bad.Headers (option_or-None (refusal_unless (has_table h len) bad.Headers) None flags).0

-- the image of a file is sound
pub image_of-sound : (file : List ℕ) (base size : ℕ) (image : MemoryImage) → base + size ≤ 2 ^ 48 → image_of file base size ≡ Ok image → IsSoundImage image
unfolding image_of elf_refusal
image_of-sound file base size image reach h =
    let read = header_of file in
    let ps = program_headers file read in
    let answer = unless_ok _ _ _ h in
    let checks = option_or-None _ _ (option_or-None _ _ answer.0).1 in
    let few = few_in_table file read ps (length file) refl (header_refusal-None read (length file) checks.0) in
    subst IsSoundImage answer.1 (sound file read ps base size reach few (passes ps read.entry (length file) base size (sym checks.1)))

-- one executable segment in memory, with the entry in it, is a sound image
pub sound_alone : (base size entry : ℕ) (segment : Segment) → base + size ≤ 2 ^ 48 → 0 < segment.memsz → length segment.bytes ≤ segment.memsz → base ≤ segment.vaddr → segment.vaddr + segment.memsz ≤ base + size → segment.exec ≡ true → entry % 4 ≡ 0 → segment.vaddr ≤ entry → entry + 4 ≤ segment.vaddr + segment.memsz → IsSoundImage (record { base = base; size = size; entry = entry; segments = segment ∷ [] })
unfolding is_placed
sound_alone base size entry segment reach takes room begins ends exec aligned low high =
    let inside : covers segment entry 4 ≡ true = and_from _ _ (le-leb _ _ low) (le-leb _ _ high) in
    let placed : is_placed base size segment ≡ true =
    and_from _ _ (and_from _ _ (lt-ltb _ _ takes) (le-leb _ _ room)) (and_from _ _ (le-leb _ _ begins) (le-leb _ _ ends)) in
    record {
      reach = reach;
      few = omega arith;
      placed = and_from _ _ placed refl;
      apart = refl;
      aligned = aligned;
      entered = rw (exec, inside) refl;
    }
