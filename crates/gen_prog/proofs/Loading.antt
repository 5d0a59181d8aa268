-- How the file of a program is loaded.
use Rattle.std.proofs.Common.{◌≡◌, ℕ, ◌+◌, ◌%◌, ◌^◌, ◌<◌, ◌≤◌, nat_lt, true, false, List, [], ◌∷◌, ◌++◌, drop, length, Option, Some, None, ◌⊎◌, inl, inr, refl, sym, ap, ◌∙◌, arith, rules}
use Rattle.std.proofs.lemmas.Bool.{le-leb, le-ltb, lt-ltb}
use Rattle.byteorder.specs.Numbers.{little_number-reads_back}
use Rattle.std.specs.Option.{option_or}
use Rattle.elf_load.specs.declared.bad_elf.BadElf.{BadElf}
use Rattle.elf_load.specs.declared.bad_elf.BadElf.TheVariants as bad
use Rattle.elf_load.specs.declared.header.Header.{Header}
use Rattle.elf_load.specs.declared.header.ProgramHeader.{ProgramHeader}
use Rattle.elf_load.specs.Checks.{file_refusal, has_table, header_refusal, is_dynamic, is_entered, is_executable, is_loaded, is_past_file, is_past_memory, memory_refusal, overlap_refusal, overlaps, segment_refusal}
use Rattle.elf_load.specs.Header.{header_of, program_header_at, program_headers}
use Rattle.elf_load.specs.Image.{elf_refusal, image_in, image_of, image_unless, segment_of, segments_of}
use Rattle.elf_load.specs.declared.segment.Segment.{Segment}
use Rattle.elf_load.specs.MemoryImage.{MemoryImage, ranges_overlap, is_within}
use Rattle.elf_write.specs.declared.field.Field.{Field}
use Rattle.elf_write.specs.File.{executable_of, field, fields_bytes, header_fields}
use Rattle.gen_prog.specs.Assembly.{assembled}
use Rattle.gen_prog.specs.Generated.{data_of, generated_image, instructions}
use Rattle.gen_prog.specs.Loaded.{loaded_in}
use Rattle.gen_prog.proofs.Image.{apart, past, within}

order : (a b : ℕ) → (a < b) ⊎ (b ≤ a)
order a b = search rules

-- the program headers as fields
code_fields : (base : ℕ) → List Field
code_fields base = field 4 1 ∷ field 4 7 ∷ field 8 176 ∷ field 8 base ∷ field 8 base ∷ field 8 112 ∷ field 8 112 ∷ field 8 1 ∷ []

data_fields : (base : ℕ) → List Field
data_fields base = field 4 1 ∷ field 4 6 ∷ field 8 288 ∷ field 8 (base + 4096) ∷ field 8 (base + 4096) ∷ field 8 16 ∷ field 8 2112 ∷ field 8 1 ∷ []

-- the headers of a file, and what follows them
headed : (base : ℕ) → List ℕ → List ℕ
headed base rest = fields_bytes (header_fields base 2) ++ ((fields_bytes (code_fields base) ++ (fields_bytes (data_fields base) ++ [])) ++ rest)

-- what is read of them
header : (base : ℕ) → Header
header base = record { magic = 0x464C_457F; class = 2; encoding = 1; type_ = 2; machine = 243; entry = base; phoff = 64; flags = 0; phentsize = 56; phnum = 2 }

code_header : (base : ℕ) → ProgramHeader
code_header base = record { type_ = 1; flags = 7; offset = 176; vaddr = base; filesz = 112; memsz = 112 }

data_header : (base : ℕ) → ProgramHeader
data_header base = record { type_ = 1; flags = 6; offset = 288; vaddr = base + 4096; filesz = 16; memsz = 2112 }

-- the bytes behind the headers
contents : (n : ℕ) → List ℕ
contents n = assembled (instructions n) ++ (data_of n ++ [])

file_is : (n base : ℕ) → executable_of (generated_image n base) ≡ headed base (contents n)
unfolding executable_of generated_image headed code_fields data_fields contents
file_is n base = refl

header_is : (base : ℕ) (rest : List ℕ) → base < 2 ^ 64 → header_of (headed base rest) ≡ header base
unfolding header_of headed header code_fields data_fields
header_is base rest low =
    ap (λ (entry : ℕ). let h : Header = record { magic = 0x464C_457F; class = 2; encoding = 1; type_ = 2; machine = 243; entry = entry; phoff = 64; flags = 0; phentsize = 56; phnum = 2 } in h)
    (little_number-reads_back 8 base (fields_bytes (drop 10 (header_fields base 2)) ++ ((fields_bytes (code_fields base) ++ (fields_bytes (data_fields base) ++ [])) ++ rest)) low)

code_header_is : (base : ℕ) (rest : List ℕ) → base < 2 ^ 64 → program_header_at (headed base rest) 64 ≡ code_header base
unfolding program_header_at headed code_fields data_fields code_header
code_header_is base rest low =
    ap (λ (vaddr : ℕ). let p : ProgramHeader = record { type_ = 1; flags = 7; offset = 176; vaddr = vaddr; filesz = 112; memsz = 112 } in p)
    (little_number-reads_back 8 base (fields_bytes (drop 4 (code_fields base)) ++ ((fields_bytes (data_fields base) ++ []) ++ rest)) low)

data_header_is : (base : ℕ) (rest : List ℕ) → base + 4096 < 2 ^ 64 → program_header_at (headed base rest) 120 ≡ data_header base
unfolding program_header_at headed code_fields data_fields data_header
data_header_is base rest low =
    ap (λ (vaddr : ℕ). let p : ProgramHeader = record { type_ = 1; flags = 6; offset = 288; vaddr = vaddr; filesz = 16; memsz = 2112 } in p)
    (little_number-reads_back 8 (base + 4096) (fields_bytes (drop 4 (data_fields base)) ++ rest) low)

table : (base : ℕ) → List ProgramHeader
table base = code_header base ∷ data_header base ∷ []

table_is : (base : ℕ) (rest : List ℕ) → base + 4096 < 2 ^ 64 → program_headers (headed base rest) (header base) ≡ table base
unfolding program_headers header table
table_is base rest low = rw (code_header_is base rest (omega (arith, low)), data_header_is base rest low) refl

-- the checks of the headers
header_passes : (base len : ℕ) → 176 ≤ len → header_refusal (header base) len ≡ None
unfolding header_refusal has_table header
header_passes base len long = rw (le-leb 176 len long) refl

only_refusal : (refusal : Option BadElf) → option_or refusal None ≡ refusal
only_refusal None = refl
only_refusal (Some bad) = refl

-- of the checks of the program headers, that of memory alone can fail
refusal_is : (base len size : ℕ) → 304 ≤ len → base % 4096 ≡ 0 → segment_refusal (table base) base len base size ≡ memory_refusal (table base) base size
unfolding segment_refusal file_refusal overlap_refusal is_dynamic is_past_file is_loaded overlaps is_entered is_executable table code_header data_header
refusal_is base len size long page =
    let first : nat_lt len 288 ≡ false = le-ltb len 288 (omega (arith, long)) in
    let second : nat_lt len 304 ≡ false = le-ltb len 304 long in
    let no_meeting : ranges_overlap base 112 (base + 4096) 2112 ≡ false = apart base 112 (base + 4096) 2112 (omega arith) in
    let aligned : base % 4 ≡ 0 = omega (arith, page) in
    let entered : is_within base 4 base 112 ≡ true = within base 4 base 112 (omega arith) (omega arith) in
    rw (first, second, no_meeting, aligned, entered) (only_refusal (memory_refusal (table base) base size))

-- which segment does not lie in memory
module _ (base size : ℕ) where
  all_fit : 6208 ≤ size → memory_refusal (table base) base size ≡ None
  unfolding memory_refusal is_past_memory is_loaded table code_header data_header
  all_fit room =
      let first : is_within base 112 base size ≡ true = within base 112 base size (omega arith) (omega (arith, room)) in
      let second : is_within (base + 4096) 2112 base size ≡ true = within (base + 4096) 2112 base size (omega arith) (omega (arith, room)) in
      rw (first, second) refl

  data_is_past : 112 ≤ size → size < 6208 → memory_refusal (table base) base size ≡ Some (bad.SegmentPastMemory 1)
  unfolding memory_refusal is_past_memory is_loaded table code_header data_header
  data_is_past room short =
      let first : is_within base 112 base size ≡ true = within base 112 base size (omega arith) (omega (arith, room)) in
      let second : is_within (base + 4096) 2112 base size ≡ false = past (base + 4096) 2112 base size (omega (arith, short)) in
      rw (first, second) refl

  code_is_past : size < 112 → memory_refusal (table base) base size ≡ Some (bad.SegmentPastMemory 0)
  unfolding memory_refusal is_past_memory is_loaded table code_header data_header
  code_is_past short =
      let first : is_within base 112 base size ≡ false = past base 112 base size (omega (arith, short)) in
      rw first refl

-- the segments that are read behind the headers
segments_are : (n base : ℕ) → segments_of (headed base (contents n)) (table base) ≡ (generated_image n base).segments
unfolding segment_of is_loaded is_executable table code_header data_header headed code_fields data_fields contents generated_image
segments_are n base = refl

length-file : (n base : ℕ) → length (headed base (contents n)) ≡ 304
unfolding headed code_fields data_fields contents
length-file n base = refl

-- what is answered of a file whose header passes its checks
answered : (file : List ℕ) (base size : ℕ) (h : Header) (ps : List ProgramHeader) (refusal : Option BadElf) → 64 ≤ length file → h ≡ header_of file
    → None ≡ header_refusal h (length file) → ps ≡ program_headers file h → refusal ≡ segment_refusal ps h.entry (length file) base size
    → image_of file base size ≡ image_unless refusal (image_in file h ps base size)
unfolding image_of elf_refusal
answered file base size h ps refusal long read passed listed checked = rw (le-leb 64 (length file) long, ← read, ← passed, ← listed, ← checked) refl

image_is : (n base size : ℕ) → image_in (headed base (contents n)) (header base) (table base) base size ≡ record (generated_image n base) { size = size }
unfolding header generated_image
image_is n base size = ap (λ (s : List Segment). let image : MemoryImage = record { base = base; size = size; entry = base; segments = s } in image) (segments_are n base)

-- the memory decides
by_memory : (n base size : ℕ) (refusal : Option BadElf) → base % 4096 ≡ 0 → base ≤ 2 ^ 40 → memory_refusal (table base) base size ≡ refusal
    → image_of (executable_of (generated_image n base)) base size ≡ image_unless refusal (record (generated_image n base) { size = size })
unfolding header
by_memory n base size refusal page low memory =
    let file = headed base (contents n) in
    let long : length file ≡ 304 = length-file n base in
    let read : header base ≡ header_of file = sym (header_is base (contents n) (omega (arith, low))) in
    let passed : None ≡ header_refusal (header base) (length file) = sym (header_passes base (length file) (omega (arith, long))) in
    let listed : table base ≡ program_headers file (header base) = sym (table_is base (contents n) (omega (arith, low))) in
    let checked : refusal ≡ segment_refusal (table base) base (length file) base size = sym (refusal_is base (length file) size (omega (arith, long)) page ∙ memory) in
    ap (λ (bytes : List ℕ). image_of bytes base size) (file_is n base)
    ∙ answered file base size (header base) (table base) refusal (omega (arith, long)) read passed listed checked
    ∙ ap (image_unless refusal) (image_is n base size)

pub programs_load : (n base size : ℕ) → base % 4096 ≡ 0 → base ≤ 2 ^ 40 → image_of (executable_of (generated_image n base)) base size ≡ loaded_in n base size
unfolding loaded_in
programs_load n base size page low = elim (order size 112) [
  | inl few ↦ rw (lt-ltb size 112 few) (by_memory n base size _ page low (code_is_past base size few))
  | inr code ↦ rw (le-ltb size 112 code) (elim (order size 6208) [
    | inl few ↦ rw (lt-ltb size 6208 few) (by_memory n base size _ page low (data_is_past base size code few))
    | inr all ↦ rw (le-ltb size 6208 all) (by_memory n base size _ page low (all_fit base size all))
  ])
]
