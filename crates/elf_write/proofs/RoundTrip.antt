-- The file of a sound image is read as that image.
use Rattle.std.proofs.Common.{◌≡◌, ℕ, zero, suc, ◌+◌, ◌*◌, ◌^◌, ◌<◌, ◌≤◌, nat_le, true, ◌&&◌, List, [], ◌∷◌, ◌++◌, length, get_or, None, Ok, IsSome, inl, inr, refl, sym, ap, ◌∙◌, arith, length-append}
use Rattle.std.specs.List.{list_all}
use Rattle.std.proofs.lemmas.Bool.{and_parts, and_from, or_right, le-leb, leb-true, cases_Bool}
use Rattle.std.proofs.lemmas.List.{append_assoc}
use Rattle.elf_load.specs.declared.segment.Segment.{Segment}
use Rattle.elf_load.specs.Checks.{has_table, header_refusal, segment_refusal}
use Rattle.elf_load.specs.Header.{header_of, program_headers}
use Rattle.elf_load.specs.Image.{image_of, image_in, elf_refusal, segments_of}
use Rattle.elf_load.specs.MemoryImage.{MemoryImage, fetched_word, covers}
use Rattle.elf_load.specs.SoundImage.{IsSoundImage, is_placed}
use Rattle.elf_load.specs.declared.header.Header.{Header}
use Rattle.elf_load.specs.declared.header.ProgramHeader.{ProgramHeader}
use Rattle.elf_write.specs.File.{fields_bytes, header_fields, table_bytes, contents, executable_of}
use Rattle.elf_write.proofs.Fields.{length-fields_bytes}
use Rattle.elf_write.proofs.Written.{written_header, header_of-written}
use Rattle.elf_write.proofs.Table.{place_of, written_table, headers_from-written, length-table_bytes}
use Rattle.elf_write.proofs.Checks.{segment_refusal-written, segments_of-written}

has_table-written : (entry count len : ℕ) → count ≤ 128 → 64 + 56 * count ≤ len → has_table (written_header entry count) len ≡ true
unfolding has_table
has_table-written entry count len few fits = and_from _ _ (le-leb count 128 few) (or_right _ _ (le-leb (64 + 56 * count) len fits))

header_refusal-written : (entry count len : ℕ) → count ≤ 128 → 64 + 56 * count ≤ len → header_refusal (written_header entry count) len ≡ None
unfolding header_refusal
header_refusal-written entry count len few fits = rw (has_table-written entry count len few fits) refl

-- the entry is the address of an instruction in memory
entry_fits : (segments : List Segment) (entry base size : ℕ) → base + size ≤ 2 ^ 48 → list_all (is_placed base size) segments ≡ true → IsSome (fetched_word segments entry) → entry < 2 ^ 64
entry_fits [] entry base size reach placed h = cc
entry_fits (segment ∷ segments) entry base size reach placed h =
    let parts = and_parts _ _ placed in
    let place = place_of segment base size parts.0 in
    let ends = place.ends in
    elim (cases_Bool (segment.exec && covers segment entry 4)) [
      | inl hit ↦
          let inside : entry + 4 ≤ segment.vaddr + segment.memsz = leb-true (entry + 4) (segment.vaddr + segment.memsz) (and_parts (nat_le segment.vaddr entry) (nat_le (entry + 4) (segment.vaddr + segment.memsz)) (and_parts segment.exec (covers segment entry 4) hit).1).1 in
          omega arith
      | inr miss ↦ entry_fits segments entry base size reach parts.1 (rw miss at h)
    ]

-- a file whose headers pass the checks is read as their image
accepted : (file : List ℕ) (base size : ℕ) (h : Header) (ps : List ProgramHeader) → 64 ≤ length file → h ≡ header_of file → None ≡ header_refusal h (length file) → ps ≡ program_headers file h → None ≡ segment_refusal ps h.entry (length file) base size → image_of file base size ≡ Ok (image_in file h ps base size)
unfolding image_of elf_refusal
accepted file base size h ps long read passed listed sound = rw (le-leb 64 (length file) long, ← read, ← passed, ← listed, ← sound) refl

pub image_of-file_of : (image : MemoryImage) → IsSoundImage image → image_of (executable_of image) image.base image.size ≡ Ok image
unfolding executable_of program_headers
image_of-file_of image sound =
    let segments = image.segments in
    let count : ℕ = length segments in
    let place : ℕ = 64 + 56 * count in
    let few : count ≤ 128 = sound.few in
    let header : List ℕ = fields_bytes (header_fields image.entry count) in
    let table : List ℕ = table_bytes segments place in
    let file : List ℕ = header ++ (table ++ contents segments) in
    let h = written_header image.entry count in
    let ps = written_table segments place in
    let header_len : length header ≡ 64 = length-fields_bytes (header_fields image.entry count) in
    let table_len : length table ≡ 56 * count = length-table_bytes segments place in
    let file_len : length file ≡ place + length (contents segments) = omega (arith, length-append header (table ++ contents segments), length-append table (contents segments)) in
    let read : h ≡ header_of file = sym (header_of-written image.entry count (table ++ contents segments) (entry_fits segments image.entry image.base image.size sound.reach sound.placed sound.entered) few) in
    let passed : None ≡ header_refusal h (length file) = sym (header_refusal-written image.entry count (length file) few (omega arith)) in
    let bound : place + 2 ^ 48 * count < 2 ^ 60 = omega arith in
    let listed : ps ≡ program_headers file h = sym (headers_from-written segments header (contents segments) 64 place image.base image.size header_len sound.reach sound.placed bound) in
    let refusal : None ≡ segment_refusal ps image.entry (length file) image.base image.size = sym (segment_refusal-written segments place image.entry (length file) image.base image.size (omega arith) sound.placed sound.apart sound.aligned sound.entered) in
    let front_len : length (header ++ table) ≡ place = omega (arith, length-append header table) in
    let back : segments_of file ps ≡ segments =
    ap (λ f. segments_of f ps) (sym (append_assoc header table (contents segments))) ∙ segments_of-written (header ++ table) segments place image.base image.size front_len sound.placed in
    let made : List Segment → MemoryImage = λ s. record { base = image.base; size = image.size; entry = image.entry; segments = s } in
    accepted file image.base image.size h ps (omega arith) read passed listed refusal ∙ ap (λ s. Ok (made s)) back

-- no segment has more bytes than memory
pub short_segments : (segments : List Segment) (base size k : ℕ) (d : Segment) → base + size ≤ 2 ^ 48 → list_all (is_placed base size) segments ≡ true → k < length segments → length (get_or segments k d).bytes ≤ 2 ^ 48
short_segments [] base size k d reach placed l = absurd (omega arith)
short_segments (segment ∷ segments) base size zero d reach placed l =
    let place = place_of segment base size (and_parts _ _ placed).0 in
    let room = place.room in
    let ends = place.ends in
    omega arith
short_segments (segment ∷ segments) base size (suc k) d reach placed l =
    short_segments segments base size k d reach (and_parts _ _ placed).1 (omega arith)

-- what is written in three steps is the file
pub file_of-written : (image : MemoryImage) (entry : ℕ) (segments : List Segment) (start headed listed whole : List ℕ) → entry ≡ image.entry → segments ≡ image.segments → start ≡ [] → headed ≡ start ++ fields_bytes (header_fields entry (length segments)) → listed ≡ headed ++ table_bytes segments (64 + 56 * length segments) → whole ≡ listed ++ contents segments → whole ≡ executable_of image
unfolding executable_of
file_of-written image entry segments start headed listed whole e s none h t w =
    let header : List ℕ = fields_bytes (header_fields entry (length segments)) in
    let table : List ℕ = table_bytes segments (64 + 56 * length segments) in
    let file : ℕ → List Segment → List ℕ =
    λ a ss. fields_bytes (header_fields a (length ss)) ++ (table_bytes ss (64 + 56 * length ss) ++ contents ss) in
    w
    ∙ ap (λ x. x ++ contents segments) (t ∙ ap (λ x. x ++ table) (h ∙ ap (λ x. x ++ header) none))
    ∙ append_assoc header table (contents segments)
    ∙ ap (λ a. file a segments) e
    ∙ ap (file image.entry) s
