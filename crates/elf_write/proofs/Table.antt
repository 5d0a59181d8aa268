-- The table of program headers that is read where it was written.
use Rattle.std.proofs.Common.{◌≡◌, ℕ, suc, ◌+◌, ◌*◌, ◌^◌, ◌<◌, ◌≤◌, true, List, [], ◌∷◌, ◌++◌, length, refl, sym, ap, ◌∙◌, arith, length-append}
use Rattle.std.specs.List.{list_all}
use Rattle.std.proofs.lemmas.Bool.{and_parts, leb-true, ltb-true}
use Rattle.std.proofs.lemmas.List.{append_assoc}
use Rattle.elf_load.specs.declared.header.ProgramHeader.{ProgramHeader}
use Rattle.elf_load.specs.declared.segment.Segment.{Segment}
use Rattle.elf_load.specs.Header.{program_header_at, headers_from}
use Rattle.elf_load.specs.SoundImage.{is_placed}
use Rattle.elf_write.specs.File.{fields_bytes, program_header_fields, table_bytes}
use Rattle.elf_write.proofs.Fields.{length-fields_bytes}
use Rattle.elf_write.proofs.Written.{Fits, written_program_header, program_header_at-written, program_header_at-past}

-- where a segment lies
pub record Place (segment : Segment) (base size : ℕ) : Type 0 where
  pub takes : 0 < segment.memsz
  pub room : length segment.bytes ≤ segment.memsz
  pub begins : base ≤ segment.vaddr
  pub ends : segment.vaddr + segment.memsz ≤ base + size

pub place_of : (segment : Segment) (base size : ℕ) → is_placed base size segment ≡ true → Place segment base size
unfolding is_placed
place_of segment base size h =
    let parts = and_parts _ _ h in
    let front = and_parts _ _ parts.0 in
    let within = and_parts _ _ parts.1 in
    record { takes = ltb-true _ _ front.0; room = leb-true _ _ front.1; begins = leb-true _ _ within.0; ends = leb-true _ _ within.1 }

-- the program headers of segments whose bytes stand one after the other from this place of the file on
abbrev pub written_table : List Segment → (offset : ℕ) → List ProgramHeader
written_table [] offset = []
written_table (segment ∷ segments) offset = written_program_header segment offset ∷ written_table segments (offset + length segment.bytes)

headers_from-step : (front bytes table rest : List ℕ) (at n : ℕ) (p : ProgramHeader) (ps : List ProgramHeader) → program_header_at (front ++ (bytes ++ (table ++ rest))) at ≡ p → headers_from ((front ++ bytes) ++ (table ++ rest)) (at + 56) n ≡ ps → headers_from (front ++ ((bytes ++ table) ++ rest)) at (suc n) ≡ p ∷ ps
headers_from-step front bytes table rest at n p ps here later =
    let inner : (bytes ++ table) ++ rest ≡ bytes ++ (table ++ rest) = append_assoc bytes table rest in
    let outer : (front ++ bytes) ++ (table ++ rest) ≡ front ++ (bytes ++ (table ++ rest)) = append_assoc front bytes (table ++ rest) in
    let file : List ℕ = front ++ (bytes ++ (table ++ rest)) in
    let others : headers_from file (at + 56) n ≡ ps = ap (λ f. headers_from f (at + 56) n) (sym outer) ∙ later in
    ap (λ r. headers_from (front ++ r) at (suc n)) inner
    ∙ ap (λ q. q ∷ headers_from file (at + 56) n) here
    ∙ ap (λ qs. p ∷ qs) others

pub headers_from-written : (segments : List Segment) (front rest : List ℕ) (at offset base size : ℕ) → length front ≡ at → base + size ≤ 2 ^ 48 → list_all (is_placed base size) segments ≡ true → offset + 2 ^ 48 * length segments < 2 ^ 60 → headers_from (front ++ (table_bytes segments offset ++ rest)) at (length segments) ≡ written_table segments offset
headers_from-written [] front rest at offset base size e reach placed bound = refl
headers_from-written (segment ∷ segments) front rest at offset base size e reach placed bound =
    let parts = and_parts _ _ placed in
    let place = place_of segment base size parts.0 in
    let room = place.room in
    let ends = place.ends in
    let fits : Fits segment offset = record { offset_fits = omega arith; vaddr_fits = omega arith; filesz_fits = omega arith; memsz_fits = omega arith } in
    let fields = program_header_fields segment offset in
    let others = table_bytes segments (offset + length segment.bytes) in
    let next : length (front ++ fields_bytes fields) ≡ at + 56 = omega (arith, length-append front (fields_bytes fields), length-fields_bytes fields) in
    headers_from-step front (fields_bytes fields) others rest at (length segments) (written_program_header segment offset) (written_table segments (offset + length segment.bytes))
    (program_header_at-past front (fields_bytes fields ++ (others ++ rest)) at e ∙ program_header_at-written segment offset (others ++ rest) fits)
    (headers_from-written segments (front ++ fields_bytes fields) rest (at + 56) (offset + length segment.bytes) base size next reach parts.1 (omega arith))

pub length-table_bytes : (segments : List Segment) (offset : ℕ) → length (table_bytes segments offset) ≡ 56 * length segments
length-table_bytes [] offset = refl
length-table_bytes (segment ∷ segments) offset =
    let fields = program_header_fields segment offset in
    let later = length-table_bytes segments (offset + length segment.bytes) in
    omega (arith, length-append (fields_bytes fields) (table_bytes segments (offset + length segment.bytes)), length-fields_bytes fields)
