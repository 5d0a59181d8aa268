-- The table of program headers.
use Rattle.std.proofs.Common.{◌≡◌, ◌==◌, ◌⊎◌, ℕ, zero, suc, ◌+◌, ◌-◌, ◌*◌, ◌<◌, ◌≤◌, true, ◌&&◌, nat_le, List, ◌∷◌, length, IsTrue, inl, inr, refl, ap, arith}
use Rattle.std.proofs.lemmas.Bool.{and_parts, or_cases, leb-true, eqb-true}
use Rattle.elf_load.specs.declared.header.Header.{Header}
use Rattle.elf_load.specs.declared.header.ProgramHeader.{ProgramHeader}
use Rattle.elf_load.specs.Checks.{has_table}
use Rattle.elf_load.specs.Header.{program_header_at, headers_from, program_headers}

-- there are at most 128 headers
few_headers : (h : Header) (len : ℕ) → IsTrue (has_table h len) → h.phnum ≤ 128
unfolding has_table
few_headers h len e = leb-true h.phnum 128 (and_parts _ _ e).0

-- each header lies in the file
pub header_room : (h : Header) (len i : ℕ) → IsTrue (has_table h len) → i < h.phnum → (h.phoff + 56 * i) + 56 ≤ len
unfolding has_table
header_room h len i e l =
    let cases : ((h.phnum == 0) ≡ true) ⊎ (((h.phentsize == 56) && nat_le (h.phoff + 56 * h.phnum) len) ≡ true) = or_cases _ _ (and_parts _ _ e).1 in
    elim cases [
      | inl none ↦ let z : h.phnum ≡ 0 = eqb-true h.phnum 0 none in omega arith
      | inr some ↦ let room : h.phoff + 56 * h.phnum ≤ len = leb-true (h.phoff + 56 * h.phnum) len (and_parts (h.phentsize == 56) _ some).1 in omega arith
    ]

-- the header at a place, and those after it
pub headers_from-next : (file : List ℕ) (table count i : ℕ) → i < count → headers_from file (table + 56 * i) (count - i) ≡ program_header_at file (table + 56 * i) ∷ headers_from file (table + 56 * (i + 1)) (count - (i + 1))
headers_from-next file table count i l =
    let left : count - i ≡ suc (count - (i + 1)) = omega arith in
    let on : (table + 56 * i) + 56 ≡ table + 56 * (i + 1) = omega arith in
    rw left (ap (λ at. program_header_at file (table + 56 * i) ∷ headers_from file at (count - (i + 1))) on)

pub length-headers_from : (file : List ℕ) (at count : ℕ) → length (headers_from file at count) ≡ count
length-headers_from file at zero = refl
length-headers_from file at (suc count) = ap suc (length-headers_from file (at + 56) count)

length-program_headers : (file : List ℕ) (h : Header) → length (program_headers file h) ≡ h.phnum
unfolding program_headers
length-program_headers file h = length-headers_from file h.phoff h.phnum

pub few_in_table : (file : List ℕ) (h : Header) (ps : List ProgramHeader) (len : ℕ) → ps ≡ program_headers file h → IsTrue (has_table h len) → length ps ≤ 128
few_in_table file h ps len e t = rw e (omega (arith, length-program_headers file h, few_headers h len t))
