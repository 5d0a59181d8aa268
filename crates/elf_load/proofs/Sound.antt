-- An executable that passes all checks gives a sound image.
use Rattle.std.proofs.Common.{◌≡◌, ℕ, ◌+◌, ◌^◌, ◌<◌, ◌≤◌, nat_lt, nat_le, eqb, true, false, not, ◌&&◌, List, [], ◌∷◌, length, take, drop, None, IsSome, inl, inr, refl, sym, ◌∙◌, arith, length-take}
use Rattle.std.specs.List.{list_any, list_all}
use Rattle.std.proofs.lemmas.Bool.{and_parts, and_from, or_parts, or_from, or_cases, not-false, not-true, not_from_false, leb-true, le-leb, lt-ltb, ltb-false, eq-eqb, both_ways, cases_Bool, cases_eq}
use Rattle.elf_load.specs.declared.header.Header.{Header}
use Rattle.elf_load.specs.declared.header.ProgramHeader.{ProgramHeader}
use Rattle.elf_load.specs.Checks.{is_loaded, is_past_file, is_past_memory, overlaps, is_entered, first_pair}
use Rattle.elf_load.specs.Image.{segment_of, segments_of, image_in}
use Rattle.elf_load.specs.MemoryImage.{is_within, covers, fetched_word}
use Rattle.elf_load.specs.SoundImage.{IsSoundImage, is_placed, do_overlap, are_apart}
use Rattle.elf_load.proofs.Lists.{position-None, option_or-None, option_map-None}
use Rattle.elf_load.proofs.Refusals.{Passes}

-- a segment to load takes memory, where it has no more bytes than that
loaded-takes : (p : ProgramHeader) → is_loaded p ≡ true → p.filesz ≤ p.memsz → 0 < p.memsz
unfolding is_loaded
loaded-takes p h l =
    let some : (eqb p.filesz 0 && eqb p.memsz 0) ≡ false = not-true (eqb p.filesz 0 && eqb p.memsz 0) (and_parts (eqb p.type_ 1) (not (eqb p.filesz 0 && eqb p.memsz 0)) h).1 in
    elim (cases_eq p.memsz 0) [
      | inl e ↦ absurd (both_ways _ some (and_from _ _ (eq-eqb p.filesz 0 (omega arith)) (eq-eqb p.memsz 0 e)))
      | inr n ↦ omega arith
    ]

-- the range of a segment that fits the file
pub in_file : (p : ProgramHeader) (len : ℕ) → is_loaded p ≡ true → is_past_file len p ≡ false → p.offset + p.filesz ≤ len
unfolding is_past_file
in_file p len h e =
    let short : nat_lt len (p.offset + p.filesz) ≡ false = rw h at e in ltb-false _ _ short

placed : (file : List ℕ) (base size : ℕ) (p : ProgramHeader) → is_loaded p ≡ true → is_past_memory base size p ≡ false → is_placed base size (segment_of file p) ≡ true
unfolding is_placed is_past_memory segment_of
placed file base size p h e =
    let inside : not (nat_le p.filesz p.memsz && is_within p.vaddr p.memsz base size) ≡ false = rw h at e in
    let parts = and_parts _ _ (not-false _ inside) in
    let room : p.filesz ≤ p.memsz = leb-true _ _ parts.0 in
    let takes : 0 < p.memsz = loaded-takes p h room in
    let fits : length (take p.filesz (drop p.offset file)) ≤ p.memsz = omega (arith, length-take p.filesz (drop p.offset file)) in
    and_from _ _ (and_from _ _ (lt-ltb _ _ takes) (le-leb _ _ fits)) parts.1

all_placed : (file : List ℕ) (base size : ℕ) (ps : List ProgramHeader) → list_any (is_past_memory base size) ps ≡ false → list_all (is_placed base size) (segments_of file ps) ≡ true
all_placed file base size [] h = refl
all_placed file base size (p ∷ ps) h =
    let parts = or_parts _ _ h in
    let others = all_placed file base size ps parts.1 in
    elim (cases_Bool (is_loaded p)) [
      | inl loaded ↦ rw loaded (and_from _ _ (placed file base size p loaded parts.0) others)
      | inr skipped ↦ rw skipped others
    ]

-- two loaded segments overlap as their headers do
overlaps-segments : (file : List ℕ) (p q : ProgramHeader) → is_loaded p ≡ true → is_loaded q ≡ true → overlaps p q ≡ do_overlap (segment_of file p) (segment_of file q)
unfolding overlaps do_overlap segment_of
overlaps-segments file p q h k = rw (h, k) refl

none_overlaps : (file : List ℕ) (p : ProgramHeader) (ps : List ProgramHeader) → is_loaded p ≡ true → list_any (overlaps p) ps ≡ false → list_any (do_overlap (segment_of file p)) (segments_of file ps) ≡ false
none_overlaps file p [] h e = refl
none_overlaps file p (q ∷ qs) h e =
    let parts = or_parts _ _ e in
    let others = none_overlaps file p qs h parts.1 in
    elim (cases_Bool (is_loaded q)) [
      | inl loaded ↦ rw loaded (or_from _ _ (sym (overlaps-segments file p q h loaded) ∙ parts.0) others)
      | inr skipped ↦ rw skipped others
    ]

all_apart : (file : List ℕ) (i : ℕ) (ps : List ProgramHeader) → first_pair overlaps i ps ≡ None → are_apart (segments_of file ps) ≡ true
all_apart file i [] h = refl
all_apart file i (p ∷ ps) h =
    let parts = option_or-None _ _ h in
    let none = position-None (overlaps p) ps (option_map-None _ _ parts.0) in
    let others = all_apart file (i + 1) ps parts.1 in
    elim (cases_Bool (is_loaded p)) [
      | inl loaded ↦ rw loaded (and_from _ _ (not_from_false _ (none_overlaps file p ps loaded none)) others)
      | inr skipped ↦ rw skipped others
    ]

-- the entry's word is fetched
enters : (file : List ℕ) (entry : ℕ) (p : ProgramHeader) → is_entered entry p ≡ true → (is_loaded p ≡ true) × (((segment_of file p).exec && covers (segment_of file p) entry 4) ≡ true)
unfolding is_entered segment_of
enters file entry p h =
    let parts = and_parts _ _ h in
    let front = and_parts _ _ parts.0 in
    (front.0, and_from _ _ front.1 parts.1)

some_enters : (file : List ℕ) (entry : ℕ) (ps : List ProgramHeader) → list_any (is_entered entry) ps ≡ true → IsSome (fetched_word (segments_of file ps) entry)
some_enters file entry [] h = cc
some_enters file entry (p ∷ ps) h =
    elim (or_cases _ _ h) [
      | inl here ↦ let found = enters file entry p here in rw (found.0) (rw (found.1) refl)
      | inr later ↦
          let others = some_enters file entry ps later in
          elim (cases_Bool (is_loaded p)) [
            | inl loaded ↦
                rw loaded (elim (cases_Bool ((segment_of file p).exec && covers (segment_of file p) entry 4)) [
                  | inl hit ↦ rw hit refl
                  | inr miss ↦ rw miss others
                ])
            | inr skipped ↦ rw skipped others
          ]
    ]

length-segments_of : (file : List ℕ) (ps : List ProgramHeader) → length (segments_of file ps) ≤ length ps
length-segments_of file [] = omega arith
length-segments_of file (p ∷ ps) =
    let others = length-segments_of file ps in
    elim (cases_Bool (is_loaded p)) [
      | inl loaded ↦ rw loaded (omega arith)
      | inr skipped ↦ rw skipped (omega arith)
    ]

pub sound : (file : List ℕ) (h : Header) (ps : List ProgramHeader) (base size : ℕ) → base + size ≤ 2 ^ 48 → length ps ≤ 128 → Passes ps h.entry (length file) base size → IsSoundImage (image_in file h ps base size)
sound file h ps base size reach few checks = record {
  reach = reach;
  few = omega (arith, length-segments_of file ps);
  placed = all_placed file base size ps checks.in_memory;
  apart = all_apart file 0 ps checks.apart;
  aligned = checks.aligned;
  entered = some_enters file h.entry ps checks.entered;
}
