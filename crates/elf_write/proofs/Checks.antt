-- The program headers of a sound image pass the checks, and give its segments back.
use Rattle.std.proofs.Common.{◌≡◌, ◌==◌, ℕ, ◌+◌, ◌%◌, ◌<◌, ◌≤◌, Bool, true, false, not, bit_and, ◌&&◌, List, [], ◌∷◌, ◌++◌, length, take, drop, None, IsSome, inl, inr, refl, sym, ap, ◌∙◌, arith, length-append}
use Rattle.std.specs.List.{list_all, list_any, position, position_from}
use Rattle.std.proofs.lemmas.Bool.{and_parts, and_from, and_right, or_parts, or_from, or_left, or_right, not-true, not_from_true, not_from_false, le-leb, le-ltb, eq-eqb, ne_eqb, cases_Bool, cond-false}
use Rattle.std.proofs.lemmas.Iterator.Adapters.{position_from-zero}
use Rattle.std.proofs.lemmas.List.{append_assoc, take_at, drop_at}
use Rattle.elf_load.specs.Constants.{pf_x}
use Rattle.elf_load.specs.declared.header.ProgramHeader.{ProgramHeader}
use Rattle.elf_load.specs.declared.segment.Segment.{Segment}
use Rattle.elf_load.specs.Checks.{is_loaded, is_executable, is_dynamic, is_past_file, is_past_memory, overlaps, is_entered, first_pair, file_refusal, memory_refusal, overlap_refusal, segment_refusal}
use Rattle.elf_load.specs.Image.{segment_of, segments_of}
use Rattle.elf_load.specs.MemoryImage.{covers, fetched_word}
use Rattle.elf_load.specs.SoundImage.{is_placed, do_overlap, are_apart}
use Rattle.elf_write.specs.File.{contents, permissions}
use Rattle.elf_write.proofs.Written.{written_program_header}
use Rattle.elf_write.proofs.Table.{place_of, written_table}

position_from-none : {X : Type 0} (p : X → Bool) (i : ℕ) (xs : List X) → list_any p xs ≡ false → position_from p i xs ≡ None
position_from-none p i [] h = refl
position_from-none p i (x ∷ xs) h =
    let parts = or_parts _ _ h in
    cond-false _ _ _ parts.0 ∙ position_from-none p (i + 1) xs parts.1

position-none : {X : Type 0} (p : X → Bool) (xs : List X) → list_any p xs ≡ false → position p xs ≡ None
position-none p xs h = position_from-zero p xs ∙ position_from-none p 0 xs h

-- each segment is loaded, and executable as it was
loaded : (segment : Segment) (offset : ℕ) → 0 < segment.memsz → is_loaded (written_program_header segment offset) ≡ true
unfolding is_loaded
loaded segment offset h =
    let some : (segment.memsz == 0) ≡ false = ne_eqb _ _ (λ e. omega arith) in
    not_from_false _ (and_right _ _ some)

executes : (exec : Bool) → not (bit_and (permissions exec) pf_x == 0) ≡ exec
executes true = refl
executes false = refl

executable : (segment : Segment) (offset : ℕ) → is_executable (written_program_header segment offset) ≡ segment.exec
unfolding is_executable
executable segment offset = executes segment.exec

none_dynamic : (segments : List Segment) (offset : ℕ) → list_any is_dynamic (written_table segments offset) ≡ false
unfolding is_dynamic
none_dynamic [] offset = refl
none_dynamic (segment ∷ segments) offset = none_dynamic segments (offset + length segment.bytes)

none_past_file : (segments : List Segment) (offset len : ℕ) → offset + length (contents segments) ≤ len → list_any (is_past_file len) (written_table segments offset) ≡ false
unfolding is_past_file
none_past_file [] offset len h = refl
none_past_file (segment ∷ segments) offset len h =
    let sum = length-append segment.bytes (contents segments) in
    or_from _ _ (and_right _ _ (le-ltb len (offset + length segment.bytes) (omega arith))) (none_past_file segments (offset + length segment.bytes) len (omega arith))

none_past_memory : (segments : List Segment) (offset base size : ℕ) → list_all (is_placed base size) segments ≡ true → list_any (is_past_memory base size) (written_table segments offset) ≡ false
unfolding is_past_memory
none_past_memory [] offset base size h = refl
none_past_memory (segment ∷ segments) offset base size h =
    let parts = and_parts _ _ h in
    let place = place_of segment base size parts.0 in
    or_from _ _
    (and_right _ _ (not_from_true _ (and_from _ _ (le-leb _ _ place.room) (and_from _ _ (le-leb _ _ place.begins) (le-leb _ _ place.ends)))))
    (none_past_memory segments (offset + length segment.bytes) base size parts.1)

none_overlaps : (segment : Segment) (place : ℕ) (segments : List Segment) (offset : ℕ) → list_any (do_overlap segment) segments ≡ false → list_any (overlaps (written_program_header segment place)) (written_table segments offset) ≡ false
unfolding overlaps do_overlap
none_overlaps segment place [] offset h = refl
none_overlaps segment place (other ∷ segments) offset h =
    let parts = or_parts _ _ h in
    or_from _ _ (and_right _ _ parts.0) (none_overlaps segment place segments (offset + length other.bytes) parts.1)

no_pair_overlaps : (segments : List Segment) (offset i : ℕ) → are_apart segments ≡ true → first_pair overlaps i (written_table segments offset) ≡ None
no_pair_overlaps [] offset i h = refl
no_pair_overlaps (segment ∷ segments) offset i h =
    let parts = and_parts _ _ h in
    let others = written_table segments (offset + length segment.bytes) in
    let none = position-none (overlaps (written_program_header segment offset)) others (none_overlaps segment offset segments _ (not-true _ parts.0)) in
    let later = no_pair_overlaps segments (offset + length segment.bytes) (i + 1) parts.1 in
    rw (none, later) refl

enters : (segments : List Segment) (offset entry base size : ℕ) → list_all (is_placed base size) segments ≡ true → IsSome (fetched_word segments entry) → list_any (is_entered entry) (written_table segments offset) ≡ true
unfolding is_entered
enters [] offset entry base size placed h = cc
enters (segment ∷ segments) offset entry base size placed h =
    let parts = and_parts _ _ placed in
    let place = place_of segment base size parts.0 in
    elim (cases_Bool (segment.exec && covers segment entry 4)) [
      | inl hit ↦
          let found = and_parts _ _ hit in
          or_left _ _ (and_from _ _ (and_from _ _ (loaded segment offset place.takes) (executable segment offset ∙ found.0)) found.1)
      | inr miss ↦ or_right _ _ (enters segments (offset + length segment.bytes) entry base size parts.1 (rw miss at h))
    ]

no_refusal : (ps : List ProgramHeader) (entry len base size : ℕ) → list_any is_dynamic ps ≡ false → position (is_past_file len) ps ≡ None → position (is_past_memory base size) ps ≡ None → first_pair overlaps 0 ps ≡ None → (entry % 4 == 0) ≡ true → list_any (is_entered entry) ps ≡ true → segment_refusal ps entry len base size ≡ None
unfolding segment_refusal file_refusal memory_refusal overlap_refusal
no_refusal ps entry len base size dynamic file memory apart aligned entered = rw (dynamic, file, memory, apart, aligned, entered) refl

pub segment_refusal-written : (segments : List Segment) (offset entry len base size : ℕ) → offset + length (contents segments) ≤ len → list_all (is_placed base size) segments ≡ true → are_apart segments ≡ true → entry % 4 ≡ 0 → IsSome (fetched_word segments entry) → segment_refusal (written_table segments offset) entry len base size ≡ None
segment_refusal-written segments offset entry len base size fits placed apart aligned entered =
    let ps = written_table segments offset in
    no_refusal ps entry len base size (none_dynamic segments offset)
    (position-none (is_past_file len) ps (none_past_file segments offset len fits))
    (position-none (is_past_memory base size) ps (none_past_memory segments offset base size placed))
    (no_pair_overlaps segments offset 0 apart)
    (eq-eqb _ _ aligned)
    (enters segments offset entry base size placed entered)

segment_of-written : (file : List ℕ) (segment : Segment) (offset : ℕ) → take (length segment.bytes) (drop offset file) ≡ segment.bytes → segment_of file (written_program_header segment offset) ≡ segment
unfolding segment_of
segment_of-written file segment offset bytes =
    let exec : is_executable (written_program_header segment offset) ≡ segment.exec = executable segment offset in
    let by_bytes : List ℕ → Bool → Segment = λ b e. record { vaddr = segment.vaddr; bytes = b; memsz = segment.memsz; exec = e } in
    ap (λ b. by_bytes b (is_executable (written_program_header segment offset))) bytes ∙ ap (by_bytes segment.bytes) exec

pub segments_of-written : (front : List ℕ) (segments : List Segment) (offset base size : ℕ) → length front ≡ offset → list_all (is_placed base size) segments ≡ true → segments_of (front ++ contents segments) (written_table segments offset) ≡ segments
segments_of-written front [] offset base size e placed = refl
segments_of-written front (segment ∷ segments) offset base size e placed =
    let parts = and_parts _ _ placed in
    let place = place_of segment base size parts.0 in
    let file : List ℕ = front ++ (segment.bytes ++ contents segments) in
    let bytes : take (length segment.bytes) (drop offset file) ≡ segment.bytes =
    ap (take (length segment.bytes)) (drop_at front (segment.bytes ++ contents segments) offset e) ∙ take_at segment.bytes (contents segments) (length segment.bytes) refl in
    let here : segment_of file (written_program_header segment offset) ≡ segment = segment_of-written file segment offset bytes in
    let next : length (front ++ segment.bytes) ≡ offset + length segment.bytes = omega (arith, length-append front segment.bytes) in
    let later : segments_of file (written_table segments (offset + length segment.bytes)) ≡ segments =
    ap (λ f. segments_of f (written_table segments (offset + length segment.bytes))) (sym (append_assoc front segment.bytes (contents segments)))
    ∙ segments_of-written (front ++ segment.bytes) segments (offset + length segment.bytes) base size next parts.1 in
    rw (loaded segment offset place.takes, here, later) refl
