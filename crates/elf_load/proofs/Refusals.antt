-- What the definition of an image gives, by where the first refusal comes.
use Rattle.std.proofs.Common.{◌≡◌, ℕ, ◌%◌, ◌<◌, ◌≤◌, Bool, true, false, List, length, Some, None, Ok, Err, refl, sym}
use Rattle.std.specs.List.{list_any}
use Rattle.std.proofs.lemmas.Bool.{le-leb, lt-leb, eqb-true, and_parts}
use Rattle.elf_load.specs.declared.bad_elf.BadElf.{BadElf}
use Rattle.elf_load.specs.declared.bad_elf.BadElf.TheVariants as bad
use Rattle.elf_load.specs.declared.header.Header.{Header}
use Rattle.elf_load.specs.declared.header.ProgramHeader.{ProgramHeader}
use Rattle.elf_load.specs.Checks.{refusal_unless, first_pair, header_refusal, segment_refusal, file_refusal, memory_refusal, overlap_refusal, is_past_file, is_past_memory, overlaps, is_entered}
use Rattle.elf_load.specs.Header.{header_of, program_headers}
use Rattle.elf_load.specs.Image.{image_in, elf_refusal, image_of}
use Rattle.elf_load.proofs.Lists.{position-None, option_or-None, option_map-None}

pub short : (file : List ℕ) (base size : ℕ) → length file < 64 → image_of file base size ≡ Err bad.Short
unfolding image_of elf_refusal
short file base size h = rw (lt-leb 64 (length file) h) refl

module _ (file : List ℕ) (base size : ℕ) (h : Header) (long : 64 ≤ length file) (read : h ≡ header_of file) where
  pub header_refused : (refusal : BadElf) → Some refusal ≡ header_refusal h (length file) → image_of file base size ≡ Err refusal
  unfolding image_of elf_refusal
  header_refused refusal e = rw (le-leb 64 (length file) long, ← read, ← e) refl

  module _ (passed : None ≡ header_refusal h (length file)) (ps : List ProgramHeader) (table : ps ≡ program_headers file h) where
    pub segment_refused : (refusal : BadElf) → Some refusal ≡ segment_refusal ps h.entry (length file) base size → image_of file base size ≡ Err refusal
    unfolding image_of elf_refusal
    segment_refused refusal e = rw (le-leb 64 (length file) long, ← read, ← passed, ← table, ← e) refl

    pub accepted : None ≡ segment_refusal ps h.entry (length file) base size → image_of file base size ≡ Ok (image_in file h ps base size)
    unfolding image_of elf_refusal
    accepted e = rw (le-leb 64 (length file) long, ← read, ← passed, ← table, ← e) refl

pub unless-None : (test : Bool) (refusal : BadElf) → refusal_unless test refusal ≡ None → test ≡ true
unless-None true refusal h = refl
unless-None false refusal h = cc

-- what the checks of the program headers say where all pass
pub record Passes (ps : List ProgramHeader) (entry len base size : ℕ) : Type 0 where
  pub in_file : list_any (is_past_file len) ps ≡ false
  pub in_memory : list_any (is_past_memory base size) ps ≡ false
  pub apart : first_pair overlaps 0 ps ≡ None
  pub aligned : entry % 4 ≡ 0
  pub entered : list_any (is_entered entry) ps ≡ true

pub passes : (ps : List ProgramHeader) (entry len base size : ℕ) → None ≡ segment_refusal ps entry len base size → Passes ps entry len base size
unfolding segment_refusal file_refusal memory_refusal overlap_refusal
passes ps entry len base size h =
    let after_dynamic = (option_or-None _ _ (sym h)).1 in
    let file = option_or-None _ _ after_dynamic in
    let memory = option_or-None _ _ file.1 in
    let overlap = option_or-None _ _ memory.1 in
    let entered = and_parts _ _ (unless-None _ _ (option_or-None _ _ overlap.1).0) in
    record {
      in_file = position-None _ ps (option_map-None _ _ file.0);
      in_memory = position-None _ ps (option_map-None _ _ memory.0);
      apart = option_map-None _ _ overlap.0;
      aligned = eqb-true _ _ entered.0;
      entered = entered.1;
    }
