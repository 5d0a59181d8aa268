-- An instruction that was fetched is the next one in the line of its fetch.
use Rattle.std.proofs.Common.{◌≡◌, ℕ, ◌∙◌, ◌<◌, true, false, None, refl, sym, ap}
use Rattle.elf_load.specs.MemoryImage.{MemoryImage}
use Rattle.rv_core.specs.CoreState.{CoreState}
use Rattle.rv_core.specs.Step.{is_free, needs_fetch, unfetched}
use Rattle.reference.specs.TimedCore.{TimedCore, after_execution, after_instruction, ran_to}
use Rattle.reference.proofs.Instructions.{goes_on_by, plain_execution, same_end}

-- the core for which the fetch is over
abbrev pub taking : TimedCore → TimedCore
taking c = record c { core = unfetched c.core }

needs_same : (image : MemoryImage) (core : CoreState) → needs_fetch image (unfetched core) ≡ needs_fetch image core
unfolding needs_fetch
needs_same image core = refl

executes : (image : MemoryImage) (c : TimedCore) → needs_fetch image c.core ≡ false → after_instruction image c ≡ after_execution image c
unfolding after_instruction
executes image c there = rw there refl

same_execution : (image : MemoryImage) (c : TimedCore) → c.pace ≡ None → after_execution image (taking c) ≡ after_execution image c
same_execution image c none = plain_execution image (taking c) none ∙ sym (plain_execution image c none)

-- it executes the same instruction as if no fetch were over
pub taking_next : (image : MemoryImage) (c : TimedCore) → c.pace ≡ None → needs_fetch image c.core ≡ false → after_instruction image (taking c) ≡ after_instruction image c
taking_next image c none there =
    executes image (taking c) (needs_same image c.core ∙ there) ∙ (same_execution image c none ∙ sym (executes image c there))

pub fetched_is_next : (image : MemoryImage) (end : ℕ) (c : TimedCore) → c.pace ≡ None → is_free c.core ≡ true → c.clock < end → needs_fetch image c.core ≡ false
    → ran_to image end (taking c) ≡ ran_to image end c
fetched_is_next image end c none free early there =
    sym (same_end image end (taking c) (goes_on_by end (taking c) free early)) ∙ (ap (ran_to image end) (taking_next image c none there) ∙ same_end image end c (goes_on_by end c free early))
