-- What a core does when it is asked for its next step, and what it asks for then.
use Rattle.std.specs.Prelude.{Bool, not, ◌&&◌, ◌||◌, if◌then◌else◌, Option, Some, None, is_some}
use Rattle.elf_load.specs.MemoryImage.{MemoryImage}
use Rattle.rv_core.specs.declared.ask.Ask.{Ask}
use Rattle.rv_core.specs.declared.ask.Ask.TheVariants as ask
use Rattle.rv_core.specs.declared.why.Why.{Why}
use Rattle.rv_core.specs.CoreState.{CoreState, InProgress}
use Rattle.rv_core.specs.Step.{asks_for_instruction, executed, is_free, needs_fetch, unfetched}

-- whether an instruction is in progress: it waits for a reply, or was fetched and is to be executed
abbrev pub is_in_progress : CoreState → Bool
is_in_progress core = is_some core.instruction || core.is_fetched

-- whether the core has not halted, and no instruction is in progress
abbrev pub is_idle : CoreState → Bool
is_idle core = is_free core && not core.is_fetched

-- the core after its next instruction, or up to the instruction's next access, of which its fetch is the first
abbrev pub stepped : MemoryImage → CoreState → CoreState
stepped image core = if needs_fetch image core then asks_for_instruction core else executed image (unfetched core)

-- the core when it was asked: an access waits for its reply, and a halted core stays as it is
abbrev pub advanced : MemoryImage → CoreState → CoreState
advanced image core = if is_free core then stepped image core else core

-- what a core asks for
abbrev pub asked_in_progress : (instruction : Option InProgress) → Ask
asked_in_progress None = ask.Local
asked_in_progress (Some instruction) = ask.Access instruction.next

abbrev pub asked : (halted : Option Why) → (instruction : Option InProgress) → Ask
asked None instruction = asked_in_progress instruction
asked (Some why) instruction = ask.Halted why
