-- The jumps of a core: where the instruction that it executed next did not stand behind the one before.
use Rattle.std.specs.Prelude.{ℕ, ◌+◌, ◌-◌, ◌%◌, ◌^◌, ◌==◌, List, [], ◌∷◌, ◌++◌, drop, length, option_to_list, if◌then◌else◌, Option}
use Rattle.trace.specs.Trace.{Step, Accessed, Ended, Executed}
use Rattle.profile_rows.specs.declared.halt_row.Jump.{Jump}

-- the addresses of the instructions that a core executed, in order
abbrev pub executed_by : (core : ℕ) → List Step → List ℕ
executed_by core [] = []
executed_by core (Executed by pc ∷ steps) = if by == core then pc ∷ executed_by core steps else executed_by core steps
executed_by core (Accessed pc e leaving ∷ steps) = executed_by core steps
executed_by core (Ended interval ∷ steps) = executed_by core steps

-- the address behind an instruction
abbrev pub behind : (pc : ℕ) → ℕ
behind pc = (pc + 4) % 2 ^ 64

-- the jump from an instruction to the next one, if that does not stand behind it
abbrev pub jump_between : (from to : ℕ) → List Jump
jump_between from to = if to == behind from then [] else record { from = from; to = to } ∷ []

-- those from an instruction on, which the others follow
abbrev pub jumps_from : (from : ℕ) → List ℕ → List Jump
jumps_from from [] = []
jumps_from from (to ∷ rest) = jump_between from to ++ jumps_from to rest

-- those of instructions that follow each other
abbrev pub jumps_of : List ℕ → List Jump
jumps_of [] = []
jumps_of (first ∷ rest) = jumps_from first rest

-- the last ones, so many at most
abbrev pub last_of : (most : ℕ) → List Jump → List Jump
last_of most jumps = drop (length jumps - most) jumps

-- The last 16 jumps of a core that is to go on at `next`, or nowhere: the oldest one first.
abbrev pub last_jumps : (core : ℕ) → List Step → (next : Option ℕ) → List Jump
last_jumps core steps next = last_of 16 (jumps_of (executed_by core steps ++ option_to_list next))
