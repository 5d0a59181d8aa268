-- What a trace tells: the intervals that ended, the accesses, and how many instructions each core executed.
use Rattle.std.specs.Prelude.{ℕ, ◌+◌, ◌==◌, Bool, true, false, List, [], ◌∷◌, count_by}
use Rattle.zs_num.specs.declared.entry.Entry.{Entry}
use Rattle.stats.specs.Counts.{Interval}
use Rattle.trace.specs.Trace.{Step, Accessed, Ended, Executed}

-- the intervals that ended, in order
abbrev pub ended_in : List Step → List Interval
ended_in [] = []
ended_in (Executed core pc ∷ steps) = ended_in steps
ended_in (Accessed pc e leaving ∷ steps) = ended_in steps
ended_in (Ended interval ∷ steps) = interval ∷ ended_in steps

-- the accesses, in the order in which they were made
abbrev pub accessed_in : List Step → List Entry
accessed_in [] = []
accessed_in (Executed core pc ∷ steps) = accessed_in steps
accessed_in (Accessed pc e leaving ∷ steps) = e ∷ accessed_in steps
accessed_in (Ended interval ∷ steps) = accessed_in steps

-- the step is that of an instruction of this core
abbrev pub is_instruction_of : (core : ℕ) → Step → Bool
is_instruction_of core (Executed by pc) = by == core
is_instruction_of core (Accessed pc e leaving) = false
is_instruction_of core (Ended interval) = false

-- how many instructions a core executed
abbrev pub instructions_of : (core : ℕ) → List Step → ℕ
instructions_of core steps = count_by (is_instruction_of core) steps

abbrev pub is_instruction : Step → Bool
is_instruction (Executed by pc) = true
is_instruction (Accessed pc e leaving) = false
is_instruction (Ended interval) = false

-- how many all cores executed
abbrev pub all_instructions_of : List Step → ℕ
all_instructions_of steps = count_by is_instruction steps

-- how many they executed since the last interval ended, where it was so many up to here
abbrev pub instructions_left : (so_far : ℕ) → List Step → ℕ
instructions_left so_far [] = so_far
instructions_left so_far (Executed core pc ∷ steps) = instructions_left (so_far + 1) steps
instructions_left so_far (Accessed pc e leaving ∷ steps) = instructions_left so_far steps
instructions_left so_far (Ended interval ∷ steps) = instructions_left 0 steps
