-- The instructions that a run executed.
use Rattle.std.specs.Prelude.{ℕ, ◌==◌, ◌&&◌, Bool, false, List, count_by}
use Rattle.trace.specs.Trace.{Step, Accessed, Ended, Executed}

-- the step is that of an instruction of this core at this address
abbrev pub is_executed : (core pc : ℕ) → Step → Bool
is_executed core pc (Executed by at) = by == core && at == pc
is_executed core pc (Accessed at e leaving) = false
is_executed core pc (Ended interval) = false

-- how often a core executed the instruction at an address
abbrev pub executed_at : (core pc : ℕ) → List Step → ℕ
executed_at core pc steps = count_by (is_executed core pc) steps
