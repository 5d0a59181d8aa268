-- Checks one after the other.
use Rattle.std.proofs.Common.{◌≡◌, Option, Some, None, Ok, refl}
use Rattle.std.specs.Option.{option_or}
use Rattle.machine_desc.specs.Answers.{passed_unless}
use Rattle.machine_desc.specs.declared.errors.BadMachine.{BadMachine}

-- where the first check passed, the second one decides
pub passed_then : (first second : Option BadMachine) (x : Unit {0})
    → passed_unless first ≡ Ok x → passed_unless (option_or first second) ≡ passed_unless second
passed_then None second x passed = refl
passed_then (Some bad) second x passed = cc
