-- Outcomes by numbers of 3 bits.
use Rattle.std.specs.Prelude.{ℕ, ◌==◌, true, false, if◌then◌else◌}
use Rattle.zs_num.specs.declared.entry.Outcome.{Outcome}
use Rattle.zs_num.specs.declared.entry.Outcome.TheVariants.{Hit, Upgrade, L2, Miss}

abbrev pub number_of : Outcome → ℕ
number_of Hit = 0
number_of (Upgrade false) = 1
number_of (Upgrade true) = 2
number_of (L2 false) = 3
number_of (L2 true) = 4
number_of (Miss false) = 5
number_of (Miss true) = 6

abbrev pub outcome_of : (number : ℕ) → Outcome
outcome_of number =
    if number == 0 then Hit else if number == 1 then Upgrade false else if number == 2 then Upgrade true else if number == 3 then L2 false else if number == 4 then L2 true else if number == 5 then Miss false else Miss true
