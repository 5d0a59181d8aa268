-- The limits of what is read, as numbers.
use Rattle.std.specs.Prelude.{ℕ, ◌^◌}

-- the most bytes of a machine description
abbrev pub machine_limit : ℕ
machine_limit = 2 ^ 20

-- the most bytes of an executable
abbrev pub exe_limit : ℕ
exe_limit = 2 ^ 26

-- the most bytes of a schedule file
abbrev pub schedule_limit : ℕ
schedule_limit = 2 ^ 28

-- the most bytes of an events file
abbrev pub events_limit : ℕ
events_limit = 2 ^ 28
