-- The limits of a run, as numbers.
use Rattle.std.specs.Prelude.{ℕ, ◌^◌}

-- the most accesses of a run
abbrev pub access_limit : ℕ
access_limit = 2 ^ 26

-- A run has fewer events: an access has 60 at most.
abbrev pub event_limit : ℕ
event_limit = 2 ^ 32

-- the latest cycle of a clock or a component at which an interval may begin
abbrev pub cycle_limit : ℕ
cycle_limit = 2 ^ 56
