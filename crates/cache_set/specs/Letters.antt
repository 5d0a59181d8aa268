-- The states of a line in a core's cache (the MESI protocol), and the marks that stand for them.
use Rattle.std.specs.Prelude.{ℕ, nat_eq, if◌then◌else◌}
use Rattle.cache_set.specs.declared.letter.Letter.{Letter}
use Rattle.cache_set.specs.declared.letter.Letter.TheVariants.{M, E, S, I}

-- the mark of a way whose line is in this state
abbrev pub mark_of : Letter → ℕ
mark_of M = 0
mark_of E = 1
mark_of S = 2
mark_of I = 3

-- the state that a mark stands for
abbrev pub letter_of : ℕ → Letter
letter_of mark = if nat_eq mark 0 then M else if nat_eq mark 1 then E else if nat_eq mark 2 then S else I
