-- What the state of a line in a core's cache says (the MESI protocol).
use Rattle.std.specs.Prelude.{Bool, true, false}
use Rattle.cache_set.specs.declared.letter.Letter.{Letter}
use Rattle.cache_set.specs.declared.letter.Letter.TheVariants.{M, E, S, I}

-- a core with this letter has the line
abbrev pub is_valid : Letter → Bool
is_valid M = true
is_valid E = true
is_valid S = true
is_valid I = false

-- a core with this letter is the only one that has the line
abbrev pub is_alone : Letter → Bool
is_alone M = true
is_alone E = true
is_alone S = false
is_alone I = false

-- the bytes of a core with this letter are newer than those at home
abbrev pub is_modified : Letter → Bool
is_modified M = true
is_modified E = false
is_modified S = false
is_modified I = false
