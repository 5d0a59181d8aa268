-- The line on standard error for each status: that of zsim, with `zprof` in place of its name, but for words that are no
-- command. It ends with one newline.
use Rattle.std.specs.Prelude.{ℕ, nat_eq, if◌then◌else◌, List, ◌++◌, drop, codes}
use Rattle.std.specs.List.{starts_with}
use Rattle.zsim.specs.declared.ended.Status.{Status}
use Rattle.zsim.specs.declared.ended.Status.TheVariants as status
use Rattle.zsim.specs.ErrorLine.{error_line}

-- a line that begins with the name of zsim begins with that of zprof
unfoldable pub renamed : List ℕ → List ℕ
renamed line = if starts_with nat_eq line (codes "zsim") then codes "zprof" ++ drop 4 line else line

abbrev pub profile_line : Status → List ℕ
profile_line status.Usage = codes "zprof: usage: zprof MACHINE EXE [--schedule NAME] --out FOLDER [--separate-cores] [--every N] [--brief]\n"
profile_line s = renamed (error_line s)
