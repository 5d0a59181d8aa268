-- the names of the components so far were written
use Rattle.std.proofs.Common.{◌≡◌, ◌++◌, string_bytes}
use Rattle.profile_files.specs.SeriesFile.{numbered}
use Rattle.profile_files.proofs.series_file.write_numbered.Given as goal

abbrev pub invariant-loop-n : goal.invariant-loop-n
invariant-loop-n l = string_bytes l.text ≡ string_bytes l.initial.text ++ numbered l.kind l.n-counter
