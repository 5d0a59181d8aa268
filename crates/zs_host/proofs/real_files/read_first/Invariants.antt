use Rattle.zs_host.proofs.Reading.{ReadSoFar}
use Rattle.zs_host.proofs.real_files.read_first.Given as goal

abbrev pub invariant-pieces : goal.invariant-pieces
invariant-pieces g l = ReadSoFar (g.R.Read.remaining l.initial.reader) (g.R.Read.remaining l.reader) l.bytes.items l.most
