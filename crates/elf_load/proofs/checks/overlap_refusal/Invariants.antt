-- no pair begins before this place
use Rattle.std.proofs.Common.{◌≡◌, drop}
use Rattle.elf_load.specs.Checks.{first_pair, overlaps}
use Rattle.elf_load.proofs.checks.overlap_refusal.Given as goal

abbrev pub invariant-loop-first : goal.invariant-loop-first
invariant-loop-first l = first_pair overlaps l.first (drop l.first l.headers) ≡ first_pair overlaps 0 l.headers
