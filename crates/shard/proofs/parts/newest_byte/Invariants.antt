-- the byte after the L1s before this one
use Rattle.std.proofs.Common.{◌≡◌, ℕ, List, take}
use Rattle.std.specs.Prelude.{slice_index}
use Rattle.shard.specs.Seen.{newest_in}
use Rattle.shard.proofs.parts.newest_byte.Given as goal

abbrev pub invariant-loop-core : goal.invariant-loop-core
invariant-loop-core l = (bytes : List ℕ) → slice_index bytes l.place ≡ l.at_home → slice_index (newest_in l.line bytes (take l.core l.l1s)) l.place ≡ l.byte
