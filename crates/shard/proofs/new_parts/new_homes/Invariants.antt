-- the homes before this one are there
use Rattle.std.proofs.Common.{◌≡◌, map}
use Rattle.std.specs.List.{range_with_len}
use Rattle.shard.specs.NewParts.{home_of_bank}
use Rattle.shard.proofs.new_parts.new_homes.Given as goal

abbrev pub invariant-loop-number : goal.invariant-loop-number
invariant-loop-number l = l.homes.items ≡ map (λ number. home_of_bank l.machine number l.image) (range_with_len 0 l.number)
