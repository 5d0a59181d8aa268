use Rattle.std.proofs.Common.{arith}
use Rattle.shard.specs.Served.{shard_after}
use Rattle.shard.proofs.Kept.{length-marks_after}
use Rattle.shard.proofs.laws.cores_stay.Goals as goal

pub returns : goal.returns
unfolding shard_after
returns c shard entry core h = omega (arith, length-marks_after shard.marks entry.core entry.request)
