-- Cores whose pipelines go on from their clocks.
use Rattle.std.specs.Prelude.{IfSome}
use Rattle.pipe_core.specs.PaceLaws.{GoesOnFrom}
use Rattle.reference.specs.TimedCore.{TimedCore}

-- A core without a pipeline is one, too.
abbrev pub IsSoon : TimedCore → Type 0
IsSoon c = IfSome c.pace (GoesOnFrom c.clock)
