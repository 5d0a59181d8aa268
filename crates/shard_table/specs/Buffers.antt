-- What a table takes memory for.
use Rattle.std.specs.Prelude.{ℕ, List, [], replicate}
use Rattle.access_log.specs.Logs.{LogState}

-- an empty log for each core, with so much room
abbrev pub new_logs : (cores room : ℕ) → List LogState
new_logs cores room = replicate cores (record { entries = []; room = room })
