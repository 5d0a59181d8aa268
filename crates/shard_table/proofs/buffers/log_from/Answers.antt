-- A log without entries has all its room to spare.
use Rattle.std.proofs.Common.{◌≡◌, ℕ, [], ap, ◌∙◌, arith}
use Rattle.access_log.specs.Logs.{LogState}
use Rattle.shard_table.proofs.buffers.log_from.Goals as goal

pub returns-then-spare-room : goal.returns-then-spare-room
returns-then-spare-room c =
    let spare = rw c.clear.ensures at c.spare.ensures in
    let same : c.in-Some.log.room ≡ c.args.room = omega arith in
    c.clear.ensures ∙ ap (λ (n : ℕ). let log : LogState = record { entries = []; room = n } in log) same
