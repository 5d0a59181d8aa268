-- What is known of a port to the shards that keeps its accesses.
use Rattle.std.proofs.Common.{ℕ, sym, ◌∙◌, ap}
use Rattle.bound_core.specs.TurnLaws.{AnswersAsWorld}
use Rattle.bound_core.specs.ShardWorld.{ShardWorld, shards_serve}
use Rattle.bound_records.proofs.Turns.{same_core}
use Rattle.trace.specs.Port.{Gives, LoggedPortState}

abbrev pub world : LoggedPortState → ShardWorld
world p = p.world

pub answers : AnswersAsWorld Gives world shards_serve
answers port port_after start request e g =
    g.given ∙ ap (λ (n : ℕ). shards_serve port.world n start request) (sym (same_core port.world port_after.world port.core start request e g.given))
