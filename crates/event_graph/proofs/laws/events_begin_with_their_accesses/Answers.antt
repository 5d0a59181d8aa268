use Rattle.std.proofs.Common.{◌^◌}
use Rattle.event_graph.proofs.FromEntries.{near_all}
use Rattle.event_graph.proofs.laws.events_begin_with_their_accesses.Goals as goal

pub returns : goal.returns
returns g c = λ x entries last early.
    near_all (g.X.Expand.pieces x) (g.X.Expand.time x) (2 ^ 20) (λ e. g.met.X.Expand.time_small x e) (λ e. g.met.X.Expand.ends_with_access x e) last entries early
