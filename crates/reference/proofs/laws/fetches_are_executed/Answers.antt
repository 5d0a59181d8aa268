use Rattle.std.proofs.Common.{ap, ◌∙◌}
use Rattle.rv_core.specs.Step.{needs_fetch}
use Rattle.reference.proofs.FetchedInstructions.{behind_fetch, fetched_once}
use Rattle.reference.proofs.laws.fetches_are_executed.Goals as goal

pub returns : goal.returns
returns c image core reply = ap (needs_fetch image) (behind_fetch reply core) ∙ fetched_once image core
