use Rattle.dealing.proofs.OfWorkers.{among}
use Rattle.dealing.proofs.laws.dealt_are_among_these.Goals as goal

pub returns : goal.returns
returns g c = λ number items workers dealt worker place w x there at. among number items workers dealt worker place w x there at
