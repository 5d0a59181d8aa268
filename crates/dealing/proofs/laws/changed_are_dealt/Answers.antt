use Rattle.dealing.proofs.OfWorkers.{all_changed}
use Rattle.dealing.proofs.laws.changed_are_dealt.Goals as goal

pub returns : goal.returns
returns g c = λ number items before after some dealt same. all_changed number items before after some dealt same
