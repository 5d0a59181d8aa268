use Rattle.reference.proofs.OwnTurns.{own_turns}
use Rattle.reference.proofs.laws.turns_are_the_cores_own.Goals as goal

pub returns : goal.returns
returns g c tells time image end port port_after before after entries turns =
    own_turns g.Q.Port.gives tells time image end entries port port_after before after turns
