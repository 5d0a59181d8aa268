use Rattle.reference.proofs.Phase.{turn_scheduled, turns_scheduled}
use Rattle.reference.proofs.laws.turns_are_scheduled.Goals as goal

pub returns : goal.returns
returns g c = record {
  one = λ world serve answers time image end s port port_after before after e here same turn place numbers.
      turn_scheduled g.Q.Port.gives world serve answers time image end s port port_after before after e here same turn place numbers;
  to_end = λ world serve answers time image end s number port port_after before after entries here same own turns place numbers.
      turns_scheduled g.Q.Port.gives world serve answers time image end entries s number port port_after before after here same own turns place numbers;
}
