use Rattle.reference.proofs.Reaching.{at_itself, by_itself, by_turn, by_turns, whole_phase}
use Rattle.reference.proofs.laws.turns_lead_on.Goals as goal

pub returns : goal.returns
returns g c = record {
  begins = λ serve time image end s place more. at_itself serve time image end s place more;
  turn = λ world serve answers time image end s t numbers port port_after before after e reaches here same turn place more.
      by_turn g.Q.Port.gives world serve time image end s t numbers port port_after before after reaches answers e here same turn place more;
  alone = λ serve time image end s t numbers number before after reaches here left place more.
      by_itself serve time image end s t numbers number before after reaches here left place more;
  turns = λ world serve answers time image end s t numbers port port_after number before after entries reaches here same own turns place more.
      by_turns g.Q.Port.gives world serve time image end s t numbers port port_after before after reaches answers number entries here same own turns place more;
  whole = λ serve time image end s t numbers reaches over. whole_phase serve time image end s t numbers reaches over;
}
