use Rattle.reference.specs.History.{begun_over_shards}
use Rattle.reference.specs.ShardWorld.{shards_serve}
use Rattle.reference.proofs.Reaching.{whole_phase}
use Rattle.reference.proofs.laws.turns_make_a_history.Goals as goal

pub returns : goal.returns
returns c time image end cores shards numbers s some begins reaches over =
    c.phases_are_histories.ensures time image end cores shards numbers s some begins
    (whole_phase shards_serve time image end (begun_over_shards cores shards) s numbers reaches over)
