use Rattle.shard.proofs.StandsForAnswers.{shards_answer}
use Rattle.shard.proofs.laws.shards_answer.Goals as goal

pub returns : goal.returns
returns c = shards_answer
