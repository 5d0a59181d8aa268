use Rattle.access_log.proofs.OneMore.{one_more_stamped}
use Rattle.access_log.proofs.laws.one_more_is_stamped.Goals as goal

pub returns : goal.returns
returns c banks cores entries e some known stamped next = one_more_stamped banks cores entries e some known stamped next
