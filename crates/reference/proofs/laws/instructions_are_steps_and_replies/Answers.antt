use Rattle.reference.proofs.FetchedInstructions.{whole_steps}
use Rattle.reference.proofs.laws.instructions_are_steps_and_replies.Goals as goal

pub returns : goal.returns
returns c number image inst s free here = whole_steps number image inst s free here
