use Rattle.machine_desc.proofs.PlainText.{is_plain_text}
use Rattle.machine_desc.proofs.laws.plain_is_its_text.Goals as goal

pub returns : goal.returns
returns c = is_plain_text
