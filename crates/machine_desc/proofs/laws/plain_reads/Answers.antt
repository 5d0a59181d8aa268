use Rattle.machine_desc.specs.Text.{document_of}
use Rattle.machine_desc.specs.Description.{machine_of_document, machine_of}
use Rattle.machine_desc.proofs.PlainText.{is_text, is_document, no_refusal, same_numbers}
use Rattle.machine_desc.proofs.laws.plain_reads.Goals as goal

pub returns : goal.returns
unfolding document_of machine_of_document machine_of
returns c = rw (is_text, is_document, no_refusal, same_numbers)
