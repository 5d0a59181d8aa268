use Rattle.std.proofs.Common.{refl, ◌∙◌}
use Rattle.std.proofs.lemmas.Bool.{false≢true}
use Rattle.machine_desc.proofs.Documents.{document_of-text, document_of-none}
use Rattle.machine_desc.proofs.document.parse.Goals as goal

pub returns-in-Ok : goal.returns-in-Ok
returns-in-Ok c = document_of-text _ c.in-Ok.ensures.ok.0 ∙ c.in-Ok.ensures.ok.1

pub returns-in-Err-2 : goal.returns-in-Err-2
returns-in-Err-2 c = (refl, document_of-none _ (c.in-Err.ensures.refused (λ memory. false≢true (c.if-is_memory.ensures.1 memory))))
