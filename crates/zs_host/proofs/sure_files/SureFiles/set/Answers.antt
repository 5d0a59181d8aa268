use Rattle.std.proofs.Common.{arith}
use Rattle.std.proofs.lemmas.Map.Text.{text_keys}
use Rattle.zs_host.proofs.sure_files.SureFiles.set.Goals as goal

-- the map was changed at this name alone
pub returns-clause-others : goal.returns-clause-others
returns-clause-others c = λ n differs. grind (arith, text_keys)
