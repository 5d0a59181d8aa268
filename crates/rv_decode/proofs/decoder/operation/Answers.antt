use Rattle.std.proofs.Common.{◌∙◌, sym}
use Rattle.rv_decode.proofs.DecodedLemmas.{decoded-operations, decoded-alternate_operations, decoded-extension_m}
use Rattle.rv_decode.proofs.decoder.operation.Goals as goal

pub returns-in-0 : goal.returns-in-0
returns-in-0 c =
    let family = decoded-operations c.args.word c.requires (sym c.funct7.ensures ∙ c.in-0.is) in
    rw (family, ← c.funct3.ensures, ← c.operation_name.ensures) c.formatted.ensures

pub returns-in-32 : goal.returns-in-32
returns-in-32 c =
    let family = decoded-alternate_operations c.args.word c.requires (sym c.funct7.ensures ∙ c.in-32.is) in
    rw (family, ← c.funct3-in-32.ensures, ← c.alternate_operation_name.ensures) c.formatted-in-32.ensures

pub returns-in-1 : goal.returns-in-1
returns-in-1 c =
    let family = decoded-extension_m c.args.word c.requires (sym c.funct7.ensures ∙ c.in-1.is) in
    rw (family, ← c.funct3-in-1.ensures, ← c.extension_m_name.ensures) c.formatted-in-1.ensures
