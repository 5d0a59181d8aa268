use Rattle.std.proofs.Common.{◌∙◌, sym}
use Rattle.rv_decode.proofs.DecodedLemmas.{decoded-calls}
use Rattle.rv_decode.proofs.decoder.call.Goals as goal

pub returns-then-bits-eq0 : goal.returns-then-bits-eq0
returns-then-bits-eq0 c =
    let family = decoded-calls c.args.word c.requires (sym c.bits.ensures ∙ c.if-bits-eq0.true) in
    rw (family, ← c.bits-then-bits-eq0.ensures, ← c.call_name.ensures) c.formatted.ensures
