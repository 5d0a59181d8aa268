use Rattle.std.proofs.Common.{◌≡◌, ◌∙◌, sym, ap, arith}
use Rattle.rv_decode.specs.InstructionTable.{left_word_shift_rows}
use Rattle.rv_decode.specs.Names.{named}
use Rattle.rv_decode.specs.InstructionWord.{bits_of}
use Rattle.rv_decode.proofs.DecodedLemmas.{decoded-left_word_shifts}
use Rattle.rv_decode.proofs.decoder.word_immediate.Goals as goal

pub returns-in-1 : goal.returns-in-1
returns-in-1 c =
    let family = decoded-left_word_shifts c.args.word c.requires (sym c.funct3.ensures ∙ c.in-1.is) in
    let name : c.left_word_shift_name.result ≡ named left_word_shift_rows.names (bits_of 31 25 c.args.word) =
    c.left_word_shift_name.ensures ∙ ap (named left_word_shift_rows.names) (omega arith) in
    rw (family, ← name) c.formatted.ensures
