use Rattle.std.proofs.Common.{◌∙◌, ap, length, sym, arith}
use Rattle.std.proofs.lemmas.Result.{IfOk-weaker}
use Rattle.schedule_file.proofs.Numbers.{length-numbers_of, narrow_numbers}
use Rattle.schedule_file.proofs.reader.numbers.Goals as goal

pub returns-then-is_wide-clause-count : goal.returns-then-is_wide-clause-count
returns-then-is_wide-clause-count c =
    IfOk-weaker c.two_byte_numbers.result _ _ (λ v is. omega (arith, ap length is, length-numbers_of 2 c.args.count c.args.list.now)) c.two_byte_numbers.ensures

pub returns-else-is_wide-clause-value : goal.returns-else-is_wide-clause-value
returns-else-is_wide-clause-value c =
    IfOk-weaker c.one_byte_numbers.result _ _ (λ v is. is ∙ narrow_numbers c.args.cores c.args.count c.args.list.now (sym c.if-is_wide.ensures) c.requires) c.one_byte_numbers.ensures
