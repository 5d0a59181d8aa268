use Rattle.std.proofs.Common.{◌≡◌, rules, true, false}
use Rattle.zsim.specs.CommandLine.{is_decimal}
use Rattle.zsim.proofs.Numbers.{no_number, not_parsed, parsed}
use Rattle.zsim.proofs.command_line.number_of.Goals as goal

pub returns-then-not-is_decimal : goal.returns-then-not-is_decimal
returns-then-not-is_decimal c =
    let other : is_decimal c.args.word.now ≡ false = search rules in
    no_number c.args.word.now other

pub returns-in-Ok : goal.returns-in-Ok
returns-in-Ok c =
    let decimal : is_decimal c.args.word.now ≡ true = search rules in
    parsed c.args.word.now c.in-Ok.number decimal c.in-Ok.ensures.value.0

pub returns-in-Err : goal.returns-in-Err
returns-in-Err c =
    let decimal : is_decimal c.args.word.now ≡ true = search rules in
    not_parsed c.args.word.now decimal c.in-Err.ensures.value.0
