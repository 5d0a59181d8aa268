use Rattle.std.proofs.Common.{◌≡◌, ◌-◌, ◌*◌, ◌^◌, ◌%◌, ◌∙◌, true, false, sym, arith}
use Rattle.rv_blocks.specs.Slots.{is_signed}
use Rattle.rv_blocks.proofs.Shifts.{copied_cast, signs, zeros}
use Rattle.rv_blocks.proofs.access.loaded.Goals as goal

pub returns-then-is_signed : goal.returns-then-is_signed
returns-then-is_signed c =
    let on : is_signed c.args.name ≡ true = sym c.is_signed.ensures ∙ c.if-is_signed.true in
    let shifted = c.cast_unsigned.ensures ∙ copied_cast c.cast_signed.result (c.args.reply * 2 ^ (64 - 8 * c.from.result) % 2 ^ 64) (2 ^ (64 - 8 * c.from.result)) (omega arith) c.cast_signed.ensures in
    let s = rw (c.from.ensures, c.requires) at shifted in
    rw (on, c.requires) (s ∙ signs c.args.reply c.ranges.reply.fits c.args.name)

pub returns-else-is_signed : goal.returns-else-is_signed
returns-else-is_signed c =
    let off : is_signed c.args.name ≡ false = sym c.is_signed.ensures ∙ c.if-is_signed.false in
    rw (c.from.ensures, off, c.requires) (zeros c.args.reply c.ranges.reply.fits c.args.name)
