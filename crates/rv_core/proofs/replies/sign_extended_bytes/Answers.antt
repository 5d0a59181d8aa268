use Rattle.std.proofs.Common.{◌≡◌, ◌-◌, ◌*◌, ◌^◌, ◌<◌, ◌≤◌, nat_lt, false, rules, arith}
use Rattle.std.proofs.lemmas.Nat.{pow_below}
use Rattle.rv_core.specs.Accesses.{sign_extended_bytes}
use Rattle.rv_core.proofs.SignExtension.{extended}
use Rattle.rv_core.proofs.replies.sign_extended_bytes.Goals as goal

pub returns-else-number-half : goal.returns-else-number-half
unfolding sign_extended_bytes
returns-else-number-half c =
    let few : 8 * c.args.width - 1 < 64 = omega arith in
    let fits : 2 ^ (8 * c.args.width - 1) < 2 ^ 64 = pow_below (8 * c.args.width - 1) 64 few in
    let above : 2 ^ (8 * c.args.width - 1) ≤ c.args.number = omega arith in
    let set : nat_lt c.args.number (2 ^ (8 * c.args.width - 1)) ≡ false = search rules in
    rw set (extended c.args.width c.args.number c.requires.some c.requires.few c.ranges.number.fits above)
