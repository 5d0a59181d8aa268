use Rattle.std.proofs.Common.{arith, replicate, ap, ◌∙◌}
use Rattle.home.proofs.FirstBytes.{line_outside}
use Rattle.home.proofs.filling.copy_line.Goals as goal
use Rattle.home.proofs.filling.copy_line.Goals.{else-base-addr-via-then-base-addr+else-addr-base, else-base-addr-via-else-base-addr}

pub returns-else-base-addr : goal.returns-else-base-addr
returns-else-base-addr c =
    let image = c.args.image.now in
    c.fill.ensures.after (λ y e. e)
    ∙ (ap (λ n. replicate n 0) c.requires.length
    ∙ line_outside image.base image.size c.args.addr image.segments c.base.ensures.sound.placed c.requires.addr c.requires.base c.requires.size
    (elim c.else-base-addr.branch [
      | else-base-addr-via-then-base-addr+else-addr-base w ↦ λ h. omega (arith, h)
      | else-base-addr-via-else-base-addr w ↦ λ h. omega (arith, h)
    ]))
