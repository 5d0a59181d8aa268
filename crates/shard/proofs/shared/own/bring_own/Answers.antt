use Rattle.std.proofs.Common.{ℕ, ◌<◌, length, get_or, sym, ap, ◌∙◌, arith}
use Rattle.l1_cache.specs.L1State.{L1State, copy_at}
use Rattle.shard.specs.BankSteps.{left_home}
use Rattle.shard.specs.SharedStep.{bytes_of}
use Rattle.shard.proofs.BankOwn.{brought_own}
use Rattle.shard.proofs.BankSteps.{l1_is}
use Rattle.shard.proofs.shared.own.bring_own.Goals as goal

pub returns-clause-after : goal.returns-clause-after
returns-clause-after c =
    let entered = c.enter_at-evicted.new.l1s in
    let within : c.args.core < length entered = omega (arith, c.requires.known, c.enter_at-evicted.ensures.cores) in
    let read = c.index-l1s-from.result in
    let own = sym c.index-l1s-from.is ∙ l1_is entered c.args.core read within (c.index-l1s-from.is ∙ ap (λ (i : ℕ). get_or entered i read) c.from.ensures) in
    brought_own c.args.home.now c.leave_own.new.home c.args.l1s.now entered c.fill_at.new.l1s c.args.core c.args.line c.args.letter c.enter_at-evicted.result c.requires.stands
    c.enter_at-evicted.ensures.victim c.enter_at-evicted.ensures.entered c.enter_at-evicted.ensures.others
    (c.leave_own.ensures.after ∙ ap (λ (l1 : L1State). left_home c.enter_at-evicted.result c.args.core (bytes_of (copy_at l1 c.args.line)) c.args.home.now) own)
    c.fill_at.ensures.after
