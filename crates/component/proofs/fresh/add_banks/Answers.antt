use Rattle.std.proofs.Common.{◌≡◌, ℕ, subst, arith}
use Rattle.component.specs.declared.comp.Comp.TheVariants.{Bank as ABank}
use Rattle.component.specs.Components.{IsBankOf}
use Rattle.component.specs.Gained.{Gains}
use Rattle.component.proofs.Gathered.{none_gained, one_more}
use Rattle.component.proofs.fresh.add_banks.Goals as goal

pub loop-bank-init : goal.loop-bank-init
loop-bank-init c = none_gained (IsBankOf c.args.machine.now) c.args.list.now.items

pub loop-bank-preserved : goal.loop-bank-preserved
loop-bank-preserved c =
    rw c.in_ok-push.ensures.items (one_more (IsBankOf c.args.machine.now) c.args.list.now.items c.loop-bank._bank c.loop-bank.list.items (ABank c.fresh_bank.result) c.loop-bank.invariant c.fresh_bank.ensures.times c.fresh_bank.ensures.free tt)

pub returns : goal.returns
returns c =
    let machine = c.args.machine.now in
    let all : c.loop-bank._bank ≡ machine.l2.banks = omega (arith, c.loop-bank-test.false, c.loop-bank.auto) in
    subst (λ (n : ℕ). Gains (IsBankOf machine) n c.args.list.now.items c.loop-bank.list.items) all c.loop-bank.invariant
