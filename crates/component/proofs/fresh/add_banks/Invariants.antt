use Rattle.component.specs.Components.{IsBankOf}
use Rattle.component.specs.Gained.{Gains}
use Rattle.component.proofs.fresh.add_banks.Given as goal

abbrev pub invariant-loop-bank : goal.invariant-loop-bank
invariant-loop-bank l = Gains (IsBankOf l.machine) l._bank l.initial.list.items l.list.items
