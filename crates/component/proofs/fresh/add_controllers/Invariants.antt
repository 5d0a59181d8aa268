use Rattle.component.specs.Components.{IsControllerOf}
use Rattle.component.specs.Gained.{Gains}
use Rattle.component.proofs.fresh.add_controllers.Given as goal

abbrev pub invariant-loop-controller : goal.invariant-loop-controller
invariant-loop-controller l = Gains (IsControllerOf l.machine) l._controller l.initial.list.items l.list.items
