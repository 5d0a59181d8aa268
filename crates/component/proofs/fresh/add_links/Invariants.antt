use Rattle.component.specs.Components.{IsLinkOf}
use Rattle.component.specs.Gained.{Gains}
use Rattle.component.proofs.fresh.add_links.Given as goal

abbrev pub invariant-loop-link : goal.invariant-loop-link
invariant-loop-link l = Gains (IsLinkOf l.machine) l._link l.initial.list.items l.list.items
