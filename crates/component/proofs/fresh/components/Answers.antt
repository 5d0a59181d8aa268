use Rattle.std.proofs.Common.{List, [], sym, subst}
use Rattle.component.specs.declared.comp.Comp.{Comp}
use Rattle.component.specs.Components.{AreFresh, IsBankOf}
use Rattle.component.specs.Gained.{Gains}
use Rattle.component.proofs.Gathered.{gathered}
use Rattle.component.proofs.fresh.components.Goals as goal

pub returns : goal.returns
returns c =
    let m = c.args.machine.now in
    let banks : Gains (IsBankOf m) m.l2.banks [] c.add_banks.new.list.items =
    subst (λ (before : List Comp). Gains (IsBankOf m) m.l2.banks before c.add_banks.new.list.items) c.new-list.ensures.items c.in_ok-add_banks.ensures
    in
    subst (AreFresh m) (sym c.of.ensures)
    (gathered m c.add_banks.new.list.items c.add_controllers.new.list.items c.add_links.new.list.items banks c.in_ok-add_controllers.ensures c.in_ok-add_links.ensures)
