use Rattle.std.proofs.Common.{not, sym, ap, is_some, ◌∙◌}
use Rattle.std.specs.List.{count_by}
use Rattle.std.proofs.lemmas.Bool.{eq-eqb}
use Rattle.home.proofs.Unmarked.{unmarked_on}
use Rattle.home.proofs.marks.Marks.others_on.Goals as goal

pub returns-else-self-ne0 : goal.returns-else-self-ne0
returns-else-self-ne0 c =
    ap not (eq-eqb c.self.inside.count 0 c.if-self-ne0.false)
    ∙ sym (unmarked_on c.args.core c.args.line c.args.self.now (ap (count_by is_some) (sym c.self.view_is) ∙ (sym c.self.invariant ∙ c.if-self-ne0.false)))
