use Rattle.std.proofs.Common.{◌≡◌, ◌∙◌, ap, get_or, sym}
use Rattle.sparse_table.specs.ByCore.{empty, value_at}
use Rattle.sparse_table.specs.Sparse.{Sparse, value_of, with_value}
use Rattle.sparse_table.proofs.ByCore.{any_default, set_one}
use Rattle.sparse_table.proofs.by_core.change_there.Goals as goal

pub returns-clause-ok : goal.returns-clause-ok
returns-clause-ok g c =
    let table = c.index_mut-table.result.now in
    let tables = c.args.tables.now.items in
    let known : get_or tables c.args.core (empty c.args.none) ≡ table = any_default tables c.args.core (empty c.args.none) table c.requires ∙ sym c.index_mut-table.ensures.value in
    set_one c.set_gives_back.ensures c.others_stay.ensures c.args.none tables c.args.core c.args.number (g.C.Change.changed c.args.by.now (value_at c.args.none tables c.args.core c.args.number)) c.requires table c.change.new.self c.index_mut-table.ensures.value
    (c.in_ok-change.ensures.ok ∙ ap {A = Sparse _} (λ t. with_value table c.args.number (g.C.Change.changed c.args.by.now (value_of t c.args.number))) (sym known))
