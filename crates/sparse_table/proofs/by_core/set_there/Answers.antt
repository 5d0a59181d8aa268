use Rattle.sparse_table.proofs.ByCore.{set_one}
use Rattle.sparse_table.proofs.by_core.set_there.Goals as goal

pub returns-clause-ok : goal.returns-clause-ok
returns-clause-ok g c =
    set_one c.set_gives_back.ensures c.others_stay.ensures c.args.none c.args.tables.now.items c.args.core c.args.number c.args.value c.requires c.index_mut-table.result.now c.set.new.self c.index_mut-table.ensures.value c.in_ok-set.ensures.ok
