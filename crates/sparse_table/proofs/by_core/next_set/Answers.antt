use Rattle.std.proofs.Common.{ℕ, get_or, ap, ◌∙◌, arith}
use Rattle.sparse_table.proofs.NextSet.{next_set_behind, next_set_is, next_set_last}
use Rattle.sparse_table.proofs.by_core.next_set.Goals as goal

pub returns-then-core-len-clause-next : goal.returns-then-core-len-clause-next
returns-then-core-len-clause-next g c =
    let table = c.index-table.result.now in
    next_set_is c.args.tables.now.items c.args.core c.index-table.result.now (omega (arith, c.if-core-len.true, c.len.ensures, c.from-core.ensures)) (c.index-table.ensures ∙ ap (λ (k : ℕ). get_or c.args.tables.now.items k table) c.from-core.ensures) c.entries_rise.ensures.rise c.args.from c.next.result c.next.ensures

pub returns-then-core-len-clause-behind : goal.returns-then-core-len-clause-behind
returns-then-core-len-clause-behind g c = next_set_behind c.index-table.result.now c.args.from c.next.result c.next.ensures

pub returns-then-core-len-clause-last : goal.returns-then-core-len-clause-last
returns-then-core-len-clause-last g c =
    let table = c.index-table.result.now in
    next_set_last c.args.tables.now.items c.args.core table (omega (arith, c.if-core-len.true, c.len.ensures, c.from-core.ensures))
    (c.index-table.ensures ∙ ap (λ (k : ℕ). get_or c.args.tables.now.items k table) c.from-core.ensures) c.entries_rise.ensures.fit
