use Rattle.std.proofs.Common.{◌<◌, ◌∙◌, ℕ, List, length, get_or, ap, arith}
use Rattle.home.specs.declared.row.Row.{Row}
use Rattle.home.proofs.RowsPlaced.{row_read, rows_are}
use Rattle.home.proofs.rows.Rows.at.Goals as goal

pub start-requires-clause-within : goal.start-requires-clause-within
start-requires-clause-within c =
    let s = c.self.inside in
    omega (arith, c.requires, ap length c.self.view_is, rows_are s.count s.chunks.places.items s.chunks.rows.items, c.self.invariant.all)

pub returns : goal.returns
returns c =
    let s = c.self.inside in
    let row : Row = c.index.result.now in
    let below : c.args.way < s.count = omega (arith, c.requires, ap length c.self.view_is, rows_are s.count s.chunks.places.items s.chunks.rows.items) in
    row_read c.self.invariant.chunks s.count c.args.way row below (c.index.ensures ∙ ap (λ (i : ℕ). get_or s.chunks.rows.items i row) c.start.ensures.value)
    ∙ ap (λ (rows : List Row). get_or rows c.args.way row) c.self.view_is
