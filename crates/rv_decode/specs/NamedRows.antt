-- The row of a name in the instruction table.
use Rattle.std.specs.Prelude.{ℕ, Option, option_map, find, unwrap_or}
use Rattle.rv_decode.specs.InstructionTable.{Row, table}
use Rattle.rv_decode.specs.declared.format.Format.{Format}
use Rattle.rv_decode.specs.declared.format.Format.TheVariants.{Whole}
use Rattle.rv_decode.specs.declared.name.Name.{Name}
use denote.Enum.Bare.{sameb}
use Rattle.rv_decode.specs.contracts.name.Name.{the_type}

-- the row of a name
unfoldable pub row_named : Name → Option Row
row_named name = find (λ row. sameb the_type row.name name) table

-- Each name has a row; what stands after `unwrap_or` is never taken.

-- the format of a name's row
unfoldable pub format_of : Name → Format
format_of name = unwrap_or (option_map (λ row. row.format) (row_named name)) Whole

-- the value of the bits that a name's row states
unfoldable pub value_of : Name → ℕ
value_of name = unwrap_or (option_map (λ row. row.value) (row_named name)) 0
