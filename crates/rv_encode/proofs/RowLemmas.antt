-- The rows of the code are the table's, by their names.
use Rattle.std.proofs.Common.{◌≡◌, ℕ, get_or, refl}
use denote.Enum.Declared.{tag_of}
use Rattle.rv_decode.specs.contracts.name.Name.{the_type}
use Rattle.rv_decode.specs.declared.format.Format.{Format}
use Rattle.rv_decode.specs.declared.name.Name.{Name}
use Rattle.rv_decode.specs.declared.name.Name.TheVariants.{Lui}
use Rattle.rv_decode.specs.InstructionTable.{table}
use Rattle.rv_decode.specs.NamedRows.{value_of, format_of, row_named}
use Rattle.rv_encode.specs.declared.rows.TheConstants.{ROWS}

pub row_at : (name : Name) (d : ℕ × Format) → get_or ROWS (tag_of the_type name) d ≡ (value_of name, format_of name)
unfolding value_of format_of row_named table
row_at Lui d = refl
row_at _ d = refl
