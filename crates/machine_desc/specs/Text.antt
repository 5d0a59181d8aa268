-- What stands at the keys of a TOML document.
use Rattle.std.specs.Prelude.{◌==◌, length, ℕ, ℤ, pos, negsuc, List, [], ◌∷◌, ◌++◌, Option, Some, None, option_and_then, option_map, unwrap_or, codes, if◌then◌else◌}
use Rattle.std.specs.Option.{option_map_or}
use Rattle.std.specs.Str.{is_utf8}
use Rattle.toml.specs.Data.{Data, Items, no_items, item, Members, get_member, as_integer, as_array, as_table}
use Rattle.toml.specs.Parse.{parse_document}
use Rattle.machine_desc.specs.Keys.{KeyPath, top}

-- the document that the bytes are, if they are UTF-8 and TOML
unfoldable pub document_of : List ℕ → Option Members
document_of text = if is_utf8 text then parse_document text else None

-- the table of a name: the document itself where the name is empty
unfoldable pub table_at : Members → List ℕ → Option Members
table_at document name =
    if length name == 0 then Some document else option_and_then as_table (get_member name document)

-- the value at a key
unfoldable pub value_at : Members → KeyPath → Option Data
value_at document key = option_and_then (get_member key.name) (table_at document key.table)

-- an integer as a natural number: 0 where it is negative
abbrev pub natural : ℤ → ℕ
natural (pos n) = n
natural (negsuc n) = 0

-- a value as a natural number: 0 where it is no integer
abbrev pub natural_of : Data → ℕ
natural_of d = option_map_or natural (as_integer d) 0

-- the integer at a key, as a natural number: 0 where no integer stands there
unfoldable pub integer_at : Members → KeyPath → ℕ
integer_at document key = option_map_or natural_of (value_at document key) 0

-- the version that a document says it is of
abbrev pub version_of : Members → ℕ
version_of document = integer_at document (top (codes "version"))

-- the items, if all are integers
abbrev pub integers_of : Items → Option (List ℤ)
integers_of no_items = Some []
integers_of (item d ds) = option_and_then (λ z. option_map (λ zs. z ∷ zs) (integers_of ds)) (as_integer d)

-- the integers of an array
abbrev pub array_integers : Data → Option (List ℤ)
array_integers d = option_and_then integers_of (as_array d)

-- the integers at a key: none where no array of integers stands there
unfoldable pub integers_at : Members → KeyPath → List ℤ
integers_at document key = unwrap_or (option_and_then array_integers (value_at document key)) []

-- the name of a key as it stands in a refusal
unfoldable pub full_name : KeyPath → List ℕ
full_name key = if length key.table == 0 then key.name else key.table ++ codes "." ++ key.name
