-- The machine that a description is, or the first check that fails.
use Rattle.std.specs.Prelude.{if◌then◌else◌, ℕ, ◌*◌, ◌%◌, ℤ, pos, negsuc, nat_le, nat_lt, Bool, true, false, not, ◌==◌, ◌&&◌, ◌||◌, List, [], ◌∷◌, ◌++◌, length, map, position, codes, Option, Some, None, option_map, is_some, Result, Ok, Err, bytes_eq}
use Rattle.std.specs.List.{list_any}
use Rattle.std.specs.Cmp.Lexicographic.{slice_cmp}
use Rattle.std.specs.Ordering.{nat_cmp, is_lt}
use Rattle.std.specs.Option.{option_or, option_map_or}
use Rattle.toml.specs.Data.{Data, Members, no_members, member, as_integer, as_table}
use Rattle.machine_desc.specs.Keys.{KeyPath, Range as Bounds, Rule, is_table, is_integer, is_share, is_at_least, is_array, Check, Ratio, top, at, version_check, top_checks, memory_checks, l1_checks, l1i_checks, l2_checks, controller_checks, domain_checks, mesh_checks, dram_checks, pipe_checks, sets_ratio}
use Rattle.machine_desc.specs.Text.{document_of, table_at, value_at, integer_at, version_of, natural, array_integers, integers_at, full_name}
use Rattle.machine_desc.specs.declared.errors.BadMachine.{BadMachine}
use Rattle.machine_desc.specs.declared.errors.BadMachine.TheVariants.{Text, Missing, Kind, Range, Unknown, Ratio as BadRatio, Domain}
use Rattle.machine_desc.specs.declared.checks.BadValue.{BadValue}
use Rattle.machine_desc.specs.declared.checks.BadValue.TheVariants.{OtherKind, OutOfRange}
use Rattle.machine_desc.specs.declared.machine.Memory.{Memory}
use Rattle.machine_desc.specs.declared.machine.L1.{L1}
use Rattle.machine_desc.specs.declared.machine.L2.{L2}
use Rattle.machine_desc.specs.declared.machine.Controllers.{Controllers}
use Rattle.machine_desc.specs.declared.machine.Domains.{Domains}
use Rattle.machine_desc.specs.declared.machine.Mesh.{Mesh}
use Rattle.machine_desc.specs.declared.machine.Dram.{Dram}
use Rattle.machine_desc.specs.declared.machine.Pipe.{Pipe}
use Rattle.machine_desc.specs.declared.machine.Machine.{Machine}

-- the versions that there are
abbrev pub is_version : ℕ → Bool
is_version version = nat_le 1 version && nat_le version 3

-- whether a document of version 3 has a table that it may have: something stands at its name
abbrev pub has_optional : Members → (table : List ℕ) → Bool
has_optional document table = (version_of document == 3) && is_some (value_at document (top table))

-- whether the machine of a document has instruction caches: in version 1 it has none, in version 2 it has them, and in
-- version 3 it may
abbrev pub has_l1i : Members → Bool
has_l1i document = (version_of document == 2) || has_optional document (codes "l1i")

-- whether it has a mesh
abbrev pub has_mesh : Members → Bool
has_mesh document = has_optional document (codes "mesh")

-- whether the banks of its memory keep rows open
abbrev pub has_dram : Members → Bool
has_dram document = has_optional document (codes "dram")

-- whether its cores have pipelines
abbrev pub has_pipe : Members → Bool
has_pipe document = has_optional document (codes "pipe")

-- the checks of a table, where it is there to be checked
abbrev pub checks_if : Bool → List Check → List Check
checks_if there checks = if there then checks else []

-- The checks of a document, in order, table by table: those of its version. Of a version that there is not, the version
-- alone is checked, and fails.
unfoldable pub checks_of : Members → List Check
checks_of document =
    if is_version (version_of document)
    then top_checks ++ memory_checks ++ l1_checks ++ checks_if (has_l1i document) l1i_checks ++ l2_checks ++ controller_checks ++ domain_checks
    ++ checks_if (has_mesh document) mesh_checks ++ checks_if (has_dram document) dram_checks ++ checks_if (has_pipe document) pipe_checks
    else version_check ∷ []

-- its ratios, in the order in which they are checked
unfoldable pub ratios_of : Members → List Ratio
ratios_of document =
    if has_l1i document
    then sets_ratio (codes "l1") ∷ sets_ratio (codes "l1i") ∷ sets_ratio (codes "l2") ∷ []
    else sets_ratio (codes "l1") ∷ sets_ratio (codes "l2") ∷ []

-- the integer is in the range
abbrev pub is_in_range : Bounds → ℤ → Bool
is_in_range range (pos n) = (nat_le range.low n && nat_le n range.high) && (n % range.step == 0)
is_in_range range (negsuc n) = false

-- nothing where the test holds, and else what is wrong
abbrev pub unless : {F : Type 0} → Bool → F → Option F
unless true wrong = None
unless false wrong = Some wrong

-- the integer, taken so often, is at most the whole
abbrev pub is_share_of : (times whole : ℕ) → ℤ → Bool
is_share_of times whole z = nat_le (times * natural z) whole

-- the integer is no less than the least
abbrev pub is_no_less : (least : ℕ) → ℤ → Bool
is_no_less least z = nat_le least (natural z)

-- what is wrong with an integer, with the length of an array, and with a value: nothing, its kind or its range
abbrev pub bad_integer : (ℤ → Bool) → Data → Option BadValue
bad_integer is_good d = option_map_or (λ z. unless (is_good z) (OutOfRange z)) (as_integer d) (Some OtherKind)

abbrev pub bad_array : ℕ → Data → Option BadValue
bad_array count d =
    option_map_or (λ zs. unless (length zs == count) (OutOfRange (pos (length zs)))) (array_integers d) (Some OtherKind)

unfoldable pub bad_value : Members → Rule → Data → Option BadValue
bad_value document is_table d = unless (is_some (as_table d)) OtherKind
bad_value document (is_integer range) d = bad_integer (is_in_range range) d
bad_value document (is_share range times whole) d =
    bad_integer (λ z. is_in_range range z && is_share_of (integer_at document times) (integer_at document whole) z) d
bad_value document (is_at_least range least) d =
    bad_integer (λ z. is_in_range range z && is_no_less (integer_at document least) z) d
bad_value document (is_array count) d = bad_array (integer_at document count) d

-- the refusal of a key's value
abbrev pub refusal_of : KeyPath → BadValue → BadMachine
refusal_of key OtherKind = Kind (full_name key)
refusal_of key (OutOfRange z) = Range (full_name key) z

-- what a check finds: its key is missing, or its value is refused
unfoldable pub check_refusal : Members → Check → Option BadMachine
check_refusal document check =
    option_map_or (λ d. option_map (refusal_of check.key) (bad_value document check.rule d)) (value_at document check.key)
    (Some (Missing (full_name check.key)))

-- what the first of the checks finds that finds something
abbrev pub checks_refusal : Members → List Check → Option BadMachine
checks_refusal document [] = None
checks_refusal document (c ∷ cs) = option_or (check_refusal document c) (checks_refusal document cs)

-- the check is of this name in this table
abbrev pub is_named : (table name : List ℕ) → Check → Bool
is_named table name c = bytes_eq c.key.table table && bytes_eq c.key.name name

-- some check is
abbrev pub is_known : List Check → (table name : List ℕ) → Bool
is_known checks table name = list_any (is_named table name) checks

-- the names of a table that no check names
abbrev pub unknown_names : List Check → List ℕ → Members → List (List ℕ)
unknown_names checks table no_members = []
unknown_names checks table (member name d ms) =
    if is_known checks table name then unknown_names checks table ms else name ∷ unknown_names checks table ms

-- the lesser of two names, by their bytes
abbrev pub lesser : List ℕ → List ℕ → List ℕ
lesser m n = if is_lt (slice_cmp nat_cmp n m) then n else m

-- the least of some names
abbrev pub least_name : List (List ℕ) → Option (List ℕ)
least_name [] = None
least_name (n ∷ ns) = Some (option_map_or (lesser n) (least_name ns) n)

-- the least unknown name of a table
abbrev pub members_refusal : List Check → List ℕ → Members → Option BadMachine
members_refusal checks table ms = option_map (λ name. Unknown (full_name (at table name))) (least_name (unknown_names checks table ms))

unfoldable pub table_refusal : Members → List Check → List ℕ → Option BadMachine
table_refusal document checks table = option_map_or (members_refusal checks table) (table_at document table) None

-- the unknown member of the table that a check asks for, if it asks for one
abbrev pub inside_refusal : Members → List Check → Check → Option BadMachine
inside_refusal document checks c = inside c.rule
  where
    inside : Rule → Option BadMachine
    inside is_table = table_refusal document checks c.key.name
    inside _ = None

abbrev pub tables_refusal : Members → List Check → List Check → Option BadMachine
tables_refusal document checks [] = None
tables_refusal document checks (c ∷ cs) = option_or (inside_refusal document checks c) (tables_refusal document checks cs)

-- the least unknown key of the top level, and then of the tables in the order of their checks
abbrev pub names_refusal : Members → List Check → Option BadMachine
names_refusal document checks = option_or (table_refusal document checks []) (tables_refusal document checks checks)

-- the first number that is no multiple of the one that it has to be a multiple of
abbrev pub ratio_refusal : Members → Ratio → Option BadMachine
ratio_refusal document r = unless (integer_at document r.key % integer_at document r.divisor == 0) (BadRatio (full_name r.key))

abbrev pub ratios_refusal : Members → List Ratio → Option BadMachine
ratios_refusal document [] = None
ratios_refusal document (r ∷ rs) = option_or (ratio_refusal document r) (ratios_refusal document rs)

-- the domains of all components as they are written: of the banks, and then of the controllers
unfoldable pub written_domains : Members → List ℤ
written_domains document =
    integers_at document (at (codes "domains") (codes "banks"))
    ++ integers_at document (at (codes "domains") (codes "controllers"))

-- the integer is a number from 0 to below the count
abbrev pub is_below : ℕ → ℤ → Bool
is_below count (pos n) = nat_lt n count
is_below count (negsuc n) = false

-- the least component whose domain is not there
unfoldable pub domain_refusal : Members → Option BadMachine
domain_refusal document =
    let count = integer_at document (at (codes "domains") (codes "count")) in
    option_map Domain (position (λ z. not (is_below count z)) (written_domains document))

-- what the first check finds that finds something
unfoldable pub document_refusal : Members → Option BadMachine
document_refusal document =
    let checks = checks_of document in
    option_or (checks_refusal document checks)
    (option_or (names_refusal document checks) (option_or (ratios_refusal document (ratios_of document)) (domain_refusal document)))

unfoldable pub memory_of : Members → Memory
memory_of document = record {
  base = integer_at document (at (codes "memory") (codes "base"));
  size = integer_at document (at (codes "memory") (codes "size"));
  stack = integer_at document (at (codes "memory") (codes "stack"));
}

-- the cache with this table
unfoldable pub own_cache_of : Members → (table : List ℕ) → L1
own_cache_of document table = record {
  sets = integer_at document (at table (codes "sets"));
  ways = integer_at document (at table (codes "ways"));
  latency = integer_at document (at table (codes "latency"));
}

-- the data cache, and the instruction cache where there is one
abbrev pub l1_of : Members → L1
l1_of document = own_cache_of document (codes "l1")

unfoldable pub l1i_of : Members → Option L1
l1i_of document = if has_l1i document then Some (own_cache_of document (codes "l1i")) else None

unfoldable pub l2_of : Members → L2
l2_of document = record {
  banks = integer_at document (at (codes "l2") (codes "banks"));
  sets = integer_at document (at (codes "l2") (codes "sets"));
  ways = integer_at document (at (codes "l2") (codes "ways"));
  latency = integer_at document (at (codes "l2") (codes "latency"));
  remote = integer_at document (at (codes "l2") (codes "remote"));
  fill = integer_at document (at (codes "l2") (codes "fill"));
  occupancy = integer_at document (at (codes "l2") (codes "occupancy"));
}

unfoldable pub controllers_of : Members → Controllers
controllers_of document = record {
  count = integer_at document (at (codes "controllers") (codes "count"));
  read = integer_at document (at (codes "controllers") (codes "read"));
  write = integer_at document (at (codes "controllers") (codes "write"));
  occupancy = integer_at document (at (codes "controllers") (codes "occupancy"));
}

unfoldable pub domains_of : Members → Domains
domains_of document = record {
  count = integer_at document (at (codes "domains") (codes "count"));
  banks = map natural (integers_at document (at (codes "domains") (codes "banks")));
  controllers = map natural (integers_at document (at (codes "domains") (codes "controllers")));
}

unfoldable pub mesh_numbers : Members → Mesh
mesh_numbers document = record {
  width = integer_at document (at (codes "mesh") (codes "width"));
  height = integer_at document (at (codes "mesh") (codes "height"));
  hop = integer_at document (at (codes "mesh") (codes "hop"));
  occupancy = integer_at document (at (codes "mesh") (codes "occupancy"));
}

unfoldable pub dram_numbers : Members → Dram
dram_numbers document = record {
  banks = integer_at document (at (codes "dram") (codes "banks"));
  row_lines = integer_at document (at (codes "dram") (codes "row_lines"));
  hit = integer_at document (at (codes "dram") (codes "hit"));
  closed = integer_at document (at (codes "dram") (codes "closed"));
  conflict = integer_at document (at (codes "dram") (codes "conflict"));
}

unfoldable pub pipe_numbers : Members → Pipe
pipe_numbers document = record {
  mul = integer_at document (at (codes "pipe") (codes "mul"));
  div = integer_at document (at (codes "pipe") (codes "div"));
  entries = integer_at document (at (codes "pipe") (codes "entries"));
  penalty = integer_at document (at (codes "pipe") (codes "penalty"));
}

-- the mesh, the open rows and the pipelines, where there are any
unfoldable pub mesh_of : Members → Option Mesh
mesh_of document = if has_mesh document then Some (mesh_numbers document) else None

unfoldable pub dram_of : Members → Option Dram
dram_of document = if has_dram document then Some (dram_numbers document) else None

unfoldable pub pipe_of : Members → Option Pipe
pipe_of document = if has_pipe document then Some (pipe_numbers document) else None

-- the machine with the numbers of a document
unfoldable pub numbers_of : Members → Machine
numbers_of document = record {
  version = integer_at document (top (codes "version"));
  cores = integer_at document (top (codes "cores"));
  interval = integer_at document (top (codes "interval"));
  intervals = integer_at document (top (codes "intervals"));
  memory = memory_of document;
  l1 = l1_of document;
  l1i = l1i_of document;
  l2 = l2_of document;
  controllers = controllers_of document;
  domains = domains_of document;
  mesh = mesh_of document;
  dram = dram_of document;
  pipe = pipe_of document;
}

-- the machine of a document, or the first check that fails
unfoldable pub machine_of_document : Members → Result Machine BadMachine
machine_of_document document = option_map_or Err (document_refusal document) (Ok (numbers_of document))

-- the machine of a text, or the first check that fails
unfoldable pub machine_of : List ℕ → Result Machine BadMachine
machine_of text = option_map_or machine_of_document (document_of text) (Err Text)
