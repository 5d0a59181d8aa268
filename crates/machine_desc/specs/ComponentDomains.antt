-- The domains of a machine's components, by their numbers.
use Rattle.std.specs.Prelude.{ℕ, ◌/◌, ◌%◌, List, ◌++◌, map, slice_index}
use Rattle.std.specs.List.{range_with_len}
use Rattle.machine_desc.specs.declared.machine.Machine.{Machine}
use Rattle.machine_desc.specs.Components.{links_of}

-- a link is in the domain of the bank that has the number of the node where it begins, modulo the number of banks
abbrev pub domain_of_link : Machine → (link : ℕ) → ℕ
domain_of_link m link = slice_index m.domains.banks (link / 4 % m.l2.banks)

-- the domain of each component
abbrev pub component_domains : Machine → List ℕ
component_domains m = m.domains.banks ++ m.domains.controllers ++ map (domain_of_link m) (range_with_len 0 (links_of m))
