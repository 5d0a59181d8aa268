-- The text of callgrind.out, in the format that callgrind_annotate and KCachegrind read.
use Rattle.std.specs.Prelude.{ℕ, ◌+◌, ◌==◌, if◌then◌else◌, List, [], ◌∷◌, ◌++◌, map, replicate, codes, Option, None, Some}
use Rattle.std.specs.Fmt.{decimal}
use Rattle.std.specs.List.{fold}
use Rattle.std.specs.Option.{option_eq}
use Rattle.profile_rows.specs.declared.address_row.AddressRow.{AddressRow}
use Rattle.profile_rows.specs.Tallies.{capped_wide}
use Rattle.profile_files.specs.Numbers.{in_hexadecimal, marked}

-- what comes first
unfoldable pub callgrind_head : List ℕ
callgrind_head =
    codes "# callgrind format\nversion: 1\ncreator: zprof\npositions: instr\n"
    ++ codes "events: Ir Loads Stores Atomics Fetches Hits Upgrades L2hits Misses Cycles Waited\n\n"

-- the numbers of an instruction, in the order of the events
unfoldable pub columns : AddressRow → List ℕ
columns row =
    row.instructions ∷ row.tally.loads ∷ row.tally.stores ∷ row.tally.atomics ∷ row.tally.fetches
    ∷ row.tally.hits ∷ row.tally.upgrades ∷ row.tally.l2hits ∷ row.tally.misses ∷ row.tally.cycles ∷ row.tally.waited ∷ []

-- the line of an instruction
unfoldable pub address_line : AddressRow → List ℕ
address_line row = in_hexadecimal row.pc ++ (marked (codes " ") (columns row) ++ codes "\n")

-- who executed the instructions that follow: a core, or all cores; no file and no function is known
unfoldable pub heading : (core : Option ℕ) → List ℕ
heading None = codes "ob=cores\nfl=???\nfn=???\n"
heading (Some core) = codes "ob=core " ++ (decimal core ++ codes "\nfl=???\nfn=???\n")

-- the heading of the first row, and of each row whose core is another one than that of the row before
unfoldable pub new_heading : (before : Option (Option ℕ)) → (core : Option ℕ) → List ℕ
new_heading before core = if option_eq (option_eq ◌==◌) before (Some core) then [] else heading core

-- the lines of rows, behind a row of this core, if there is one
abbrev pub address_lines : (before : Option (Option ℕ)) → List AddressRow → List ℕ
address_lines before [] = []
address_lines before (row ∷ rows) = new_heading before row.core ++ (address_line row ++ address_lines (Some row.core) rows)

-- two lists of numbers, added one by one
abbrev pub added : List ℕ → List ℕ → List ℕ
added [] ys = []
added (x ∷ xs) [] = []
added (x ∷ xs) (y ∷ ys) = (x + y) ∷ added xs ys

-- the sums of the columns
abbrev pub sums : List AddressRow → List ℕ
sums rows = fold (λ so_far row. added so_far (columns row)) (replicate 11 0) rows

-- the last line: the sums, each as far as 128 bits go
abbrev pub totals_line : List AddressRow → List ℕ
totals_line rows = codes "totals:" ++ (marked (codes " ") (map capped_wide (sums rows)) ++ codes "\n")

unfoldable pub callgrind_text : List AddressRow → List ℕ
callgrind_text rows = callgrind_head ++ (address_lines None rows ++ totals_line rows)
