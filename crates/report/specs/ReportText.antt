-- The text of the report. Numbers are decimal, and each line ends with one newline.
use Rattle.std.specs.Prelude.{ℕ, zero, suc, ◌+◌, ◌/◌, ◌%◌, max, ◌==◌, nat_lt, nat_le, Bool, not, ◌&&◌, if◌then◌else◌, List, [], ◌∷◌, ◌++◌, length, take, drop, codes, Option, Some, None}
use Rattle.std.specs.List.{zip}
use Rattle.std.specs.Fmt.{decimal}
use Rattle.rv_core.specs.declared.why.Why.{Why}
use Rattle.rv_core.specs.declared.why.Why.TheVariants.{Exit, Illegal, Misaligned, AtomicAlign, Fetch, Access, Break}
use Rattle.machine_desc.specs.declared.machine.Machine.{Machine}
use Rattle.reference.specs.TimedCore.{TimedCore}
use Rattle.stats.specs.declared.counts.CoreCount.{CoreCount}
use Rattle.stats.specs.declared.counts.CompCount.{CompCount}
use Rattle.stats.specs.Counts.{Counts}

-- a hexadecimal digit, in lower case
abbrev pub hex_digit : ℕ → ℕ
hex_digit n = if nat_lt n 10 then 48 + n else 87 + n

-- a number in so many hexadecimal digits
abbrev pub hexadecimal : (digits number : ℕ) → List ℕ
hexadecimal zero n = []
hexadecimal (suc digits) n = hexadecimal digits (n / 16) ++ hex_digit (n % 16) ∷ []

-- a byte that prints as itself: from space to tilde, without the double quote and the backslash
abbrev pub is_printable : ℕ → Bool
is_printable b = nat_le 0x20 b && nat_le b 0x7E && not (b == 0x22) && not (b == 0x5C)

-- a byte as it is printed
unfoldable pub printed_byte : ℕ → List ℕ
printed_byte b = if is_printable b then b ∷ [] else codes "\\x" ++ hexadecimal 2 b

-- bytes as they are printed, one after the other
abbrev pub printed : List ℕ → List ℕ
printed [] = []
printed (b ∷ bs) = printed_byte b ++ printed bs

-- why a core halted
unfoldable pub halt_text : Option Why → List ℕ
halt_text None = codes "running"
halt_text (Some (Exit number)) = codes "exit " ++ decimal number
halt_text (Some (Illegal word)) = codes "illegal " ++ hexadecimal 8 word
halt_text (Some (Misaligned target)) = codes "misaligned " ++ hexadecimal 16 target
halt_text (Some (AtomicAlign addr)) = codes "atomic " ++ hexadecimal 16 addr
halt_text (Some (Fetch addr)) = codes "fetch " ++ hexadecimal 16 addr
halt_text (Some (Access addr)) = codes "access " ++ hexadecimal 16 addr
halt_text (Some Break) = codes "break"

-- numbers, each behind its label
abbrev pub labelled : List (List ℕ × ℕ) → List ℕ
labelled [] = []
labelled (field ∷ fields) = field.0 ++ (decimal field.1 ++ labelled fields)

-- whether the reports of a version of the machine's description count fetches: from version 2 on
abbrev pub counts_fetches : (version : ℕ) → Bool
counts_fetches version = nat_le 2 version

-- how many fetches, where they are counted
abbrev pub fetches_text : (counted : Bool) → (fetches : ℕ) → List ℕ
fetches_text counted fetches = if counted then labelled ((codes " fetches ", fetches) ∷ []) else []

-- the counts of a core
unfoldable pub count_text : (version : ℕ) → CoreCount → List ℕ
count_text version c =
    labelled ((codes " delay ", c.delay) ∷ (codes " loads ", c.loads) ∷ (codes " stores ", c.stores) ∷ (codes " atomics ", c.atomics) ∷ [])
    ++ (fetches_text (counts_fetches version) c.fetches
    ++ labelled ((codes " hits ", c.hits) ∷ (codes " upgrades ", c.upgrades) ∷ (codes " l2hits ", c.l2hits) ∷ (codes " misses ", c.misses) ∷ []))

-- the first line of a core
unfoldable pub core_line : (version : ℕ) → ℕ → TimedCore → CoreCount → List ℕ
core_line version n c count =
    labelled ((codes "core ", n) ∷ (codes " instructions ", c.instructions) ∷ (codes " cycles ", c.clock) ∷ [])
    ++ (count_text version count ++ (codes " halt " ++ (halt_text c.core.halted ++ codes "\n")))

-- the second line of a core: how many bytes it wrote on its console, and the bytes
unfoldable pub console_line : ℕ → List ℕ → List ℕ
console_line n console =
    labelled ((codes "core ", n) ∷ (codes " console ", length console) ∷ []) ++ (codes " \"" ++ (printed console ++ codes "\"\n"))

-- the two lines of a core, with what was counted of it
abbrev pub core_lines : (version : ℕ) → ℕ → TimedCore × CoreCount → List ℕ
core_lines version n (c, count) = core_line version n c count ++ console_line n c.console

-- the line of a bank, a controller or a link
unfoldable pub component_line : List ℕ → ℕ → CompCount → List ℕ
component_line kind n c =
    kind ++ (labelled ((codes " ", n) ∷ (codes " events ", c.events) ∷ (codes " waited ", c.waited) ∷ (codes " free ", c.free) ∷ []) ++ codes "\n")

-- the lines of all items, which are numbered from n on
abbrev pub numbered_lines : {A : Type 0} → (ℕ → A → List ℕ) → ℕ → List A → List ℕ
numbered_lines lines n [] = []
numbered_lines lines n (x ∷ xs) = lines n x ++ numbered_lines lines (n + 1) xs

-- the instructions of all cores
abbrev pub all_instructions : List TimedCore → ℕ
all_instructions [] = 0
all_instructions (c ∷ cs) = c.instructions + all_instructions cs

-- the greatest clock
abbrev pub greatest_clock : List TimedCore → ℕ
greatest_clock [] = 0
greatest_clock (c ∷ cs) = max c.clock (greatest_clock cs)

-- The seven lines of the summary, but for the last newline. The first has the version of the machine's description.
unfoldable pub summary : (version cores intervals instructions cycles accesses events : ℕ) → List ℕ
summary version cores intervals instructions cycles accesses events = labelled (
    (codes "zsim report ", version) ∷ (codes "\ncores ", cores) ∷ (codes "\nintervals ", intervals) ∷ (codes "\ninstructions ", instructions)
    ∷ (codes "\ncycles ", cycles) ∷ (codes "\naccesses ", accesses) ∷ (codes "\nevents ", events) ∷ [])

-- the summary of a run, from what was counted, its cores at the end, and how many intervals were run
abbrev pub summary_of : (version : ℕ) → Counts → List TimedCore → (intervals : ℕ) → List ℕ
summary_of version counts cores intervals =
    summary version (length cores) intervals (all_instructions cores) (greatest_clock cores) counts.accesses counts.events

-- what follows the summary: the cores, and of the components first the banks, then the controllers, and then the links
abbrev pub details : Machine → Counts → List TimedCore → List ℕ
details machine counts cores =
    numbered_lines (core_lines machine.version) 0 (zip cores counts.core_counts)
    ++ numbered_lines (component_line (codes "bank")) 0 (take machine.l2.banks counts.comp_counts)
    ++ numbered_lines (component_line (codes "controller")) 0 (take machine.controllers.count (drop machine.l2.banks counts.comp_counts))
    ++ numbered_lines (component_line (codes "link")) 0 (drop machine.controllers.count (drop machine.l2.banks counts.comp_counts))

-- the report: the summary, and then the rest, unless it is to be brief
abbrev pub report_text : Machine → Counts → List TimedCore → (intervals : ℕ) → (brief : Bool) → List ℕ
report_text machine counts cores intervals brief =
    summary_of machine.version counts cores intervals ++ codes "\n" ++ (if brief then [] else details machine counts cores)
