-- Numbers of the files.
use Rattle.std.specs.Prelude.{ℕ, false, List, [], ◌∷◌, ◌++◌, codes}
use Rattle.std.specs.Fmt.{decimal, digits}
use Rattle.profile_rows.specs.declared.tally.Tally.{Tally}

-- a number in hexadecimal digits, in lower case and without leading zeros
abbrev pub in_hexadecimal : ℕ → List ℕ
in_hexadecimal n = codes "0x" ++ digits 16 false n

-- numbers, each behind a mark
abbrev pub marked : (mark : List ℕ) → List ℕ → List ℕ
marked mark [] = []
marked mark (n ∷ ns) = mark ++ (decimal n ++ marked mark ns)

-- how many accesses there were of each kind, and how many had each outcome
unfoldable pub accesses : Tally → List ℕ
accesses t = t.loads ∷ t.stores ∷ t.atomics ∷ t.fetches ∷ t.hits ∷ t.upgrades ∷ t.l2hits ∷ t.misses ∷ []
