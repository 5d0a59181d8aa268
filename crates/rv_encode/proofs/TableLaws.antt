-- What the proofs use of the instruction table and of masks: laws of rv_decode.
use Rattle.std.specs.Prelude.{◌≡◌, ℕ, ◌+◌, ◌*◌, ◌^◌, ◌≤◌, bit_and, Some, Contains, IsTrue}
use Rattle.rv_decode.specs.InstructionTable.{Row, table, matches, by_row, decoded, instruction}
use Rattle.rv_decode.specs.InstructionWord.{bits_of, ones}
use Rattle.rv_decode.specs.Matching.{IsByRow}
use Rattle.rv_decode.specs.NamedRows.{format_of, value_of}
use Rattle.rv_decode.specs.declared.format.Format.{Format}
use Rattle.rv_decode.specs.declared.inst.Inst.{Inst}
use Rattle.rv_decode.specs.declared.name.Name.{Name}

-- words, rows and names
pub record TableLaws : Type 0 where
  pub matching : (word : ℕ) (row : Row) → Contains table row → IsTrue (matches row word) → decoded word ≡ Some (by_row row word)
  pub matched : (word : ℕ) (i : Inst) → decoded word ≡ Some i → IsByRow word i
  pub listed : (row : Row) → Contains table row → (value_of row.name ≡ row.value) × (format_of row.name ≡ row.format)
  pub each : (name : Name) → (row : Row) × Contains table row × (row.name ≡ name) × (row.value ≡ value_of name) × (row.format ≡ format_of name)
  pub kept : (format : Format) (name : Name) (word : ℕ) → (instruction format name word).name ≡ name

-- words under masks
pub record MaskLaws : Type 0 where
  pub bits : (high low word : ℕ) → low ≤ high → bit_and word (ones high low) ≡ bits_of high low word * 2 ^ low
  pub sums : (mask other word : ℕ) → bit_and mask other ≡ 0 → bit_and word (mask + other) ≡ bit_and word mask + bit_and word other
