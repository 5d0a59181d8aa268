-- The number that an atomic read-modify-write leaves in memory (RISC-V Unprivileged ISA manual,
-- "Atomic Memory Operations" of the "A" extension).
use Rattle.std.specs.Prelude.{ℕ, ◌==◌, if◌then◌else◌, min, max, bit_and, bit_or, bit_xor}
use Rattle.std.specs.Int.{Width, w32, w64, cast_signed, int_min, int_max}
use Rattle.zs_num.specs.declared.request.AmoOp.{AmoOp}
use Rattle.zs_num.specs.declared.request.AmoOp.TheVariants.{Swap, Add, Xor, And, Or, Min, Max, Minu, Maxu}
use Rattle.rv_alu.specs.Operations.{residue, sum, low_word}

-- on numbers of w bits: `old` was in memory, and `value` is the operand
abbrev pub updated : Width → AmoOp → ℕ → ℕ → ℕ
updated w Swap old value = value
updated w Add old value = sum w old value
updated w Xor old value = bit_xor old value
updated w And old value = bit_and old value
updated w Or old value = bit_or old value
updated w Min old value = residue w (int_min (cast_signed w old) (cast_signed w value))
updated w Max old value = residue w (int_max (cast_signed w old) (cast_signed w value))
updated w Minu old value = min old value
updated w Maxu old value = max old value

-- at a width in bytes, 4 or 8: the low bytes of both numbers count
unfoldable pub new_number : AmoOp → ℕ → ℕ → ℕ → ℕ
new_number op width old value =
    if width == 4 then updated w32 op (low_word old) (low_word value) else updated w64 op old value
