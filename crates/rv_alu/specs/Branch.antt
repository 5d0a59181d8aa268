-- When a conditional branch is taken (RISC-V Unprivileged ISA manual, "Conditional Branches").
use Rattle.std.specs.Prelude.{ℕ, Bool, false, not, ◌==◌, nat_lt, nat_le, int_lt, int_le}
use Rattle.std.specs.Int.{w64, cast_signed}
use Rattle.rv_decode.specs.declared.name.Name.{Name}
use Rattle.rv_decode.specs.declared.name.Name.TheVariants.{Beq, Bne, Blt, Bge, Bltu, Bgeu}

unfoldable pub is_taken : Name → ℕ → ℕ → Bool
is_taken Beq a b = a == b
is_taken Bne a b = not (a == b)
is_taken Blt a b = int_lt (cast_signed w64 a) (cast_signed w64 b)
is_taken Bge a b = int_le (cast_signed w64 b) (cast_signed w64 a)
is_taken Bltu a b = nat_lt a b
is_taken Bgeu a b = nat_le b a
is_taken _ a b = false
