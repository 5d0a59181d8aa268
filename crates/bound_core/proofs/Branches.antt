-- What is no branch is not taken.
use Rattle.std.proofs.Common.{◌≡◌, ℕ, false, true≢false, refl}
use Rattle.rv_alu.specs.Branch.{is_taken}
use Rattle.rv_alu.specs.Computing.{is_branch}
use Rattle.rv_decode.specs.declared.name.Name.{Name}
use Rattle.rv_decode.specs.declared.name.Name.TheVariants.{Beq, Bne, Blt, Bge, Bltu, Bgeu}

pub not-taken : (name : Name) (a b : ℕ) → is_branch name ≡ false → is_taken name a b ≡ false
unfolding is_taken
not-taken Beq a b other = absurd (true≢false other)
not-taken Bne a b other = absurd (true≢false other)
not-taken Blt a b other = absurd (true≢false other)
not-taken Bge a b other = absurd (true≢false other)
not-taken Bltu a b other = absurd (true≢false other)
not-taken Bgeu a b other = absurd (true≢false other)
not-taken _ a b other = refl
