-- The bytes of all lines once those of an access were added.
use Rattle.std.proofs.Common.{◌≡◌, ◌≢◌, ℕ, ◌<◌, ◌==◌, ◌&&◌, ◌||◌, Bool, true, false, ◌⊎◌, inl, inr, ◌∙◌, ap, ap₂, refl}
use Rattle.std.proofs.lemmas.Bool.Decides.{eqb_tells}
use Rattle.sparse_table.specs.ByCore.{with_one}
use Rattle.line_use.specs.declared.line_bytes.LineBytes.{LineBytes}
use Rattle.line_use.specs.Bytes.{HasBits, has_bit}
use Rattle.line_use.specs.Right.{AllUses}
use Rattle.line_use.proofs.StepsMore.{or_comm}

module _ (core line : ℕ) (old new : AllUses) (before more after : LineBytes) (before_is : before ≡ old core line)
    (sets : (c n : ℕ) → new c n ≡ with_one core line after old c n) where
  -- of the bytes that were read, or that were written
  pub added : (bytes : LineBytes → ℕ) (so : ℕ → Bool) → HasBits (bytes more) so → ((i : ℕ) → has_bit (bytes after) i ≡ (has_bit (bytes before) i || has_bit (bytes more) i))
      → (c n i : ℕ) → i < 64 → has_bit (bytes (new c n)) i ≡ ((core == c && (line == n && so i)) || has_bit (bytes (old c n)) i)
  added bytes so has both c n i within = ap (λ (b : LineBytes). has_bit (bytes b) i) (sets c n) ∙ by (eqb_tells core c) (eqb_tells line n)
    where
      by : ((core == c) ≡ true × (core ≡ c)) ⊎ ((core == c) ≡ false × (core ≢ c)) → ((line == n) ≡ true × (line ≡ n)) ⊎ ((line == n) ≡ false × (line ≢ n))
          → has_bit (bytes (with_one core line after old c n)) i ≡ ((core == c && (line == n && so i)) || has_bit (bytes (old c n)) i)
      by (inl (by_core, same)) (inl (here, at)) =
          let was : before ≡ old c n = before_is ∙ ap₂ old same at in
          let all : has_bit (bytes after) i ≡ (so i || has_bit (bytes (old c n)) i) =
          both i ∙ ap₂ (λ (a b : Bool). a || b) (ap (λ (b : LineBytes). has_bit (bytes b) i) was) (has i within) ∙ or_comm (has_bit (bytes (old c n)) i) (so i)
          in
          rw (by_core, here) all
      by (inl (by_core, same)) (inr (not_here, other)) = rw (by_core, not_here) refl
      by (inr (no_core, other)) at = rw no_core refl
