-- The line of an instruction, and its fetch.
use Rattle.std.proofs.Common.{◌≡◌, ◌+◌, ◌-◌, ◌*◌, ◌/◌, ◌%◌, ◌<◌, ◌≤◌, ◌==◌, ◌≢◌, ℕ, true, false, Some, IsTrue, refl, sym, arith}
use Rattle.std.specs.Prelude.{is_some}
use Rattle.std.proofs.lemmas.Bool.{ne_eqb}
use Rattle.zs_num.specs.Request.{line_at}
use Rattle.elf_load.specs.MemoryImage.{MemoryImage, fetched_word}
use Rattle.rv_core.specs.declared.memory_range.MemoryRange.{MemoryRange}
use Rattle.rv_core.specs.Accesses.{is_in_memory}
use Rattle.rv_core.specs.Hits.{Fetches}
use Rattle.rv_core.specs.Step.{needs_fetch}

-- from a place on to the end of its line all places are of one line
pub same_line : (first place ip : ℕ) → first % 4 ≡ 0 → place ≤ ip → ip < place + (64 - (first + 4 * place) % 64) / 4 → line_at (first + 4 * ip) ≡ line_at (first + 4 * place)
same_line first place ip aligned begins inside = omega arith

-- an instruction of another line than the latest has to be fetched
pub has_to_fetch : (image : MemoryImage) (memory : MemoryRange) (latest pc : ℕ) → (latest == line_at pc) ≡ false → IsTrue (is_some (fetched_word image.segments pc)) → is_in_memory memory pc 4 ≡ true
    → Fetches image memory (Some latest) pc
unfolding needs_fetch
has_to_fetch image memory latest pc other found inside core same fetching line at =
    rw (same, fetching, line, at, other, found, inside) refl

-- the line of such an instruction, as a test finds it
pub is_other : (latest pc : ℕ) → line_at pc ≢ latest → (latest == line_at pc) ≡ false
is_other latest pc other = ne_eqb latest (line_at pc) (λ same. other (sym same))
