-- How the bytes of a home's lines are laid out: by chunks of 64 lines.
use Rattle.std.specs.Prelude.{ℕ, ◌*◌, ◌≤◌, List, length}
use Rattle.home.specs.Chunks.{ArePlaced, items_in}

abbrev pub bytes_in : (size : ℕ) → (places bytes : List ℕ) → List ℕ
bytes_in size places bytes = items_in 0 4096 size places bytes

-- every byte is of a chunk
pub record AreLines (size : ℕ) (places bytes : List ℕ) (capacity : ℕ) : Type 0 where
  pub all : size ≤ 4096 * length places
  pub chunks : ArePlaced 0 4096 places bytes capacity
