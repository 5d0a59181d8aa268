-- Jobs that were done.
use Rattle.std.specs.Prelude.{◌≡◌, ◌<◌, ℕ, List, length, slice_index_or}

-- each of these jobs has its answer at its own place
pub record AreDone {J : Type 0} (done : J → J → Type 0) (jobs answers : List J) : Type 0 where
  pub count : length answers ≡ length jobs
  pub each : (i : ℕ) (d : J) → i < length jobs → done (slice_index_or jobs i d) (slice_index_or answers i d)
