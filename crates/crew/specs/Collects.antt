-- What may become of a job that was sent.
use Rattle.std.specs.Prelude.{◌≡◌, ⊤}
use Rattle.crew.specs.declared.asker.Collected.{Collected}
use Rattle.crew.specs.declared.asker.Collected.TheVariants.{Answered, Untouched}

-- Its answer, or the job itself, which may be asked for.
abbrev pub IsCollected : {J : Type 0} → (can : J → Type 0) → (done : J → J → Type 0) → (sent : J) → Collected J → Type 0
IsCollected can done sent (Answered answer) = done sent answer
IsCollected can done sent (Untouched job) = (job ≡ sent) × can job

-- a job that came back may be done
abbrev pub MayFinish : {J : Type 0} → (can : J → Type 0) → Collected J → Type 0
MayFinish can (Answered answer) = ⊤
MayFinish can (Untouched job) = can job
