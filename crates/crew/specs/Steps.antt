-- What each step at a post tells the seat that makes it.
use Rattle.std.specs.Prelude.{◌≡◌, ◌≢◌, ℕ, [], ◌∷◌, Option, Some, None}
use Rattle.atomic_table.specs.Table.{Me, Step}
use Rattle.crew.specs.declared.view.Stage.TheVariants.{Free, Busy, Ended}
use Rattle.crew.specs.declared.view.View.{View}
use Rattle.crew.specs.declared.view.View.TheVariants.{Alone, Asks, Works}

module _ {J : Type 0} where
  -- Of a step, the seat before, the number found and the seat after.

  -- the seat has the empty slot
  abbrev pub began : Step (Option J) → Me (Option J) (View J) → ℕ → Me (Option J) (View J) → Type 0
  began step before found after = after ≡ (Alone, (0, None) ∷ [])

  -- the job in hand was sent
  abbrev pub sent : Step (Option J) → Me (Option J) (View J) → ℕ → Me (Option J) (View J) → Type 0
  sent step before found after = (job : J) → before.1 ≡ (0, Some job) ∷ [] → after ≡ (Asks (Busy job), [])

  -- where a job lay there it is in hand; where the asker had ended, that is known
  abbrev pub picked : (can : J → Type 0) → Step (Option J) → Me (Option J) (View J) → ℕ → Me (Option J) (View J) → Type 0
  picked can step before found after =
      (found ≡ 1 → (job : J) × (after ≡ (Works (Busy job), (0, Some job) ∷ [])) × can job)
      × (found ≡ 4 → after ≡ (Works Ended, []))
      × (found ≢ 1 → found ≢ 4 → after ≡ before)

  -- the answer in hand was given
  abbrev pub answered : Step (Option J) → Me (Option J) (View J) → ℕ → Me (Option J) (View J) → Type 0
  answered step before found after = after ≡ (Works Free, [])

  -- where an answer lay there it is in hand
  abbrev pub collected : (done : J → J → Type 0) → Step (Option J) → Me (Option J) (View J) → ℕ → Me (Option J) (View J) → Type 0
  collected done step before found after =
      (found ≡ 3 → (job : J) → before.0 ≡ Asks (Busy job) → (answer : J) × (after ≡ (Asks Free, (0, Some answer) ∷ [])) × done job answer)
      × (found ≢ 3 → after ≡ before)

  -- where the job lay there it is in hand again
  abbrev pub taken_back : (can : J → Type 0) → Step (Option J) → Me (Option J) (View J) → ℕ → Me (Option J) (View J) → Type 0
  taken_back can step before found after =
      (found ≡ 1 → (job : J) → before.0 ≡ Asks (Busy job) → (after ≡ (Asks Free, (0, Some job) ∷ [])) × can job)
      × (found ≢ 1 → after ≡ before)

  -- no job follows
  abbrev pub ended : Step (Option J) → Me (Option J) (View J) → ℕ → Me (Option J) (View J) → Type 0
  ended step before found after = after ≡ (Asks Ended, before.1)

  abbrev pub nothing : Step (Option J) → Me (Option J) (View J) → ℕ → Me (Option J) (View J) → Type 0
  nothing step before found after = after ≡ before

  -- the two seats at first
  abbrev pub asks_on : View J → View J
  asks_on v = Asks Free

  abbrev pub works : View J → View J
  works v = Works Free
