-- What the asker and the worker of a post know, and what each call leaves.
use Rattle.std.specs.Prelude.{◌≡◌, [], ◌∷◌, Option, None}
use Rattle.atomic_table.specs.Seated.{TableId}
use Rattle.atomic_table.specs.Table.{Me}
use Rattle.crew.specs.declared.view.Stage.{Stage}
use Rattle.crew.specs.declared.view.Stage.TheVariants.{Free, Busy, Ended}
use Rattle.crew.specs.declared.view.View.{View}
use Rattle.crew.specs.declared.view.View.TheVariants.{Begun, Alone, Asks, Works}

-- At which post it is, and how far.
pub record SeatValue (J : Type 0) : Type 0 where
  pub post : TableId
  pub stage : Stage J

module _ {J : Type 0} where
  -- the same post, at another stage
  abbrev pub at_stage : SeatValue J → Stage J → SeatValue J
  at_stage s stage = record { post = s.post; stage = stage }

  -- this job was sent and isn't collected; or it was taken and isn't answered
  abbrev pub IsBusy : SeatValue J → Type 0
  IsBusy s = (job : J) × (s.stage ≡ Busy job)

  -- How far a seat is by its view.
  abbrev pub stage_of : View J → Stage J
  stage_of Begun = Free
  stage_of Alone = Free
  stage_of (Asks stage) = stage
  stage_of (Works stage) = stage

  abbrev pub seat_value : TableId → View J → SeatValue J
  seat_value post v = record { post = post; stage = stage_of v }

  -- What the asker knows and has in hand: the empty slot, but while a job is out.
  abbrev pub asker_at : Stage J → Me (Option J) (View J)
  asker_at Free = (Asks Free, (0, None) ∷ [])
  asker_at (Busy job) = (Asks (Busy job), [])
  asker_at Ended = (Asks Ended, (0, None) ∷ [])

  -- What the worker knows and has in hand: the empty slot while it has the job.
  abbrev pub worker_at : Stage J → Me (Option J) (View J)
  worker_at Free = (Works Free, [])
  worker_at (Busy job) = (Works (Busy job), (0, None) ∷ [])
  worker_at Ended = (Works Ended, [])

  -- a place at a post of 32 words and a slot
  pub record IsPlace (post : TableId) (at : Stage J → Me (Option J) (View J)) (me : Me (Option J) (View J)) : Type 0 where
    pub words : post.words ≡ 32
    pub knows : me ≡ at (stage_of me.0)
