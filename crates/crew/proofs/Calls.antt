-- What the calls know of their seats, and what they leave.
use Rattle.std.proofs.Common.{◌≡◌, ℕ, List, [], ◌∷◌, sym, ◌∙◌, ap, subst, refl, Option, Some}
use Rattle.atomic_table.specs.Seated.{TableId}
use Rattle.atomic_table.specs.Table.{Me, rest}
use Rattle.crew.specs.declared.view.Stage.{Stage}
use Rattle.crew.specs.declared.view.Stage.TheVariants.{Free, Busy, Ended}
use Rattle.crew.specs.declared.view.View.{View}
use Rattle.crew.specs.Seats.{IsPlace, SeatValue, asker_at, at_stage, seat_value, stage_of, worker_at}

module _ {J : Type 0} where
  -- the seat by the stage that its value has
  pub seat_is : (post : TableId) (at : Stage J → Me (Option J) (View J)) (me : Me (Option J) (View J)) (v : SeatValue J) (stage : Stage J)
      → IsPlace post at me → seat_value post me.0 ≡ v → v.stage ≡ stage → me ≡ at stage
  seat_is post at me v stage is view stage_is = is.knows ∙ ap at (ap (λ (u : SeatValue J). u.stage) view ∙ stage_is)

  asker_stage : (stage : Stage J) → stage_of (asker_at stage).0 ≡ stage
  asker_stage Free = refl
  asker_stage (Busy job) = refl
  asker_stage Ended = refl

  worker_stage : (stage : Stage J) → stage_of (worker_at stage).0 ≡ stage
  worker_stage Free = refl
  worker_stage (Busy job) = refl
  worker_stage Ended = refl

  pub asker_place : (post : TableId) (me : Me (Option J) (View J)) (stage : Stage J) → post.words ≡ 32 → me ≡ asker_at stage → IsPlace post asker_at me
  asker_place post me stage words is = subst (IsPlace post asker_at) (sym is) (record { words = words; knows = ap asker_at (sym (asker_stage stage)) })

  pub worker_place : (post : TableId) (me : Me (Option J) (View J)) (stage : Stage J) → post.words ≡ 32 → me ≡ worker_at stage → IsPlace post worker_at me
  worker_place post me stage words is = subst (IsPlace post worker_at) (sym is) (record { words = words; knows = ap worker_at (sym (worker_stage stage)) })

  pub asker_value : (post : TableId) (me : Me (Option J) (View J)) (stage : Stage J) (v : SeatValue J) → post ≡ v.post → me ≡ asker_at stage → seat_value post me.0 ≡ at_stage v stage
  asker_value post me stage v same is i = record { post = same i; stage = (ap (λ (m : Me (Option J) (View J)). stage_of m.0) is ∙ asker_stage stage) i }

  pub worker_value : (post : TableId) (me : Me (Option J) (View J)) (stage : Stage J) (v : SeatValue J) → post ≡ v.post → me ≡ worker_at stage → seat_value post me.0 ≡ at_stage v stage
  worker_value post me stage v same is i = record { post = same i; stage = (ap (λ (m : Me (Option J) (View J)). stage_of m.0) is ∙ worker_stage stage) i }

  pub post_of : (post : TableId) (me : Me (Option J) (View J)) (v : SeatValue J) → seat_value post me.0 ≡ v → post ≡ v.post
  post_of post me v view = ap (λ (u : SeatValue J). u.post) view

  -- A value in hand is taken out, or another is put in its place.

  pub has_slot : (me : Me (Option J) (View J)) (v : View J) (x : Option J) → me ≡ (v, (0, x) ∷ []) → me.1 ≡ (0, x) ∷ rest me.1
  has_slot me v x is = subst (λ (m : Me (Option J) (View J)). m.1 ≡ (0, x) ∷ rest m.1) (sym is) refl

  pub put_in : (me after : Me (Option J) (View J)) (v : View J) (x y : Option J) → me ≡ (v, (0, x) ∷ []) → after ≡ (me.0, (0, y) ∷ rest me.1) → after ≡ (v, (0, y) ∷ [])
  put_in me after v x y is put = put ∙ ap (λ (m : Me (Option J) (View J)). (m.0, (0, y) ∷ rest m.1)) is

  second : (k l : ℕ) (x y : Option J) (xs ys : List (ℕ × Option J)) → (k, x) ∷ xs ≡ (l, y) ∷ ys → x ≡ y
  second k l x y xs ys e =
      let first : ℕ × Option J = (k, x) in
      let other : ℕ × Option J = (l, y) in
      let pairs : first ≡ other = cc in
      ap (λ (z : ℕ × Option J). z.1) pairs

  pub came_out : (me : Me (Option J) (View J)) (v : View J) (x out : Option J) → me ≡ (v, (0, x) ∷ []) → me.1 ≡ (0, out) ∷ rest me.1 → out ≡ x
  came_out me v x out is was = sym (second 0 0 x out [] [] (sym (ap (λ (m : Me (Option J) (View J)). m.1) is) ∙ (was ∙ ap (λ (m : Me (Option J) (View J)). (0, out) ∷ rest m.1) is)))

  pub job_out : (job out : J) → Some out ≡ Some job → out ≡ job
  job_out job out e = cc
