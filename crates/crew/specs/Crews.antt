-- The seats of a crew.
use Rattle.std.specs.Prelude.{◌≡◌, ◌≤◌, ◌<◌, ◌+◌, ℕ, List, length, map, slice_get, Some}
use Rattle.atomic_table.specs.Seated.{TableId}
use Rattle.crew.specs.declared.view.Stage.TheVariants.{Free, Busy}
use Rattle.crew.specs.Seats.{SeatValue, at_stage}

-- a seat that has no job
abbrev pub free_seat : {J : Type 0} → (post : TableId) → SeatValue J
free_seat post = record { post = post; stage = Free }

-- one at each of these posts
abbrev pub free_seats : {J : Type 0} → (posts : List TableId) → List (SeatValue J)
free_seats {J} posts = map (λ post. free_seat {J = J} post) posts

-- the one at the post of this number
abbrev pub IsFreeAt : {J : Type 0} → (posts : List TableId) → (number : ℕ) → SeatValue J → Type 0
IsFreeAt posts number seat = (post : TableId) → slice_get posts number ≡ Some post → seat ≡ free_seat post

-- those at the posts from this number on
pub record AreFreeFrom {J : Type 0} (number : ℕ) (posts : List TableId) (seats : List (SeatValue J)) : Type 0 where
  pub count : length seats ≡ length posts
  pub free : (k : ℕ) (seat : SeatValue J) → number ≤ k → slice_get seats k ≡ Some seat → IsFreeAt posts k seat

-- each post has a seat, and the one of this number has no job
pub record AreFreeAt {J : Type 0} (number : ℕ) (posts : List TableId) (seats : List (SeatValue J)) : Type 0 where
  pub count : length seats ≡ length posts
  pub free : (seat : SeatValue J) → slice_get seats number ≡ Some seat → IsFreeAt posts number seat

-- nor have those at the posts before this number but one
pub record AreFreeBelow {J : Type 0} (number : ℕ) (posts : List TableId) (seats : List (SeatValue J)) : Type 0 where
  pub count : length seats ≡ length posts
  pub free : (k : ℕ) (seat : SeatValue J) → k + 1 < number → slice_get seats k ≡ Some seat → IsFreeAt posts k seat

-- each post has a seat, and the one of this number has this job
pub record IsBusyAt {J : Type 0} (number : ℕ) (posts : List TableId) (job : J) (seats : List (SeatValue J)) : Type 0 where
  pub count : length seats ≡ length posts
  pub busy : (seat : SeatValue J) (post : TableId) → slice_get seats number ≡ Some seat → slice_get posts number ≡ Some post → seat ≡ at_stage (free_seat post) (Busy job)
