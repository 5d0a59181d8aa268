-- Workers that live, as those whom a weave can ask.
use Rattle.std.specs.Prelude.{◌≡◌, ◌≤◌, ◌+◌, ℕ, List, [], length}
use Rattle.std.specs.Borrow.{GName}
use Rattle.std.specs.Vec.{vec_capacity}
use Rattle.atomic_table.specs.Seated.{TableId}
use Rattle.crew.specs.Crews.{free_seats}
use Rattle.crew.specs.Seats.{SeatValue}
use Rattle.bound_workers.specs.declared.hands.CrewHands.{CrewHands}

-- what stays of them through all rounds
pub record Stay (J : Type 0) : Type 0 where
  pub posts : List TableId
  pub name : GName
  pub askers : List (SeatValue J)
  pub jobs : List J
  pub room : ℕ
  pub most : ℕ

abbrev pub stay : {R J : Type 0} → CrewHands R J → Stay J
stay h = record { posts = h.posts.now; name = h.askers.ghost_name; askers = h.askers.now; jobs = h.jobs.now.items; room = vec_capacity h.jobs.now; most = h.most }

-- nobody is at work, and there are posts and room enough
pub record AreReady {J : Type 0} (k : Stay J) : Type 0 where
  pub free : k.askers ≡ free_seats k.posts
  pub none : k.jobs ≡ []
  pub posts : k.most ≤ length k.posts + 1
  pub room : k.most ≤ k.room

abbrev pub most_of : {J : Type 0} → Stay J → ℕ
most_of k = k.most
