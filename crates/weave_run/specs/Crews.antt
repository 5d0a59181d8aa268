-- Which worker has which domains, and what it does with them.
use Rattle.std.specs.Prelude.{◌≡◌, ◌<◌, ℕ, List, length, map, Some, slice_get}
use Rattle.std.specs.VecDeque.{deque_capacity}
use Rattle.atomic_table.specs.Seated.{TableId}
use Rattle.component.specs.declared.kind.Kind.{Kind}
use Rattle.crossing.specs.Seats.{SeatValue}
use Rattle.dealing.specs.Dealing.{AreDealt}
use Rattle.dealing.specs.Workers.{queues_of}
use Rattle.dealing.specs.declared.worker.Worker.{Worker}
use Rattle.weave_core.specs.DomainCalls.{DomainValue}
use Rattle.weave_run.specs.Seating.{HasServed, IsPostSeated}
use Rattle.weave_run.specs.declared.post.Post.{Post}
use Rattle.weave_run.specs.declared.plan.Plan.{Plan}

-- a worker with its domains, the next one first
abbrev pub Crew : Type 0 → Type 0
Crew C = Worker (Post C) (Unit {0})

abbrev pub domains_in : {C : Type 0} → List (Post C) → List (DomainValue C)
domains_in posts = map (λ post. post.domain) posts

abbrev pub seats_in : {C : Type 0} → List (Post C) → List SeatValue
seats_in posts = map (λ post. post.seat) posts

-- the domains are dealt to the workers, each with its seat
pub record AreHired {C : Type 0} (vs : List (DomainValue C)) (seats : List SeatValue) (crews : List (Crew C)) : Type 0 where
  pub posts : List (Post C)
  pub dealt : AreDealt 0 posts (queues_of crews)
  pub domains_are : domains_in posts ≡ vs
  pub seats_are : seats_in posts ≡ seats

-- the workers have so many domains
pub record HaveDomains {C : Type 0} (count : ℕ) (crews : List (Crew C)) : Type 0 where
  pub some : 0 < length crews
  pub posts : List (Post C)
  pub dealt : AreDealt 0 posts (queues_of crews)
  pub size : length posts ≡ count

-- whatever domains they had, they are these, with these seats
abbrev pub AreReturned : {C : Type 0} (count : ℕ) → List (Crew C) → List (DomainValue C) → List SeatValue → Type 0
AreReturned {C} count crews vs seats =
    (posts : List (Post C)) → AreDealt 0 posts (queues_of crews) → length posts ≡ count → (vs ≡ domains_in posts) × (seats ≡ seats_in posts)

-- each domain that a worker has keeps to the plan and has its seat
pub record CanWork {C : Type 0} (stepped : C → Kind → ℕ → C × ℕ) (plan : Plan C) (table : TableId) (crew : Crew C) : Type 0 where
  pub each : (place : ℕ) (post : Post C) → slice_get crew.queue.items place ≡ Some post → IsPostSeated stepped plan table post

-- each has run, published what it fired, and lies in its place
pub record HasWorked {C : Type 0} (stepped : C → Kind → ℕ → C × ℕ) (plan : Plan C) (table : TableId) (old new : Crew C) : Type 0 where
  pub count : length new.queue.items ≡ length old.queue.items
  pub served : (place : ℕ) (was is : Post C) → slice_get old.queue.items place ≡ Some was → slice_get new.queue.items place ≡ Some is → HasServed stepped plan table was is
  pub room : deque_capacity new.queue ≡ deque_capacity old.queue
