-- So far as many posts as seats, and room for all.
use Rattle.std.proofs.Common.{◌≡◌, ◌≤◌, length}
use Rattle.std.specs.Vec.{vec_capacity}
use Rattle.crew.specs.Crews.{free_seats}
use Rattle.crew.proofs.crew.Crew.hire.Given as goal

abbrev pub invariant-loop : goal.invariant-loop
invariant-loop g l = record {
  posts : length l.posts.items ≡ l.counter;
  asker_count : length l.askers.items ≡ l.counter;
  worker_count : length l.workers.items ≡ l.counter;
  askers : l.askers.items ≡ free_seats l.posts.items;
  workers : l.workers.items ≡ free_seats l.posts.items;
  post_room : l.count ≤ vec_capacity l.posts;
  asker_room : l.count ≤ vec_capacity l.askers;
  worker_room : l.count ≤ vec_capacity l.workers;
}
