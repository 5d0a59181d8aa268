-- The domains below the number are back, and their seats.
use Rattle.std.proofs.Common.{◌≡◌, ◌≤◌, List, length, vec_capacity}
use Rattle.dealing.specs.Dealing.{AreDealt}
use Rattle.dealing.specs.Workers.{HaveRoom, queues_of}
use Rattle.weave_run.specs.declared.post.Post.{Post}
use Rattle.weave_run.proofs.Lots.{LetGoSoFar}
use Rattle.weave_run.proofs.hiring.let_go.Given as goal

abbrev pub invariant-loop-number : goal.invariant-loop-number
invariant-loop-number g l = record {
  crews_are : length l.crews ≡ length l.fn.crews;
  room : HaveRoom l.fn.count l.crews;
  count : length l.domains.items ≡ l.number;
  seats_count : length l.seats.items ≡ l.number;
  capacity : l.fn.count ≤ vec_capacity l.domains;
  seats_capacity : l.fn.count ≤ vec_capacity l.seats;
  so_far : (posts : List (Post g.row.C.Denot)) → AreDealt 0 posts (queues_of l.fn.crews) → length posts ≡ l.fn.count → LetGoSoFar posts l.number l.crews l.domains.items l.seats.items;
}
