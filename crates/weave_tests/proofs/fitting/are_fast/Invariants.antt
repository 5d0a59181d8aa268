-- The components so far are fast.
use Rattle.std.proofs.Common.{◌≡◌, ◌<◌, ◌≤◌, ℕ, Some}
use Rattle.std.specs.Prelude.{IsTrue, nat_le, slice_get}
use Rattle.weave_tests.specs.declared.server.Server.{Server}
use Rattle.weave_tests.proofs.fitting.are_fast.Given as goal

abbrev pub invariant-loop-server : goal.invariant-loop-server
invariant-loop-server l = (i : ℕ) (c : Server) → i < l.server-index → slice_get l.servers i ≡ Some c → IsTrue (nat_le c.occupancy 4194304) × (c.free ≤ 4194304)
