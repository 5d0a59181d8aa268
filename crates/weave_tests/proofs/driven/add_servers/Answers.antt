-- A server more is looked at.
use Rattle.std.proofs.Common.{◌≡◌, ◌+◌, ◌++◌, drop, get_or, List, Some, slice_get, sym, subst, arith}
use Rattle.weave_core.specs.DomainCalls.{comps_in}
use Rattle.weave_tests.specs.declared.server.Server.{Server}
use Rattle.weave_tests.proofs.Serving.{next_is_apart, next_is_here, servers_from, there_at}
use Rattle.weave_tests.proofs.driven.add_servers.Goals as goal
use Rattle.weave_tests.proofs.driven.add_servers.Goals.{then-places-index+in_ok-push, else-places-index}

pub loop-index-preserved : goal.loop-index-preserved
loop-index-preserved c =
    let none : Server = record { occupancy = 0; free = 0 } in
    let there : slice_get c.args.servers.now c.loop-index.index ≡ Some (get_or c.args.servers.now c.loop-index.index none) = there_at c.args.servers.now c.loop-index.index none (omega (arith, c.loop-index-test.true)) in
    elim c.if-places-index.branch [
      | then-places-index+in_ok-push w ↦
          rw w.some-is
          (subst (λ (xs : List Server). xs ++ servers_from c.args.places.now c.args.domain (c.loop-index.index + 1) (drop (c.loop-index.index + 1) c.args.servers.now) ≡ comps_in c.args.places.now c.args.domain c.args.servers.now) (sym w.in_ok-push.ensures.items)
          (next_is_here c.args.places.now c.args.domain c.loop-index.index c.args.servers.now c.loop-index.some.items (comps_in c.args.places.now c.args.domain c.args.servers.now) (get_or c.args.servers.now c.loop-index.index none)
          there c.loop-index.invariant w.if-places-index.true))
      | else-places-index w ↦
          rw w.some-is
          (next_is_apart c.args.places.now c.args.domain c.loop-index.index c.args.servers.now c.loop-index.some.items (comps_in c.args.places.now c.args.domain c.args.servers.now) (get_or c.args.servers.now c.loop-index.index none)
          there c.loop-index.invariant w.if-places-index.false)
    ]
