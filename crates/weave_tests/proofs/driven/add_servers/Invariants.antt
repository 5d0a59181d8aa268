-- Those so far and those of the rest are those of all.
use Rattle.std.proofs.Common.{◌≡◌, ◌++◌, drop}
use Rattle.weave_core.specs.DomainCalls.{comps_in}
use Rattle.weave_tests.proofs.Serving.{servers_from}
use Rattle.weave_tests.proofs.driven.add_servers.Given as goal

abbrev pub invariant-loop-index : goal.invariant-loop-index
invariant-loop-index l = l.some.items ++ servers_from l.places l.domain l.index (drop l.index l.servers) ≡ comps_in l.places l.domain l.servers
