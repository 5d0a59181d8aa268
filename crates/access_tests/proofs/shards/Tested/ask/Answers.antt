-- The access is one of memory, of the shard, and of a machine that has a cache for it.
use Rattle.std.proofs.Common.{◌≡◌, ◌%◌, ◌<◌, ◌≤◌, rules}
use Rattle.zs_num.specs.Request.{addr_of, bank_of_line, line_of}
use Rattle.zs_num.specs.Servable.{IsServable, MayFetch}
use Rattle.shard.specs.HaveL1i.{have_l1i}
use Rattle.shard.specs.Served.{CanServe}
use Rattle.access_tests.proofs.shards.Tested.ask.Goals as goal

pub serve-requires-clause-can : goal.serve-requires-clause-can
unfolding CanServe
serve-requires-clause-can g c =
    let may : MayFetch (have_l1i c.args.self.now.shard.caches) c.request-request.result = search rules in
    let aligned : addr_of c.request-request.result % 8 ≡ 0 = search rules in
    let begins : 65536 ≤ addr_of c.request-request.result = search rules in
    let ends : addr_of c.request-request.result < 1114112 = search rules in
    let own : bank_of_line c.args.self.now.shard.caches.shards (line_of c.request-request.result) ≡ c.args.self.now.shard.number = search rules in
    let servable : IsServable 65536 1048576 (have_l1i c.args.self.now.shard.caches) c.request-request.result = c.request-request.ensures (have_l1i c.args.self.now.shard.caches) may aligned begins ends in
    (rw (c.args.self.now.base, c.args.self.now.size) servable, own)
