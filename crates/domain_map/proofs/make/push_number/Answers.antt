-- The list of the domain is longer, and the others stay.
use Rattle.std.proofs.Common.{◌<◌, length, arith}
use Rattle.domain_map.proofs.Lists.{pushed}
use Rattle.domain_map.proofs.make.push_number.Goals as goal

pub returns : goal.returns
returns c =
    let there : c.args.domain < length c.args.lists.now.items = omega (arith, c.args.lists.now.ok.0, c.requires) in
    record {
      pushed = rw c.from.ensures (pushed c.args.lists.now.items c.args.domain c.args.number c.index_mut-list.result.now c.push.new.self there
          (rw c.from.ensures at c.index_mut-list.ensures.value) c.in_ok-push.ensures.items);
    }
