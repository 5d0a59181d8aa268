use Rattle.noc_mesh.specs.NetTiming.{net_time}
use Rattle.profile.specs.Contributions.{access_adds}
use Rattle.profile.specs.CopyTables.{copies_in}
use Rattle.profile.proofs.Hits.{hit_adds}
use Rattle.profile.proofs.profile.hit.Goals as goal

pub returns-clause-parts : goal.returns-clause-parts
returns-clause-parts c = λ cores steps parts. c.in_ok-hit.ensures (net_time c.args.net.now.path) cores steps c.time.ensures parts

pub returns-clause-series : goal.returns-clause-series
returns-clause-series c = λ cores s is.
    let e = c.args.entry.now in
    let time = net_time c.args.net.now.path in
    let parts = c.args.parts.now in
    let copies = copies_in parts.copies.of_data.items parts.copies.of_instructions.items in
    c.hit-2.ensures s (access_adds time cores copies c.args.pc e).tally (hit_adds e c.requires cores copies (record { kind = c.kind_of.result; cycles = c.time.result }) (time e) c.kind_of.ensures c.time.ensures) is
