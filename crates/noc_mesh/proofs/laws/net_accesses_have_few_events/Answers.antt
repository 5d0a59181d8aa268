use Rattle.std.proofs.Common.{◌≤◌, ◌*◌, length, get_or, sum_by, arith}
use Rattle.std.specs.List.{All}
use Rattle.std.proofs.lemmas.List.Sums.{sum_by-le}
use Rattle.zs_num.specs.declared.entry.Entry.{Entry}
use Rattle.noc_mesh.specs.NetLaws.{net_events_are_few}
use Rattle.noc_mesh.specs.NetTiming.{net_pieces}
use Rattle.noc_mesh.proofs.laws.net_accesses_have_few_events.Goals as goal

pub returns : goal.returns
returns c = λ path entries ok. (
    let each : All (λ (e : Entry). length (net_pieces path e) ≤ 60) entries = λ k d below. net_events_are_few path ok (get_or entries k d) in
    let within : sum_by (λ e. length (net_pieces path e)) entries ≤ length entries * 60 = sum_by-le (λ (e : Entry). length (net_pieces path e)) 60 entries each in
    omega (arith, within)
    )
