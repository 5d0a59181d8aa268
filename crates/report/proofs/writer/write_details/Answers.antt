use Rattle.std.proofs.Common.{append_assoc}
use Rattle.std.proofs.lemmas.Result.{IfOk-equal}
use Rattle.report.proofs.writer.write_details.Goals as goal

pub returns : goal.returns
returns c =
    let parts = c.split_at.ensures in
    let others = c.split_at-2.ensures in
    let cores = c.in_ok-write_cores.ensures in
    let banks = c.in_ok-write_components.ensures in
    let controllers = c.in_ok-write_components-2.ensures in
    IfOk-equal _ _ _ _ c.write_components-3.ensures
    (rw (controllers, banks, cores, others.front, others.back, parts.front, parts.back, c.from.ensures, c.from-2.ensures, c.comp_counts-counts.ensures) (simp append_assoc))
