use Rattle.std.proofs.Common.{◌≡◌, length, refl, ap, arith}
use Rattle.bound_records.specs.Recorders.{RecorderState, kept_lists}
use Rattle.bound_records.proofs.ByCore.{cores_are, entries_by_log}
use Rattle.bound_records.proofs.accesses.RecorderAccesses.cores.Goals as goal

pub overflow_cast-result : goal.overflow_cast-result
overflow_cast-result c =
    let few = c.self.invariant.few in
    let many = c.self.invariant.records_many in
    let is = c.len.ensures in
    let small = c.self.inside.records.ok in
    omega (arith, few, many, is, small)

pub returns : goal.returns
returns c =
    let r : RecorderState = record { world = c.self.inside.port.world; lists = entries_by_log c.self.inside.logs.items; begin = c.self.inside.begin; base = c.self.inside.base; room = c.self.inside.room } in
    let banks = c.self.inside.banks in
    let logs = c.self.inside.logs.items in
    let records = c.self.inside.records.items in
    let counts = c.self.inside.counts.items in
    let are = cores_are r banks logs records counts c.self.invariant refl in
    let is = c.len.ensures in
    let same : length (kept_lists r) ≡ length (kept_lists c.args.self.now) = ap (λ (x : RecorderState). length (kept_lists x)) c.self.view_is in
    let small = c.self.inside.records.ok in
    omega (arith, are, is, same, small)
