use Rattle.std.proofs.Common.{ℕ, ap, ◌∙◌}
use Rattle.std.specs.Prelude.{slice_set}
use Rattle.reference.proofs.Lists.{set_again}
use Rattle.bound_records.proofs.running.take.Goals as goal

pub returns-clause-logs : goal.returns-clause-logs
returns-clause-logs c = λ log.
    let logs = c.args.logs.now.items in
    ap (λ (n : ℕ). slice_set (slice_set logs n c.replace-log.new.dest) c.args.core log) c.from.ensures ∙ set_again logs c.args.core c.replace-log.new.dest log

pub returns-clause-records : goal.returns-clause-records
returns-clause-records c = λ kept.
    let records = c.args.records.now.items in
    ap (λ (n : ℕ). slice_set (slice_set records n c.replace-records.new.dest) c.args.core kept) c.from-2.ensures ∙ set_again records c.args.core c.replace-records.new.dest kept
