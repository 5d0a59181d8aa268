use Rattle.std.proofs.Common.{◌∷◌, [], ◌++◌, List, map, sym, ap, ◌∙◌, arith}
use Rattle.std.specs.List.{range_with_len}
use Rattle.std.proofs.lemmas.List.FromFn.{map-range_with_len_more}
use Rattle.access_record.specs.BankLogs.{BankLogState}
use Rattle.bound_records.specs.Recorders.{no_log}
use Rattle.bound_records.proofs.recorder.empty_logs.Goals as goal

pub loop-core-preserved : goal.loop-core-preserved
loop-core-preserved c =
    let n = c.loop-core.core in
    let one = c.in_ok-with_room.field-0 in
    let made = no_log c.args.banks c.args.room in
    c.in_ok-push.ensures.items
    ∙ (ap (λ (xs : List BankLogState). xs ++ one ∷ []) c.loop-core.invariant
    ∙ (ap (λ (x : BankLogState). map made (range_with_len 0 n) ++ x ∷ []) c.in_ok-with_room.ensures
    ∙ sym (map-range_with_len_more made 0 n n (omega arith))))
