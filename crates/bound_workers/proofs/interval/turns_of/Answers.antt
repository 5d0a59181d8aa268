use Rattle.std.proofs.Common.{◌≡◌, ◌≤◌, length, map, sum_by, take, ap, sym, ◌∙◌, arith}
use Rattle.std.specs.List.{sum}
use Rattle.std.proofs.lemmas.List.{take_all}
use Rattle.std.proofs.lemmas.List.Sums.{sum-map}
use Rattle.bound_records.specs.declared.record_port.CoreRecord.{CoreRecord}
use Rattle.parts_table.specs.KeptKeys.{BlocksState}
use Rattle.bound_workers.proofs.interval.turns_of.Goals as goal

-- there is room for as many turns as were counted
pub put_in_order-requires-clause-room : goal.put_in_order-requires-clause-room
put_in_order-requires-clause-room c =
    let records = c.args.records.now in
    let all : take c.loop-kept.kept-index records ≡ records = take_all c.loop-kept.kept-index records c.loop-kept-test.false in
    let counted : c.loop-kept.count ≡ sum_by (λ (k : CoreRecord). length k.log.entries) records =
    c.loop-kept.invariant.count ∙ ap (sum_by (λ (k : CoreRecord). length k.log.entries)) all
    in
    let same : sum_by (λ (k : CoreRecord). length k.log.entries) records ≡ sum_by (λ (b : BlocksState). length b.keys) c.args.blocks.now =
    sym (sum-map (λ (k : CoreRecord). length k.log.entries) records) ∙ (ap sum c.requires.sizes ∙ sum-map (λ (b : BlocksState). length b.keys) c.args.blocks.now)
    in
    omega (arith, counted, same, c.in_ok-turns.ensures)
