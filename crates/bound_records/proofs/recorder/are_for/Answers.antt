use Rattle.std.proofs.Common.{◌≡◌, ℕ, List, [], get_or, length, map, inl, inr, refl, sym, ◌∙◌, ap, arith}
use Rattle.std.specs.List.{range_with_len}
use Rattle.std.proofs.lemmas.Bool.{cases_eq}
use Rattle.std.proofs.lemmas.List.FromFn.{length-map-range_with_len}
use Rattle.std.proofs.lemmas.Option.{get_or_from_slice_get, slice_get_within}
use Rattle.access_record.specs.BankLogs.{BankLogState}
use Rattle.bound_records.specs.Recorders.{emptied, no_log}
use Rattle.bound_records.proofs.ByCore.{log_eq, range_at}
use Rattle.bound_records.proofs.Lists.{mapped_all}
use Rattle.bound_records.proofs.recorder.are_for.Goals as goal

pub loop-core-preserved : goal.loop-core-preserved
loop-core-preserved c = λ i log below here.
    elim (cases_eq i c.loop-core.core) as (λ _. emptied log ≡ no_log c.args.banks c.args.room i) [
      | inl same ↦
          let is : c.index-logs-from.result ≡ log =
          c.index-logs-from.is ∙ (ap (λ (n : ℕ). get_or c.args.logs.now n c.index-logs-from.result) (c.from-in-loop-core.ensures ∙ sym same) ∙ get_or_from_slice_get c.args.logs.now i log c.index-logs-from.result here)
          in
          log_eq (emptied log) i c.args.banks c.args.room []
          (ap (λ (l : BankLogState). l.core) (sym is) ∙ (sym c.core.ensures ∙ (c.if-core.false ∙ sym same)))
          (ap (λ (l : BankLogState). l.banks) (sym is) ∙ (sym c.banks.ensures.banks ∙ c.if-banks.false)) refl
          (ap (λ (l : BankLogState). l.room) (sym is) ∙ (sym c.room.ensures ∙ c.if-room.false))
      | inr other ↦ c.loop-core.invariant i log (omega (arith, below, other)) here
    ]

pub returns : goal.returns
returns c = λ _.
    let logs : List BankLogState = c.args.logs.now in
    let many : length logs ≡ c.args.cores = c.if-logs-from.false ∙ c.from.ensures in
    let made : ℕ → BankLogState = no_log c.args.banks c.args.room in
    sym (mapped_all emptied logs (map made (range_with_len 0 c.args.cores)) (length-map-range_with_len made 0 c.args.cores ∙ sym many)
    (λ i log empty here there.
    let within = slice_get_within logs i log here in
    range_at made c.args.cores i empty there ∙ sym (c.loop-core.invariant i log (omega (arith, within, many, c.loop-core-test.false)) here)))
