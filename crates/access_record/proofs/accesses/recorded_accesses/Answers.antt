-- Each core has its own accesses in the same order, as the turns took them and as they are recorded.
use Rattle.std.proofs.Common.{◌∙◌, List, ap, length, arith}
use Rattle.std.proofs.lemmas.List.{length-map}
use Rattle.zs_num.specs.declared.entry.Entry.{Entry}
use Rattle.access_log.specs.RecordedOrder.{recorded_order}
use Rattle.access_record.specs.BankLogs.{BankLogState}
use Rattle.access_record.specs.Turns.{taken_of}
use Rattle.access_record.proofs.Ordered.{length_recorded}
use Rattle.access_record.proofs.Walk.{walk_begins}
use Rattle.access_record.proofs.accesses.recorded_accesses.Goals as goal

pub walk-requires-clause-few : goal.walk-requires-clause-few
walk-requires-clause-few c =
    let entries : List Entry = taken_of c.args.turns c.args.logs.now in
    omega (arith, ap length c.requires.cores, length-map (recorded_order entries) (λ (e : Entry). e.core), length_recorded entries, c.requires.few)

pub walk-requires-clause-known : goal.walk-requires-clause-known
walk-requires-clause-known c =
    let logs : List BankLogState = c.args.logs.now in
    (c.recorded_order_keeps_the_stamps.ensures c.args.banks (length logs) (taken_of c.args.turns logs) c.requires.some c.requires.turns.known c.requires.stamped).1

pub walk-requires-clause-begins : goal.walk-requires-clause-begins
walk-requires-clause-begins c =
    let logs : List BankLogState = c.args.logs.now in
    let entries : List Entry = taken_of c.args.turns logs in
    let kept = (c.recorded_order_keeps_the_stamps.ensures c.args.banks (length logs) entries c.requires.some c.requires.turns.known c.requires.stamped).2 in
    walk_begins c.args.begin c.args.base logs c.args.records.now (recorded_order entries) c.new-list.result.items c.requires.records (λ i log at. kept.core i ∙ c.requires.turns.own i log at) c.deref_mut.result.now c.deref_mut-2.result.now
    (c.deref_mut.ensures.value ∙ c.in_ok-met.ensures.items_if_clones_equal (λ y e. e)) (c.deref_mut-2.ensures.value ∙ c.in_ok-taken.ensures.items_if_clones_equal (λ y e. e))
