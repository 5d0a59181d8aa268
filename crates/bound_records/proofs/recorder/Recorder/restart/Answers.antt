use Rattle.std.proofs.Common.{◌≡◌, List, length, map, refl, sym, ◌∙◌, ap, subst, arith}
use Rattle.std.specs.Vec.{with_items}
use Rattle.std.proofs.lemmas.List.{length-map, with_items_is}
use Rattle.zs_num.specs.declared.entry.Entry.{Entry}
use Rattle.access_record.specs.BankLogs.{BankLogState}
use Rattle.access_record.specs.RecordLogs.{RecordLogState}
use Rattle.stats.specs.declared.counts.CoreCount.{CoreCount}
use Rattle.bound_core.specs.ShardWorld.{ShardWorld, begun_world, restarted}
use Rattle.bound_records.specs.Recorders.{AreKeptOf, RecorderState, emptied, emptied_at, uncounted}
use Rattle.bound_records.proofs.ByCore.{begun_again, entries_by_log, none_again}
use Rattle.bound_records.proofs.Lists.{mapped_at}
use Rattle.bound_records.proofs.Whole.{restarted_at}
use Rattle.bound_records.proofs.recorder.Recorder.restart.Goals as goal

pub invariant_of-self : goal.invariant_of-self
invariant_of-self c =
    let r : RecorderState = record { world = c.self.inside.port.world; lists = entries_by_log c.self.inside.logs.items; begin = c.self.inside.begin; base = c.self.inside.base; room = c.self.inside.room } in
    let banks = c.self.inside.banks in
    let logs = c.self.inside.logs.items in
    let records = c.self.inside.records.items in
    let counts = c.self.inside.counts.items in
    let cleared : c.clear_logs.new.logs ≡ map emptied logs = c.clear_logs.ensures ∙ ap (map emptied) c.deref_mut.ensures.value in
    let cleared_long = ap length cleared in
    let logs_long = length-map logs emptied in
    let logs_len = c.self.inside.logs.ok.0 in
    let logs_are : (with_items c.self.inside.logs c.clear_logs.new.logs).items ≡ map emptied logs = with_items_is c.self.inside.logs c.clear_logs.new.logs (omega (arith, cleared_long, logs_long, logs_len)) ∙ cleared in
    let forgotten : c.begin_records.new.records ≡ map (emptied_at c.args.begin) records = c.begin_records.ensures ∙ ap (map (emptied_at c.args.begin)) c.deref_mut-2.ensures.value in
    let forgotten_long = ap length forgotten in
    let records_long = length-map records (emptied_at c.args.begin) in
    let records_len = c.self.inside.records.ok.0 in
    let records_are : (with_items c.self.inside.records c.begin_records.new.records).items ≡ map (emptied_at c.args.begin) records = with_items_is c.self.inside.records c.begin_records.new.records (omega (arith, forgotten_long, records_long, records_len)) ∙ forgotten in
    let zeroed : c.clear_counts.new.counts ≡ map uncounted counts = c.clear_counts.ensures ∙ ap (map uncounted) c.deref_mut-3.ensures.value in
    let zeroed_long = ap length zeroed in
    let counts_long = length-map counts uncounted in
    let counts_len = c.self.inside.counts.ok.0 in
    let counts_are : (with_items c.self.inside.counts c.clear_counts.new.counts).items ≡ map uncounted counts = with_items_is c.self.inside.counts c.clear_counts.new.counts (omega (arith, zeroed_long, counts_long, counts_len)) ∙ zeroed in
    let again = begun_again r banks logs records counts c.self.invariant refl c.args.begin (map uncounted counts) counts_long (λ i n at. (mapped_at uncounted counts i n at).1.1) c.restart.new.self.world c.restart.ensures.world in
    let At : (ls : List BankLogState) (ks : List RecordLogState) (ns : List CoreCount) → Type 0 = λ ls ks ns.
    AreKeptOf (record { world = c.restart.new.self.world; lists = entries_by_log ls; begin = c.args.begin; base = r.base; room = r.room }) banks ls ks ns
    in
    subst (λ (ls : List BankLogState). At ls (with_items c.self.inside.records c.begin_records.new.records).items (with_items c.self.inside.counts c.clear_counts.new.counts).items) (sym logs_are)
    (subst (λ (ks : List RecordLogState). At (map emptied logs) ks (with_items c.self.inside.counts c.clear_counts.new.counts).items) (sym records_are)
    (subst (λ (ns : List CoreCount). At (map emptied logs) (map (emptied_at c.args.begin) records) ns) (sym counts_are) again))

pub returns : goal.returns
returns c =
    let r : RecorderState = record { world = c.self.inside.port.world; lists = entries_by_log c.self.inside.logs.items; begin = c.self.inside.begin; base = c.self.inside.base; room = c.self.inside.room } in
    let banks = c.self.inside.banks in
    let logs = c.self.inside.logs.items in
    let records = c.self.inside.records.items in
    let counts = c.self.inside.counts.items in
    let cleared : c.clear_logs.new.logs ≡ map emptied logs = c.clear_logs.ensures ∙ ap (map emptied) c.deref_mut.ensures.value in
    let cleared_long = ap length cleared in
    let logs_long = length-map logs emptied in
    let logs_len = c.self.inside.logs.ok.0 in
    let logs_are : (with_items c.self.inside.logs c.clear_logs.new.logs).items ≡ map emptied logs = with_items_is c.self.inside.logs c.clear_logs.new.logs (omega (arith, cleared_long, logs_long, logs_len)) ∙ cleared in
    ap (λ (ls : List BankLogState). let q : RecorderState = record { world = c.restart.new.self.world; lists = entries_by_log ls; begin = c.args.begin; base = r.base; room = r.room } in q) logs_are
    ∙ (ap (λ (w : ShardWorld). let q : RecorderState = record { world = w; lists = entries_by_log (map emptied logs); begin = c.args.begin; base = r.base; room = r.room } in q) c.restart.ensures.world
    ∙ (ap (λ (ls : List (List Entry)). let q : RecorderState = record { world = begun_world (length r.world.stamps) (map restarted r.world.shards); lists = ls; begin = c.args.begin; base = r.base; room = r.room } in q) (none_again r banks logs records counts c.self.invariant refl)
    ∙ ap (restarted_at c.args.begin) c.self.view_is))
