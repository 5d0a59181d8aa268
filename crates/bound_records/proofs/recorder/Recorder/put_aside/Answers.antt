use Rattle.std.proofs.Common.{◌≡◌, ℕ, List, [], length, map, refl, sym, ◌∙◌, ap, subst, arith, rules}
use Rattle.std.specs.Prelude.{replicate}
use Rattle.std.specs.List.{range_with_len}
use Rattle.std.specs.Vec.{with_items}
use Rattle.std.proofs.lemmas.List.{length-map, with_items_is}
use Rattle.zs_num.specs.declared.entry.Entry.{Entry}
use Rattle.access_log.specs.RecordedOrder.{recorded_order}
use Rattle.access_record.specs.BankLogs.{BankLogState}
use Rattle.access_record.specs.RecordLogs.{RecordLogState}
use Rattle.access_record.specs.Turns.{in_turns}
use Rattle.access_record.specs.Unordered.{CanBeOrdered, UnorderedState, order_of, taken_by_turns}
use Rattle.stats.specs.declared.counts.CoreCount.{CoreCount}
use Rattle.bound_records.specs.Recorders.{AreKeptOf, AreTakenBy, RecorderState, emptied, emptied_at, entries_of, no_log, uncounted, without_accesses}
use Rattle.bound_records.proofs.ByCore.{can_be_ordered, empty_again, emptied_all, entries_by_log, none_again, same_turns}
use Rattle.bound_records.proofs.InOrder.{same_recorded}
use Rattle.bound_records.proofs.Lists.{mapped_at}
use Rattle.bound_records.proofs.recorder.Recorder.put_aside.Goals as goal

pub invariant_of-self : goal.invariant_of-self
invariant_of-self c =
    let r : RecorderState = record { world = c.self.inside.port.world; lists = entries_by_log c.self.inside.logs.items; begin = c.self.inside.begin; base = c.self.inside.base; room = c.self.inside.room } in
    let banks = c.self.inside.banks in
    let logs = c.self.inside.logs.items in
    let records = c.self.inside.records.items in
    let counts = c.self.inside.counts.items in
    let few = c.self.invariant.few in
    let cores : c.len-cores.result ≡ length logs = omega (arith, c.len-cores.ensures, c.self.inside.logs.ok.0) in
    let taken : c.replace-logs.new.dest.items ≡ c.in_ok-spare.spare.items = search rules in
    let logs_are : c.replace-logs.new.dest.items ≡ map emptied logs =
    taken ∙ (c.in_ok-spare.ensures ∙ (ap (λ (n : ℕ). map (no_log banks r.room) (range_with_len 0 n)) cores ∙ empty_again r banks logs records counts c.self.invariant refl))
    in
    let forgotten : c.begin_records.new.records ≡ map (emptied_at 0) records = c.begin_records.ensures ∙ ap (map (emptied_at 0)) c.deref_mut.ensures.value in
    let forgotten_long = ap length forgotten in
    let records_long = length-map records (emptied_at 0) in
    let records_len = c.self.inside.records.ok.0 in
    let records_are : (with_items c.self.inside.records c.begin_records.new.records).items ≡ map (emptied_at 0) records = with_items_is c.self.inside.records c.begin_records.new.records (omega (arith, forgotten_long, records_long, records_len)) ∙ forgotten in
    let zeroed : c.clear_counts.new.counts ≡ map uncounted counts = c.clear_counts.ensures ∙ ap (map uncounted) c.deref_mut-2.ensures.value in
    let zeroed_long = ap length zeroed in
    let counts_long = length-map counts uncounted in
    let counts_len = c.self.inside.counts.ok.0 in
    let counts_are : (with_items c.self.inside.counts c.clear_counts.new.counts).items ≡ map uncounted counts = with_items_is c.self.inside.counts c.clear_counts.new.counts (omega (arith, zeroed_long, counts_long, counts_len)) ∙ zeroed in
    let none = emptied_all r banks logs records counts c.self.invariant refl 0 (map uncounted counts) counts_long (λ i n at. (mapped_at uncounted counts i n at).1.1) r.world refl refl in
    let At : (ls : List BankLogState) (ks : List RecordLogState) (ns : List CoreCount) → Type 0 = λ ls ks ns.
    AreKeptOf (record { world = r.world; lists = entries_by_log ls; begin = 0; base = r.base; room = r.room }) banks ls ks ns
    in
    subst (λ (ls : List BankLogState). At ls (with_items c.self.inside.records c.begin_records.new.records).items (with_items c.self.inside.counts c.clear_counts.new.counts).items) (sym logs_are)
    (subst (λ (ks : List RecordLogState). At (map emptied logs) ks (with_items c.self.inside.counts c.clear_counts.new.counts).items) (sym records_are)
    (subst (λ (ns : List CoreCount). At (map emptied logs) (map (emptied_at 0) records) ns) (sym counts_are) none))

pub of-requires : goal.of-requires
of-requires c =
    let r : RecorderState = record { world = c.self.inside.port.world; lists = entries_by_log c.self.inside.logs.items; begin = c.self.inside.begin; base = c.self.inside.base; room = c.self.inside.room } in
    let banks = c.self.inside.banks in
    let logs = c.self.inside.logs.items in
    let records = c.self.inside.records.items in
    let counts = c.self.inside.counts.items in
    let taken : AreTakenBy c.args.turns.items r = subst (AreTakenBy c.args.turns.items) (sym c.self.view_is) c.requires.turns in
    let had : c.replace-logs.result.items ≡ logs = search rules in
    subst (λ (ls : List BankLogState). CanBeOrdered banks ls c.args.turns.items) (sym had) (can_be_ordered r banks logs records counts c.self.invariant refl c.args.turns.items taken)

pub returns-clause-order : goal.returns-clause-order
returns-clause-order c =
    let r : RecorderState = record { world = c.self.inside.port.world; lists = entries_by_log c.self.inside.logs.items; begin = c.self.inside.begin; base = c.self.inside.base; room = c.self.inside.room } in
    let banks = c.self.inside.banks in
    let logs = c.self.inside.logs.items in
    let records = c.self.inside.records.items in
    let counts = c.self.inside.counts.items in
    let turns = c.args.turns.items in
    let t : AreTakenBy turns r = subst (AreTakenBy turns) (sym c.self.view_is) c.requires.turns in
    let had : c.replace-logs.result.items ≡ logs = search rules in
    let made : c.of.result ≡ (let u : UnorderedState = record { logs = logs; turns = turns } in u) =
    c.of.ensures ∙ ap (λ (ls : List BankLogState). let u : UnorderedState = record { logs = ls; turns = turns } in u) had
    in
    let order : recorded_order (entries_of r) ≡ recorded_order (in_turns turns r.lists) =
    same_recorded (in_turns turns r.lists) r.lists t.stamped.own t.stamped.known (length r.world.shards) t.stamped.some t.stamped.stamped c.stamps_rise.ensures c.cores_decide_the_order.ensures
    in
    let whole : recorded_order (entries_of r) ≡ recorded_order (entries_of c.args.self.now) = ap (λ (x : RecorderState). recorded_order (entries_of x)) c.self.view_is in
    let same : recorded_order (taken_by_turns turns logs) ≡ recorded_order (entries_of c.args.self.now) =
    ap recorded_order (same_turns r banks logs records counts c.self.invariant refl turns) ∙ (sym order ∙ whole)
    in
    ap order_of made ∙ ap (map (λ (e : Entry). e.core)) same

pub returns-clause-none : goal.returns-clause-none
returns-clause-none c =
    let r : RecorderState = record { world = c.self.inside.port.world; lists = entries_by_log c.self.inside.logs.items; begin = c.self.inside.begin; base = c.self.inside.base; room = c.self.inside.room } in
    let banks = c.self.inside.banks in
    let logs = c.self.inside.logs.items in
    let records = c.self.inside.records.items in
    let counts = c.self.inside.counts.items in
    let cores : c.len-cores.result ≡ length logs = omega (arith, c.len-cores.ensures, c.self.inside.logs.ok.0) in
    let taken : c.replace-logs.new.dest.items ≡ c.in_ok-spare.spare.items = search rules in
    let logs_are : c.replace-logs.new.dest.items ≡ map emptied logs =
    taken ∙ (c.in_ok-spare.ensures ∙ (ap (λ (n : ℕ). map (no_log banks r.room) (range_with_len 0 n)) cores ∙ empty_again r banks logs records counts c.self.invariant refl))
    in
    ap (λ (ls : List BankLogState). let q : RecorderState = record { world = r.world; lists = entries_by_log ls; begin = 0; base = r.base; room = r.room } in q) logs_are
    ∙ (ap (λ (ls : List (List Entry)). let q : RecorderState = record { world = r.world; lists = ls; begin = 0; base = r.base; room = r.room } in q) (none_again r banks logs records counts c.self.invariant refl)
    ∙ ap without_accesses c.self.view_is)
