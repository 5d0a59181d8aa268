-- The access is kept at the number of the core whose turn it is.
use Rattle.std.proofs.Common.{◌≡◌, ◌<◌, ◌++◌, ◌∷◌, [], ℕ, List, length, Some, refl, sym, ◌∙◌, ap, subst, arith}
use Rattle.std.specs.Prelude.{slice_get, slice_set}
use Rattle.std.proofs.lemmas.Option.{slice_get-get_or}
use Rattle.zs_num.specs.declared.entry.Entry.{Entry}
use Rattle.access_record.specs.BankLogs.{BankLogState}
use Rattle.access_record.specs.RecordLogs.{RecordLogState}
use Rattle.stats.specs.declared.counts.CoreCount.{CoreCount}
use Rattle.weave_chains.specs.Listed.{list_of}
use Rattle.bound_records.specs.Recorders.{AreKeptOf, RecorderState, TurnPortState, with_access_of}
use Rattle.bound_records.proofs.ByCore.{entries_by_log, its_list, lists_after, one_kept}
use Rattle.bound_records.proofs.KeptInTurns.{own}
use Rattle.bound_records.proofs.turn_port.TurnPort.put.Goals as goal

abbrev core_of : TurnPortState → ℕ
core_of p = p.core

pub keep-requires-clause-core : goal.keep-requires-clause-core
keep-requires-clause-core g c =
    let same = c.from-core.ensures ∙ (c.requires.core ∙ sym (ap core_of c.self.view_is)) in
    sym c.from-core.ensures ∙ sym (own c.self.invariant same c.index_mut.ensures.value c.index_mut-2.ensures.value c.index_mut-3.ensures.value).log_core

pub keep-requires-clause-some : goal.keep-requires-clause-some
keep-requires-clause-some g c =
    let same = c.from-core.ensures ∙ (c.requires.core ∙ sym (ap core_of c.self.view_is)) in
    let banks = (own c.self.invariant same c.index_mut.ensures.value c.index_mut-2.ensures.value c.index_mut-3.ensures.value).log_banks in
    let are = c.self.invariant.0.banks_are in
    let some = c.self.invariant.0.some_banks in
    omega (arith, banks, are, some)

pub keep-requires-clause-room : goal.keep-requires-clause-room
keep-requires-clause-room g c =
    let r : RecorderState = record { world = c.self.inside.port.world; lists = entries_by_log c.self.inside.logs.items; begin = c.self.inside.begin; base = c.self.inside.base; room = c.self.inside.room } in
    let logs = c.self.inside.logs.items in
    let records = c.self.inside.records.items in
    let counts = c.self.inside.counts.items in
    let n = c.from-core.result in
    let k : AreKeptOf r c.self.inside.banks logs records counts = c.self.invariant.0 in
    let same = c.from-core.ensures ∙ (c.requires.core ∙ sym (ap core_of c.self.view_is)) in
    let below : n < length logs = (let there = c.self.invariant.1 in let m = k.stamps in omega (arith, same, there, m)) in
    let many = k.records_many in
    let as_many = k.counts_many in
    let log : BankLogState = c.index_mut.result.now in
    let kept : RecordLogState = c.index_mut-2.result.now in
    let count : CoreCount = c.index_mut-3.result.now in
    let here : slice_get logs n ≡ Some log = slice_get-get_or logs n log below ∙ ap (λ (l : BankLogState). Some l) (sym c.index_mut.ensures.value) in
    let there : slice_get records n ≡ Some kept = slice_get-get_or records n kept (omega (arith, below, many)) ∙ ap (λ (l : RecordLogState). Some l) (sym c.index_mut-2.ensures.value) in
    let counted : slice_get counts n ≡ Some count = slice_get-get_or counts n count (omega (arith, below, as_many)) ∙ ap (λ (x : CoreCount). Some x) (sym c.index_mut-3.ensures.value) in
    let room : length (list_of r.lists c.self.inside.port.core) < r.room = subst (λ (p : TurnPortState). length (list_of p.recorder.lists p.core) < p.recorder.room) (sym c.self.view_is) c.requires.room in
    let is : list_of r.lists c.self.inside.port.core ≡ log.entries = ap (list_of r.lists) (sym same) ∙ its_list r c.self.inside.banks logs records counts k refl n log kept count here there counted in
    let long = ap length is in
    let log_room = (own c.self.invariant same c.index_mut.ensures.value c.index_mut-2.ensures.value c.index_mut-3.ensures.value).log_room in
    omega (arith, room, long, log_room)

pub keep-requires-clause-records : goal.keep-requires-clause-records
keep-requires-clause-records g c =
    let same = c.from-core.ensures ∙ (c.requires.core ∙ sym (ap core_of c.self.view_is)) in
    let is = own c.self.invariant same c.index_mut.ensures.value c.index_mut-2.ensures.value c.index_mut-3.ensures.value in
    is.kept_core ∙ sym is.log_core

pub keep-requires-clause-kept : goal.keep-requires-clause-kept
keep-requires-clause-kept g c =
    let same = c.from-core.ensures ∙ (c.requires.core ∙ sym (ap core_of c.self.view_is)) in
    (own c.self.invariant same c.index_mut.ensures.value c.index_mut-2.ensures.value c.index_mut-3.ensures.value).kept_entries

pub keep-requires-clause-records_room : goal.keep-requires-clause-records_room
keep-requires-clause-records_room g c =
    let same = c.from-core.ensures ∙ (c.requires.core ∙ sym (ap core_of c.self.view_is)) in
    let is = own c.self.invariant same c.index_mut.ensures.value c.index_mut-2.ensures.value c.index_mut-3.ensures.value in
    is.kept_room ∙ sym is.log_room

pub keep-requires-clause-count : goal.keep-requires-clause-count
keep-requires-clause-count g c =
    let same = c.from-core.ensures ∙ (c.requires.core ∙ sym (ap core_of c.self.view_is)) in
    (own c.self.invariant same c.index_mut.ensures.value c.index_mut-2.ensures.value c.index_mut-3.ensures.value).count_is

pub invariant_of-self : goal.invariant_of-self
invariant_of-self g c =
    let r : RecorderState = record { world = c.self.inside.port.world; lists = entries_by_log c.self.inside.logs.items; begin = c.self.inside.begin; base = c.self.inside.base; room = c.self.inside.room } in
    let logs = c.self.inside.logs.items in
    let records = c.self.inside.records.items in
    let counts = c.self.inside.counts.items in
    let n = c.from-core.result in
    let k : AreKeptOf r c.self.inside.banks logs records counts = c.self.invariant.0 in
    let same = c.from-core.ensures ∙ (c.requires.core ∙ sym (ap core_of c.self.view_is)) in
    let below : n < length logs = (let there = c.self.invariant.1 in let m = k.stamps in omega (arith, same, there, m)) in
    let many = k.records_many in
    let as_many = k.counts_many in
    let log : BankLogState = c.index_mut.result.now in
    let kept : RecordLogState = c.index_mut-2.result.now in
    let count : CoreCount = c.index_mut-3.result.now in
    let here : slice_get logs n ≡ Some log = slice_get-get_or logs n log below ∙ ap (λ (l : BankLogState). Some l) (sym c.index_mut.ensures.value) in
    let there : slice_get records n ≡ Some kept = slice_get-get_or records n kept (omega (arith, below, many)) ∙ ap (λ (l : RecordLogState). Some l) (sym c.index_mut-2.ensures.value) in
    let counted : slice_get counts n ≡ Some count = slice_get-get_or counts n count (omega (arith, below, as_many)) ∙ ap (λ (x : CoreCount). Some x) (sym c.index_mut-3.ensures.value) in (
      one_kept r c.self.inside.banks logs records counts k refl n log kept count here there counted c.args.entry.now r.world c.keep.new.log c.keep.new.records c.keep.new.count c.keep.ensures.log c.keep.ensures.records c.keep.ensures.count refl refl,
      c.self.invariant.1,
    )

pub returns : goal.returns
returns g c =
    let r : RecorderState = record { world = c.self.inside.port.world; lists = entries_by_log c.self.inside.logs.items; begin = c.self.inside.begin; base = c.self.inside.base; room = c.self.inside.room } in
    let logs = c.self.inside.logs.items in
    let records = c.self.inside.records.items in
    let counts = c.self.inside.counts.items in
    let n = c.from-core.result in
    let core = c.self.inside.port.core in
    let e : Entry = c.args.entry.now in
    let k : AreKeptOf r c.self.inside.banks logs records counts = c.self.invariant.0 in
    let same : n ≡ core = c.from-core.ensures ∙ (c.requires.core ∙ sym (ap core_of c.self.view_is)) in
    let below : n < length logs = (let there = c.self.invariant.1 in let m = k.stamps in omega (arith, same, there, m)) in
    let many = k.records_many in
    let as_many = k.counts_many in
    let log : BankLogState = c.index_mut.result.now in
    let kept : RecordLogState = c.index_mut-2.result.now in
    let count : CoreCount = c.index_mut-3.result.now in
    let here : slice_get logs n ≡ Some log = slice_get-get_or logs n log below ∙ ap (λ (l : BankLogState). Some l) (sym c.index_mut.ensures.value) in
    let there : slice_get records n ≡ Some kept = slice_get-get_or records n kept (omega (arith, below, many)) ∙ ap (λ (l : RecordLogState). Some l) (sym c.index_mut-2.ensures.value) in
    let counted : slice_get counts n ≡ Some count = slice_get-get_or counts n count (omega (arith, below, as_many)) ∙ ap (λ (x : CoreCount). Some x) (sym c.index_mut-3.ensures.value) in
    let lists_are : entries_by_log (slice_set logs n c.keep.new.log) ≡ slice_set r.lists core (list_of r.lists core ++ e ∷ []) =
    lists_after r c.self.inside.banks logs records counts k refl n log kept count here there counted e c.keep.new.log c.keep.ensures.log ∙ ap (λ (m : ℕ). slice_set r.lists m (list_of r.lists m ++ e ∷ [])) same
    in
    let to : (lists : List (List Entry)) → TurnPortState = (λ lists. record { recorder = record { world = r.world; lists = lists; begin = r.begin; base = r.base; room = r.room }; core = core }) in
    subst (λ (p : TurnPortState). to (entries_by_log (slice_set logs n c.keep.new.log)) ≡ record p { recorder = with_access_of p.recorder p.core e p.recorder.world }) c.self.view_is (ap to lists_are)
