use Rattle.std.proofs.Common.{◌≡◌, ◌≤◌, ◌+◌, ◌-◌, ℕ, min, List, [], length, Some, refl, sym, ◌∙◌, ap, subst, arith}
use Rattle.std.specs.Prelude.{slice_get, slice_set}
use Rattle.std.proofs.lemmas.Option.{slice_get_within}
use Rattle.zs_num.specs.declared.entry.Entry.{Entry}
use Rattle.access_record.specs.BankLogs.{BankLogState}
use Rattle.access_record.specs.Laws.{beyond_hits}
use Rattle.access_record.specs.RecordLogs.{RecordLogState}
use Rattle.stats.specs.declared.counts.CoreCount.{CoreCount}
use Rattle.noc_mesh.specs.NetTiming.{net_time}
use Rattle.bound_core.specs.ShardPort.{ShardPortState, base_of, l1i_of, room_of, size_of}
use Rattle.bound_core.specs.ShardWorld.{ShardWorld}
use Rattle.bound_core.specs.TimedCore.{beside_cycles}
use Rattle.bound_core.specs.Turn.{RunsToEnd}
use Rattle.bound_records.specs.declared.gated_port.GatedPort.{GatedPort}
use Rattle.bound_records.specs.CoreRuns.{HasRunToEnd, first_port}
use Rattle.bound_records.specs.Recorders.{AreKeptOf, GivesRecorded, RecordPortState, RecorderState}
use Rattle.bound_records.proofs.ByCore.{IsTaken, entries_by_log, first_is, put_back, put_in, taken}
use Rattle.bound_records.proofs.Turns.{Went, inner_run, went}
use Rattle.bound_records.proofs.running.run_on.Goals as goal

pub new-requires-clause-core : goal.new-requires-clause-core
new-requires-clause-core g c =
    let r : RecorderState = record { world = c.recorder.inside.port.world; lists = entries_by_log c.recorder.inside.logs.items; begin = c.recorder.inside.begin; base = c.recorder.inside.base; room = c.recorder.inside.room } in
    let logs = c.recorder.inside.logs.items in
    let records = c.recorder.inside.records.items in
    let counts = c.recorder.inside.counts.items in
    let none : slice_get r.lists c.args.number ≡ Some [] = subst (λ (x : RecorderState). slice_get x.lists c.args.number ≡ Some []) (sym c.recorder.view_is) c.requires.none in
    let log = c.take-record.result.log in
    let kept = c.take-record.result.records in
    let t : IsTaken r c.args.number log kept = taken r c.recorder.inside.banks logs records counts c.recorder.invariant refl c.args.number log kept c.take-record.ensures.log c.take-record.ensures.record none in
    let core : log.core ≡ c.args.number = ap (λ (l : BankLogState). l.core) t.log_is in
    let within = slice_get_within logs c.args.number log c.take-record.ensures.log in
    let stamps = c.recorder.invariant.stamps in
    omega (arith, core, within, stamps)

pub new-requires-clause-banks : goal.new-requires-clause-banks
new-requires-clause-banks g c =
    let r : RecorderState = record { world = c.recorder.inside.port.world; lists = entries_by_log c.recorder.inside.logs.items; begin = c.recorder.inside.begin; base = c.recorder.inside.base; room = c.recorder.inside.room } in
    let logs = c.recorder.inside.logs.items in
    let records = c.recorder.inside.records.items in
    let counts = c.recorder.inside.counts.items in
    let none : slice_get r.lists c.args.number ≡ Some [] = subst (λ (x : RecorderState). slice_get x.lists c.args.number ≡ Some []) (sym c.recorder.view_is) c.requires.none in
    let log = c.take-record.result.log in
    let kept = c.take-record.result.records in
    let t : IsTaken r c.args.number log kept = taken r c.recorder.inside.banks logs records counts c.recorder.invariant refl c.args.number log kept c.take-record.ensures.log c.take-record.ensures.record none in
    ap (λ (l : BankLogState). l.banks) t.log_is

pub new-requires-clause-none : goal.new-requires-clause-none
new-requires-clause-none g c =
    let r : RecorderState = record { world = c.recorder.inside.port.world; lists = entries_by_log c.recorder.inside.logs.items; begin = c.recorder.inside.begin; base = c.recorder.inside.base; room = c.recorder.inside.room } in
    let logs = c.recorder.inside.logs.items in
    let records = c.recorder.inside.records.items in
    let counts = c.recorder.inside.counts.items in
    let none : slice_get r.lists c.args.number ≡ Some [] = subst (λ (x : RecorderState). slice_get x.lists c.args.number ≡ Some []) (sym c.recorder.view_is) c.requires.none in
    let log = c.take-record.result.log in
    let kept = c.take-record.result.records in
    let t : IsTaken r c.args.number log kept = taken r c.recorder.inside.banks logs records counts c.recorder.invariant refl c.args.number log kept c.take-record.ensures.log c.take-record.ensures.record none in
    ap (λ (l : BankLogState). l.entries) t.log_is

pub new-requires-clause-kept : goal.new-requires-clause-kept
new-requires-clause-kept g c =
    let r : RecorderState = record { world = c.recorder.inside.port.world; lists = entries_by_log c.recorder.inside.logs.items; begin = c.recorder.inside.begin; base = c.recorder.inside.base; room = c.recorder.inside.room } in
    let logs = c.recorder.inside.logs.items in
    let records = c.recorder.inside.records.items in
    let counts = c.recorder.inside.counts.items in
    let none : slice_get r.lists c.args.number ≡ Some [] = subst (λ (x : RecorderState). slice_get x.lists c.args.number ≡ Some []) (sym c.recorder.view_is) c.requires.none in
    let log = c.take-record.result.log in
    let kept = c.take-record.result.records in
    let t : IsTaken r c.args.number log kept = taken r c.recorder.inside.banks logs records counts c.recorder.invariant refl c.args.number log kept c.take-record.ensures.log c.take-record.ensures.record none in
    let core : log.core ≡ c.args.number = ap (λ (l : BankLogState). l.core) t.log_is in
    let room : log.room ≡ r.room = ap (λ (l : BankLogState). l.room) t.log_is in
    let begin : kept.begin ≡ r.begin = ap (λ (k : RecordLogState). k.begin) t.kept_is in
    let base : kept.base ≡ r.base = ap (λ (k : RecordLogState). k.base) t.kept_is in
    t.kept_is
    ∙ (ap (λ (n : ℕ). let k : RecordLogState = record { core = n; begin = r.begin; base = r.base; entries = []; room = r.room } in k) (sym core)
    ∙ (ap (λ (n : ℕ). let k : RecordLogState = record { core = log.core; begin = n; base = r.base; entries = []; room = r.room } in k) (sym begin)
    ∙ (ap (λ (n : ℕ). let k : RecordLogState = record { core = log.core; begin = kept.begin; base = n; entries = []; room = r.room } in k) (sym base)
    ∙ ap (λ (n : ℕ). let k : RecordLogState = record { core = log.core; begin = kept.begin; base = kept.base; entries = []; room = n } in k) (sym room))))

pub run_one-requires-clause-core : goal.run_one-requires-clause-core
run_one-requires-clause-core g c =
    let r : RecorderState = record { world = c.recorder.inside.port.world; lists = entries_by_log c.recorder.inside.logs.items; begin = c.recorder.inside.begin; base = c.recorder.inside.base; room = c.recorder.inside.room } in
    let logs = c.recorder.inside.logs.items in
    let records = c.recorder.inside.records.items in
    let counts = c.recorder.inside.counts.items in
    let none : slice_get r.lists c.args.number ≡ Some [] = subst (λ (x : RecorderState). slice_get x.lists c.args.number ≡ Some []) (sym c.recorder.view_is) c.requires.none in
    let log = c.take-record.result.log in
    let kept = c.take-record.result.records in
    let t : IsTaken r c.args.number log kept = taken r c.recorder.inside.banks logs records counts c.recorder.invariant refl c.args.number log kept c.take-record.ensures.log c.take-record.ensures.record none in
    ap (λ (p : RecordPortState). p.core) c.new.ensures ∙ (ap (λ (l : BankLogState). l.core) t.log_is ∙ sym c.requires.number)

pub run_one-requires-clause-room : goal.run_one-requires-clause-room
run_one-requires-clause-room g c =
    let r : RecorderState = record { world = c.recorder.inside.port.world; lists = entries_by_log c.recorder.inside.logs.items; begin = c.recorder.inside.begin; base = c.recorder.inside.base; room = c.recorder.inside.room } in
    let logs = c.recorder.inside.logs.items in
    let records = c.recorder.inside.records.items in
    let counts = c.recorder.inside.counts.items in
    let none : slice_get r.lists c.args.number ≡ Some [] = subst (λ (x : RecorderState). slice_get x.lists c.args.number ≡ Some []) (sym c.recorder.view_is) c.requires.none in
    let log = c.take-record.result.log in
    let kept = c.take-record.result.records in
    let t : IsTaken r c.args.number log kept = taken r c.recorder.inside.banks logs records counts c.recorder.invariant refl c.args.number log kept c.take-record.ensures.log c.take-record.ensures.record none in
    let most = subst (λ (x : RecorderState). c.args.end - c.args.core.now.timed.clock + beside_cycles ≤ min (room_of x.world) x.room) (sym c.recorder.view_is) c.requires.room in
    let world : room_of c.new.result.world ≡ room_of r.world = ap (λ (p : RecordPortState). room_of p.world) c.new.ensures in
    let room : c.new.result.room ≡ r.room = ap (λ (p : RecordPortState). p.room) c.new.ensures ∙ ap (λ (l : BankLogState). l.room) t.log_is in
    let empty : length c.new.result.entries ≡ 0 = ap (λ (p : RecordPortState). length p.entries) c.new.ensures in
    omega (arith, most, world, room, empty)

pub invariant_of-result : goal.invariant_of-result
invariant_of-result g c =
    let r : RecorderState = record { world = c.recorder.inside.port.world; lists = entries_by_log c.recorder.inside.logs.items; begin = c.recorder.inside.begin; base = c.recorder.inside.base; room = c.recorder.inside.room } in
    let logs = c.recorder.inside.logs.items in
    let records = c.recorder.inside.records.items in
    let counts = c.recorder.inside.counts.items in
    let none : slice_get r.lists c.args.number ≡ Some [] = subst (λ (x : RecorderState). slice_get x.lists c.args.number ≡ Some []) (sym c.recorder.view_is) c.requires.none in
    let log = c.take-record.result.log in
    let kept = c.take-record.result.records in
    let t : IsTaken r c.args.number log kept = taken r c.recorder.inside.banks logs records counts c.recorder.invariant refl c.args.number log kept c.take-record.ensures.log c.take-record.ensures.record none in
    let times : Entry → ℕ = λ e. net_time c.args.net.now.path e in
    let P : Type 0 = GatedPort g.row.G.Denot in
    let last : RecordPortState = c.run_one.new.port.port in
    let first : c.new.result ≡ first_port r c.args.core.now.number = c.new.ensures ∙ (first_is r c.args.number log kept t ∙ ap (first_port r) (sym c.requires.number)) in
    let ran : RunsToEnd times c.args.program.now c.args.end GivesRecorded (λ (p : RecordPortState). Some p.entries) c.args.core.now.number c.new.result last c.args.core.now.timed c.run_one.new.self.timed =
    inner_run {Port = P} _ (λ p. p.port) (λ p q start request e given. given) times c.args.program.now c.args.end c.args.core.now.number _ c.run_one.new.port c.args.core.now.timed c.run_one.new.self.timed c.run_one.ensures.turns
    in
    let through : RunsToEnd times c.args.program.now c.args.end GivesRecorded (λ (p : RecordPortState). Some p.entries) c.args.core.now.number (first_port r c.args.core.now.number) last c.args.core.now.timed c.run_one.new.self.timed =
    subst (λ (p : RecordPortState). RunsToEnd times c.args.program.now c.args.end GivesRecorded (λ (x : RecordPortState). Some x.entries) c.args.core.now.number p last c.args.core.now.timed c.run_one.new.self.timed) first ran
    in
    let way : Went (first_port r c.args.core.now.number) last through.entries = went times c.args.program.now c.args.end through.entries (first_port r c.args.core.now.number) last c.args.core.now.timed c.run_one.new.self.timed through.turns in
    let world : c.finish-port.result.0.world ≡ last.world = ap (λ (p : ShardPortState). p.world) c.finish-port.ensures.port in
    let stamps : length c.finish-port.result.0.world.stamps ≡ length r.world.stamps = ap (λ (w : ShardWorld). length w.stamps) world ∙ way.stamps in
    let shards : length c.finish-port.result.0.world.shards ≡ length r.world.shards = ap (λ (w : ShardWorld). length w.shards) world ∙ way.banks in
    let core : last.core ≡ c.args.number = ap (λ (p : RecordPortState). p.core) way.kept ∙ c.requires.number in
    let log_is : c.finish-port.result.1.log ≡ record { core = c.args.number; banks = length c.finish-port.result.0.world.shards; entries = last.entries; room = r.room } =
    c.finish-port.ensures.log
    ∙ (ap (λ (n : ℕ). let l : BankLogState = record { core = n; banks = length last.world.shards; entries = last.entries; room = last.room } in l) core
    ∙ (ap (λ (w : ShardWorld). let l : BankLogState = record { core = c.args.number; banks = length w.shards; entries = last.entries; room = last.room } in l) (sym world)
    ∙ ap (λ (p : RecordPortState). let l : BankLogState = record { core = c.args.number; banks = length c.finish-port.result.0.world.shards; entries = last.entries; room = p.room } in l) way.kept))
    in
    let kept_is : c.finish-port.result.1.records ≡ record { core = c.args.number; begin = r.begin; base = r.base; entries = beyond_hits last.entries; room = r.room } =
    c.finish-port.ensures.records
    ∙ (ap (λ (n : ℕ). let k : RecordLogState = record { core = n; begin = last.begin; base = last.base; entries = beyond_hits last.entries; room = last.room } in k) core
    ∙ ap (λ (p : RecordPortState). let k : RecordLogState = record { core = c.args.number; begin = p.begin; base = p.base; entries = beyond_hits last.entries; room = p.room } in k) way.kept)
    in
    let back = put_back r c.recorder.inside.banks logs records counts c.recorder.invariant refl c.args.number c.finish-port.result.1.log c.finish-port.result.1.records c.finish-port.result.1.count last.entries c.finish-port.result.0.world
    (slice_get_within logs c.args.number log c.take-record.ensures.log) stamps shards log_is kept_is c.finish-port.ensures.count
    in
    let logs_are : c.put.new.logs.items ≡ slice_set logs c.args.number c.finish-port.result.1.log = c.put.ensures.logs ∙ c.take-record.ensures.logs c.finish-port.result.1.log in
    let records_are : c.put.new.records.items ≡ slice_set records c.args.number c.finish-port.result.1.records = c.put.ensures.records ∙ c.take-record.ensures.records c.finish-port.result.1.records in
    let At : (ls : List BankLogState) (ks : List RecordLogState) (ns : List CoreCount) → Type 0 = λ ls ks ns.
    AreKeptOf (record { world = c.finish-port.result.0.world; lists = entries_by_log ls; begin = r.begin; base = r.base; room = r.room }) c.recorder.inside.banks ls ks ns
    in
    subst (λ (ls : List BankLogState). At ls c.put.new.records.items c.put.new.counts.items) (sym logs_are)
    (subst (λ (ks : List RecordLogState). At (slice_set logs c.args.number c.finish-port.result.1.log) ks c.put.new.counts.items) (sym records_are)
    (subst (λ (ns : List CoreCount). At (slice_set logs c.args.number c.finish-port.result.1.log) (slice_set records c.args.number c.finish-port.result.1.records) ns) (sym c.put.ensures.counts) back))

pub returns : goal.returns
returns g c =
    let r : RecorderState = record { world = c.recorder.inside.port.world; lists = entries_by_log c.recorder.inside.logs.items; begin = c.recorder.inside.begin; base = c.recorder.inside.base; room = c.recorder.inside.room } in
    let logs = c.recorder.inside.logs.items in
    let records = c.recorder.inside.records.items in
    let counts = c.recorder.inside.counts.items in
    let none : slice_get r.lists c.args.number ≡ Some [] = subst (λ (x : RecorderState). slice_get x.lists c.args.number ≡ Some []) (sym c.recorder.view_is) c.requires.none in
    let log = c.take-record.result.log in
    let kept = c.take-record.result.records in
    let t : IsTaken r c.args.number log kept = taken r c.recorder.inside.banks logs records counts c.recorder.invariant refl c.args.number log kept c.take-record.ensures.log c.take-record.ensures.record none in
    let times : Entry → ℕ = λ e. net_time c.args.net.now.path e in
    let P : Type 0 = GatedPort g.row.G.Denot in
    let last : RecordPortState = c.run_one.new.port.port in
    let first : c.new.result ≡ first_port r c.args.core.now.number = c.new.ensures ∙ (first_is r c.args.number log kept t ∙ ap (first_port r) (sym c.requires.number)) in
    let ran : RunsToEnd times c.args.program.now c.args.end GivesRecorded (λ (p : RecordPortState). Some p.entries) c.args.core.now.number c.new.result last c.args.core.now.timed c.run_one.new.self.timed =
    inner_run {Port = P} _ (λ p. p.port) (λ p q start request e given. given) times c.args.program.now c.args.end c.args.core.now.number _ c.run_one.new.port c.args.core.now.timed c.run_one.new.self.timed c.run_one.ensures.turns
    in
    let through : RunsToEnd times c.args.program.now c.args.end GivesRecorded (λ (p : RecordPortState). Some p.entries) c.args.core.now.number (first_port r c.args.core.now.number) last c.args.core.now.timed c.run_one.new.self.timed =
    subst (λ (p : RecordPortState). RunsToEnd times c.args.program.now c.args.end GivesRecorded (λ (x : RecordPortState). Some x.entries) c.args.core.now.number p last c.args.core.now.timed c.run_one.new.self.timed) first ran
    in
    let world : c.finish-port.result.0.world ≡ last.world = ap (λ (p : ShardPortState). p.world) c.finish-port.ensures.port in
    let logs_are : c.put.new.logs.items ≡ slice_set logs c.args.number c.finish-port.result.1.log = c.put.ensures.logs ∙ c.take-record.ensures.logs c.finish-port.result.1.log in
    let entries : c.finish-port.result.1.log.entries ≡ last.entries = ap (λ (l : BankLogState). l.entries) c.finish-port.ensures.log in
    let after : RecorderState = record { world = c.finish-port.result.0.world; lists = entries_by_log c.put.new.logs.items; begin = r.begin; base = r.base; room = r.room } in
    let kept_is : after ≡ record r { world = last.world; lists = slice_set r.lists c.args.core.now.number last.entries } =
    ap (λ (ls : List BankLogState). let q : RecorderState = record { world = c.finish-port.result.0.world; lists = entries_by_log ls; begin = r.begin; base = r.base; room = r.room } in q) logs_are
    ∙ (put_in r c.args.number logs c.finish-port.result.1.log last.entries last.world c.finish-port.result.0.world refl entries world
    ∙ ap (λ (n : ℕ). let q : RecorderState = record r { world = last.world; lists = slice_set r.lists n last.entries } in q) (sym c.requires.number))
    in
    let from : c.new.result.world ≡ r.world = ap (λ (p : RecordPortState). p.world) c.new.ensures in
    let has : HasRunToEnd times c.args.program.now c.args.end c.args.core.now c.run_one.new.self r after = record {
      last = last;
      ran = through;
      over = c.run_one.ensures.over;
      few = c.run_one.ensures.few;
      latest = c.run_one.ensures.latest;
      number = c.run_one.ensures.number;
      base_stays = c.run_one.ensures.port_base ∙ ap base_of from;
      size_stays = c.run_one.ensures.port_size ∙ ap size_of from;
      l1i_stays = c.run_one.ensures.port_l1i ∙ ap l1i_of from;
      kept = kept_is;
    } in
    subst (λ (x : RecorderState). HasRunToEnd times c.args.program.now c.args.end c.args.core.now c.run_one.new.self x after) c.recorder.view_is has
