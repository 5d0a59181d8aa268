use Rattle.std.proofs.Common.{rules, ◌≡◌, ◌+◌, ◌*◌, ◌≤◌, ℕ, List, length, map, sym, ◌∙◌, ap, subst}
use Rattle.zs_num.specs.declared.entry.Entry.{Entry}
use Rattle.access_log.specs.Logs.{HaveDistinctKeys, LogState, entries_of_logs}
use Rattle.access_log.specs.RecordedOrder.{recorded_order}
use Rattle.shard_table.specs.Access.{AreAllSeats, AreWhole, SeatState, TableState, entries_of_seats, recorded_entries}
use Rattle.bound_core.specs.TimedCore.{beside_cycles}
use Rattle.bound_core.specs.NumberedCores.{NumberedCore}
use Rattle.bound_phase.specs.declared.member.Member.{Member}
use Rattle.bound_phase.specs.Bounds.{HaveNewSeats, HaveEndedInterval, IsBound}
use Rattle.bound_phase.specs.Shares.{HaveReturned, mates}
use Rattle.bound_phase.proofs.Ending.{all_seats, few_all, flat_logs, have_ended, is_bound}
use Rattle.bound_phase.proofs.Seated.{seated, written_back}
use Rattle.bound_phase.proofs.interval.bound_in.Goals as goal

pub make_over-requires-clause-numbers : goal.make_over-requires-clause-numbers
make_over-requires-clause-numbers g c = λ number shard at. (c.requires.can.shards_are.each number shard at).number_is

pub run_crews-requires-clause-hired : goal.run_crews-requires-clause-hired
run_crews-requires-clause-hired g c = λ lifetimes inside.
    let m = c.args.machine.now in
    let t : TableState = c.in-Ok-make_over.table in
    let cores : List NumberedCore = c.new.new.cores in
    let first : List NumberedCore = c.args.cores.items in
    let now = c.deref_mut.ensures.value in
    let size : length cores ≡ length first = c.new.ensures.count ∙ ap length now in
    let table = c.in-Ok-make_over.ensures.table in
    subst (λ (xs : List NumberedCore). HaveNewSeats m c.args.end t xs c.in-Ok-make_over.seats.items) (sym (written_back c.args.cores.len cores first (size ∙ search rules)))
    (seated m c.args.end t first cores c.args.shards.items c.in-Ok-make_over.seats.items c.requires.can size (c.new.ensures.timed ∙ ap (map (λ (x : NumberedCore). x.timed)) now)
    (c.new.ensures.number ∙ ap (map (λ (x : NumberedCore). x.number)) now) c.in-Ok.ensures.spare table.1 table.0 (search rules) c.in-Ok-make_over.ensures.seats)

pub close-shards-requires : goal.close-shards-requires
close-shards-requires g c =
    let m = c.args.machine.now in
    let t : TableState = c.in-Ok-make_over.table in
    let cores : List NumberedCore = c.new.new.cores in
    let now_cores = c.deref_mut.ensures.value in
    let size : length cores ≡ length c.args.cores.items = c.new.ensures.count ∙ ap length now_cores in
    let table = c.in-Ok-make_over.ensures.table in
    let seats : List SeatState = c.in-Ok-make_over.seats.items in
    let whole = written_back c.args.cores.len cores c.args.cores.items (size ∙ search rules) in
    let back = subst (λ (xs : List NumberedCore). HaveReturned (g.X.Expand.time c.args.expansion.now) (g.P.Program.image c.args.program.now) c.args.end t (mates xs seats) c.run_crews.new.back.items c.run_crews.new.seats_back.items) whole c.run_crews.ensures in
    let count : length cores ≡ t.cores = size ∙ (c.requires.can.count ∙ sym table.1) in
    subst (AreAllSeats t) (sym back.seats_are) (all_seats (g.X.Expand.time c.args.expansion.now) (g.P.Program.image c.args.program.now) c.args.end t cores seats back.now back.ran count c.in-Ok-make_over.ensures.seats)

pub merge-entries-requires-clause-room : goal.merge-entries-requires-clause-room
merge-entries-requires-clause-room g c =
    let m = c.args.machine.now in
    let t : TableState = c.in-Ok-make_over.table in
    let cores : List NumberedCore = c.new.new.cores in
    let now_cores = c.deref_mut.ensures.value in
    let size : length cores ≡ length c.args.cores.items = c.new.ensures.count ∙ ap length now_cores in
    let table = c.in-Ok-make_over.ensures.table in
    let seats : List SeatState = c.in-Ok-make_over.seats.items in
    let whole = written_back c.args.cores.len cores c.args.cores.items (size ∙ search rules) in
    let back = subst (λ (xs : List NumberedCore). HaveReturned (g.X.Expand.time c.args.expansion.now) (g.P.Program.image c.args.program.now) c.args.end t (mates xs seats) c.run_crews.new.back.items c.run_crews.new.seats_back.items) whole c.run_crews.ensures in
    let count : length cores ≡ t.cores = size ∙ (c.requires.can.count ∙ sym table.1) in
    let logs = c.close-shards.ensures.logs ∙ ap (map (λ (s : SeatState). s.entries)) back.seats_are in
    let few = few_all (g.X.Expand.time c.args.expansion.now) (g.P.Program.image c.args.program.now) c.args.end t cores seats back.now back.ran count c.in-Ok-make_over.ensures.seats c.close-shards.result.1.items logs in
    let room : t.room ≡ m.interval + beside_cycles = search rules in
    let product : t.cores * t.room ≡ c.in-Ok.memory.merger = ap (λ (p : ℕ × ℕ). p.0 * p.1) (λ i. (table.1 i, room i)) ∙ sym c.in-Ok.ensures.merger in
    subst (λ (n : ℕ). length (entries_of_logs c.deref.result.now) ≤ n) product (subst (λ (ls : List LogState). length (entries_of_logs ls) ≤ t.cores * t.room) (sym c.deref.ensures.value) few)

pub merge-entries-requires-clause-keys : goal.merge-entries-requires-clause-keys
merge-entries-requires-clause-keys g c =
    let m = c.args.machine.now in
    let t : TableState = c.in-Ok-make_over.table in
    let cores : List NumberedCore = c.new.new.cores in
    let now_cores = c.deref_mut.ensures.value in
    let size : length cores ≡ length c.args.cores.items = c.new.ensures.count ∙ ap length now_cores in
    let table = c.in-Ok-make_over.ensures.table in
    let seats : List SeatState = c.in-Ok-make_over.seats.items in
    let whole = written_back c.args.cores.len cores c.args.cores.items (size ∙ search rules) in
    let back = subst (λ (xs : List NumberedCore). HaveReturned (g.X.Expand.time c.args.expansion.now) (g.P.Program.image c.args.program.now) c.args.end t (mates xs seats) c.run_crews.new.back.items c.run_crews.new.seats_back.items) whole c.run_crews.ensures in
    let count : length cores ≡ t.cores = size ∙ (c.requires.can.count ∙ sym table.1) in
    let logs = c.close-shards.ensures.logs ∙ ap (map (λ (s : SeatState). s.entries)) back.seats_are in
    let flat = flat_logs (g.X.Expand.time c.args.expansion.now) (g.P.Program.image c.args.program.now) c.args.end t cores seats back.now back.ran count c.in-Ok-make_over.ensures.seats c.close-shards.result.1.items logs in
    let rise = c.close-shards.ensures.whole.rise in
    let same : entries_of_logs c.deref.result.now ≡ entries_of_seats c.run_crews.new.seats_back.items = ap entries_of_logs c.deref.ensures.value ∙ (flat ∙ ap entries_of_seats (sym back.seats_are)) in
    subst HaveDistinctKeys (sym same) (c.rising_stamps_are_distinct.ensures (entries_of_seats c.run_crews.new.seats_back.items) rise)

pub returns-in-Ok-make_over-clause-bound : goal.returns-in-Ok-make_over-clause-bound
returns-in-Ok-make_over-clause-bound g c =
    let m = c.args.machine.now in
    let t : TableState = c.in-Ok-make_over.table in
    let cores : List NumberedCore = c.new.new.cores in
    let now_cores = c.deref_mut.ensures.value in
    let size : length cores ≡ length c.args.cores.items = c.new.ensures.count ∙ ap length now_cores in
    let table = c.in-Ok-make_over.ensures.table in
    let seats : List SeatState = c.in-Ok-make_over.seats.items in
    let whole = written_back c.args.cores.len cores c.args.cores.items (size ∙ search rules) in
    let back = subst (λ (xs : List NumberedCore). HaveReturned (g.X.Expand.time c.args.expansion.now) (g.P.Program.image c.args.program.now) c.args.end t (mates xs seats) c.run_crews.new.back.items c.run_crews.new.seats_back.items) whole c.run_crews.ensures in
    let count : length cores ≡ t.cores = size ∙ (c.requires.can.count ∙ sym table.1) in
    let logs = c.close-shards.ensures.logs ∙ ap (map (λ (s : SeatState). s.entries)) back.seats_are in
    let flat = flat_logs (g.X.Expand.time c.args.expansion.now) (g.P.Program.image c.args.program.now) c.args.end t cores seats back.now back.ran count c.in-Ok-make_over.ensures.seats c.close-shards.result.1.items logs in
    let all_of_them = subst (λ (ss : List SeatState). AreWhole t (recorded_entries ss) ss c.close-shards.result.0.items) back.seats_are c.close-shards.ensures.whole in
    let it = is_bound (g.X.Expand.time c.args.expansion.now) (g.P.Program.image c.args.program.now) c.args.end t cores seats back.now back.ran count c.in-Ok-make_over.ensures.seats c.args.cores.items c.args.shards.items c.close-shards.result.0.items
    (c.new.ensures.timed ∙ ap (map (λ (x : NumberedCore). x.timed)) now_cores) (c.new.ensures.number ∙ ap (map (λ (x : NumberedCore). x.number)) now_cores) c.requires.can.shards_are.some table.0 all_of_them
    c.rising_lists_stay.ensures c.cores_decide_the_order.ensures in
    let entries : c.merge-entries.result ≡ recorded_entries (map (λ (x : Member). x.seat) back.now) = c.merge-entries.ensures ∙ ap recorded_order (ap entries_of_logs c.deref.ensures.value ∙ flat) in
    subst (λ (es : List Entry). IsBound (g.X.Expand.time c.args.expansion.now) (g.P.Program.image c.args.program.now) c.args.end c.args.cores.items c.args.shards.items c.run_crews.new.back.items c.close-shards.result.0.items es) (sym entries)
    (subst (λ (cs : List NumberedCore). IsBound (g.X.Expand.time c.args.expansion.now) (g.P.Program.image c.args.program.now) c.args.end c.args.cores.items c.args.shards.items cs c.close-shards.result.0.items (recorded_entries (map (λ (x : Member). x.seat) back.now)))
    (sym back.cores_are) it)

pub returns-in-Ok-make_over-clause-ended : goal.returns-in-Ok-make_over-clause-ended
returns-in-Ok-make_over-clause-ended g c =
    let m = c.args.machine.now in
    let t : TableState = c.in-Ok-make_over.table in
    let cores : List NumberedCore = c.new.new.cores in
    let now_cores = c.deref_mut.ensures.value in
    let size : length cores ≡ length c.args.cores.items = c.new.ensures.count ∙ ap length now_cores in
    let table = c.in-Ok-make_over.ensures.table in
    let seats : List SeatState = c.in-Ok-make_over.seats.items in
    let whole = written_back c.args.cores.len cores c.args.cores.items (size ∙ search rules) in
    let back = subst (λ (xs : List NumberedCore). HaveReturned (g.X.Expand.time c.args.expansion.now) (g.P.Program.image c.args.program.now) c.args.end t (mates xs seats) c.run_crews.new.back.items c.run_crews.new.seats_back.items) whole c.run_crews.ensures in
    let count : length cores ≡ t.cores = size ∙ (c.requires.can.count ∙ sym table.1) in
    let logs = c.close-shards.ensures.logs ∙ ap (map (λ (s : SeatState). s.entries)) back.seats_are in
    let flat = flat_logs (g.X.Expand.time c.args.expansion.now) (g.P.Program.image c.args.program.now) c.args.end t cores seats back.now back.ran count c.in-Ok-make_over.ensures.seats c.close-shards.result.1.items logs in
    let all_of_them = subst (λ (ss : List SeatState). AreWhole t (recorded_entries ss) ss c.close-shards.result.0.items) back.seats_are c.close-shards.ensures.whole in
    let room : t.room ≡ m.interval + beside_cycles = search rules in
    let it = have_ended (g.X.Expand.time c.args.expansion.now) (g.P.Program.image c.args.program.now) c.args.end t cores seats back.now back.ran count c.in-Ok-make_over.ensures.seats c.args.cores.items c.args.shards.items c.close-shards.result.0.items
    (c.new.ensures.timed ∙ ap (map (λ (x : NumberedCore). x.timed)) now_cores) (c.new.ensures.number ∙ ap (map (λ (x : NumberedCore). x.number)) now_cores) c.requires.can.shards_are.some table.0 all_of_them
    c.rising_lists_stay.ensures c.cores_decide_the_order.ensures m table.1 room in
    let entries : c.merge-entries.result ≡ recorded_entries (map (λ (x : Member). x.seat) back.now) = c.merge-entries.ensures ∙ ap recorded_order (ap entries_of_logs c.deref.ensures.value ∙ flat) in
    subst (λ (es : List Entry). HaveEndedInterval m c.args.end c.args.cores.items c.run_crews.new.back.items es) (sym entries)
    (subst (λ (cs : List NumberedCore). HaveEndedInterval m c.args.end c.args.cores.items cs (recorded_entries (map (λ (x : Member). x.seat) back.now)))
    (sym back.cores_are) it)
