-- What several workers do in an interval is its history, and the recorder has it.
use Rattle.std.proofs.Common.{◌≡◌, ℕ, ◌<◌, All, List, Some, length, map, sym, ◌∙◌, ap, subst, arith, refl}
use Rattle.std.specs.Arc.{arc_value}
use Rattle.std.specs.Vec.{with_items}
use Rattle.std.proofs.lemmas.List.{length-map, with_items_is}
use Rattle.std.proofs.lemmas.List.Elements.{All-map}
use Rattle.zs_num.specs.declared.entry.Entry.{Entry}
use Rattle.event_graph.specs.PathInRange.{IsAccessPath}
use Rattle.noc_mesh.specs.NetTiming.{net_time}
use Rattle.shard.specs.Served.{ShardState}
use Rattle.access_record.specs.Restamped.{stamped_in_turns, stamped_lists}
use Rattle.access_record.specs.Turns.{in_turns}
use Rattle.bound_core.specs.NumberedCores.{NumberedCore, timed_of}
use Rattle.bound_core.specs.ShardPort.{ShardPortState}
use Rattle.bound_records.specs.Apart.{AreTurnsOfLists, lists_in}
use Rattle.bound_records.specs.CoreRuns.{AreNumbered, access_time_of}
use Rattle.bound_records.specs.Intervals.{HaveRun}
use Rattle.bound_records.specs.Recorders.{RecorderState}
use Rattle.bound_records.specs.declared.apart.RecorderParts.{RecorderParts}
use Rattle.bound_records.specs.declared.record_port.CoreRecord.{CoreRecord}
use Rattle.bound_records.proofs.ByHistory.{HasHistory, as_listed, have_run, kept_run}
use Rattle.bound_records.proofs.Turns.{same_times}
use Rattle.parts_table.specs.Access.{AreAllSeats, AreWhole, SeatState, TableState}
use Rattle.parts_table.specs.KeptKeys.{BlocksState}
use Rattle.parts_table.specs.TurnOrder.{AreTurnsOf, key_of}
use Rattle.bound_workers.specs.Intervals.{HaveSeats}
use Rattle.bound_workers.specs.Shares.{HaveReturned, mates}
use Rattle.bound_workers.proofs.BoundHistory.{all_there, as_many_blocks, has_history, left_port, parts_again, put_in_order, sizes_are, turns_of_lists}
use Rattle.bound_workers.proofs.BoundSeats.{HasBegun, have_seats, marks_many}
use Rattle.bound_workers.proofs.interval.bound_by.Goals as goal

pub make-requires-clause-cores : goal.make-requires-clause-cores
make-requires-clause-cores g c = λ shard here.
    marks_many c.args.machine.now c.args.recorder c.saturating_sub.result c.in_ok-parts.parts c.take_apart-shards.result.0 c.take_apart-shards.result.1.items c.requires.recorder c.requires.shards c.in_ok-parts.ensures
    c.take_apart-shards.ensures.world shard here
    ∙ sym c.in_ok-tools.ensures.blocks_are

pub run_teams-requires-clause-hired : goal.run_teams-requires-clause-hired
run_teams-requires-clause-hired g c κs within =
    let m = c.args.machine.now in
    let end = c.args.end in
    let begin = c.saturating_sub.result in
    let before : RecorderState = c.args.recorder in
    let p : RecorderParts = c.in_ok-parts.parts in
    let shards : List ShardState = c.take_apart-shards.result.0 in
    let stamps : List ℕ = c.take_apart-shards.result.1.items in
    let t : TableState = c.in-Ok.made.0 in
    let seats : List SeatState = c.in-Ok.made.1.items in
    let cores : List NumberedCore = c.args.cores.items in
    let reserved : List NumberedCore = c.reserve_all.new.cores in
    let now_cores : c.deref_mut.result.now ≡ cores = c.deref_mut.ensures.value in
    let did = c.in_ok-reserve_all.ensures in
    let counts = c.in-Ok.ensures.counts in
    let h : HasBegun m end begin before p shards stamps t cores reserved seats = record {
      is = c.requires.machine;
      small = c.requires.end;
      begins = c.saturating_sub.ensures;
      recorder = c.requires.recorder;
      are = c.requires.shards;
      new = c.in_ok-parts.ensures;
      apart = c.take_apart-shards.ensures.world;
      opening = c.in-Ok.ensures.shards;
      t_cores = counts.0 ∙ c.in_ok-tools.ensures.blocks_are;
      t_room = counts.2;
      new_seats = c.in-Ok.ensures.seats;
      count = c.requires.count;
      ready = c.requires.ready;
      timed = did.timed ∙ ap timed_of now_cores;
      numbered = did.numbered (subst AreNumbered (sym now_cores) c.requires.numbered);
      spare = did.spare;
    } in
    let long = ap length now_cores in
    let same_long = c.reserve_all.auto.cores in
    let len = c.args.cores.ok.0 in
    let written : (with_items c.args.cores reserved).items ≡ reserved = with_items_is c.args.cores reserved (omega (arith, long, same_long, len)) in
    let table : arc_value c.in_ok-table.table ≡ t = c.in_ok-table.ensures.ok in
    subst (λ (x : TableState). HaveSeats m end x (with_items c.args.cores reserved).items seats p.records.items) (sym table)
    (subst (λ (xs : List NumberedCore). HaveSeats m end t xs seats p.records.items) (sym written) (have_seats m end begin before p shards stamps t cores reserved seats h))

pub close-shards-requires : goal.close-shards-requires
close-shards-requires g c =
    let m = c.args.machine.now in
    let end = c.args.end in
    let begin = c.saturating_sub.result in
    let before : RecorderState = c.args.recorder in
    let p : RecorderParts = c.in_ok-parts.parts in
    let shards : List ShardState = c.take_apart-shards.result.0 in
    let stamps : List ℕ = c.take_apart-shards.result.1.items in
    let t : TableState = c.in-Ok.made.0 in
    let seats : List SeatState = c.in-Ok.made.1.items in
    let cores : List NumberedCore = c.args.cores.items in
    let reserved : List NumberedCore = c.reserve_all.new.cores in
    let now_cores : c.deref_mut.result.now ≡ cores = c.deref_mut.ensures.value in
    let did = c.in_ok-reserve_all.ensures in
    let counts = c.in-Ok.ensures.counts in
    let h : HasBegun m end begin before p shards stamps t cores reserved seats = record {
      is = c.requires.machine;
      small = c.requires.end;
      begins = c.saturating_sub.ensures;
      recorder = c.requires.recorder;
      are = c.requires.shards;
      new = c.in_ok-parts.ensures;
      apart = c.take_apart-shards.ensures.world;
      opening = c.in-Ok.ensures.shards;
      t_cores = counts.0 ∙ c.in_ok-tools.ensures.blocks_are;
      t_room = counts.2;
      new_seats = c.in-Ok.ensures.seats;
      count = c.requires.count;
      ready = c.requires.ready;
      timed = did.timed ∙ ap timed_of now_cores;
      numbered = did.numbered (subst AreNumbered (sym now_cores) c.requires.numbered);
      spare = did.spare;
    } in
    let long = ap length now_cores in
    let same_long = c.reserve_all.auto.cores in
    let len = c.args.cores.ok.0 in
    let written : (with_items c.args.cores reserved).items ≡ reserved = with_items_is c.args.cores reserved (omega (arith, long, same_long, len)) in
    let table : arc_value c.in_ok-table.table ≡ t = c.in_ok-table.ensures.ok in
    let image = c.args.program.now in
    let net = c.args.net.now in
    let by_net : Entry → ℕ = λ e. net_time net.path e in
    let cores_back : List NumberedCore = c.run_teams.new.back.cores.items in
    let seats_back : List SeatState = c.run_teams.new.back.seats.items in
    let records_back : List CoreRecord = c.run_teams.new.back.records.items in
    let r : HaveReturned (access_time_of m) image end t (mates reserved seats p.records.items) cores_back seats_back records_back =
    subst (λ (times : Entry → ℕ). HaveReturned times image end t (mates reserved seats p.records.items) cores_back seats_back records_back) (same_times m net c.requires.net)
    (subst (λ (x : TableState). HaveReturned by_net image end x (mates reserved seats p.records.items) cores_back seats_back records_back) table
    (subst (λ (xs : List NumberedCore). HaveReturned by_net image end (arc_value c.in_ok-table.table) (mates xs seats p.records.items) cores_back seats_back records_back) written c.in_ok-run_teams.ensures.returned))
    in
    let only : c.only.result ≡ t = c.only.ensures ∙ table in
    subst (λ (x : TableState). AreAllSeats x seats_back) (sym only) (subst (AreAllSeats t) (sym r.seats_are) (all_there m image end begin before p shards stamps t cores reserved seats h r.now r.ran))

pub turns_of-requires-clause-cores : goal.turns_of-requires-clause-cores
turns_of-requires-clause-cores g c =
    let m = c.args.machine.now in
    let end = c.args.end in
    let begin = c.saturating_sub.result in
    let before : RecorderState = c.args.recorder in
    let p : RecorderParts = c.in_ok-parts.parts in
    let shards : List ShardState = c.take_apart-shards.result.0 in
    let stamps : List ℕ = c.take_apart-shards.result.1.items in
    let t : TableState = c.in-Ok.made.0 in
    let seats : List SeatState = c.in-Ok.made.1.items in
    let cores : List NumberedCore = c.args.cores.items in
    let reserved : List NumberedCore = c.reserve_all.new.cores in
    let now_cores : c.deref_mut.result.now ≡ cores = c.deref_mut.ensures.value in
    let did = c.in_ok-reserve_all.ensures in
    let counts = c.in-Ok.ensures.counts in
    let h : HasBegun m end begin before p shards stamps t cores reserved seats = record {
      is = c.requires.machine;
      small = c.requires.end;
      begins = c.saturating_sub.ensures;
      recorder = c.requires.recorder;
      are = c.requires.shards;
      new = c.in_ok-parts.ensures;
      apart = c.take_apart-shards.ensures.world;
      opening = c.in-Ok.ensures.shards;
      t_cores = counts.0 ∙ c.in_ok-tools.ensures.blocks_are;
      t_room = counts.2;
      new_seats = c.in-Ok.ensures.seats;
      count = c.requires.count;
      ready = c.requires.ready;
      timed = did.timed ∙ ap timed_of now_cores;
      numbered = did.numbered (subst AreNumbered (sym now_cores) c.requires.numbered);
      spare = did.spare;
    } in
    let long = ap length now_cores in
    let same_long = c.reserve_all.auto.cores in
    let len = c.args.cores.ok.0 in
    let written : (with_items c.args.cores reserved).items ≡ reserved = with_items_is c.args.cores reserved (omega (arith, long, same_long, len)) in
    let table : arc_value c.in_ok-table.table ≡ t = c.in_ok-table.ensures.ok in
    let image = c.args.program.now in
    let net = c.args.net.now in
    let by_net : Entry → ℕ = λ e. net_time net.path e in
    let cores_back : List NumberedCore = c.run_teams.new.back.cores.items in
    let seats_back : List SeatState = c.run_teams.new.back.seats.items in
    let records_back : List CoreRecord = c.run_teams.new.back.records.items in
    let r : HaveReturned (access_time_of m) image end t (mates reserved seats p.records.items) cores_back seats_back records_back =
    subst (λ (times : Entry → ℕ). HaveReturned times image end t (mates reserved seats p.records.items) cores_back seats_back records_back) (same_times m net c.requires.net)
    (subst (λ (x : TableState). HaveReturned by_net image end x (mates reserved seats p.records.items) cores_back seats_back records_back) table
    (subst (λ (xs : List NumberedCore). HaveReturned by_net image end (arc_value c.in_ok-table.table) (mates xs seats p.records.items) cores_back seats_back records_back) written c.in_ok-run_teams.ensures.returned))
    in
    let only : c.only.result ≡ t = c.only.ensures ∙ table in
    let seats_now : List SeatState = map (λ n. n.seat) r.now in
    let left : List ShardState = c.close-shards.result.0 in
    let blocks : List BlocksState = c.close-shards.result.1.items in
    let keys : map (λ b. b.keys) blocks ≡ map (λ s. map key_of s.made) seats_now = c.close-shards.ensures.keys ∙ ap (map (λ (s : SeatState). map key_of s.made)) r.seats_are in
    ap length c.deref_mut-2.ensures.value ∙ (as_many_blocks m image end begin before p shards stamps t cores reserved seats h r.now r.ran blocks keys ∙ sym c.in_ok-tools.ensures.merge_is)

pub turns_of-requires-clause-sizes : goal.turns_of-requires-clause-sizes
turns_of-requires-clause-sizes g c =
    let m = c.args.machine.now in
    let end = c.args.end in
    let begin = c.saturating_sub.result in
    let before : RecorderState = c.args.recorder in
    let p : RecorderParts = c.in_ok-parts.parts in
    let shards : List ShardState = c.take_apart-shards.result.0 in
    let stamps : List ℕ = c.take_apart-shards.result.1.items in
    let t : TableState = c.in-Ok.made.0 in
    let seats : List SeatState = c.in-Ok.made.1.items in
    let cores : List NumberedCore = c.args.cores.items in
    let reserved : List NumberedCore = c.reserve_all.new.cores in
    let now_cores : c.deref_mut.result.now ≡ cores = c.deref_mut.ensures.value in
    let did = c.in_ok-reserve_all.ensures in
    let counts = c.in-Ok.ensures.counts in
    let h : HasBegun m end begin before p shards stamps t cores reserved seats = record {
      is = c.requires.machine;
      small = c.requires.end;
      begins = c.saturating_sub.ensures;
      recorder = c.requires.recorder;
      are = c.requires.shards;
      new = c.in_ok-parts.ensures;
      apart = c.take_apart-shards.ensures.world;
      opening = c.in-Ok.ensures.shards;
      t_cores = counts.0 ∙ c.in_ok-tools.ensures.blocks_are;
      t_room = counts.2;
      new_seats = c.in-Ok.ensures.seats;
      count = c.requires.count;
      ready = c.requires.ready;
      timed = did.timed ∙ ap timed_of now_cores;
      numbered = did.numbered (subst AreNumbered (sym now_cores) c.requires.numbered);
      spare = did.spare;
    } in
    let long = ap length now_cores in
    let same_long = c.reserve_all.auto.cores in
    let len = c.args.cores.ok.0 in
    let written : (with_items c.args.cores reserved).items ≡ reserved = with_items_is c.args.cores reserved (omega (arith, long, same_long, len)) in
    let table : arc_value c.in_ok-table.table ≡ t = c.in_ok-table.ensures.ok in
    let image = c.args.program.now in
    let net = c.args.net.now in
    let by_net : Entry → ℕ = λ e. net_time net.path e in
    let cores_back : List NumberedCore = c.run_teams.new.back.cores.items in
    let seats_back : List SeatState = c.run_teams.new.back.seats.items in
    let records_back : List CoreRecord = c.run_teams.new.back.records.items in
    let r : HaveReturned (access_time_of m) image end t (mates reserved seats p.records.items) cores_back seats_back records_back =
    subst (λ (times : Entry → ℕ). HaveReturned times image end t (mates reserved seats p.records.items) cores_back seats_back records_back) (same_times m net c.requires.net)
    (subst (λ (x : TableState). HaveReturned by_net image end x (mates reserved seats p.records.items) cores_back seats_back records_back) table
    (subst (λ (xs : List NumberedCore). HaveReturned by_net image end (arc_value c.in_ok-table.table) (mates xs seats p.records.items) cores_back seats_back records_back) written c.in_ok-run_teams.ensures.returned))
    in
    let only : c.only.result ≡ t = c.only.ensures ∙ table in
    let seats_now : List SeatState = map (λ n. n.seat) r.now in
    let left : List ShardState = c.close-shards.result.0 in
    let blocks : List BlocksState = c.close-shards.result.1.items in
    let keys : map (λ b. b.keys) blocks ≡ map (λ s. map key_of s.made) seats_now = c.close-shards.ensures.keys ∙ ap (map (λ (s : SeatState). map key_of s.made)) r.seats_are in
    ap (map (λ (k : CoreRecord). length k.log.entries)) (c.deref.ensures.value ∙ r.records_are)
    ∙ (sizes_are m image end begin before p shards stamps t cores reserved seats h r.now r.ran blocks keys ∙ ap (map (λ (b : BlocksState). length b.keys)) (sym c.deref_mut-2.ensures.value))

pub of-requires-clause-shards : goal.of-requires-clause-shards
of-requires-clause-shards g c =
    let m = c.args.machine.now in
    let end = c.args.end in
    let begin = c.saturating_sub.result in
    let before : RecorderState = c.args.recorder in
    let p : RecorderParts = c.in_ok-parts.parts in
    let shards : List ShardState = c.take_apart-shards.result.0 in
    let stamps : List ℕ = c.take_apart-shards.result.1.items in
    let t : TableState = c.in-Ok.made.0 in
    let seats : List SeatState = c.in-Ok.made.1.items in
    let cores : List NumberedCore = c.args.cores.items in
    let reserved : List NumberedCore = c.reserve_all.new.cores in
    let now_cores : c.deref_mut.result.now ≡ cores = c.deref_mut.ensures.value in
    let did = c.in_ok-reserve_all.ensures in
    let counts = c.in-Ok.ensures.counts in
    let h : HasBegun m end begin before p shards stamps t cores reserved seats = record {
      is = c.requires.machine;
      small = c.requires.end;
      begins = c.saturating_sub.ensures;
      recorder = c.requires.recorder;
      are = c.requires.shards;
      new = c.in_ok-parts.ensures;
      apart = c.take_apart-shards.ensures.world;
      opening = c.in-Ok.ensures.shards;
      t_cores = counts.0 ∙ c.in_ok-tools.ensures.blocks_are;
      t_room = counts.2;
      new_seats = c.in-Ok.ensures.seats;
      count = c.requires.count;
      ready = c.requires.ready;
      timed = did.timed ∙ ap timed_of now_cores;
      numbered = did.numbered (subst AreNumbered (sym now_cores) c.requires.numbered);
      spare = did.spare;
    } in
    let long = ap length now_cores in
    let same_long = c.reserve_all.auto.cores in
    let len = c.args.cores.ok.0 in
    let written : (with_items c.args.cores reserved).items ≡ reserved = with_items_is c.args.cores reserved (omega (arith, long, same_long, len)) in
    let table : arc_value c.in_ok-table.table ≡ t = c.in_ok-table.ensures.ok in
    let image = c.args.program.now in
    let net = c.args.net.now in
    let by_net : Entry → ℕ = λ e. net_time net.path e in
    let cores_back : List NumberedCore = c.run_teams.new.back.cores.items in
    let seats_back : List SeatState = c.run_teams.new.back.seats.items in
    let records_back : List CoreRecord = c.run_teams.new.back.records.items in
    let r : HaveReturned (access_time_of m) image end t (mates reserved seats p.records.items) cores_back seats_back records_back =
    subst (λ (times : Entry → ℕ). HaveReturned times image end t (mates reserved seats p.records.items) cores_back seats_back records_back) (same_times m net c.requires.net)
    (subst (λ (x : TableState). HaveReturned by_net image end x (mates reserved seats p.records.items) cores_back seats_back records_back) table
    (subst (λ (xs : List NumberedCore). HaveReturned by_net image end (arc_value c.in_ok-table.table) (mates xs seats p.records.items) cores_back seats_back records_back) written c.in_ok-run_teams.ensures.returned))
    in
    let only : c.only.result ≡ t = c.only.ensures ∙ table in
    let seats_now : List SeatState = map (λ n. n.seat) r.now in
    let left : List ShardState = c.close-shards.result.0 in
    let blocks : List BlocksState = c.close-shards.result.1.items in
    let keys : map (λ b. b.keys) blocks ≡ map (λ s. map key_of s.made) seats_now = c.close-shards.ensures.keys ∙ ap (map (λ (s : SeatState). map key_of s.made)) r.seats_are in
    let whole : AreWhole t seats_now left =
    subst (λ (x : TableState). AreWhole x seats_now left) only (subst (λ (ss : List SeatState). AreWhole c.only.result ss left) r.seats_are c.close-shards.ensures.whole)
    in
    let turns : List ℕ = c.in_ok-turns.turns.items in
    let merged : AreTurnsOf (map (λ b. b.keys) blocks) turns = subst (λ (bs : List BlocksState). AreTurnsOf (map (λ b. b.keys) bs) turns) c.deref_mut-2.ensures.value c.in_ok-turns.ensures in
    let put = put_in_order m image end begin before p shards stamps t cores reserved seats h r.now r.ran left whole c.turns_put_in_order.ensures blocks turns keys merged in
    left_port m image end begin before p shards stamps t cores reserved seats h r.now r.ran left whole turns put

pub of-requires-2-clause-parts : goal.of-requires-2-clause-parts
of-requires-2-clause-parts g c =
    let m = c.args.machine.now in
    let end = c.args.end in
    let begin = c.saturating_sub.result in
    let before : RecorderState = c.args.recorder in
    let p : RecorderParts = c.in_ok-parts.parts in
    let shards : List ShardState = c.take_apart-shards.result.0 in
    let stamps : List ℕ = c.take_apart-shards.result.1.items in
    let t : TableState = c.in-Ok.made.0 in
    let seats : List SeatState = c.in-Ok.made.1.items in
    let cores : List NumberedCore = c.args.cores.items in
    let reserved : List NumberedCore = c.reserve_all.new.cores in
    let now_cores : c.deref_mut.result.now ≡ cores = c.deref_mut.ensures.value in
    let did = c.in_ok-reserve_all.ensures in
    let counts = c.in-Ok.ensures.counts in
    let h : HasBegun m end begin before p shards stamps t cores reserved seats = record {
      is = c.requires.machine;
      small = c.requires.end;
      begins = c.saturating_sub.ensures;
      recorder = c.requires.recorder;
      are = c.requires.shards;
      new = c.in_ok-parts.ensures;
      apart = c.take_apart-shards.ensures.world;
      opening = c.in-Ok.ensures.shards;
      t_cores = counts.0 ∙ c.in_ok-tools.ensures.blocks_are;
      t_room = counts.2;
      new_seats = c.in-Ok.ensures.seats;
      count = c.requires.count;
      ready = c.requires.ready;
      timed = did.timed ∙ ap timed_of now_cores;
      numbered = did.numbered (subst AreNumbered (sym now_cores) c.requires.numbered);
      spare = did.spare;
    } in
    let long = ap length now_cores in
    let same_long = c.reserve_all.auto.cores in
    let len = c.args.cores.ok.0 in
    let written : (with_items c.args.cores reserved).items ≡ reserved = with_items_is c.args.cores reserved (omega (arith, long, same_long, len)) in
    let table : arc_value c.in_ok-table.table ≡ t = c.in_ok-table.ensures.ok in
    let image = c.args.program.now in
    let net = c.args.net.now in
    let by_net : Entry → ℕ = λ e. net_time net.path e in
    let cores_back : List NumberedCore = c.run_teams.new.back.cores.items in
    let seats_back : List SeatState = c.run_teams.new.back.seats.items in
    let records_back : List CoreRecord = c.run_teams.new.back.records.items in
    let r : HaveReturned (access_time_of m) image end t (mates reserved seats p.records.items) cores_back seats_back records_back =
    subst (λ (times : Entry → ℕ). HaveReturned times image end t (mates reserved seats p.records.items) cores_back seats_back records_back) (same_times m net c.requires.net)
    (subst (λ (x : TableState). HaveReturned by_net image end x (mates reserved seats p.records.items) cores_back seats_back records_back) table
    (subst (λ (xs : List NumberedCore). HaveReturned by_net image end (arc_value c.in_ok-table.table) (mates xs seats p.records.items) cores_back seats_back records_back) written c.in_ok-run_teams.ensures.returned))
    in
    let only : c.only.result ≡ t = c.only.ensures ∙ table in
    let seats_now : List SeatState = map (λ n. n.seat) r.now in
    let left : List ShardState = c.close-shards.result.0 in
    let blocks : List BlocksState = c.close-shards.result.1.items in
    let keys : map (λ b. b.keys) blocks ≡ map (λ s. map key_of s.made) seats_now = c.close-shards.ensures.keys ∙ ap (map (λ (s : SeatState). map key_of s.made)) r.seats_are in
    let whole : AreWhole t seats_now left =
    subst (λ (x : TableState). AreWhole x seats_now left) only (subst (λ (ss : List SeatState). AreWhole c.only.result ss left) r.seats_are c.close-shards.ensures.whole)
    in
    let turns : List ℕ = c.in_ok-turns.turns.items in
    let merged : AreTurnsOf (map (λ b. b.keys) blocks) turns = subst (λ (bs : List BlocksState). AreTurnsOf (map (λ b. b.keys) bs) turns) c.deref_mut-2.ensures.value c.in_ok-turns.ensures in
    let put = put_in_order m image end begin before p shards stamps t cores reserved seats h r.now r.ran left whole c.turns_put_in_order.ensures blocks turns keys merged in
    parts_again m image end begin before p shards stamps t cores reserved seats h r.now r.ran left whole turns put
    (record { port = c.of.result; banks = p.banks; records = c.run_teams.new.back.records; begin = p.begin; base = p.base; room = p.room })
    (ap (λ (x : ShardPortState). x.world) c.of.ensures) r.records_are refl refl refl refl

pub of-requires-2-clause-turns : goal.of-requires-2-clause-turns
of-requires-2-clause-turns g c =
    let m = c.args.machine.now in
    let end = c.args.end in
    let begin = c.saturating_sub.result in
    let before : RecorderState = c.args.recorder in
    let p : RecorderParts = c.in_ok-parts.parts in
    let shards : List ShardState = c.take_apart-shards.result.0 in
    let stamps : List ℕ = c.take_apart-shards.result.1.items in
    let t : TableState = c.in-Ok.made.0 in
    let seats : List SeatState = c.in-Ok.made.1.items in
    let cores : List NumberedCore = c.args.cores.items in
    let reserved : List NumberedCore = c.reserve_all.new.cores in
    let now_cores : c.deref_mut.result.now ≡ cores = c.deref_mut.ensures.value in
    let did = c.in_ok-reserve_all.ensures in
    let counts = c.in-Ok.ensures.counts in
    let h : HasBegun m end begin before p shards stamps t cores reserved seats = record {
      is = c.requires.machine;
      small = c.requires.end;
      begins = c.saturating_sub.ensures;
      recorder = c.requires.recorder;
      are = c.requires.shards;
      new = c.in_ok-parts.ensures;
      apart = c.take_apart-shards.ensures.world;
      opening = c.in-Ok.ensures.shards;
      t_cores = counts.0 ∙ c.in_ok-tools.ensures.blocks_are;
      t_room = counts.2;
      new_seats = c.in-Ok.ensures.seats;
      count = c.requires.count;
      ready = c.requires.ready;
      timed = did.timed ∙ ap timed_of now_cores;
      numbered = did.numbered (subst AreNumbered (sym now_cores) c.requires.numbered);
      spare = did.spare;
    } in
    let long = ap length now_cores in
    let same_long = c.reserve_all.auto.cores in
    let len = c.args.cores.ok.0 in
    let written : (with_items c.args.cores reserved).items ≡ reserved = with_items_is c.args.cores reserved (omega (arith, long, same_long, len)) in
    let table : arc_value c.in_ok-table.table ≡ t = c.in_ok-table.ensures.ok in
    let image = c.args.program.now in
    let net = c.args.net.now in
    let by_net : Entry → ℕ = λ e. net_time net.path e in
    let cores_back : List NumberedCore = c.run_teams.new.back.cores.items in
    let seats_back : List SeatState = c.run_teams.new.back.seats.items in
    let records_back : List CoreRecord = c.run_teams.new.back.records.items in
    let r : HaveReturned (access_time_of m) image end t (mates reserved seats p.records.items) cores_back seats_back records_back =
    subst (λ (times : Entry → ℕ). HaveReturned times image end t (mates reserved seats p.records.items) cores_back seats_back records_back) (same_times m net c.requires.net)
    (subst (λ (x : TableState). HaveReturned by_net image end x (mates reserved seats p.records.items) cores_back seats_back records_back) table
    (subst (λ (xs : List NumberedCore). HaveReturned by_net image end (arc_value c.in_ok-table.table) (mates xs seats p.records.items) cores_back seats_back records_back) written c.in_ok-run_teams.ensures.returned))
    in
    let only : c.only.result ≡ t = c.only.ensures ∙ table in
    let seats_now : List SeatState = map (λ n. n.seat) r.now in
    let left : List ShardState = c.close-shards.result.0 in
    let blocks : List BlocksState = c.close-shards.result.1.items in
    let keys : map (λ b. b.keys) blocks ≡ map (λ s. map key_of s.made) seats_now = c.close-shards.ensures.keys ∙ ap (map (λ (s : SeatState). map key_of s.made)) r.seats_are in
    let whole : AreWhole t seats_now left =
    subst (λ (x : TableState). AreWhole x seats_now left) only (subst (λ (ss : List SeatState). AreWhole c.only.result ss left) r.seats_are c.close-shards.ensures.whole)
    in
    let turns : List ℕ = c.in_ok-turns.turns.items in
    let merged : AreTurnsOf (map (λ b. b.keys) blocks) turns = subst (λ (bs : List BlocksState). AreTurnsOf (map (λ b. b.keys) bs) turns) c.deref_mut-2.ensures.value c.in_ok-turns.ensures in
    let put = put_in_order m image end begin before p shards stamps t cores reserved seats h r.now r.ran left whole c.turns_put_in_order.ensures blocks turns keys merged in
    subst (λ (ks : List CoreRecord). AreTurnsOfLists turns (lists_in ks)) (sym r.records_are) (turns_of_lists m image end begin before p shards stamps t cores reserved seats h r.now r.ran left whole turns put)

pub returns-clause-run : goal.returns-clause-run
returns-clause-run g c =
    let m = c.args.machine.now in
    let end = c.args.end in
    let begin = c.saturating_sub.result in
    let before : RecorderState = c.args.recorder in
    let p : RecorderParts = c.in_ok-parts.parts in
    let shards : List ShardState = c.take_apart-shards.result.0 in
    let stamps : List ℕ = c.take_apart-shards.result.1.items in
    let t : TableState = c.in-Ok.made.0 in
    let seats : List SeatState = c.in-Ok.made.1.items in
    let cores : List NumberedCore = c.args.cores.items in
    let reserved : List NumberedCore = c.reserve_all.new.cores in
    let now_cores : c.deref_mut.result.now ≡ cores = c.deref_mut.ensures.value in
    let did = c.in_ok-reserve_all.ensures in
    let counts = c.in-Ok.ensures.counts in
    let h : HasBegun m end begin before p shards stamps t cores reserved seats = record {
      is = c.requires.machine;
      small = c.requires.end;
      begins = c.saturating_sub.ensures;
      recorder = c.requires.recorder;
      are = c.requires.shards;
      new = c.in_ok-parts.ensures;
      apart = c.take_apart-shards.ensures.world;
      opening = c.in-Ok.ensures.shards;
      t_cores = counts.0 ∙ c.in_ok-tools.ensures.blocks_are;
      t_room = counts.2;
      new_seats = c.in-Ok.ensures.seats;
      count = c.requires.count;
      ready = c.requires.ready;
      timed = did.timed ∙ ap timed_of now_cores;
      numbered = did.numbered (subst AreNumbered (sym now_cores) c.requires.numbered);
      spare = did.spare;
    } in
    let long = ap length now_cores in
    let same_long = c.reserve_all.auto.cores in
    let len = c.args.cores.ok.0 in
    let written : (with_items c.args.cores reserved).items ≡ reserved = with_items_is c.args.cores reserved (omega (arith, long, same_long, len)) in
    let table : arc_value c.in_ok-table.table ≡ t = c.in_ok-table.ensures.ok in
    let image = c.args.program.now in
    let net = c.args.net.now in
    let by_net : Entry → ℕ = λ e. net_time net.path e in
    let cores_back : List NumberedCore = c.run_teams.new.back.cores.items in
    let seats_back : List SeatState = c.run_teams.new.back.seats.items in
    let records_back : List CoreRecord = c.run_teams.new.back.records.items in
    let r : HaveReturned (access_time_of m) image end t (mates reserved seats p.records.items) cores_back seats_back records_back =
    subst (λ (times : Entry → ℕ). HaveReturned times image end t (mates reserved seats p.records.items) cores_back seats_back records_back) (same_times m net c.requires.net)
    (subst (λ (x : TableState). HaveReturned by_net image end x (mates reserved seats p.records.items) cores_back seats_back records_back) table
    (subst (λ (xs : List NumberedCore). HaveReturned by_net image end (arc_value c.in_ok-table.table) (mates xs seats p.records.items) cores_back seats_back records_back) written c.in_ok-run_teams.ensures.returned))
    in
    let only : c.only.result ≡ t = c.only.ensures ∙ table in
    let seats_now : List SeatState = map (λ n. n.seat) r.now in
    let left : List ShardState = c.close-shards.result.0 in
    let blocks : List BlocksState = c.close-shards.result.1.items in
    let keys : map (λ b. b.keys) blocks ≡ map (λ s. map key_of s.made) seats_now = c.close-shards.ensures.keys ∙ ap (map (λ (s : SeatState). map key_of s.made)) r.seats_are in
    let whole : AreWhole t seats_now left =
    subst (λ (x : TableState). AreWhole x seats_now left) only (subst (λ (ss : List SeatState). AreWhole c.only.result ss left) r.seats_are c.close-shards.ensures.whole)
    in
    let turns : List ℕ = c.in_ok-turns.turns.items in
    let merged : AreTurnsOf (map (λ b. b.keys) blocks) turns = subst (λ (bs : List BlocksState). AreTurnsOf (map (λ b. b.keys) bs) turns) c.deref_mut-2.ensures.value c.in_ok-turns.ensures in
    let put = put_in_order m image end begin before p shards stamps t cores reserved seats h r.now r.ran left whole c.turns_put_in_order.ensures blocks turns keys merged in
    let s : RecorderState = c.in_ok-recorder.recorder in
    let made = c.in_ok-recorder.ensures in
    let after : List NumberedCore = map (λ n. n.core) r.now in
    let lists_now : List (List Entry) = lists_in (map (λ n. n.record) r.now) in
    let taken : List Entry = stamped_in_turns p.banks turns lists_now in
    let has : HasHistory m image end turns taken cores after before s =
    has_history m image end begin before p shards stamps t cores reserved seats h r.now r.ran left whole turns put (c.histories_are_phases.ensures (access_time_of m) image end) s
    (ap (λ (x : RecorderState). x.world) made ∙ ap (λ (x : ShardPortState). x.world) c.of.ensures)
    (ap (λ (x : RecorderState). x.lists) made ∙ ap (λ (ks : List CoreRecord). stamped_lists p.banks turns (lists_in ks)) r.records_are)
    (ap (λ (x : RecorderState). x.begin) made) (ap (λ (x : RecorderState). x.base) made) (ap (λ (x : RecorderState). x.room) made)
    in
    subst (λ (cs : List NumberedCore). HaveRun m image end turns (in_turns turns s.lists) cores cs before s) (sym r.cores_are)
    (subst (λ (es : List Entry). HaveRun m image end turns es cores after before s) (sym (as_listed m image end turns taken cores after before s c.requires.machine has))
    (have_run m image end turns taken cores after before s c.requires.machine has c.stamps_rise.ensures c.cores_decide_the_order.ensures c.recorded_order_keeps_the_stamps.ensures))

pub returns-clause-kept : goal.returns-clause-kept
returns-clause-kept g c =
    let m = c.args.machine.now in
    let end = c.args.end in
    let begin = c.saturating_sub.result in
    let before : RecorderState = c.args.recorder in
    let p : RecorderParts = c.in_ok-parts.parts in
    let shards : List ShardState = c.take_apart-shards.result.0 in
    let stamps : List ℕ = c.take_apart-shards.result.1.items in
    let t : TableState = c.in-Ok.made.0 in
    let seats : List SeatState = c.in-Ok.made.1.items in
    let cores : List NumberedCore = c.args.cores.items in
    let reserved : List NumberedCore = c.reserve_all.new.cores in
    let now_cores : c.deref_mut.result.now ≡ cores = c.deref_mut.ensures.value in
    let did = c.in_ok-reserve_all.ensures in
    let counts = c.in-Ok.ensures.counts in
    let h : HasBegun m end begin before p shards stamps t cores reserved seats = record {
      is = c.requires.machine;
      small = c.requires.end;
      begins = c.saturating_sub.ensures;
      recorder = c.requires.recorder;
      are = c.requires.shards;
      new = c.in_ok-parts.ensures;
      apart = c.take_apart-shards.ensures.world;
      opening = c.in-Ok.ensures.shards;
      t_cores = counts.0 ∙ c.in_ok-tools.ensures.blocks_are;
      t_room = counts.2;
      new_seats = c.in-Ok.ensures.seats;
      count = c.requires.count;
      ready = c.requires.ready;
      timed = did.timed ∙ ap timed_of now_cores;
      numbered = did.numbered (subst AreNumbered (sym now_cores) c.requires.numbered);
      spare = did.spare;
    } in
    let long = ap length now_cores in
    let same_long = c.reserve_all.auto.cores in
    let len = c.args.cores.ok.0 in
    let written : (with_items c.args.cores reserved).items ≡ reserved = with_items_is c.args.cores reserved (omega (arith, long, same_long, len)) in
    let table : arc_value c.in_ok-table.table ≡ t = c.in_ok-table.ensures.ok in
    let image = c.args.program.now in
    let net = c.args.net.now in
    let by_net : Entry → ℕ = λ e. net_time net.path e in
    let cores_back : List NumberedCore = c.run_teams.new.back.cores.items in
    let seats_back : List SeatState = c.run_teams.new.back.seats.items in
    let records_back : List CoreRecord = c.run_teams.new.back.records.items in
    let r : HaveReturned (access_time_of m) image end t (mates reserved seats p.records.items) cores_back seats_back records_back =
    subst (λ (times : Entry → ℕ). HaveReturned times image end t (mates reserved seats p.records.items) cores_back seats_back records_back) (same_times m net c.requires.net)
    (subst (λ (x : TableState). HaveReturned by_net image end x (mates reserved seats p.records.items) cores_back seats_back records_back) table
    (subst (λ (xs : List NumberedCore). HaveReturned by_net image end (arc_value c.in_ok-table.table) (mates xs seats p.records.items) cores_back seats_back records_back) written c.in_ok-run_teams.ensures.returned))
    in
    let only : c.only.result ≡ t = c.only.ensures ∙ table in
    let seats_now : List SeatState = map (λ n. n.seat) r.now in
    let left : List ShardState = c.close-shards.result.0 in
    let blocks : List BlocksState = c.close-shards.result.1.items in
    let keys : map (λ b. b.keys) blocks ≡ map (λ s. map key_of s.made) seats_now = c.close-shards.ensures.keys ∙ ap (map (λ (s : SeatState). map key_of s.made)) r.seats_are in
    let whole : AreWhole t seats_now left =
    subst (λ (x : TableState). AreWhole x seats_now left) only (subst (λ (ss : List SeatState). AreWhole c.only.result ss left) r.seats_are c.close-shards.ensures.whole)
    in
    let turns : List ℕ = c.in_ok-turns.turns.items in
    let merged : AreTurnsOf (map (λ b. b.keys) blocks) turns = subst (λ (bs : List BlocksState). AreTurnsOf (map (λ b. b.keys) bs) turns) c.deref_mut-2.ensures.value c.in_ok-turns.ensures in
    let put = put_in_order m image end begin before p shards stamps t cores reserved seats h r.now r.ran left whole c.turns_put_in_order.ensures blocks turns keys merged in
    let s : RecorderState = c.in_ok-recorder.recorder in
    let made = c.in_ok-recorder.ensures in
    let after : List NumberedCore = map (λ n. n.core) r.now in
    let lists_now : List (List Entry) = lists_in (map (λ n. n.record) r.now) in
    let taken : List Entry = stamped_in_turns p.banks turns lists_now in
    let has : HasHistory m image end turns taken cores after before s =
    has_history m image end begin before p shards stamps t cores reserved seats h r.now r.ran left whole turns put (c.histories_are_phases.ensures (access_time_of m) image end) s
    (ap (λ (x : RecorderState). x.world) made ∙ ap (λ (x : ShardPortState). x.world) c.of.ensures)
    (ap (λ (x : RecorderState). x.lists) made ∙ ap (λ (ks : List CoreRecord). stamped_lists p.banks turns (lists_in ks)) r.records_are)
    (ap (λ (x : RecorderState). x.begin) made) (ap (λ (x : RecorderState). x.base) made) (ap (λ (x : RecorderState). x.room) made)
    in
    kept_run m image end turns taken cores after before s c.requires.machine has c.stamps_rise.ensures c.cores_decide_the_order.ensures c.recorded_order_keeps_the_stamps.ensures
    c.records_stand_for_accesses.ensures c.records_keep_each_access.ensures c.records_keep_the_events.ensures c.net_accesses_have_few_events.ensures c.net_accesses_beyond_hits_have_events.ensures c.net_events_are_in_a_row.ensures
    (subst IsAccessPath c.requires.net c.args.net.now.in_range)

pub returns-clause-few : goal.returns-clause-few
returns-clause-few g c =
    let m = c.args.machine.now in
    let end = c.args.end in
    let begin = c.saturating_sub.result in
    let before : RecorderState = c.args.recorder in
    let p : RecorderParts = c.in_ok-parts.parts in
    let shards : List ShardState = c.take_apart-shards.result.0 in
    let stamps : List ℕ = c.take_apart-shards.result.1.items in
    let t : TableState = c.in-Ok.made.0 in
    let seats : List SeatState = c.in-Ok.made.1.items in
    let cores : List NumberedCore = c.args.cores.items in
    let reserved : List NumberedCore = c.reserve_all.new.cores in
    let now_cores : c.deref_mut.result.now ≡ cores = c.deref_mut.ensures.value in
    let did = c.in_ok-reserve_all.ensures in
    let counts = c.in-Ok.ensures.counts in
    let h : HasBegun m end begin before p shards stamps t cores reserved seats = record {
      is = c.requires.machine;
      small = c.requires.end;
      begins = c.saturating_sub.ensures;
      recorder = c.requires.recorder;
      are = c.requires.shards;
      new = c.in_ok-parts.ensures;
      apart = c.take_apart-shards.ensures.world;
      opening = c.in-Ok.ensures.shards;
      t_cores = counts.0 ∙ c.in_ok-tools.ensures.blocks_are;
      t_room = counts.2;
      new_seats = c.in-Ok.ensures.seats;
      count = c.requires.count;
      ready = c.requires.ready;
      timed = did.timed ∙ ap timed_of now_cores;
      numbered = did.numbered (subst AreNumbered (sym now_cores) c.requires.numbered);
      spare = did.spare;
    } in
    let long = ap length now_cores in
    let same_long = c.reserve_all.auto.cores in
    let len = c.args.cores.ok.0 in
    let written : (with_items c.args.cores reserved).items ≡ reserved = with_items_is c.args.cores reserved (omega (arith, long, same_long, len)) in
    let table : arc_value c.in_ok-table.table ≡ t = c.in_ok-table.ensures.ok in
    let image = c.args.program.now in
    let net = c.args.net.now in
    let by_net : Entry → ℕ = λ e. net_time net.path e in
    let cores_back : List NumberedCore = c.run_teams.new.back.cores.items in
    let seats_back : List SeatState = c.run_teams.new.back.seats.items in
    let records_back : List CoreRecord = c.run_teams.new.back.records.items in
    let r : HaveReturned (access_time_of m) image end t (mates reserved seats p.records.items) cores_back seats_back records_back =
    subst (λ (times : Entry → ℕ). HaveReturned times image end t (mates reserved seats p.records.items) cores_back seats_back records_back) (same_times m net c.requires.net)
    (subst (λ (x : TableState). HaveReturned by_net image end x (mates reserved seats p.records.items) cores_back seats_back records_back) table
    (subst (λ (xs : List NumberedCore). HaveReturned by_net image end (arc_value c.in_ok-table.table) (mates xs seats p.records.items) cores_back seats_back records_back) written c.in_ok-run_teams.ensures.returned))
    in
    let only : c.only.result ≡ t = c.only.ensures ∙ table in
    let seats_now : List SeatState = map (λ n. n.seat) r.now in
    let left : List ShardState = c.close-shards.result.0 in
    let blocks : List BlocksState = c.close-shards.result.1.items in
    let keys : map (λ b. b.keys) blocks ≡ map (λ s. map key_of s.made) seats_now = c.close-shards.ensures.keys ∙ ap (map (λ (s : SeatState). map key_of s.made)) r.seats_are in
    let whole : AreWhole t seats_now left =
    subst (λ (x : TableState). AreWhole x seats_now left) only (subst (λ (ss : List SeatState). AreWhole c.only.result ss left) r.seats_are c.close-shards.ensures.whole)
    in
    let turns : List ℕ = c.in_ok-turns.turns.items in
    let merged : AreTurnsOf (map (λ b. b.keys) blocks) turns = subst (λ (bs : List BlocksState). AreTurnsOf (map (λ b. b.keys) bs) turns) c.deref_mut-2.ensures.value c.in_ok-turns.ensures in
    let put = put_in_order m image end begin before p shards stamps t cores reserved seats h r.now r.ran left whole c.turns_put_in_order.ensures blocks turns keys merged in
    let s : RecorderState = c.in_ok-recorder.recorder in
    let made = c.in_ok-recorder.ensures in
    let after : List NumberedCore = map (λ n. n.core) r.now in
    let lists_now : List (List Entry) = lists_in (map (λ n. n.record) r.now) in
    let taken : List Entry = stamped_in_turns p.banks turns lists_now in
    let has : HasHistory m image end turns taken cores after before s =
    has_history m image end begin before p shards stamps t cores reserved seats h r.now r.ran left whole turns put (c.histories_are_phases.ensures (access_time_of m) image end) s
    (ap (λ (x : RecorderState). x.world) made ∙ ap (λ (x : ShardPortState). x.world) c.of.ensures)
    (ap (λ (x : RecorderState). x.lists) made ∙ ap (λ (ks : List CoreRecord). stamped_lists p.banks turns (lists_in ks)) r.records_are)
    (ap (λ (x : RecorderState). x.begin) made) (ap (λ (x : RecorderState). x.base) made) (ap (λ (x : RecorderState). x.room) made)
    in
    let ran = have_run m image end turns taken cores after before s c.requires.machine has c.stamps_rise.ensures c.cores_decide_the_order.ensures c.recorded_order_keeps_the_stamps.ensures in
    let few = ran.in_turn.few in
    let same = ap length has.turns_are in
    let long = length-map taken (λ (e : Entry). e.core) in
    omega (arith, few, same, long)

pub returns-clause-known : goal.returns-clause-known
returns-clause-known g c =
    let m = c.args.machine.now in
    let end = c.args.end in
    let begin = c.saturating_sub.result in
    let before : RecorderState = c.args.recorder in
    let p : RecorderParts = c.in_ok-parts.parts in
    let shards : List ShardState = c.take_apart-shards.result.0 in
    let stamps : List ℕ = c.take_apart-shards.result.1.items in
    let t : TableState = c.in-Ok.made.0 in
    let seats : List SeatState = c.in-Ok.made.1.items in
    let cores : List NumberedCore = c.args.cores.items in
    let reserved : List NumberedCore = c.reserve_all.new.cores in
    let now_cores : c.deref_mut.result.now ≡ cores = c.deref_mut.ensures.value in
    let did = c.in_ok-reserve_all.ensures in
    let counts = c.in-Ok.ensures.counts in
    let h : HasBegun m end begin before p shards stamps t cores reserved seats = record {
      is = c.requires.machine;
      small = c.requires.end;
      begins = c.saturating_sub.ensures;
      recorder = c.requires.recorder;
      are = c.requires.shards;
      new = c.in_ok-parts.ensures;
      apart = c.take_apart-shards.ensures.world;
      opening = c.in-Ok.ensures.shards;
      t_cores = counts.0 ∙ c.in_ok-tools.ensures.blocks_are;
      t_room = counts.2;
      new_seats = c.in-Ok.ensures.seats;
      count = c.requires.count;
      ready = c.requires.ready;
      timed = did.timed ∙ ap timed_of now_cores;
      numbered = did.numbered (subst AreNumbered (sym now_cores) c.requires.numbered);
      spare = did.spare;
    } in
    let long = ap length now_cores in
    let same_long = c.reserve_all.auto.cores in
    let len = c.args.cores.ok.0 in
    let written : (with_items c.args.cores reserved).items ≡ reserved = with_items_is c.args.cores reserved (omega (arith, long, same_long, len)) in
    let table : arc_value c.in_ok-table.table ≡ t = c.in_ok-table.ensures.ok in
    let image = c.args.program.now in
    let net = c.args.net.now in
    let by_net : Entry → ℕ = λ e. net_time net.path e in
    let cores_back : List NumberedCore = c.run_teams.new.back.cores.items in
    let seats_back : List SeatState = c.run_teams.new.back.seats.items in
    let records_back : List CoreRecord = c.run_teams.new.back.records.items in
    let r : HaveReturned (access_time_of m) image end t (mates reserved seats p.records.items) cores_back seats_back records_back =
    subst (λ (times : Entry → ℕ). HaveReturned times image end t (mates reserved seats p.records.items) cores_back seats_back records_back) (same_times m net c.requires.net)
    (subst (λ (x : TableState). HaveReturned by_net image end x (mates reserved seats p.records.items) cores_back seats_back records_back) table
    (subst (λ (xs : List NumberedCore). HaveReturned by_net image end (arc_value c.in_ok-table.table) (mates xs seats p.records.items) cores_back seats_back records_back) written c.in_ok-run_teams.ensures.returned))
    in
    let only : c.only.result ≡ t = c.only.ensures ∙ table in
    let seats_now : List SeatState = map (λ n. n.seat) r.now in
    let left : List ShardState = c.close-shards.result.0 in
    let blocks : List BlocksState = c.close-shards.result.1.items in
    let keys : map (λ b. b.keys) blocks ≡ map (λ s. map key_of s.made) seats_now = c.close-shards.ensures.keys ∙ ap (map (λ (s : SeatState). map key_of s.made)) r.seats_are in
    let whole : AreWhole t seats_now left =
    subst (λ (x : TableState). AreWhole x seats_now left) only (subst (λ (ss : List SeatState). AreWhole c.only.result ss left) r.seats_are c.close-shards.ensures.whole)
    in
    let turns : List ℕ = c.in_ok-turns.turns.items in
    let merged : AreTurnsOf (map (λ b. b.keys) blocks) turns = subst (λ (bs : List BlocksState). AreTurnsOf (map (λ b. b.keys) bs) turns) c.deref_mut-2.ensures.value c.in_ok-turns.ensures in
    let put = put_in_order m image end begin before p shards stamps t cores reserved seats h r.now r.ran left whole c.turns_put_in_order.ensures blocks turns keys merged in
    let s : RecorderState = c.in_ok-recorder.recorder in
    let made = c.in_ok-recorder.ensures in
    let after : List NumberedCore = map (λ n. n.core) r.now in
    let lists_now : List (List Entry) = lists_in (map (λ n. n.record) r.now) in
    let taken : List Entry = stamped_in_turns p.banks turns lists_now in
    let has : HasHistory m image end turns taken cores after before s =
    has_history m image end begin before p shards stamps t cores reserved seats h r.now r.ran left whole turns put (c.histories_are_phases.ensures (access_time_of m) image end) s
    (ap (λ (x : RecorderState). x.world) made ∙ ap (λ (x : ShardPortState). x.world) c.of.ensures)
    (ap (λ (x : RecorderState). x.lists) made ∙ ap (λ (ks : List CoreRecord). stamped_lists p.banks turns (lists_in ks)) r.records_are)
    (ap (λ (x : RecorderState). x.begin) made) (ap (λ (x : RecorderState). x.base) made) (ap (λ (x : RecorderState). x.room) made)
    in
    let all : length (timed_of cores) ≡ m.cores = length-map cores (λ (x : NumberedCore). x.timed) ∙ c.requires.count in
    subst (All (λ (n : ℕ). n < m.cores)) (sym has.turns_are)
    (All-map (λ (n : ℕ). n < m.cores) (λ (e : Entry). e.core) taken (subst (λ (k : ℕ). All (λ (e : Entry). e.core < k) taken) all has.history.known))
