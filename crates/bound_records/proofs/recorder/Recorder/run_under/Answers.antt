use Rattle.std.proofs.Common.{◌≡◌, ◌<◌, ℕ, List, [], Err, Some, All, length, map, sym, subst, ap, ◌∙◌, arith}
use Rattle.std.specs.Prelude.{slice_get}
use Rattle.zs_num.specs.declared.entry.Entry.{Entry}
use Rattle.event_graph.specs.PathInRange.{IsAccessPath}
use Rattle.access_record.specs.Turns.{in_turns}
use Rattle.bound_core.specs.History.{begun_over_shards}
use Rattle.bound_core.specs.NumberedCores.{NumberedCore, timed_of}
use Rattle.bound_core.specs.ReferenceMachine.{BoundState, bound_phase}
use Rattle.bound_core.specs.ShardPort.{base_of, l1i_of, size_of}
use Rattle.bound_core.specs.ShardWorld.{ShardWorld, restarted, shards_serve}
use Rattle.bound_core.specs.TimedCore.{TimedCore}
use Rattle.bound_records.specs.CoreRuns.{CanRunInterval, access_time_of, phase_in}
use Rattle.bound_records.specs.Intervals.{AreKept, HaveRun}
use Rattle.bound_records.specs.Recorders.{RecorderState, entries_of}
use Rattle.bound_records.specs.Turns.{HaveTaken, time_by_net}
use Rattle.bound_records.proofs.ByHistory.{HasHistory, as_listed, have_run, kept_run}
use Rattle.bound_records.proofs.ByTurns.{ended_by_turns}
use Rattle.bound_records.proofs.SameCores.{ready_again}
use Rattle.bound_records.proofs.Turns.{same_times}
use Rattle.bound_records.proofs.TurnsBegin.{all_most, turns_begin}
use Rattle.bound_records.proofs.Whole.{HaveEnded, begun_base, begun_size, from_start, has_history, none_at_first, recorder_begun, room_for_all, world_begun}
use Rattle.bound_records.proofs.recorder.Recorder.run_under.Goals as goal

pub new-port-requires : goal.new-port-requires
new-port-requires c =
    let recorder = recorder_begun c.args.machine.now c.saturating_sub.result c.args.self c.restart.new.self c.restart.ensures c.requires.recorder in
    let stamps = recorder.stamps in
    let some = c.requires.machine.cores.0 in
    omega (arith, stamps, some)

pub take_turns-requires-clause-cores : goal.take_turns-requires-clause-cores
take_turns-requires-clause-cores c = (let most = c.requires.machine.cores.1 in omega (arith, c.reserve_all.auto.cores, c.requires.count, most))

pub take_turns-requires-clause-known : goal.take_turns-requires-clause-known
take_turns-requires-clause-known c =
    let many : length c.reserve_all.new.cores ≡ c.args.machine.now.cores = c.reserve_all.auto.cores ∙ c.requires.count in
    subst (λ (n : ℕ). All (λ (number : ℕ). number < n) c.args.turns.now) (sym many) c.requires.known

pub take_turns-requires-clause-begins : goal.take_turns-requires-clause-begins
take_turns-requires-clause-begins c =
    let machine = c.args.machine.now in
    let image = c.args.program.now in
    let end = c.args.end in
    let net = c.args.net.now in
    let begin = c.saturating_sub.result in
    let before : RecorderState = c.args.self in
    let r : RecorderState = c.restart.new.self in
    let begins = c.restart.ensures in
    let cores = c.args.cores.now in
    let reserved = c.reserve_all.new.cores in
    let did = c.in_ok-reserve_all.ensures in
    let count : length reserved ≡ machine.cores = c.reserve_all.auto.cores ∙ c.requires.count in
    let world = world_begun machine begin before r begins c.requires.recorder in
    let ready : (i : ℕ) (x : NumberedCore) → slice_get cores i ≡ Some x → CanRunInterval machine end (base_of r.world) (size_of r.world) (l1i_of r.world) x.timed = (λ i x here.
    subst (λ (w : ShardWorld). CanRunInterval machine end (base_of w) (size_of w) (l1i_of w) x.timed) (sym world) (c.requires.ready i x here)) in
    let first : HaveTaken (time_by_net net) image end (all_most machine) r (phase_in reserved r) [] reserved r =
    turns_begin (time_by_net net) machine image end reserved r c.requires.machine c.requires.end (ap (λ (x : RecorderState). x.begin) begins ∙ c.saturating_sub.ensures) (recorder_begun machine begin before r begins c.requires.recorder)
    (begun_base machine begin before r begins c.requires.shards) (begun_size machine begin before r begins c.requires.shards) (room_for_all machine begin before r begins c.requires.machine)
    (none_at_first machine begin cores before r c.requires.recorder begins c.requires.count)
    (ready_again (CanRunInterval machine end (base_of r.world) (size_of r.world) (l1i_of r.world)) cores reserved did.timed ready)
    did.spare count (did.numbered c.requires.numbered)
    in
    let port : RecorderState = c.new-port.result.recorder in
    let begun : HaveTaken (time_by_net net) image end (all_most machine) port (phase_in reserved port) [] reserved port =
    subst (λ (x : RecorderState). HaveTaken (time_by_net net) image end (all_most machine) x (phase_in reserved x) [] reserved x) (sym c.new-port.ensures) first
    in
    (all_most machine, begun)

pub returns-in-Ok-clause-run : goal.returns-in-Ok-clause-run
returns-in-Ok-clause-run c =
    let machine = c.args.machine.now in
    let image = c.args.program.now in
    let end = c.args.end in
    let net = c.args.net.now in
    let begin = c.saturating_sub.result in
    let before : RecorderState = c.args.self in
    let r : RecorderState = c.restart.new.self in
    let begins = c.restart.ensures in
    let cores = c.args.cores.now in
    let reserved = c.reserve_all.new.cores in
    let did = c.in_ok-reserve_all.ensures in
    let count : length reserved ≡ machine.cores = c.reserve_all.auto.cores ∙ c.requires.count in
    let world = world_begun machine begin before r begins c.requires.recorder in
    let ready : (i : ℕ) (x : NumberedCore) → slice_get cores i ≡ Some x → CanRunInterval machine end (base_of r.world) (size_of r.world) (l1i_of r.world) x.timed = (λ i x here.
    subst (λ (w : ShardWorld). CanRunInterval machine end (base_of w) (size_of w) (l1i_of w) x.timed) (sym world) (c.requires.ready i x here)) in
    let first : HaveTaken (time_by_net net) image end (all_most machine) r (phase_in reserved r) [] reserved r =
    turns_begin (time_by_net net) machine image end reserved r c.requires.machine c.requires.end (ap (λ (x : RecorderState). x.begin) begins ∙ c.saturating_sub.ensures) (recorder_begun machine begin before r begins c.requires.recorder)
    (begun_base machine begin before r begins c.requires.shards) (begun_size machine begin before r begins c.requires.shards) (room_for_all machine begin before r begins c.requires.machine)
    (none_at_first machine begin cores before r c.requires.recorder begins c.requires.count)
    (ready_again (CanRunInterval machine end (base_of r.world) (size_of r.world) (l1i_of r.world)) cores reserved did.timed ready)
    did.spare count (did.numbered c.requires.numbered)
    in
    let port : RecorderState = c.new-port.result.recorder in
    let begun : HaveTaken (time_by_net net) image end (all_most machine) port (phase_in reserved port) [] reserved port =
    subst (λ (x : RecorderState). HaveTaken (time_by_net net) image end (all_most machine) x (phase_in reserved x) [] reserved x) (sym c.new-port.ensures) first
    in
    let turns : List ℕ = c.args.turns.now in
    let after = c.take_turns.new.cores in
    let s : RecorderState = c.take_turns.new.port.recorder in
    let same_cores : phase_in reserved r ≡ phase_in cores r = ap (λ (cs : List TimedCore). let x : BoundState ShardWorld = record { cores = cs; world = r.world; entries = entries_of r } in x) did.timed in
    let by_net : HaveTaken (time_by_net net) image end (all_most machine) r (phase_in reserved r) turns after s =
    subst (λ (x : RecorderState). HaveTaken (time_by_net net) image end (all_most machine) x (phase_in reserved x) turns after s) c.new-port.ensures (c.in-Ok.ensures.taken (all_most machine) begun)
    in
    let taken : HaveTaken (access_time_of machine) image end (all_most machine) r (phase_in cores r) turns after s =
    subst (λ (x : BoundState ShardWorld). HaveTaken (access_time_of machine) image end (all_most machine) r x turns after s) same_cores
    (subst (λ (times : Entry → ℕ). HaveTaken times image end (all_most machine) r (phase_in reserved r) turns after s) (same_times machine net c.requires.net) by_net)
    in
    let recorder = recorder_begun machine begin before r begins c.requires.recorder in
    let ended : HaveEnded machine image end turns taken.taken cores after r s =
    ended_by_turns machine image end turns cores after r s (recorder.stamps ∙ sym c.requires.count) (recorder.lists ∙ sym c.requires.count) (c.take_turns.ensures.count ∙ c.reserve_all.auto.cores) c.in-Ok.ensures.over taken
    in
    let has : HasHistory machine image end turns taken.taken cores after before s =
    has_history machine begin cores before r c.requires.recorder begins c.requires.count image end turns taken.taken after s c.requires.shards.some ended (c.phases_are_histories.ensures _ image end) c.saturating_sub.ensures
    in
    let listed : in_turns turns s.lists ≡ taken.taken = as_listed machine image end turns taken.taken cores after before s c.requires.machine has in
    subst (λ (x : RecorderState). HaveRun machine image end turns (in_turns turns x.lists) cores after before x) (sym c.finish.ensures)
    (subst (λ (es : List Entry). HaveRun machine image end turns es cores after before s) (sym listed)
    (have_run machine image end turns taken.taken cores after before s c.requires.machine has c.stamps_rise.ensures c.cores_decide_the_order.ensures c.recorded_order_keeps_the_stamps.ensures))

pub returns-in-Ok-clause-kept : goal.returns-in-Ok-clause-kept
returns-in-Ok-clause-kept c =
    let machine = c.args.machine.now in
    let image = c.args.program.now in
    let end = c.args.end in
    let net = c.args.net.now in
    let begin = c.saturating_sub.result in
    let before : RecorderState = c.args.self in
    let r : RecorderState = c.restart.new.self in
    let begins = c.restart.ensures in
    let cores = c.args.cores.now in
    let reserved = c.reserve_all.new.cores in
    let did = c.in_ok-reserve_all.ensures in
    let count : length reserved ≡ machine.cores = c.reserve_all.auto.cores ∙ c.requires.count in
    let world = world_begun machine begin before r begins c.requires.recorder in
    let ready : (i : ℕ) (x : NumberedCore) → slice_get cores i ≡ Some x → CanRunInterval machine end (base_of r.world) (size_of r.world) (l1i_of r.world) x.timed = (λ i x here.
    subst (λ (w : ShardWorld). CanRunInterval machine end (base_of w) (size_of w) (l1i_of w) x.timed) (sym world) (c.requires.ready i x here)) in
    let first : HaveTaken (time_by_net net) image end (all_most machine) r (phase_in reserved r) [] reserved r =
    turns_begin (time_by_net net) machine image end reserved r c.requires.machine c.requires.end (ap (λ (x : RecorderState). x.begin) begins ∙ c.saturating_sub.ensures) (recorder_begun machine begin before r begins c.requires.recorder)
    (begun_base machine begin before r begins c.requires.shards) (begun_size machine begin before r begins c.requires.shards) (room_for_all machine begin before r begins c.requires.machine)
    (none_at_first machine begin cores before r c.requires.recorder begins c.requires.count)
    (ready_again (CanRunInterval machine end (base_of r.world) (size_of r.world) (l1i_of r.world)) cores reserved did.timed ready)
    did.spare count (did.numbered c.requires.numbered)
    in
    let port : RecorderState = c.new-port.result.recorder in
    let begun : HaveTaken (time_by_net net) image end (all_most machine) port (phase_in reserved port) [] reserved port =
    subst (λ (x : RecorderState). HaveTaken (time_by_net net) image end (all_most machine) x (phase_in reserved x) [] reserved x) (sym c.new-port.ensures) first
    in
    let turns : List ℕ = c.args.turns.now in
    let after = c.take_turns.new.cores in
    let s : RecorderState = c.take_turns.new.port.recorder in
    let same_cores : phase_in reserved r ≡ phase_in cores r = ap (λ (cs : List TimedCore). let x : BoundState ShardWorld = record { cores = cs; world = r.world; entries = entries_of r } in x) did.timed in
    let by_net : HaveTaken (time_by_net net) image end (all_most machine) r (phase_in reserved r) turns after s =
    subst (λ (x : RecorderState). HaveTaken (time_by_net net) image end (all_most machine) x (phase_in reserved x) turns after s) c.new-port.ensures (c.in-Ok.ensures.taken (all_most machine) begun)
    in
    let taken : HaveTaken (access_time_of machine) image end (all_most machine) r (phase_in cores r) turns after s =
    subst (λ (x : BoundState ShardWorld). HaveTaken (access_time_of machine) image end (all_most machine) r x turns after s) same_cores
    (subst (λ (times : Entry → ℕ). HaveTaken times image end (all_most machine) r (phase_in reserved r) turns after s) (same_times machine net c.requires.net) by_net)
    in
    let recorder = recorder_begun machine begin before r begins c.requires.recorder in
    let ended : HaveEnded machine image end turns taken.taken cores after r s =
    ended_by_turns machine image end turns cores after r s (recorder.stamps ∙ sym c.requires.count) (recorder.lists ∙ sym c.requires.count) (c.take_turns.ensures.count ∙ c.reserve_all.auto.cores) c.in-Ok.ensures.over taken
    in
    let has : HasHistory machine image end turns taken.taken cores after before s =
    has_history machine begin cores before r c.requires.recorder begins c.requires.count image end turns taken.taken after s c.requires.shards.some ended (c.phases_are_histories.ensures _ image end) c.saturating_sub.ensures
    in
    subst (AreKept machine) (sym c.finish.ensures)
    (kept_run machine image end turns taken.taken cores after before s c.requires.machine has
    c.stamps_rise.ensures c.cores_decide_the_order.ensures c.recorded_order_keeps_the_stamps.ensures
    c.records_stand_for_accesses.ensures c.records_keep_each_access.ensures c.records_keep_the_events.ensures c.net_accesses_have_few_events.ensures c.net_accesses_beyond_hits_have_events.ensures c.net_events_are_in_a_row.ensures
    (subst IsAccessPath c.requires.net c.args.net.now.in_range))

pub returns-in-Err-clause-illegal : goal.returns-in-Err-clause-illegal
returns-in-Err-clause-illegal c =
    let machine = c.args.machine.now in
    let image = c.args.program.now in
    let end = c.args.end in
    let net = c.args.net.now in
    let begin = c.saturating_sub.result in
    let before : RecorderState = c.args.self in
    let r : RecorderState = c.restart.new.self in
    let begins = c.restart.ensures in
    let cores = c.args.cores.now in
    let reserved = c.reserve_all.new.cores in
    let did = c.in_ok-reserve_all.ensures in
    let port : RecorderState = c.new-port.result.recorder in
    let turns : List ℕ = c.args.turns.now in
    let place = c.in-Err.place in
    let same_cores : phase_in reserved r ≡ phase_in cores r = ap (λ (cs : List TimedCore). let x : BoundState ShardWorld = record { cores = cs; world = r.world; entries = entries_of r } in x) did.timed in
    let start : phase_in cores r ≡ begun_over_shards (timed_of cores) (map restarted before.world.shards) = from_start machine begin cores before r c.requires.recorder begins c.requires.count in
    let refused : bound_phase shards_serve (time_by_net net) image end turns (phase_in reserved port) ≡ Err place = c.in-Err.ensures.illegal in
    let by_net : bound_phase shards_serve (time_by_net net) image end turns (begun_over_shards (timed_of cores) (map restarted before.world.shards)) ≡ Err place =
    subst (λ (x : BoundState ShardWorld). bound_phase shards_serve (time_by_net net) image end turns x ≡ Err place) (ap (phase_in reserved) c.new-port.ensures ∙ (same_cores ∙ start)) refused
    in
    subst (λ (times : Entry → ℕ). bound_phase shards_serve times image end turns (begun_over_shards (timed_of cores) (map restarted before.world.shards)) ≡ Err place) (same_times machine net c.requires.net) by_net
