-- An interval of a run from where its port was made ready on.
use Rattle.std.proofs.Common.{◌≡◌, ◌++◌, ◌-◌, ◌^◌, ◌≤◌, ℕ, min, List, [], Ok, Some, length, map, refl, sym, subst, ap, ◌∙◌, arith}
use Rattle.std.specs.Prelude.{slice_get}
use Rattle.zs_num.specs.declared.entry.Entry.{Entry}
use Rattle.elf_load.specs.MemoryImage.{MemoryImage}
use Rattle.machine_desc.specs.declared.machine.Machine.{Machine}
use Rattle.access_log.specs.Laws.{RisingStampsAreDistinct, StampsRise}
use Rattle.access_log.specs.Logs.{HaveDistinctKeys}
use Rattle.access_log.specs.RecordedOrder.{recorded_order}
use Rattle.bound_core.specs.History.{begun_over_shards}
use Rattle.bound_core.specs.HistoryLaws.{PhasesAreHistories}
use Rattle.bound_core.specs.NumberedCores.{NumberedCore, timed_of}
use Rattle.bound_core.specs.ReferenceMachine.{BoundState, bound_phase}
use Rattle.bound_core.specs.ShardPort.{base_of, l1i_of, room_of, size_of}
use Rattle.bound_core.specs.ShardWorld.{ShardWorld, begun_world, restarted, shards_serve}
use Rattle.bound_records.specs.CoreRuns.{CanRunInterval}
use Rattle.reference.specs.ReferenceRun.{access_room, time_of}
use Rattle.run.specs.Simulation.{HasRoomForInterval, IsBoundPhase}
use Rattle.trace.specs.Port.{LoggedPortState, leaves_shards, phase_of}
use Rattle.trace.specs.Trace.{Step, phase_steps}
use Rattle.trace.specs.TracedRun.{as_run}
use Rattle.trace.specs.Turns.{HaveTurned}
use Rattle.trace.specs.declared.traced_run.TracedRun.{TracedRun}
use Rattle.trace.proofs.BoundPhase.{begun_port, bounded, from_start, keys}
use Rattle.trace.proofs.Room.{begun_room}

-- `p` is the run before it, and these are its cores
module _ (machine : Machine) (image : MemoryImage) (end : ℕ) (p : TracedRun) (room : HasRoomForInterval machine end (as_run machine p)) (port : LoggedPortState)
    (begins : port.world ≡ begun_world (length p.port.world.stamps) (map restarted p.port.world.shards)) (none : port.entries ≡ []) (cores : List NumberedCore) (are : cores ≡ p.cores.items) where
  ready : port.world ≡ begun_world machine.cores (map restarted p.port.world.shards)
  ready = begun_port machine p.port port room.stamps.stamps begins

  pub each_ready : (i : ℕ) (c : NumberedCore) → slice_get cores i ≡ Some c → CanRunInterval machine end (base_of port.world) (size_of port.world) (l1i_of port.world) c.timed
  each_ready i c here =
      let there : slice_get p.cores.items i ≡ Some c = ap (λ (cs : List NumberedCore). slice_get cs i) (sym are) ∙ here in
      subst (λ (w : ShardWorld). CanRunInterval machine end (base_of w) (size_of w) (l1i_of w) c.timed) (sym ready) (room.ready i c there)

  -- there is room for its accesses
  pub accesses_fit : access_room machine ≤ port.room → access_room machine ≤ 2 ^ 22 → access_room machine ≤ min (room_of port.world) port.room
  accesses_fit listed small =
      let far : room_of port.world ≡ 2 ^ 62 - 1 = ap room_of begins ∙ begun_room _ p.port.world.shards in
      omega (arith, far, listed, small)

  pub count : length cores ≡ machine.cores
  count = ap length are ∙ room.count

  pub start : phase_of cores port ≡ begun_over_shards (timed_of cores) (map restarted p.port.world.shards)
  start = from_start cores p.port.world.shards port machine.cores ready none count

  -- from the run's own cores
  pub own_start : phase_of cores port ≡ begun_over_shards (timed_of p.cores.items) (map restarted p.port.world.shards)
  own_start = start ∙ ap (λ (cs : List NumberedCore). begun_over_shards (timed_of cs) (map restarted p.port.world.shards)) are

  -- the steps of its bound phase
  pub told_from : (turns : List ℕ) (before told : List Step) → told ≡ before ++ phase_steps shards_serve leaves_shards image end (time_of machine) turns (phase_of cores port)
      → told ≡ before ++ phase_steps shards_serve leaves_shards image end (time_of machine) turns (begun_over_shards (timed_of p.cores.items) (map restarted p.port.world.shards))
  told_from turns before told is = is ∙ ap (λ (s : BoundState ShardWorld). before ++ phase_steps shards_serve leaves_shards image end (time_of machine) turns s) own_start

  module _ (turns : List ℕ) (after : List NumberedCore) (last : LoggedPortState) (h : HaveTurned machine image end turns cores after port last) (law : PhasesAreHistories (time_of machine) image end) where
    phase : bound_phase shards_serve (time_of machine) image end turns (begun_over_shards (timed_of cores) (map restarted p.port.world.shards)) ≡ Ok (phase_of after last)
    phase = ap (bound_phase shards_serve (time_of machine) image end turns) (sym start) ∙ h.phase

    pub keys_differ : RisingStampsAreDistinct → StampsRise → HaveDistinctKeys last.entries
    keys_differ = keys machine image end cores after p.port.world.shards last turns count room.shards.some phase law

    pub bounded_by : (q : TracedRun) → q.cores.items ≡ after → q.port.world ≡ last.world → (entries : List Entry) → entries ≡ recorded_order last.entries
        → IsBoundPhase machine image end (as_run machine p) turns (as_run machine q) entries
    bounded_by q =
        bounded machine image end cores after p.port.world.shards last turns count room.shards.some phase law h.starts h.few h.clocks (h.count ∙ count) h.numbered h.over p q (sym are) refl
