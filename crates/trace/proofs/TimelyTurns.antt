-- The turns of an interval by an expansion's times, of cores for which there is room: they are those by the machine's times.
use Rattle.std.proofs.Common.{◌≡◌, ◌+◌, ◌*◌, ◌^◌, ◌≤◌, ℕ, min, List, [], All, Result, Ok, Some, get_or, length, ◌∙◌, ap, subst, arith}
use Rattle.std.specs.Prelude.{slice_get}
use Rattle.std.proofs.lemmas.Option.{slice_get-get_or, slice_get_within}
use Rattle.zs_num.specs.declared.entry.Entry.{Entry}
use Rattle.elf_load.specs.MemoryImage.{MemoryImage}
use Rattle.machine_desc.specs.declared.machine.Machine.{Machine}
use Rattle.machine_desc.specs.Machine.{IsMachine}
use Rattle.noc_mesh.specs.declared.net.Net.{Net}
use Rattle.bound_core.specs.NumberedCores.{NumberedCore, timed_of}
use Rattle.bound_core.specs.ReferenceMachine.{BoundState, bound_phase}
use Rattle.bound_core.specs.ShardPort.{base_of, l1i_of, room_of, size_of}
use Rattle.bound_core.specs.ShardWorld.{ShardWorld, shards_serve}
use Rattle.bound_core.specs.TimedCore.{TimedCore, beside_cycles}
use Rattle.bound_core.specs.Turn.{IsOver}
use Rattle.bound_records.specs.CoreRuns.{AreNumbered, CanRunInterval, IsNetOf}
use Rattle.bound_records.specs.Turns.{time_by_net}
use Rattle.bound_records.proofs.SameCores.{ready_again}
use Rattle.bound_records.proofs.Turns.{same_times}
use Rattle.reference.specs.ReferenceRun.{access_room, time_of}
use Rattle.reference.proofs.Accesses.{clock_within}
use Rattle.run.proofs.Cores.{all_timed}
use Rattle.trace.specs.Port.{LoggedPortState, leaves_shards, phase_of}
use Rattle.trace.specs.Trace.{phase_steps}
use Rattle.trace.specs.Turns.{HaveTaken, HaveTurned}
use Rattle.trace.proofs.TurnsBegin.{all_most, turns_begin}

-- `reserved` are the cores with the room
module _ (machine : Machine) (image : MemoryImage) (end : ℕ) (net : Net) (is_net : IsNetOf machine net) (cores reserved : List NumberedCore) (same : timed_of reserved ≡ timed_of cores) (port : LoggedPortState) where
  begun : phase_of reserved port ≡ phase_of cores port
  begun = ap (λ (cs : List TimedCore). let s : BoundState ShardWorld = record { cores = cs; world = port.world; entries = port.entries } in s) same

  pub timely : (turns : List ℕ) (o : Result (BoundState ShardWorld) ℕ) → bound_phase shards_serve (time_by_net net) image end turns (phase_of reserved port) ≡ o
      → bound_phase shards_serve (time_of machine) image end turns (phase_of cores port) ≡ o
  timely turns o phase =
      subst (λ (s : BoundState ShardWorld). bound_phase shards_serve (time_of machine) image end turns s ≡ o) begun
      (subst (λ (times : Entry → ℕ). bound_phase shards_serve times image end turns (phase_of reserved port) ≡ o) (same_times machine net is_net) phase)

  pub timely_steps : (turns : List ℕ)
      → phase_steps shards_serve leaves_shards image end (time_by_net net) turns (phase_of reserved port) ≡ phase_steps shards_serve leaves_shards image end (time_of machine) turns (phase_of cores port)
  timely_steps turns =
      ap (λ (times : Entry → ℕ). phase_steps shards_serve leaves_shards image end times turns (phase_of reserved port)) (same_times machine net is_net)
      ∙ ap (λ (s : BoundState ShardWorld). phase_steps shards_serve leaves_shards image end (time_of machine) turns s) begun

  -- they begin
  pub begin : IsMachine machine → end ≤ 10 * 2 ^ 30
      → ((i : ℕ) (c : NumberedCore) → slice_get cores i ≡ Some c → CanRunInterval machine end (base_of port.world) (size_of port.world) (l1i_of port.world) c.timed)
      → ((i : ℕ) (c : NumberedCore) → slice_get reserved i ≡ Some c → machine.interval + beside_cycles ≤ c.spare)
      → length reserved ≡ machine.cores → AreNumbered reserved → length port.world.stamps ≡ machine.cores → port.entries ≡ [] → access_room machine ≤ min (room_of port.world) port.room
      → HaveTaken (time_by_net net) image end (all_most machine) (phase_of reserved port) [] reserved port
  begin is small ready =
      turns_begin (time_by_net net) machine image end reserved port is small (ready_again (CanRunInterval machine end (base_of port.world) (size_of port.world) (l1i_of port.world)) cores reserved same ready)

  -- and this is what they leave
  pub turned : (turns : List ℕ) (after : List NumberedCore) (last : LoggedPortState) → HaveTaken (time_by_net net) image end (all_most machine) (phase_of reserved port) turns after last
      → bound_phase shards_serve (time_by_net net) image end turns (phase_of reserved port) ≡ Ok (phase_of after last) → All (IsOver end) (timed_of after) → length after ≡ length cores
      → HaveTurned machine image end turns cores after port last
  turned turns after last h legal over count = record {
    phase = timely turns (Ok (phase_of after last)) legal;
    starts = h.starts;
    few = omega (arith, h.few);
    clocks = all_timed (λ x. x.clock ≤ 2 ^ 57) after (λ i x here.
        let left = get_or h.left i 0 in
        let way = h.each i left x (slice_get-get_or h.left i 0 (omega (arith, slice_get_within after i x here, h.count))) here in
        omega (arith, way.clock, clock_within end x.timed));
    over = over;
    count = count;
    numbered = h.numbered;
  }
