-- The bound phase of an interval that is recorded is that of the run.
use Rattle.std.proofs.Common.{◌≡◌, ℕ, ◌^◌, ◌<◌, ◌≤◌, List, length, map, None, Some, Ok, All, sym, ◌∙◌, ap, subst, arith}
use Rattle.zs_num.specs.declared.entry.Entry.{Entry}
use Rattle.elf_load.specs.MemoryImage.{MemoryImage}
use Rattle.machine_desc.specs.declared.machine.Machine.{Machine}
use Rattle.access_record.specs.Turns.{in_turns}
use Rattle.bound_core.specs.History.{begun_over_shards}
use Rattle.bound_core.specs.NumberedCores.{NumberedCore, timed_of}
use Rattle.bound_core.specs.ReferenceMachine.{BoundState, bound_phase}
use Rattle.bound_core.specs.ShardWorld.{ShardWorld, restarted, shards_serve}
use Rattle.bound_core.specs.Turn.{IsOver}
use Rattle.bound_records.specs.CoreRuns.{AreNumbered}
use Rattle.bound_records.specs.Intervals.{AreKept, HaveRun}
use Rattle.bound_records.specs.Recorders.{entries_of}
use Rattle.bound_records.proofs.Lists.{length_recorded}
use Rattle.run.specs.declared.simulation.Simulation.{Simulation}
use Rattle.run.specs.Records.{IsRecorded, accesses_in}
use Rattle.reference.specs.ReferenceRun.{time_of}
use Rattle.run.specs.Simulation.{HasRecorded, IsBoundPhase, cores_of}
use Rattle.run.proofs.RecordedOrder.{all_recorded}

module _ (machine : Machine) (image : MemoryImage) (end : ℕ) (p q : Simulation) (cores after : List NumberedCore) (cores_are : p.cores.items ≡ cores) (after_are : q.cores.items ≡ after)
    (kept : AreKept machine q.recorder) (comps : q.comps ≡ p.comps) (counters : q.counters ≡ p.counters) where
  abbrev Has : (turns : List ℕ) (taken : List Entry) → Type 0
  Has turns taken = HaveRun machine image end turns taken cores after p.recorder q.recorder

  -- what the turns come to
  abbrev left : ShardWorld → List Entry → BoundState ShardWorld
  left world taken = record { cores = timed_of after; world = world; entries = taken }

  phase_is : (turns : List ℕ) (taken : List Entry) → Has turns taken → IsBoundPhase machine image end p (map (λ e. e.core) taken) q (accesses_in q.recorder)
  phase_is turns taken h = record {
    left = left h.left taken;
    phase = subst (λ (ns : List ℕ). bound_phase shards_serve (time_of machine) image end ns (begun_over_shards (cores_of p) (map restarted p.recorder.world.shards)) ≡ Ok (left h.left taken)) h.turns_are
        (ap (λ (cs : List NumberedCore). bound_phase shards_serve (time_of machine) image end turns (begun_over_shards (timed_of cs) (map restarted p.recorder.world.shards))) cores_are ∙ h.phase);
    cores_are = ap timed_of after_are;
    shards_are = sym h.same;
    in_order = sym h.in_order;
    cores = all_recorded (λ (e : Entry). e.core < machine.cores) (entries_of q.recorder) h.known;
    starts = all_recorded (λ (e : Entry). e.start ≤ 2 ^ 34) (entries_of q.recorder) h.starts;
    few = omega (arith, length_recorded (entries_of q.recorder), h.few);
    clocks = subst (λ (cs : List NumberedCore). All (λ c. c.clock ≤ 2 ^ 57) (timed_of cs)) (sym after_are) h.clocks;
    count = ap length after_are ∙ h.count;
    numbered = subst AreNumbered (sym after_are) h.numbered;
    over = subst (λ (cs : List NumberedCore). All (IsOver end) (timed_of cs)) (sym after_are) h.over;
    stamps = h.recorder;
  }

  are_recorded : (turns : List ℕ) (taken : List Entry) → Has turns taken → IsRecorded machine q.recorder
  are_recorded turns taken h = record { many = h.recorder.lists; own = h.own; cores = h.known; starts = h.starts; few = h.few; kept = kept }

  -- where the cores ran one after the other
  pub core_by_core : Has (map (λ e. e.core) (entries_of q.recorder)) (entries_of q.recorder) → HasRecorded machine image end p None q
  core_by_core h =
      let taken : List Entry = entries_of q.recorder in
      let turns : List ℕ = map (λ (e : Entry). e.core) taken in
      record { bounded = phase_is turns taken h; named = tt; in_turn = h.in_turn; recorded = are_recorded turns taken h; comps = comps; counters = counters }

  -- and where they ran by the turns of a list
  pub by_turns : (turns : List ℕ) → Has turns (in_turns turns q.recorder.lists) → HasRecorded machine image end p (Some turns) q
  by_turns turns h =
      let taken : List Entry = in_turns turns q.recorder.lists in
      record { bounded = phase_is turns taken h; named = h.turns_are; in_turn = h.in_turn; recorded = are_recorded turns taken h; comps = comps; counters = counters }
