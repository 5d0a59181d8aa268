-- What is known of a run whose next interval is recorded.
use Rattle.std.proofs.Common.{◌≡◌, ℕ, ◌*◌, ◌^◌, ◌<◌, ◌≤◌, List, Option, length, map, All, sym, subst, ap, ◌∙◌, arith}
use Rattle.std.specs.Prelude.{IfSome}
use Rattle.zs_num.specs.declared.entry.Entry.{Entry}
use Rattle.elf_load.specs.MemoryImage.{MemoryImage}
use Rattle.machine_desc.specs.declared.machine.Machine.{Machine}
use Rattle.machine_desc.specs.Machine.{IsMachine}
use Rattle.component.specs.declared.comp.Comp.{Comp}
use Rattle.component.specs.ComponentStep.{comp_step, free_of}
use Rattle.component.specs.Components.{AreComponents}
use Rattle.event_graph.specs.OneListWeave.{comps_after}
use Rattle.noc_mesh.specs.declared.net.Net.{Net}
use Rattle.stats.specs.Counts.{Counts, Interval}
use Rattle.stats.specs.CountsFit.{CountsFit}
use Rattle.stats.specs.Added.{added}
use Rattle.stats.specs.Laws.{CountersAreSums, SumsFit, WasRun}
use Rattle.bound_records.proofs.Lists.{length_recorded}
use Rattle.bound_records.specs.CoreRuns.{AreNumbered, IsNetOf}
use Rattle.access_record.specs.declared.turns.Turns.{Turns}
use Rattle.access_record.specs.declared.turns.Turns.TheVariants.{CoreByCore, Listed}
use Rattle.bound_records.specs.Recorders.{AreStampedInTurn, AreTakenIn, RecorderState, entries_of}
use Rattle.run.specs.declared.simulation.Simulation.{Simulation}
use Rattle.run.specs.IntervalWeave.{IntervalsAreWoven, IsSoundWeave}
use Rattle.run.specs.Records.{FitsIn, accesses_in, recorded_interval, taken_by}
use Rattle.reference.specs.ReferenceRun.{RunState, access_room, all_delayed, time_of, woven_interval}
use Rattle.run.specs.Simulation.{HasNextInterval, HasRecorded, HasRoomForInterval, IsBoundPhase, LeadsTo, cores_of, listed}
use Rattle.run.proofs.GoneOn.{small_room, woven_entries}
use Rattle.run.proofs.NextInterval.{Laws, fits_more, has_room, leads_on}
use Rattle.run.proofs.RecordedOrder.{all_recorded}

-- it has no more events than sixty for each access
pub few_events : (machine : Machine) (comps : List Comp) (r : RecorderState) → IsSoundWeave machine comps (accesses_in r) (recorded_interval machine comps r)
    → length (recorded_interval machine comps r).events ≤ 60 * length (recorded_interval machine comps r).entries
few_events machine comps r sound = omega (arith, sound.events.few, ap length (woven_entries machine comps (accesses_in r)))

module _ (machine : Machine) (image : MemoryImage) (end : ℕ) (before : Simulation) (turns : Option (List ℕ)) (p : Simulation) where
  module _ (s : RunState) (goes : HasNextInterval machine end s before) (h : HasRecorded machine image end before turns p) where
    room : HasRoomForInterval machine end before
    room = has_room machine end s before goes

    pub components : AreComponents machine p.comps
    components = subst (AreComponents machine) (sym h.comps) room.components

    pub free : All (λ c. free_of c ≤ 2 ^ 56) p.comps
    free = subst (λ (comps : List Comp). All (λ c. free_of c ≤ 2 ^ 56) comps) (sym h.comps) room.free

    module _ (ok : IsMachine machine) (law : IntervalsAreWoven) (net : Net) (net_is : IsNetOf machine net) where
      abbrev woven : Interval
      woven = recorded_interval machine p.comps p.recorder

      -- its accesses can be woven
      pub sound : IsSoundWeave machine p.comps (accesses_in p.recorder) woven
      sound =
          law machine net p.comps (accesses_in p.recorder) ok net_is components free
          (all_recorded (λ (e : Entry). e.core < machine.cores) (entries_of p.recorder) h.recorded.cores) (all_recorded (λ (e : Entry). e.start ≤ 2 ^ 34) (entries_of p.recorder) h.recorded.starts)
          (omega (arith, length_recorded (entries_of p.recorder), h.recorded.few, small_room machine ok))

      -- and counted
      pub fits_in : CountersAreSums → SumsFit → FitsIn woven machine p.comps p.counters
      fits_in sums fit =
          let i : Interval = woven in
          let was_run : WasRun i = (sound.timely, sound.delays_small) in
          let few : length i.entries ≤ access_room machine = omega (arith, ap length (woven_entries machine p.comps (accesses_in p.recorder)), length_recorded (entries_of p.recorder), h.recorded.few) in
          let all : CountsFit (added before.counters i (comps_after comp_step i.events p.comps)) =
          fits_more machine ok end s before goes i was_run (few_events machine p.comps p.recorder sound) few sums fit (comps_after comp_step i.events p.comps) sound.stay
          in
          record {
            core_counts = ap (λ (counts : Counts). length counts.core_counts) h.counters ∙ room.cores;
            comp_counts = ap (λ (counts : Counts). length counts.comp_counts) h.counters ∙ room.comps;
            fits = subst (λ (counts : Counts). CountsFit (added counts i (comps_after comp_step i.events p.comps))) (sym h.counters) all;
          }

      -- it leads on from there, with its weave, under any turns that lead to its bound phase
      pub led : Laws (time_of machine) image end → (order : List ℕ) → IsBoundPhase machine image end before order p (accesses_in p.recorder)
          → (q : Simulation) → cores_of q ≡ all_delayed woven.delays (cores_of p) → AreNumbered q.cores.items → q.recorder ≡ p.recorder
          → q.comps ≡ comps_after comp_step woven.events p.comps → q.counters ≡ added p.counters woven q.comps
          → (leads : LeadsTo machine image s order q) × (leads.entries ≡ accesses_in p.recorder)
      led laws order bounded q cores numbered recorder comps counters =
          let i : Interval = woven in
          let entries : List Entry = accesses_in p.recorder in
          let from : p.comps ≡ s.comps = h.comps ∙ goes.come.comps in
          let is : i ≡ woven_interval machine s.comps entries = ap (λ (cs : List Comp). woven_interval machine cs entries) from in
          let are : AreComponents machine (comps_after comp_step i.events s.comps) = subst (λ (cs : List Comp). AreComponents machine (comps_after comp_step i.events cs)) from sound.stay in
          leads_on machine ok image end s before p goes order entries bounded laws i is (woven_entries machine p.comps entries)
          (sound.timely, sound.delays_small) (few_events machine p.comps p.recorder sound) are q cores numbered recorder
          (comps ∙ ap (comps_after comp_step i.events) from)
          (counters ∙ ap (λ (counts : Counts). added counts i q.comps) h.counters)

-- the turns took them in this order
pub taken_so : (turns : Turns) (r : RecorderState) → AreStampedInTurn (taken_by (listed turns) r) r → IfSome (listed turns) (λ cores. cores ≡ map (λ e. e.core) (taken_by (listed turns) r)) → AreTakenIn turns r
taken_so CoreByCore r stamped named = record { stamped = stamped; named = tt }
taken_so (Listed turns) r stamped named = record { stamped = stamped; named = named }
