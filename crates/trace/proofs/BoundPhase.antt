-- The bound phase of an interval, in whatever order the cores took their turns.
use Rattle.std.proofs.Common.{◌≡◌, ℕ, ◌^◌, ◌<◌, ◌≤◌, List, [], length, map, All, Ok, refl, sym, ◌∙◌, ap, subst, arith}
use Rattle.std.specs.Prelude.{replicate}
use Rattle.std.proofs.lemmas.List.{length-map, length-replicate}
use Rattle.std.proofs.lemmas.List.Elements.{All-map}
use Rattle.zs_num.specs.declared.entry.Entry.{Entry}
use Rattle.elf_load.specs.MemoryImage.{MemoryImage}
use Rattle.machine_desc.specs.declared.machine.Machine.{Machine}
use Rattle.shard.specs.Served.{ShardState}
use Rattle.access_log.specs.History.{core_of_entry}
use Rattle.access_log.specs.Laws.{RisingStampsAreDistinct, StampsRise}
use Rattle.access_log.specs.Logs.{HaveDistinctKeys}
use Rattle.access_log.specs.RecordedOrder.{recorded_order}
use Rattle.bound_core.specs.History.{IsHistory, after_history, begun_over_shards}
use Rattle.bound_core.specs.HistoryLaws.{PhasesAreHistories}
use Rattle.bound_core.specs.ReferenceMachine.{BoundState, bound_phase}
use Rattle.bound_core.specs.ShardWorld.{ShardWorld, begun_world, restarted, shards_serve}
use Rattle.bound_core.specs.NumberedCores.{NumberedCore, timed_of}
use Rattle.bound_core.specs.Turn.{IsOver}
use Rattle.bound_records.proofs.Lists.{all_recorded, length_recorded}
use Rattle.trace.specs.TracedRun.{as_run}
use Rattle.trace.specs.declared.traced_run.TracedRun.{TracedRun}
use Rattle.trace.specs.Port.{LoggedPortState, phase_of}
use Rattle.reference.specs.ReferenceRun.{access_room, time_of}
use Rattle.bound_records.specs.CoreRuns.{AreNumbered}
use Rattle.run.specs.Simulation.{IsBoundPhase}
use Rattle.run.proofs.NextInterval.{each_many}

-- a port that is made ready for its first access
pub begun_port : (machine : Machine) (port begun : LoggedPortState) → length port.world.stamps ≡ machine.cores
    → begun.world ≡ begun_world (length port.world.stamps) (map restarted port.world.shards) → begun.world ≡ begun_world machine.cores (map restarted port.world.shards)
begun_port machine port begun stamps begins = begins ∙ ap (λ (n : ℕ). begun_world n (map restarted port.world.shards)) stamps

-- the bound phase begins, with a port that is ready for its first access
pub from_start : (cores : List NumberedCore) (was : List ShardState) (port : LoggedPortState) (count : ℕ) → port.world ≡ begun_world count (map restarted was) → port.entries ≡ [] → length cores ≡ count
    → phase_of cores port ≡ begun_over_shards (timed_of cores) (map restarted was)
from_start cores was port count begins none many =
    let shards = map restarted was in
    let long : length (timed_of cores) ≡ count = length-map cores (λ (c : NumberedCore). c.timed) ∙ many in
    ap (λ (w : ShardWorld). let s : BoundState ShardWorld = record { cores = timed_of cores; world = w; entries = port.entries } in s) (begins ∙ ap (λ (n : ℕ). begun_world n shards) (sym long))
    ∙ ap (λ (entries : List Entry). let s : BoundState ShardWorld = record { cores = timed_of cores; world = begun_world (length (timed_of cores)) shards; entries = entries } in s) none

-- `was` are the shards before the interval
module _ (machine : Machine) (image : MemoryImage) (end : ℕ) (cores after : List NumberedCore) (was : List ShardState) (last : LoggedPortState) (turns : List ℕ)
    (count : length cores ≡ machine.cores) (some : 0 < length was)
    (phase : bound_phase shards_serve (time_of machine) image end turns (begun_over_shards (timed_of cores) (map restarted was)) ≡ Ok (phase_of after last))
    (law : PhasesAreHistories (time_of machine) image end) where
  abbrev shards : List ShardState
  shards = map restarted was

  many : length (timed_of cores) ≡ machine.cores
  many = length-map cores (λ (c : NumberedCore). c.timed) ∙ count

  found : IsHistory (time_of machine) image end (timed_of cores) shards last.entries
      × (turns ≡ map (λ e. e.core) last.entries)
      × (phase_of after last ≡ after_history (time_of machine) image end (timed_of cores) shards last.entries)
  found =
      law (timed_of cores) shards turns (phase_of after last) (omega (arith, some, length-map was restarted))
      (All-map (λ (shard : ShardState). shard.last ≡ 0) restarted was (λ k d below. refl)) phase

  history : IsHistory (time_of machine) image end (timed_of cores) shards last.entries
  history = found.0

  -- there is a stamp for each core
  stamps_many : length last.world.stamps ≡ machine.cores
  stamps_many =
      ap (λ (s : BoundState ShardWorld). length s.world.stamps) found.2
      ∙ each_many (λ (stamp : ℕ) (e : Entry). e.stamp) core_of_entry last.entries (replicate (length (timed_of cores)) 0)
      ∙ length-replicate (length (timed_of cores)) 0 ∙ many

  known : All (λ e. e.core < machine.cores) last.entries
  known = subst (λ (n : ℕ). All (λ (e : Entry). e.core < n) last.entries) many history.known

  -- no two accesses have the same stamp and core
  pub keys : RisingStampsAreDistinct → StampsRise → HaveDistinctKeys last.entries
  keys distinct rise = distinct last.entries (rise (length shards) (length (timed_of cores)) last.entries history.some history.known history.stamped).0

  pub bounded : All (λ e. e.start ≤ 2 ^ 34) last.entries → length last.entries ≤ access_room machine → All (λ c. c.clock ≤ 2 ^ 57) (timed_of after)
      → length after ≡ machine.cores → AreNumbered after → All (IsOver end) (timed_of after)
      → (p q : TracedRun) → p.cores.items ≡ cores → p.port.world.shards ≡ was → q.cores.items ≡ after → q.port.world ≡ last.world
      → (entries : List Entry) → entries ≡ recorded_order last.entries → IsBoundPhase machine image end (as_run machine p) turns (as_run machine q) entries
  bounded starts few clocks all_after numbered over p q cores_are shards_are after_are world_is entries sorted =
      let taken : List Entry = last.entries in
      record {
        left = phase_of after last;
        phase = ap (λ (cs : List NumberedCore). bound_phase shards_serve (time_of machine) image end turns (begun_over_shards (timed_of cs) (map restarted (p.port.world.shards)))) cores_are
            ∙ ap (λ (ss : List ShardState). bound_phase shards_serve (time_of machine) image end turns (begun_over_shards (timed_of cores) (map restarted ss))) shards_are
            ∙ phase;
        cores_are = ap timed_of after_are;
        shards_are = ap (λ (w : ShardWorld). map restarted w.shards) world_is;
        in_order = sorted;
        cores = subst (All (λ (e : Entry). e.core < machine.cores)) (sym sorted) (all_recorded (λ (e : Entry). e.core < machine.cores) taken known);
        starts = subst (All (λ (e : Entry). e.start ≤ 2 ^ 34)) (sym sorted) (all_recorded (λ (e : Entry). e.start ≤ 2 ^ 34) taken starts);
        few = omega (arith, ap length sorted, length_recorded taken, few);
        clocks = subst (λ (cs : List NumberedCore). All (λ c. c.clock ≤ 2 ^ 57) (timed_of cs)) (sym after_are) clocks;
        count = ap length after_are ∙ all_after;
        numbered = subst AreNumbered (sym after_are) numbered;
        over = subst (λ (cs : List NumberedCore). All (IsOver end) (timed_of cs)) (sym after_are) over;
        stamps = record {
          stamps = ap (λ (w : ShardWorld). length w.stamps) world_is ∙ stamps_many;
          lists = length-replicate machine.cores [];
          room = omega arith;
          base = refl;
        };
      }
