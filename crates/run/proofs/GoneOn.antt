-- A run that has gone on by an interval.
use Rattle.std.proofs.Common.{◌≡◌, ℕ, ◌^◌, ◌*◌, ◌+◌, ◌≤◌, List, [], ◌∷◌, ◌++◌, length, map, refl, sym, ◌∙◌, ap, subst, arith, tests}
use Rattle.std.proofs.lemmas.List.{length-replicate}
use Rattle.zs_num.specs.declared.entry.Entry.{Entry}
use Rattle.elf_load.specs.MemoryImage.{MemoryImage}
use Rattle.machine_desc.specs.declared.machine.Machine.{Machine}
use Rattle.machine_desc.specs.Machine.{IsMachine}
use Rattle.component.specs.declared.comp.Comp.{Comp}
use Rattle.stats.specs.Counts.{Interval}
use Rattle.run.specs.declared.recording.Recording.{Recording}
use Rattle.run.specs.declared.simulation.Simulation.{Simulation}
use Rattle.run.specs.Recording.{IsRecordingOf}
use Rattle.reference.specs.ReferenceRun.{RunState, access_room, after_interval, world_of, woven_interval}
use Rattle.bound_core.specs.MachineOfShards.{StandForMachine}
use Rattle.bound_core.specs.ShardPort.{AreShardsOf}
use Rattle.bound_core.specs.ShardWorld.{ShardWorld, begun_world, restarted}
use Rattle.bound_records.specs.Recorders.{RecorderState, without_accesses}
use Rattle.run.specs.Records.{IsSameButAccesses}
use Rattle.run.specs.Simulation.{HasGoneOn, LeadsTo, StandsFor}

pub gone_on : (machine : Machine) (image : MemoryImage) (s : RunState) (turns others : List ℕ) (entries : List Entry) (recording later : Recording) (p : Simulation)
    → turns ≡ others → others ≡ map (λ e. e.core) entries → (leads : LeadsTo machine image s others p) → leads.entries ≡ entries
    → (IsRecordingOf machine s.intervals recording → IsRecordingOf machine (s.intervals ++ woven_interval machine s.comps entries ∷ []) later)
    → HasGoneOn machine image s turns recording later p
gone_on machine image s turns others entries recording later p same are leads is recorded =
    let gained = leads.gained ∙ ap (λ (es : List Entry). s.intervals ++ woven_interval machine s.comps es ∷ []) is in
    record {
      leads = record {
        state = leads.state;
        after = ap (after_interval machine image s) same ∙ leads.after;
        entries = leads.entries;
        recorded = leads.recorded;
        longer = leads.longer;
        gained = leads.gained;
        come = leads.come;
      };
      in_order = same ∙ are ∙ ap (map (λ (e : Entry). e.core)) (sym is);
      recorded = λ was. subst (λ (intervals : List Interval). IsRecordingOf machine intervals later) (sym gained) (recorded was);
    }

pub woven_entries : (machine : Machine) (comps : List Comp) (entries : List Entry) → (woven_interval machine comps entries).entries ≡ entries
unfolding woven_interval
woven_entries machine comps entries = refl

bounded_product : (cores interval : ℕ) → cores ≤ 256 → interval ≤ 10258 → cores * interval ≤ 256 * 10258
bounded_product cores interval few short = grind (arith, tests)

-- room for the accesses of an interval is small
pub small_room : (machine : Machine) → IsMachine machine → access_room machine ≤ 2 ^ 22
small_room machine is = omega (arith, bounded_product machine.cores (machine.interval + 258) is.cores.1 (omega (arith, is.interval.1)))

-- ---- the accesses of the last interval were given away

pub same_without : (before after : RecorderState) → after ≡ without_accesses before → IsSameButAccesses before after
same_without before after is = record {
  world = ap (λ (r : RecorderState). r.world) is;
  lists = ap (λ (r : RecorderState). length r.lists) is ∙ length-replicate (length before.lists) [];
  base = ap (λ (r : RecorderState). r.base) is;
  room = ap (λ (r : RecorderState). r.room) is;
}

still_stands : (machine : Machine) (s : RunState) (p : Simulation) (after : RecorderState) → IsSameButAccesses p.recorder after → StandsFor machine s p → StandsFor machine s (record p { recorder = after })
still_stands machine s p after same come =
    let world : p.recorder.world ≡ after.world = sym same.world in
    record {
      cores = come.cores;
      count = come.count;
      numbered = come.numbered;
      stamps = record {
        stamps = ap (λ (w : ShardWorld). length w.stamps) same.world ∙ come.stamps.stamps;
        lists = same.lists ∙ come.stamps.lists;
        room = omega (arith, come.stamps.room, same.room);
        base = same.base ∙ come.stamps.base;
      };
      banks = ap (λ (w : ShardWorld). length w.shards) same.world ∙ come.banks;
      placed = subst (λ (w : ShardWorld). AreShardsOf machine.cores w.shards machine.memory.base machine.memory.size) world come.placed;
      stand = subst (λ (w : ShardWorld). StandForMachine s.cores (begun_world machine.cores (map restarted w.shards)) (world_of machine s)) world come.stand;
      comps = come.comps;
      counters = come.counters;
      over = come.over;
      counted = come.counted;
    }

pub gone_without : (machine : Machine) (image : MemoryImage) (s : RunState) (turns others : List ℕ) (recording later : Recording) (p : Simulation) (after : RecorderState)
    → IsSameButAccesses p.recorder after → others ≡ turns → HasGoneOn machine image s turns recording later p → HasGoneOn machine image s others recording later (record p { recorder = after })
gone_without machine image s turns others recording later p after same order gone = record {
  leads = record {
    state = gone.leads.state;
    after = ap (after_interval machine image s) order ∙ gone.leads.after;
    entries = gone.leads.entries;
    recorded = gone.leads.recorded;
    longer = gone.leads.longer;
    gained = gone.leads.gained;
    come = still_stands machine gone.leads.state p after same gone.leads.come;
  };
  in_order = order ∙ gone.in_order;
  recorded = gone.recorded;
}
