-- The bound phase of an interval, which the cores have run one after the other.
use Rattle.std.proofs.Common.{◌≡◌, ℕ, zero, suc, ◌+◌, ◌*◌, ◌-◌, ◌^◌, ◌<◌, ◌≤◌, List, [], ◌∷◌, length, map, All, Some, Ok, refl, sym, ◌∙◌, ap, subst, arith}
use Rattle.std.specs.Prelude.{replicate, slice_get}
use Rattle.std.proofs.lemmas.List.{length-map, length-replicate}
use Rattle.std.proofs.lemmas.List.Elements.{All-map}
use Rattle.std.proofs.lemmas.Option.{slice_get_within}
use Rattle.zs_num.specs.declared.entry.Entry.{Entry}
use Rattle.elf_load.specs.MemoryImage.{MemoryImage}
use Rattle.machine_desc.specs.declared.machine.Machine.{Machine}
use Rattle.machine_desc.specs.Machine.{IsMachine}
use Rattle.shard.specs.Served.{ShardState}
use Rattle.access_record.specs.Records.{IsInReach}
use Rattle.bound_core.specs.History.{IsHistory, after_history, begun_over_shards}
use Rattle.bound_core.specs.HistoryLaws.{PhasesAreHistories}
use Rattle.bound_core.specs.Reaching.{Reaches}
use Rattle.bound_core.specs.ReferenceMachine.{BoundState, bound_phase}
use Rattle.bound_core.specs.ShardPort.{AreShardsOf, base_in, base_of, greatest, greatest_stamp, room_of, size_in, size_of}
use Rattle.bound_core.specs.ShardWorld.{ShardWorld, begun_world, restarted, shards_serve}
use Rattle.bound_core.specs.NumberedCores.{NumberedCore, timed_of}
use Rattle.bound_core.specs.Turn.{IsOver}
use Rattle.reference.proofs.Reaching.{whole_phase}
use Rattle.reference.proofs.Restarted.{no_last}
use Rattle.bound_core.proofs.ShardPorts.{own_memory}
use Rattle.bound_records.specs.CoreRuns.{AreNumbered, HaveRecorded, access_time_of, phase_in}
use Rattle.bound_records.specs.Intervals.{begun}
use Rattle.bound_records.specs.Recorders.{IsRecorderFor, RecorderState, core_room, entries_of}
use Rattle.bound_records.specs.Turns.{phase_by}
use Rattle.bound_records.proofs.ByHistory.{HasHistory, few_in_all}
use Rattle.bound_records.proofs.InOrder.{HaveOwn}
use Rattle.bound_records.proofs.Lists.{all_empty, own_list}
use Rattle.bound_records.proofs.SameCores.{all_timed}

-- ---- an interval begins

-- what an interval begins with, where the recorder had these caches and this memory
abbrev pub restarted_at : (begin : ℕ) → RecorderState → RecorderState
restarted_at begin r = record r { world = begun_world (length r.world.stamps) (map restarted r.world.shards); lists = replicate (length r.lists) []; begin = begin }

pub none_there : (n i : ℕ) (es : List Entry) → slice_get (replicate n []) i ≡ Some es → es ≡ []
none_there zero i es here = absurd (cc)
none_there (suc n) zero es here = cc
none_there (suc n) (suc i) es here = none_there n i es here

-- All cores have come to the end of an interval, by these turns, which took the accesses in this order.
pub record HaveEnded (machine : Machine) (image : MemoryImage) (end : ℕ) (turns : List ℕ) (taken : List Entry) (cores after : List NumberedCore) (r s : RecorderState) : Type 0 where
  pub reaches : Reaches shards_serve (access_time_of machine) image end (phase_in cores r) turns (phase_by after s taken)
  pub own : HaveOwn taken s.lists
  pub starts : All (λ e. e.start ≤ 2 ^ 34) taken
  pub reach : All (IsInReach s.begin s.base) taken
  pub few : length taken ≤ machine.cores * core_room machine
  pub count : length after ≡ length cores
  pub numbered : AreNumbered after
  pub over : All (IsOver end) (timed_of after)
  pub clocks : All (λ c. c.clock ≤ 2 ^ 57) (timed_of after)
  pub stamps : length s.world.stamps ≡ length r.world.stamps
  pub banks : length s.world.shards ≡ length r.world.shards
  pub lists : length s.lists ≡ length r.lists
  pub begin_is : s.begin ≡ r.begin
  pub base_is : s.base ≡ r.base
  pub room_is : s.room ≡ r.room

-- one core after the other
pub ended_in_order : (machine : Machine) (image : MemoryImage) (end : ℕ) (cores after : List NumberedCore) (r s : RecorderState) → length cores ≡ machine.cores → HaveRecorded machine image end machine.cores cores after r s
    → HaveEnded machine image end (map (λ e. e.core) (entries_of s)) (entries_of s) cores after r s
ended_in_order machine image end cores after r s count h =
    let many : length after ≡ machine.cores = h.count ∙ count in
    record {
      reaches = h.reaches;
      own = λ core es here. own_list 0 core s.lists (λ i xs at. subst (λ (n : ℕ). All (λ (e : Entry). e.core ≡ n) xs) (let same : i ≡ 0 + i = omega arith in same) (h.own i xs at)) core es (let same : core ≡ 0 + core = omega arith in same) here;
      starts = h.starts;
      reach = h.reach;
      few = h.few;
      count = h.count;
      numbered = h.numbered;
      over = all_timed (IsOver end) after (λ i c here. h.over i c (let w = slice_get_within after i c here in omega (arith, w, many)) here);
      clocks = all_timed (λ c. c.clock ≤ 2 ^ 57) after (λ i c here. h.clocks i c (let w = slice_get_within after i c here in omega (arith, w, many)) here);
      stamps = h.stamps;
      banks = h.banks;
      lists = h.lists;
      begin_is = h.begin_is;
      base_is = h.base_is;
      room_is = h.room_is;
    }

module _ (machine : Machine) (begin : ℕ) (cores : List NumberedCore) (before r : RecorderState) (recorder : IsRecorderFor machine before) (begins : r ≡ restarted_at begin before) (count : length cores ≡ machine.cores) where
  abbrev shards : List ShardState
  shards = map restarted before.world.shards

  many : length (timed_of cores) ≡ machine.cores
  many = length-map cores (λ (c : NumberedCore). c.timed) ∙ count

  world_is : r.world ≡ begun_world (length (timed_of cores)) shards
  world_is = ap (λ (x : RecorderState). x.world) begins ∙ ap (λ (n : ℕ). begun_world n shards) (recorder.stamps ∙ sym many)

  pub none_at_first : (i : ℕ) (es : List Entry) → slice_get r.lists i ≡ Some es → es ≡ []
  none_at_first i es here = none_there (length before.lists) i es (ap (λ (x : RecorderState). slice_get x.lists i) (sym begins) ∙ here)

  pub from_start : phase_in cores r ≡ begun_over_shards (timed_of cores) shards
  from_start =
      ap (λ (w : ShardWorld). let x : BoundState ShardWorld = record { cores = timed_of cores; world = w; entries = entries_of r } in x) world_is
      ∙ ap (λ (es : List Entry). let x : BoundState ShardWorld = record { cores = timed_of cores; world = begun_world (length (timed_of cores)) shards; entries = es } in x) (all_empty r.lists none_at_first)

  module _ (image : MemoryImage) (end : ℕ) (turns : List ℕ) (taken : List Entry) (after : List NumberedCore) (s : RecorderState) (some : 0 < length before.world.shards) (h : HaveEnded machine image end turns taken cores after r s) where
    phase : bound_phase shards_serve (access_time_of machine) image end turns (begun_over_shards (timed_of cores) shards) ≡ Ok (phase_by after s taken)
    phase =
        ap (bound_phase shards_serve (access_time_of machine) image end turns) (sym from_start)
        ∙ whole_phase shards_serve (access_time_of machine) image end (phase_in cores r) (phase_by after s taken) turns h.reaches h.over

    shards_many : length shards ≡ length before.world.shards
    shards_many = length-map before.world.shards restarted

    banks : length s.world.shards ≡ length shards
    banks = h.banks ∙ ap (λ (w : ShardWorld). length w.shards) world_is

    lists_many : length s.lists ≡ length (timed_of cores)
    lists_many = h.lists ∙ (ap (λ (x : RecorderState). length x.lists) begins ∙ (length-replicate (length before.lists) [] ∙ (recorder.lists ∙ sym many)))

    stamps_many : length s.world.stamps ≡ machine.cores
    stamps_many = h.stamps ∙ (ap (λ (w : ShardWorld). length w.stamps) world_is ∙ (length-replicate (length (timed_of cores)) 0 ∙ many))

    module _ (law : PhasesAreHistories (access_time_of machine) image end) where
      found : IsHistory (access_time_of machine) image end (timed_of cores) shards taken × (turns ≡ map (λ e. e.core) taken) × (phase_by after s taken ≡ after_history (access_time_of machine) image end (timed_of cores) shards taken)
      found =
          law (timed_of cores) shards turns (phase_by after s taken) (let m = shards_many in omega (arith, some, m)) (All-map (λ (shard : ShardState). shard.last ≡ 0) restarted before.world.shards (λ k d below. refl)) phase

      pub has_history : begin ≡ end - machine.interval → HasHistory machine image end turns taken cores after before s
      has_history begin_is = record {
        history = found.0;
        left = s.world;
        phase = phase;
        same = refl;
        turns_are = found.1;
        own = h.own;
        starts = h.starts;
        reach = h.reach;
        few = h.few;
        many = count;
        count = h.count ∙ count;
        numbered = h.numbered;
        over = h.over;
        clocks = h.clocks;
        recorder = record {
          stamps = stamps_many;
          lists = lists_many ∙ many;
          room = subst (λ (n : ℕ). core_room machine ≤ n) (sym (h.room_is ∙ ap (λ (x : RecorderState). x.room) begins)) recorder.room;
          base = h.base_is ∙ (ap (λ (x : RecorderState). x.base) begins ∙ recorder.base);
        };
        begins = h.begin_is ∙ (ap (λ (x : RecorderState). x.begin) begins ∙ begin_is);
        banks = banks ∙ shards_many;
      }

-- ---- what the interval begins with

greatest_none : (n : ℕ) → greatest (replicate n 0) ≡ 0
greatest_none zero = refl
greatest_none (suc n) = omega (arith, greatest_none n)

-- before the first access no stamp is near its limit
begun_room : (cores : ℕ) (shards : List ShardState) → room_of (begun_world cores (map restarted shards)) ≡ 2 ^ 62 - 1
begun_room cores shards =
    let lasts : greatest (map (λ shard. shard.last) (map restarted shards)) ≡ 0 = ap greatest (no_last shards) ∙ greatest_none (length shards) in
    let all : greatest_stamp (begun_world cores (map restarted shards)) ≡ 0 = omega (arith, lasts, greatest_none cores) in
    ap (λ (n : ℕ). 2 ^ 62 - 1 - n) all

base_again : (shards : List ShardState) → base_in (map restarted shards) ≡ base_in shards
base_again [] = refl
base_again (shard ∷ others) = refl

size_again : (shards : List ShardState) → size_in (map restarted shards) ≡ size_in shards
size_again [] = refl
size_again (shard ∷ others) = refl

module _ (machine : Machine) (begin : ℕ) (before r : RecorderState) (begins : r ≡ restarted_at begin before) where
  pub recorder_begun : IsRecorderFor machine before → IsRecorderFor machine r
  recorder_begun recorder = record {
    stamps = ap (λ (x : RecorderState). length x.world.stamps) begins ∙ (length-replicate (length before.world.stamps) 0 ∙ recorder.stamps);
    lists = ap (λ (x : RecorderState). length x.lists) begins ∙ (length-replicate (length before.lists) [] ∙ recorder.lists);
    room = subst (λ (n : ℕ). core_room machine ≤ n) (sym (ap (λ (x : RecorderState). x.room) begins)) recorder.room;
    base = ap (λ (x : RecorderState). x.base) begins ∙ recorder.base;
  }

  pub world_begun : IsRecorderFor machine before → r.world ≡ begun machine before
  world_begun recorder = ap (λ (x : RecorderState). x.world) begins ∙ ap (λ (n : ℕ). begun_world n (map restarted before.world.shards)) recorder.stamps

  pub begun_base : AreShardsOf machine.cores before.world.shards machine.memory.base machine.memory.size → base_of r.world ≡ machine.memory.base
  begun_base are =
      ap (λ (x : RecorderState). base_of x.world) begins
      ∙ (base_again before.world.shards ∙ (own_memory machine.cores machine.memory.base machine.memory.size before.world.shards are).0)

  pub begun_size : AreShardsOf machine.cores before.world.shards machine.memory.base machine.memory.size → size_of r.world ≡ machine.memory.size
  begun_size are =
      ap (λ (x : RecorderState). size_of x.world) begins
      ∙ (size_again before.world.shards ∙ (own_memory machine.cores machine.memory.base machine.memory.size before.world.shards are).1)

  pub room_for_all : IsMachine machine → machine.cores * core_room machine ≤ room_of r.world
  room_for_all is =
      let far : room_of r.world ≡ 2 ^ 62 - 1 = ap (λ (x : RecorderState). room_of x.world) begins ∙ begun_room (length before.world.stamps) before.world.shards in
      let all = few_in_all machine.cores (core_room machine) is.cores.1 in
      let short = is.interval.1 in
      omega (arith, far, all, short)
