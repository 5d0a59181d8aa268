-- The bound phase of an interval, whoever ran the cores: what is recorded is its history.
use Rattle.std.proofs.Common.{◌≡◌, ℕ, ◌+◌, ◌*◌, ◌-◌, ◌^◌, ◌<◌, ◌≤◌, List, length, map, All, Ok, sym, ◌∙◌, ap, subst, arith}
use Rattle.std.proofs.lemmas.List.{length-map}
use Rattle.zs_num.specs.declared.entry.Entry.{Entry}
use Rattle.elf_load.specs.MemoryImage.{MemoryImage}
use Rattle.machine_desc.specs.declared.machine.Machine.{Machine}
use Rattle.machine_desc.specs.Machine.{IsMachine}
use Rattle.event_graph.specs.AccessPaths.{path_of}
use Rattle.event_graph.specs.PathInRange.{IsAccessPath}
use Rattle.noc_mesh.specs.Laws.{NetAccessesBeyondHitsHaveEvents, NetAccessesHaveFewEvents, NetEventsAreInARow}
use Rattle.access_log.specs.History.{AreStamped, of_core}
use Rattle.access_log.specs.Laws.{CoresDecideTheOrder, RecordedOrderKeepsTheStamps, StampsRise}
use Rattle.access_log.specs.RecordedOrder.{no_stamps, recorded_order}
use Rattle.access_record.specs.Laws.{RecordsKeepEachAccess, RecordsKeepTheEvents, RecordsStandForAccesses}
use Rattle.access_record.specs.Records.{IsInReach}
use Rattle.access_record.specs.Turns.{in_turns}
use Rattle.bound_core.specs.History.{IsHistory, begun_over_shards}
use Rattle.bound_core.specs.NumberedCores.{NumberedCore, timed_of}
use Rattle.bound_core.specs.ReferenceMachine.{bound_phase}
use Rattle.bound_core.specs.ShardWorld.{ShardWorld, restarted, shards_serve}
use Rattle.bound_core.specs.Turn.{IsOver}
use Rattle.bound_records.specs.CoreRuns.{AreNumbered, access_time_of}
use Rattle.bound_records.specs.Intervals.{AreKept, HaveRun}
use Rattle.bound_records.specs.Recorders.{IsRecorderFor, RecorderState, core_room, entries_of}
use Rattle.bound_records.proofs.Chained.{are_kept}
use Rattle.bound_records.proofs.InOrder.{HaveOwn, all_of_all, own_cores, own_recorded, same_cores, same_recorded, taken_again}
use Rattle.bound_records.proofs.Lists.{length_recorded}

more_cores : (n more room : ℕ) → n * room ≤ (n + more) * room
more_cores n more room = omega arith

pub few_in_all : (cores room : ℕ) → cores ≤ 256 → cores * room ≤ 256 * room
few_in_all cores room few =
    let all : cores + (256 - cores) ≡ 256 = omega (arith, few) in
    subst (λ (n : ℕ). cores * room ≤ n * room) all (more_cores cores (256 - cores) room)

-- All cores have come to the end of an interval, by these turns, which took the accesses in this order, and the recorder
-- has each core's.
pub record HasHistory (machine : Machine) (image : MemoryImage) (end : ℕ) (turns : List ℕ) (taken : List Entry) (cores after : List NumberedCore) (before s : RecorderState) : Type 0 where
  pub history : IsHistory (access_time_of machine) image end (timed_of cores) (map restarted before.world.shards) taken
  pub left : ShardWorld
  pub phase : bound_phase shards_serve (access_time_of machine) image end turns (begun_over_shards (timed_of cores) (map restarted before.world.shards)) ≡ Ok (record { cores = timed_of after; world = left; entries = taken })
  pub same : map restarted left.shards ≡ map restarted s.world.shards
  pub turns_are : turns ≡ map (λ e. e.core) taken
  pub own : HaveOwn taken s.lists
  pub starts : All (λ e. e.start ≤ 2 ^ 34) taken
  pub reach : All (IsInReach s.begin s.base) taken
  pub few : length taken ≤ machine.cores * core_room machine
  pub many : length cores ≡ machine.cores
  pub count : length after ≡ machine.cores
  pub numbered : AreNumbered after
  pub over : All (IsOver end) (timed_of after)
  pub clocks : All (λ c. c.clock ≤ 2 ^ 57) (timed_of after)
  pub recorder : IsRecorderFor machine s
  pub begins : s.begin ≡ end - machine.interval
  pub banks : length s.world.shards ≡ length before.world.shards

module _ (machine : Machine) (image : MemoryImage) (end : ℕ) (turns : List ℕ) (taken : List Entry) (cores after : List NumberedCore) (before s : RecorderState) (is : IsMachine machine)
    (h : HasHistory machine image end turns taken cores after before s) where
  shards_many : length s.world.shards ≡ length (map restarted before.world.shards)
  shards_many = h.banks ∙ sym (length-map before.world.shards restarted)

  lists_many : length s.lists ≡ length (timed_of cores)
  lists_many = h.recorder.lists ∙ (sym h.many ∙ sym (length-map cores (λ (c : NumberedCore). c.timed)))

  few : length taken < 2 ^ 32
  few =
      let most = h.few in
      let all = few_in_all machine.cores (core_room machine) is.cores.1 in
      let short = is.interval.1 in
      omega (arith, most, all, short)

  some_banks : 0 < length s.world.shards
  some_banks = subst (λ (n : ℕ). 0 < n) (sym shards_many) h.history.some

  known_lists : All (λ e. e.core < length s.lists) taken
  known_lists = subst (λ (n : ℕ). All (λ (e : Entry). e.core < n) taken) (sym lists_many) h.history.known

  stamped : AreStamped (length s.world.shards) (no_stamps (length s.world.shards) (length s.lists)) taken
  stamped =
      subst (λ (n : ℕ). AreStamped n (no_stamps n (length s.lists)) taken) (sym shards_many)
      (subst (λ (n : ℕ). AreStamped (length (map restarted before.world.shards)) (no_stamps (length (map restarted before.world.shards)) n) taken) (sym lists_many) h.history.stamped)

  all_of : (P : Entry → Type 0) → All P taken → All P (entries_of s)
  all_of P all = all_of_all taken s.lists h.own known_lists P all

  -- the order of the turns is that in which their list takes the accesses
  pub as_listed : in_turns turns s.lists ≡ taken
  as_listed = ap (λ (ns : List ℕ). in_turns ns s.lists) h.turns_are ∙ taken_again taken s.lists h.own known_lists

  module _ (rise : StampsRise) (decide : CoresDecideTheOrder) (keep : RecordedOrderKeepsTheStamps) where
    in_order : recorded_order (entries_of s) ≡ recorded_order taken
    in_order = same_recorded taken s.lists h.own known_lists (length s.world.shards) some_banks stamped rise decide

    as_many : length (entries_of s) ≡ length taken
    as_many = sym (length_recorded (entries_of s)) ∙ (ap length in_order ∙ length_recorded taken)

    in_recorded : (core : ℕ) → of_core core (recorded_order (entries_of s)) ≡ of_core core taken
    in_recorded = own_recorded taken s.lists h.own known_lists (length s.world.shards) some_banks stamped rise decide keep

    pub have_run : HaveRun machine image end turns taken cores after before s
    have_run = record {
      left = h.left;
      phase = h.phase;
      same = h.same;
      turns_are = h.turns_are;
      in_turn = record { some = some_banks; few = few; known = known_lists; own = h.own; stamped = stamped };
      in_order = sym in_order;
      own = λ core es here. in_recorded core ∙ h.own core es here;
      known = subst (λ (n : ℕ). All (λ (e : Entry). e.core < n) (entries_of s)) h.recorder.lists (all_of (λ (e : Entry). e.core < length s.lists) known_lists);
      starts = all_of (λ (e : Entry). e.start ≤ 2 ^ 34) h.starts;
      few = (let f = h.few in let m = as_many in omega (arith, f, m));
      reach = all_of (IsInReach s.begin s.base) h.reach;
      count = h.count;
      numbered = h.numbered;
      over = h.over;
      clocks = h.clocks;
      recorder = h.recorder;
      begins = h.begins;
      banks = h.banks;
    }

    -- recorded order leaves each core's accesses in their order
    same_in_order : (core : ℕ) → of_core core (recorded_order (entries_of s)) ≡ of_core core (entries_of s)
    same_in_order core = in_recorded core ∙ sym (same_cores taken s.lists h.own known_lists core)

    pub kept_run : RecordsStandForAccesses → RecordsKeepEachAccess → RecordsKeepTheEvents → NetAccessesHaveFewEvents → NetAccessesBeyondHitsHaveEvents → NetEventsAreInARow → IsAccessPath (path_of machine)
        → AreKept machine s
    kept_run stand each events small beyond row in_range =
        are_kept machine s have_run.known have_run.starts have_run.few have_run.reach h.recorder.lists (own_cores taken s.lists h.own known_lists) same_in_order stand each events small beyond row in_range
