-- The cores before an interval have new seats at a table of a recorder's shards.
use Rattle.std.proofs.Common.{◌≡◌, ℕ, ◌+◌, ◌*◌, ◌-◌, ◌^◌, ◌<◌, ◌≤◌, List, [], length, map, Some, refl, sym, ◌∙◌, ap, subst, arith}
use Rattle.std.specs.Prelude.{slice_get}
use Rattle.std.proofs.lemmas.List.{length-map, length-replicate}
use Rattle.std.proofs.lemmas.Option.{slice_get_within}
use Rattle.zs_num.specs.declared.entry.Entry.{Entry}
use Rattle.machine_desc.specs.declared.machine.Machine.{Machine}
use Rattle.machine_desc.specs.Machine.{IsMachine}
use Rattle.shard.specs.Served.{ShardState, resumed}
use Rattle.stats.specs.Counted.{no_core_count}
use Rattle.bound_core.specs.NumberedCores.{NumberedCore, timed_of}
use Rattle.bound_core.specs.ShardPort.{AreShardsOf, base_in, l1i_in, size_in}
use Rattle.bound_core.specs.ShardWorld.{ShardWorld, begun_world, restarted}
use Rattle.bound_core.specs.TimedCore.{TimedCore, beside_cycles}
use Rattle.bound_core.proofs.ShardPorts.{own_memory, shards_restarted}
use Rattle.bound_records.specs.Apart.{AreNewPartsOf, new_record}
use Rattle.bound_records.specs.CoreRuns.{AreNumbered, CanRunInterval}
use Rattle.bound_records.specs.Intervals.{CanAllRun}
use Rattle.bound_records.specs.Recorders.{IsRecorderFor, RecorderState, core_room}
use Rattle.bound_records.specs.declared.apart.RecorderParts.{RecorderParts}
use Rattle.bound_records.specs.declared.record_port.CoreRecord.{CoreRecord}
use Rattle.bound_records.proofs.SameCores.{ready_again}
use Rattle.parts_table.specs.Access.{AreNewSeats, SeatState, TableState, opening_shards}
use Rattle.bound_workers.specs.Intervals.{HaveSeats, IsNewRecord}
use Rattle.bound_workers.proofs.BoundServed.{restarted_twice}

-- nothing is kept of a core before its first access
new_is : (t : TableState) (banks begin base room core : ℕ) (kept : CoreRecord) → kept ≡ new_record banks begin base room core → 0 < banks → t.room ≤ room → IsNewRecord t core kept
new_is t banks begin base room core kept is some enough =
    subst (IsNewRecord t core) (sym is) (record {
      core_is = refl;
      some = some;
      none = refl;
      room = enough;
      records_core = refl;
      records_none = refl;
      records_room = refl;
      count_is = refl;
    })

-- What several workers begin an interval with: a recorder that was taken apart, cores with room on their consoles, and
-- their new seats at a table of the recorder's shards.
pub record HasBegun (m : Machine) (end begin : ℕ) (before : RecorderState) (p : RecorderParts) (shards : List ShardState) (stamps : List ℕ) (t : TableState) (cores reserved : List NumberedCore) (seats : List SeatState) : Type 0 where
  pub is : IsMachine m
  pub small : end ≤ 10 * 2 ^ 30
  pub begins : begin ≡ end - m.interval
  pub recorder : IsRecorderFor m before
  pub are : AreShardsOf m.cores before.world.shards m.memory.base m.memory.size
  pub new : AreNewPartsOf before begin p
  pub apart : p.port.world ≡ record { shards = shards; stamps = stamps }
  pub opening : opening_shards t ≡ map (λ shard. resumed shard 0) shards
  pub t_cores : t.cores ≡ m.cores
  pub t_room : t.room ≡ core_room m
  pub new_seats : AreNewSeats t seats
  pub count : length cores ≡ m.cores
  pub ready : CanAllRun m end cores before
  pub timed : timed_of reserved ≡ timed_of cores
  pub numbered : AreNumbered reserved
  pub spare : (i : ℕ) (c : NumberedCore) → slice_get reserved i ≡ Some c → core_room m ≤ c.spare

-- the shards of the recorder are those of the machine, and there is a stamp for each core
module _ (m : Machine) (before : RecorderState) (begin : ℕ) (p : RecorderParts) (shards : List ShardState) (stamps : List ℕ) (recorder : IsRecorderFor m before)
    (are : AreShardsOf m.cores before.world.shards m.memory.base m.memory.size) (new : AreNewPartsOf before begin p) (apart : p.port.world ≡ record { shards = shards; stamps = stamps }) where
  pub shards_are : shards ≡ map restarted before.world.shards
  shards_are = ap (λ (w : ShardWorld). w.shards) (sym apart ∙ new.world)

  pub stamps_many : length stamps ≡ m.cores
  stamps_many =
      ap (λ (w : ShardWorld). length w.stamps) (sym apart ∙ new.world)
      ∙ (length-replicate (length before.world.stamps) 0 ∙ recorder.stamps)

  pub first_are : AreShardsOf m.cores (map restarted before.world.shards) m.memory.base m.memory.size
  first_are = shards_restarted m.cores m.memory.base m.memory.size before.world.shards are

  pub parts_are : AreShardsOf m.cores shards m.memory.base m.memory.size
  parts_are = subst (λ (ss : List ShardState). AreShardsOf m.cores ss m.memory.base m.memory.size) (sym shards_are) first_are

  -- each shard knows as many cores
  pub marks_many : (shard : ShardState) → slice_get shards 0 ≡ Some shard → length shard.marks ≡ m.cores
  marks_many shard here = (parts_are.each 0 shard here).cores_known

module _ (m : Machine) (end begin : ℕ) (before : RecorderState) (p : RecorderParts) (shards : List ShardState) (stamps : List ℕ) (t : TableState) (cores reserved : List NumberedCore) (seats : List SeatState)
    (h : HasBegun m end begin before p shards stamps t cores reserved seats) where
  abbrev first : List ShardState
  first = map restarted before.world.shards

  pub opening_is : opening_shards t ≡ first
  opening_is = h.opening ∙ (ap (map restarted) (shards_are m before begin p shards stamps h.recorder h.are h.new h.apart) ∙ restarted_twice before.world.shards)

  pub machine_shards : AreShardsOf m.cores first m.memory.base m.memory.size
  machine_shards = first_are m before begin p shards stamps h.recorder h.are h.new h.apart

  pub records_many : length p.records.items ≡ m.cores
  records_many = h.new.count ∙ h.recorder.lists

  pub as_many : length reserved ≡ length cores
  as_many = sym (length-map reserved (λ (c : NumberedCore). c.timed)) ∙ (ap length h.timed ∙ length-map cores (λ (c : NumberedCore). c.timed))

  -- a core can run the interval
  pub can_run : (i : ℕ) (c : NumberedCore) → slice_get reserved i ≡ Some c → CanRunInterval m end m.memory.base m.memory.size (l1i_in first) c.timed
  can_run i c here =
      let own = own_memory m.cores m.memory.base m.memory.size first machine_shards in
      let can : CanRunInterval m end (base_in first) (size_in first) (l1i_in first) c.timed = ready_again (CanRunInterval m end (base_in first) (size_in first) (l1i_in first)) cores reserved h.timed h.ready i c here in
      subst (λ (b : ℕ). CanRunInterval m end b m.memory.size (l1i_in first) c.timed) own.0 (subst (λ (z : ℕ). CanRunInterval m end (base_in first) z (l1i_in first) c.timed) own.1 can)

  pub have_seats : HaveSeats m end t reserved seats p.records.items
  have_seats = record {
    count = as_many ∙ (h.count ∙ sym h.t_cores);
    cores_are = h.t_cores;
    ready = λ number c here. record {
      can = subst (λ (ss : List ShardState). CanRunInterval m end m.memory.base m.memory.size (l1i_in ss) c.timed) (sym opening_is) (can_run number c here);
      spare = h.spare number c here;
      number_is = h.numbered number c here;
    };
    seats_new = h.new_seats;
    many = records_many ∙ sym (as_many ∙ h.count);
    none_kept = λ number kept here.
        new_is t p.banks begin before.base before.room number kept (h.new.each number kept here) h.new.some_banks (let enough = h.recorder.room in let room = h.t_room in omega (arith, enough, room));
    shards = subst (λ (k : ℕ). AreShardsOf k (opening_shards t) m.memory.base m.memory.size) (sym h.t_cores)
        (subst (λ (ss : List ShardState). AreShardsOf m.cores ss m.memory.base m.memory.size) (sym opening_is) machine_shards);
    room = h.t_room;
  }
