-- A run goes on interval by interval.
use Rattle.std.proofs.Common.{◌≡◌, ◌≢◌, ◌⊎◌, ℕ, ◌+◌, ◌*◌, ◌^◌, ◌<◌, ◌≤◌, nat_lt, get_or, Bool, true, false, List, [], ◌∷◌, ◌++◌, length, map, Option, Some, None, Result, Ok, Err, All, refl, sym, ◌∙◌, ap, subst, inl, inr, arith}
use Rattle.std.specs.Prelude.{IsSome, IsTrue, is_some, slice_get}
use Rattle.std.specs.List.{enumerate_from, fold, range_with_len}
use Rattle.std.proofs.lemmas.List.{length-append, length-map, map-append}
use Rattle.std.proofs.lemmas.List.Elements.{All-map, All-push}
use Rattle.std.proofs.lemmas.List.FromFn.{length-enumerate_from, length-map-range_with_len}
use Rattle.std.proofs.lemmas.List.Sums.{sum_by_push}
use Rattle.std.proofs.lemmas.Option.{slice_get-get_or, slice_get_within}
use Rattle.zs_num.specs.declared.entry.Entry.{Entry}
use Rattle.elf_load.specs.MemoryImage.{MemoryImage}
use Rattle.machine_desc.specs.declared.machine.Machine.{Machine}
use Rattle.machine_desc.specs.Components.{component_count}
use Rattle.machine_desc.specs.Machine.{IsMachine}
use Rattle.component.specs.declared.comp.Comp.{Comp}
use Rattle.component.specs.ComponentStep.{comp_step, free_of}
use Rattle.component.specs.Components.{AreComponents, AreFresh}
use Rattle.event_graph.specs.OneListWeave.{comps_after}
use Rattle.stats.specs.Counts.{Counts, Interval, comp_total, core_total, counts_of, total_accesses, total_events}
use Rattle.stats.specs.CountsFit.{CountsFit}
use Rattle.stats.specs.Added.{added}
use Rattle.stats.specs.Laws.{CountersAreSums, SumsFit, WasRun}
use Rattle.rv_core.specs.declared.why.Why.{Why}
use Rattle.rv_core.specs.Step.{initial_core}
use Rattle.shard.specs.HaveL1i.{have_l1i}
use Rattle.shard.specs.Served.{ShardState, no_shard, shard_after}
use Rattle.bound_core.specs.History.{after_history}
use Rattle.bound_core.specs.Intervals.{NextIntervalBegins}
use Rattle.bound_core.specs.History as history
use Rattle.bound_core.specs.HistoryLaws.{PhasesAreHistories}
use Rattle.bound_core.specs.MachineOfShards.{IsCoreOf, ShardsDoAsTheMachine, StandForMachine}
use Rattle.bound_core.specs.MachineWorld.{MachineWorld, serve}
use Rattle.bound_core.specs.ReferenceMachine.{BoundState, bound_phase}
use Rattle.bound_core.specs.ShardPort.{AreShardsOf, base_of, l1i_of, size_of}
use Rattle.bound_core.specs.ShardWorld as served
use Rattle.bound_core.specs.ShardWorld.{ShardWorld, begun_world, restarted}
use Rattle.bound_core.specs.Correspondence.{AreRelated, EndAlike}
use Rattle.bound_core.specs.TimedCore.{TimedCore, first_core}
use Rattle.bound_core.specs.NumberedCores.{NumberedCore}
use Rattle.bound_core.specs.Turn.{IsOver}
use Rattle.access_log.specs.History.{bank_of_entry, each_after, of_number}
use Rattle.access_log.specs.RecordedOrder.{no_stamps, recorded_order}
use Rattle.run.specs.declared.simulation.Simulation.{Simulation}
use Rattle.reference.specs.ReferenceRun.{RunState, access_room, after_interval, after_weave, all_delayed, begun_interval, end_of, first_state, recorded_turns, time_of, world_of, woven_after, woven_interval}
use Rattle.bound_records.specs.CoreRuns.{AreNumbered, CanRunInterval}
use Rattle.bound_records.specs.Recorders.{IsRecorderFor, RecorderState}
use Rattle.run.specs.Simulation.{HasNextInterval, HasRoomForInterval, IsBoundPhase, IsCounted, LeadsTo, StandsFor, begun_shards, cores_of}
use Rattle.bound_core.proofs.ShardPorts.{shards_restarted}
use Rattle.bound_core.proofs.ShardsStay.{shards_after, whatever_stamps}
use Rattle.reference.proofs.BelowLimits.{IsBelowLimits, goes_on}
use Rattle.reference.proofs.Delayed.{delayed_many, delayed_over, delayed_same}
use Rattle.run.proofs.Cores.{each_timed}

-- as many are there after their entries as before
pub each_many : {X : Type 0} (step : X → Entry → X) (number_of : Entry → ℕ) (entries : List Entry) (xs : List X) → length (each_after step number_of entries xs) ≡ length xs
each_many step number_of entries xs =
    length-map (enumerate_from 0 xs) (λ at. fold step at.1 (of_number number_of at.0 entries)) ∙ length-enumerate_from 0 xs

-- a core that is not halted has come to the end of the last interval
came : (halted : Option Why) (fetched : Bool) (from clock : ℕ) → halted ≡ None → IsSome halted ⊎ ((fetched ≡ false) × (from ≤ clock)) → from ≤ clock
came None fetched from clock is (inl some) = cc
came None fetched from clock is (inr here) = here.1
came (Some why) fetched from clock is come = cc

-- a core that has come there, or has halted, has fetched nothing that is to be executed
none_fetched : (halted : Option Why) (fetched : Bool) (from clock : ℕ) → (IsTrue fetched → halted ≡ None) → IsSome halted ⊎ ((fetched ≡ false) × (from ≤ clock)) → fetched ≡ false
none_fetched halted false from clock runs come = refl
none_fetched halted true from clock runs (inr here) = here.0
none_fetched halted true from clock runs (inl some) = let none : halted ≡ None = runs refl in absurd (let not : is_some halted ≡ false = ap is_some none in cc)

pub counted_cores : (cores : ℕ) (comps : List Comp) (intervals : List Interval) → length (counts_of cores comps intervals).core_counts ≡ cores
unfolding counts_of
counted_cores cores comps intervals = length-map-range_with_len (core_total intervals) 0 cores

pub counted_comps : (cores : ℕ) (comps : List Comp) (intervals : List Interval) → length (counts_of cores comps intervals).comp_counts ≡ length comps
unfolding counts_of
counted_comps cores comps intervals =
    length-map (enumerate_from 0 comps) (λ at. comp_total intervals at.0 at.1) ∙ length-enumerate_from 0 comps

module _ (machine : Machine) (end : ℕ) (s : RunState) (p : Simulation) (g : HasNextInterval machine end s p) where
  abbrev shards : List ShardState
  shards = map restarted p.recorder.world.shards

  first_shard : slice_get shards 0 ≡ Some (get_or shards 0 no_shard)
  first_shard = slice_get-get_or shards 0 no_shard g.come.stand.some

  base_is : base_of (begun_shards machine p) ≡ g.come.stand.memory.base
  base_is = g.come.stand.stand.are.base 0 (get_or shards 0 no_shard) first_shard

  size_is : size_of (begun_shards machine p) ≡ length g.come.stand.memory.bytes
  size_is = g.come.stand.stand.are.size 0 (get_or shards 0 no_shard) first_shard

  below : IsBelowLimits machine (length s.intervals) (total_accesses s.intervals) s.cores s.comps
  below = goes_on machine s g.on

  -- what holds of all cores
  each : (P : TimedCore → Type 0) → All P s.cores → (i : ℕ) (c : NumberedCore) → slice_get p.cores.items i ≡ Some c → P c.timed
  each P all i c here = each_timed P p.cores.items (subst (All P) g.come.cores all) i c here (slice_get_within p.cores.items i c here)

  l1i_is : l1i_of (begun_shards machine p) ≡ have_l1i s.caches
  l1i_is = ap (λ (n : ℕ). nat_lt 0 n) (g.come.stand.stand.fetchers 0 (get_or shards 0 no_shard) first_shard)

  pub is_ready : (i : ℕ) (c : NumberedCore) → slice_get p.cores.items i ≡ Some c
      → CanRunInterval machine end (base_of (begun_shards machine p)) (size_of (begun_shards machine p)) (l1i_of (begun_shards machine p)) c.timed
  is_ready i c here =
      let over = each (IsOver (length s.intervals * machine.interval)) g.come.over i c here in
      let own = each (IsCoreOf g.come.stand.memory.base (length g.come.stand.memory.bytes) (have_l1i s.caches)) g.come.stand.cores_are i c here in
      record {
        idle = over.idle;
        unfetched = none_fetched c.timed.core.halted c.timed.core.is_fetched (length s.intervals * machine.interval) c.timed.clock (λ fetched. (own.sound.fetched fetched).2) over.over;
        clock = each (λ t. t.clock ≤ 2 ^ 56) below.clocks_left i c here;
        left = λ running.
            let from : length s.intervals * machine.interval ≤ c.timed.clock = came c.timed.core.halted c.timed.core.is_fetched (length s.intervals * machine.interval) c.timed.clock running over.over in
            omega (arith, from, g.ends);
        base_is = own.base_is ∙ sym base_is;
        size_is = own.size_is ∙ sym size_is;
        fetches = λ fetching. l1i_is ∙ own.fetches fetching;
      }

  pub has_room : HasRoomForInterval machine end p
  has_room =
      let come = g.come in
      record {
        ready = is_ready;
        count = sym (length-map p.cores.items (λ (c : NumberedCore). c.timed)) ∙ ap length (sym come.cores) ∙ come.count;
        numbered = come.numbered;
        stamps = come.stamps;
        shards = come.placed;
        banks = come.banks;
        free = subst (λ (comps : List Comp). All (λ c. free_of c ≤ 2 ^ 56) comps) (sym come.comps) below.free_left;
        components = subst (AreComponents machine) (sym come.comps) come.counted.components;
        cores = ap (λ (counts : Counts). length counts.core_counts) come.counters ∙ counted_cores machine.cores s.comps s.intervals;
        comps = ap (λ (counts : Counts). length counts.comp_counts) come.counters ∙ counted_comps machine.cores s.comps s.intervals ∙ come.counted.components.count;
      }

-- an interval that was run, and what it adds to the sums
module _ (machine : Machine) (ok : IsMachine machine) (end : ℕ) (s : RunState) (p : Simulation) (g : HasNextInterval machine end s p)
    (i : Interval) (was_run : WasRun i) (few_events : length i.events ≤ 60 * length i.entries) (few : length i.entries ≤ access_room machine) where
  more_accesses : total_accesses (s.intervals ++ i ∷ []) ≡ total_accesses s.intervals + length i.entries
  more_accesses = sum_by_push (λ (j : Interval). length j.entries) s.intervals i

  more_events : total_events (s.intervals ++ i ∷ []) ≡ total_events s.intervals + length i.events
  more_events = sum_by_push (λ (j : Interval). length j.events) s.intervals i

  left : total_accesses s.intervals + access_room machine ≤ 2 ^ 26
  left = (goes_on machine s g.on).accesses_left

  pub accesses_stay : total_accesses (s.intervals ++ i ∷ []) ≤ 2 ^ 26
  accesses_stay = omega (arith, more_accesses, left, few)

  pub events_stay : total_events (s.intervals ++ i ∷ []) ≤ 60 * total_accesses (s.intervals ++ i ∷ [])
  events_stay = omega (arith, more_accesses, more_events, g.come.counted.events, few_events)

  pub one_longer : length (s.intervals ++ i ∷ []) ≡ length s.intervals + 1
  one_longer = omega (arith, length-append s.intervals (i ∷ []))

  pub all_run : All WasRun (s.intervals ++ i ∷ [])
  all_run = All-push WasRun s.intervals i g.come.counted.were_run was_run

  -- the counts with the interval are the sums with it
  pub summed : CountersAreSums → (comps : List Comp) → AreComponents machine comps → added p.counters i comps ≡ counts_of machine.cores comps (s.intervals ++ i ∷ [])
  summed law comps are =
      let long : length s.comps ≡ length comps = g.come.counted.components.count ∙ sym are.count in
      ap (λ (c : Counts). added c i comps) g.come.counters ∙ law machine.cores s.comps comps s.intervals i long

  pub fits_more : CountersAreSums → SumsFit → (comps : List Comp) → AreComponents machine comps → CountsFit (added p.counters i comps)
  fits_more law fit comps are =
      let intervals : length s.intervals ≤ 2 ^ 20 = omega (arith, g.come.counted.within, ok.intervals.1) in
      let accesses : total_accesses (s.intervals ++ i ∷ []) < 2 ^ 64 = omega (arith, accesses_stay) in
      let events : total_events (s.intervals ++ i ∷ []) ≤ 2 ^ 60 = omega (arith, accesses_stay, events_stay) in
      let long : length (s.intervals ++ i ∷ []) ≤ 2 ^ 60 = omega (arith, one_longer, intervals) in
      subst CountsFit (sym (summed law comps are)) (fit machine.cores comps (s.intervals ++ i ∷ []) accesses events long all_run)

-- after the weave of a bound phase, whose record is i
abbrev pub woven_next : RunState → BoundState MachineWorld → Interval → RunState
woven_next s b i = record {
  cores = all_delayed i.delays b.cores;
  memory = b.world.memory;
  caches = b.world.caches;
  comps = comps_after comp_step i.events s.comps;
  intervals = s.intervals ++ i ∷ [];
}

weave_after : (machine : Machine) (s : RunState) (b : BoundState MachineWorld) (i : Interval) → i ≡ woven_interval machine s.comps (recorded_order b.entries)
    → after_weave machine s b ≡ woven_next s b i
unfolding after_weave
weave_after machine s b i is = ap (λ (j : Interval). woven_next s b j) (sym is)

-- the laws of what a bound phase leaves
pub record Laws (time : Entry → ℕ) (image : MemoryImage) (end : ℕ) : Type 0 where
  pub alike : ShardsDoAsTheMachine time image end
  pub histories : PhasesAreHistories time image end
  pub next : NextIntervalBegins
  pub sums : CountersAreSums

-- ---- the machine of one thread

ok_alike : (u : BoundState ShardWorld) (o : Result (BoundState MachineWorld) ℕ) → EndAlike StandForMachine (Ok u) o → (t : BoundState MachineWorld) × (o ≡ Ok t) × AreRelated StandForMachine u t
ok_alike u (Ok t) related = (t, refl, related)
ok_alike u (Err place) related = absurd related

err_alike : (place : ℕ) (o : Result (BoundState MachineWorld) ℕ) → EndAlike StandForMachine (Err place) o → o ≡ Err place
err_alike place (Ok t) related = absurd related
err_alike place (Err other) related = ap Err related

-- the bound phase of the next interval, over the shards and on the machine
module _ (machine : Machine) (image : MemoryImage) (end : ℕ) (s : RunState) (p : Simulation) (g : HasNextInterval machine end s p) (turns : List ℕ) where
  abbrev before : List ShardState
  before = map restarted p.recorder.world.shards

  abbrev shard_phase : Result (BoundState ShardWorld) ℕ
  shard_phase = bound_phase served.shards_serve (time_of machine) image end turns (history.begun_over_shards (cores_of p) before)

  abbrev machine_phase : Result (BoundState MachineWorld) ℕ
  machine_phase = bound_phase serve (time_of machine) image (end_of machine s) turns (begun_interval machine s)

  many : length (cores_of p) ≡ machine.cores
  many = ap length (sym g.come.cores) ∙ g.come.count

  stand : StandForMachine (cores_of p) (begun_world (length (cores_of p)) before) (world_of machine s)
  stand =
      subst (λ (n : ℕ). StandForMachine (cores_of p) (begun_world n before) (world_of machine s)) (sym many)
      (subst (λ (cores : List TimedCore). StandForMachine cores (begun_shards machine p) (world_of machine s)) g.come.cores g.come.stand)

  alike : ShardsDoAsTheMachine (time_of machine) image end → EndAlike StandForMachine shard_phase machine_phase
  alike law =
      let from : BoundState MachineWorld = record { cores = cores_of p; world = world_of machine s; entries = [] } in
      let end_alike : EndAlike StandForMachine shard_phase (bound_phase serve (time_of machine) image end turns from) =
      law (history.begun_over_shards (cores_of p) before) from (record { cores = refl; entries = refl; worlds = stand }) turns 0
      in
      let at_end : EndAlike StandForMachine shard_phase (bound_phase serve (time_of machine) image (end_of machine s) turns from) =
      subst (λ (stop : ℕ). EndAlike StandForMachine shard_phase (bound_phase serve (time_of machine) image stop turns from)) g.ends end_alike
      in
      subst (λ (cores : List TimedCore). EndAlike StandForMachine shard_phase (let b : BoundState MachineWorld = record { cores = cores; world = world_of machine s; entries = [] } in bound_phase serve (time_of machine) image (end_of machine s) turns b)) (sym g.come.cores) at_end

  -- a place that is not legal over the shards is not legal
  pub not_legal : ShardsDoAsTheMachine (time_of machine) image end → (place : ℕ) → shard_phase ≡ Err place
      → after_interval machine image s turns ≡ Err (record { interval = length s.intervals; place = place })
  not_legal law place is =
      ap (woven_after machine s) (err_alike place machine_phase (subst (λ (o : Result (BoundState ShardWorld) ℕ). EndAlike StandForMachine o machine_phase) is (alike law)))

  pub legal : ShardsDoAsTheMachine (time_of machine) image end → (u : BoundState ShardWorld) → shard_phase ≡ Ok u
      → (t : BoundState MachineWorld) × (machine_phase ≡ Ok t) × AreRelated StandForMachine u t
  legal law u is = ok_alike u machine_phase (subst (λ (o : Result (BoundState ShardWorld) ℕ). EndAlike StandForMachine o machine_phase) is (alike law))

-- after its bound phase, the weave and the feedback, the run is an interval further
module _ (machine : Machine) (ok : IsMachine machine) (image : MemoryImage) (end : ℕ) (s : RunState) (p q : Simulation) (g : HasNextInterval machine end s p)
    (turns : List ℕ) (entries : List Entry) (b : IsBoundPhase machine image end p turns q entries) (laws : Laws (time_of machine) image end)
    (i : Interval) (is : i ≡ woven_interval machine s.comps entries) (same : i.entries ≡ entries) (was_run : WasRun i) (few_events : length i.events ≤ 60 * length i.entries)
    (are : AreComponents machine (comps_after comp_step i.events s.comps)) where
  few : length i.entries ≤ access_room machine
  few = omega (arith, ap length same, b.few)

  run : (t : BoundState MachineWorld) × (machine_phase machine image end s p g turns ≡ Ok t) × AreRelated StandForMachine b.left t
  run = legal machine image end s p g turns laws.alike b.left b.phase

  abbrev came_to : BoundState MachineWorld
  came_to = run.0

  abbrev next : RunState
  next = woven_next s came_to i

  in_order : recorded_order came_to.entries ≡ entries
  in_order = ap recorded_order run.2.entries ∙ sym b.in_order

  leads : after_interval machine image s turns ≡ Ok next
  leads =
      ap (woven_after machine s) run.1
      ∙ ap Ok (weave_after machine s came_to i (is ∙ ap (woven_interval machine s.comps) (sym in_order)))

  -- ---- its cores

  cores_are : came_to.cores ≡ cores_of q
  cores_are = run.2.cores ∙ sym b.cores_are

  left_many : length came_to.cores ≡ machine.cores
  left_many = ap length cores_are ∙ length-map q.cores.items (λ (c : NumberedCore). c.timed) ∙ b.count

  later_many : length (all_delayed i.delays came_to.cores) ≡ machine.cores
  later_many = delayed_many i.delays came_to.cores ∙ left_many

  -- ---- its shards

  abbrev was : List ShardState
  was = map restarted p.recorder.world.shards

  world_is : (after_history (time_of machine) image end (cores_of p) was b.left.entries).world ≡ b.left.world
  world_is =
      let found = laws.histories (cores_of p) was turns b.left g.come.stand.some (All-map (λ (shard : ShardState). shard.last ≡ 0) restarted p.recorder.world.shards (λ k d below. refl)) b.phase in
      ap (λ (state : BoundState ShardWorld). state.world) (sym found.2)

  left_shards : length b.left.world.shards ≡ machine.l2.banks
  left_shards =
      ap (λ (w : ShardWorld). length w.shards) (sym world_is)
      ∙ each_many shard_after (bank_of_entry (length was)) b.left.entries was
      ∙ length-map p.recorder.world.shards restarted ∙ g.come.banks

  shards_many : length q.recorder.world.shards ≡ machine.l2.banks
  shards_many =
      sym (length-map q.recorder.world.shards restarted) ∙ ap length b.shards_are ∙ length-map b.left.world.shards restarted ∙ left_shards

  shards_placed : AreShardsOf machine.cores q.recorder.world.shards machine.memory.base machine.memory.size
  shards_placed =
      let base = machine.memory.base in
      let size = machine.memory.size in
      let began : AreShardsOf machine.cores was base size = shards_restarted machine.cores base size p.recorder.world.shards g.come.placed in
      let left : AreShardsOf machine.cores b.left.world.shards base size =
      subst (λ (w : ShardWorld). AreShardsOf machine.cores w.shards base size) world_is (shards_after machine.cores base size was began b.left.entries)
      in
      whatever_stamps machine.cores base size q.recorder.world.shards
      (subst (λ (shards : List ShardState). AreShardsOf machine.cores shards base size) (sym b.shards_are) (shards_restarted machine.cores base size b.left.world.shards left))

  stands_next : StandForMachine next.cores (begun_world machine.cores (map restarted q.recorder.world.shards)) (world_of machine next)
  stands_next =
      let later = all_delayed i.delays came_to.cores in
      let left : ShardWorld = b.left.world in
      let at : StandForMachine came_to.cores left came_to.world = subst (λ (cores : List TimedCore). StandForMachine cores left came_to.world) (sym run.2.cores) run.2.worlds in
      let began = laws.next came_to.cores later left came_to.world at (delayed_same i.delays came_to.cores) in
      let world_with : (banks cores : ℕ) → MachineWorld = λ banks cores. record { memory = came_to.world.memory; caches = came_to.world.caches; stamps = no_stamps banks cores } in
      subst (λ (shards : List ShardState). StandForMachine later (begun_world machine.cores shards) (world_of machine next)) (sym b.shards_are)
      (subst (λ (banks : ℕ). StandForMachine later (begun_world machine.cores (map restarted left.shards)) (world_with banks machine.cores)) left_shards
      (subst (λ (cores : ℕ). StandForMachine later (begun_world cores (map restarted left.shards)) (world_with (length left.shards) cores)) later_many began))

  -- ---- the sums

  next_counted : IsCounted machine next
  next_counted =
      let longer = one_longer machine ok end s p g i was_run few_events few in
      let below_most : length s.intervals ≢ machine.intervals = (goes_on machine s g.on).intervals_left in
      record {
        components = are;
        within = omega (arith, longer, below_most, g.come.counted.within);
        accesses = accesses_stay machine ok end s p g i was_run few_events few;
        events = events_stay machine ok end s p g i was_run few_events few;
        were_run = all_run machine ok end s p g i was_run few_events few;
      }

  -- the cores waited, and are still behind the end of the interval
  next_over : All (IsOver (length (s.intervals ++ i ∷ []) * machine.interval)) next.cores
  next_over =
      let longer = one_longer machine ok end s p g i was_run few_events few in
      let end_is : end ≡ length (s.intervals ++ i ∷ []) * machine.interval = subst (λ n. end ≡ n * machine.interval) (sym longer) g.ends in
      let over : All (IsOver end) came_to.cores = subst (All (IsOver end)) (sym cores_are) b.over in
      subst (λ (n : ℕ). All (IsOver n) next.cores) end_is (delayed_over end i.delays came_to.cores over)

  pub leads_on : (r : Simulation) → cores_of r ≡ all_delayed i.delays (cores_of q) → AreNumbered r.cores.items → r.recorder ≡ q.recorder
      → r.comps ≡ comps_after comp_step i.events s.comps → r.counters ≡ added p.counters i r.comps
      → (leads : LeadsTo machine image s turns r) × (leads.entries ≡ entries)
  leads_on r cores numbered recorder comps counters =
      let are_next : AreComponents machine r.comps = subst (AreComponents machine) (sym comps) are in
      let leads_to : LeadsTo machine image s turns r = record {
        state = next;
        after = leads;
        entries = i.entries;
        recorded = map-append recorded_turns s.intervals (i ∷ []);
        longer = one_longer machine ok end s p g i was_run few_events few;
        gained = ap (λ (j : Interval). s.intervals ++ j ∷ []) (is ∙ ap (woven_interval machine s.comps) (sym same));
        come = record {
          cores = ap (all_delayed i.delays) cores_are ∙ sym cores;
          count = later_many;
          numbered = numbered;
          stamps = subst (IsRecorderFor machine) (sym recorder) b.stamps;
          banks = ap (λ (x : RecorderState). length x.world.shards) recorder ∙ shards_many;
          placed = subst (λ (x : RecorderState). AreShardsOf machine.cores x.world.shards machine.memory.base machine.memory.size) (sym recorder) shards_placed;
          stand = subst (λ (x : RecorderState). StandForMachine next.cores (begun_world machine.cores (map restarted x.world.shards)) (world_of machine next)) (sym recorder) stands_next;
          comps = comps;
          counters = counters ∙ summed machine ok end s p g i was_run few_events few laws.sums r.comps are_next ∙ ap (λ (parts : List Comp). counts_of machine.cores parts (s.intervals ++ i ∷ [])) comps;
          over = next_over;
          counted = next_counted;
        };
      }
      in
      (leads_to, same)

-- before the first interval
pub first_counted : (machine : Machine) (image : MemoryImage) (comps : List Comp) → AreFresh machine comps → IsCounted machine (first_state machine image comps)
first_counted machine image comps fresh = record {
  components = fresh.are;
  within = omega arith;
  accesses = omega arith;
  events = omega arith;
  were_run = λ k d below. absurd (omega arith);
}

first_over : (machine : Machine) (image : MemoryImage) (number : ℕ) → IsOver 0 (first_core machine image number)
unfolding initial_core
first_over machine image number = record { idle = refl; over = inr (refl, omega arith) }

pub all_first_over : (machine : Machine) (image : MemoryImage) → All (IsOver (0 * machine.interval)) (map (first_core machine image) (range_with_len 0 machine.cores))
all_first_over machine image =
    let none : 0 ≡ 0 * machine.interval = omega arith in
    subst (λ (n : ℕ). All (IsOver n) (map (first_core machine image) (range_with_len 0 machine.cores))) none
    (All-map (IsOver 0) (first_core machine image) (range_with_len 0 machine.cores) (λ k d below. first_over machine image (get_or (range_with_len 0 machine.cores) k d)))

-- how many cores and components are counted
pub counts_come : (machine : Machine) (s : RunState) (p : Simulation) → StandsFor machine s p
    → (length p.counters.core_counts ≡ machine.cores) × (length p.counters.comp_counts ≡ component_count machine)
counts_come machine s p come = (
  ap (λ (counts : Counts). length counts.core_counts) come.counters ∙ counted_cores machine.cores s.comps s.intervals,
  ap (λ (counts : Counts). length counts.comp_counts) come.counters ∙ counted_comps machine.cores s.comps s.intervals ∙ come.counted.components.count,
)
