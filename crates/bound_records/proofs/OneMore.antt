-- Cores run to the end of an interval one after the other.
use Rattle.std.proofs.Common.{◌≡◌, ℕ, ◌+◌, ◌*◌, ◌-◌, ◌^◌, ◌<◌, ◌≤◌, List, [], ◌++◌, length, map, All, Some, refl, sym, ◌∙◌, ap, subst, arith}
use Rattle.std.specs.Prelude.{slice_get, slice_set}
use Rattle.std.proofs.lemmas.List.{length-append, length-set, map-append, map-set}
use Rattle.std.proofs.lemmas.List.Elements.{All-append}
use Rattle.std.proofs.lemmas.Option.{slice_get_within}
use Rattle.zs_num.specs.declared.entry.Entry.{Entry}
use Rattle.elf_load.specs.MemoryImage.{MemoryImage}
use Rattle.machine_desc.specs.declared.machine.Machine.{Machine}
use Rattle.access_record.specs.Records.{IsInReach}
use Rattle.bound_core.specs.TurnLaws.{moved}
use Rattle.bound_core.specs.Reaching.{Reaches}
use Rattle.bound_core.specs.ReferenceMachine.{BoundState}
use Rattle.bound_core.specs.ShardPort.{base_of, l1i_of, room_of, size_of}
use Rattle.bound_core.specs.ShardWorld.{ShardWorld, shards_serve}
use Rattle.bound_core.specs.TimedCore.{TimedCore}
use Rattle.bound_core.specs.NumberedCores.{NumberedCore, timed_of}
use Rattle.bound_core.specs.Turn.{IsOver}
use Rattle.reference.proofs.Reaching.{at_itself}
use Rattle.weave_chains.specs.Listed.{one_after_other}
use Rattle.bound_records.specs.CoreRuns.{AreNumbered, CanRunInterval, HasRecorded, HaveRecorded, access_time_of, phase_in}
use Rattle.bound_records.specs.Recorders.{IsRecorderFor, RecorderState, core_room, entries_of}
use Rattle.bound_records.proofs.Lists.{all_empty, behind, get_mapped, get_other, has_at, set_cases}

more_room : (ran room : ℕ) → (ran + 1) * room ≡ ran * room + room
more_room ran room = omega arith

-- ---- no core yet

pub none_ran : (machine : Machine) (image : MemoryImage) (end : ℕ) (cores : List NumberedCore) (r : RecorderState) → AreNumbered cores → ((i : ℕ) (es : List Entry) → slice_get r.lists i ≡ Some es → es ≡ [])
    → HaveRecorded machine image end 0 cores cores r r
none_ran machine image end cores r numbered none =
    let empty : entries_of r ≡ [] = all_empty r.lists none in
    record {
      reaches = subst (λ (es : List Entry). Reaches shards_serve (access_time_of machine) image end (phase_in cores r) (map (λ (e : Entry). e.core) es) (phase_in cores r)) (sym empty)
          (at_itself shards_serve (access_time_of machine) image end (phase_in cores r));
      own = λ i es here. subst (All (λ (e : Entry). e.core ≡ i)) (sym (none i es here)) (λ k d below. absurd (omega (arith, below)));
      none = λ i es from here. none i es here;
      starts = subst (All (λ (e : Entry). e.start ≤ 2 ^ 34)) (sym empty) (λ k d below. absurd (omega (arith, below)));
      reach = subst (All (IsInReach r.begin r.base)) (sym empty) (λ k d below. absurd (omega (arith, below)));
      few = (let long : length (entries_of r) ≡ 0 = ap length empty in omega (arith, long));
      count = refl;
      numbered = numbered;
      over = λ i c below here. absurd (omega (arith, below));
      clocks = λ i c below here. absurd (omega (arith, below));
      rest = λ i from. refl;
      base_stays = refl;
      size_stays = refl;
      l1i_stays = refl;
      stamps = refl;
      banks = refl;
      lists = refl;
      begin_is = refl;
      base_is = refl;
      room_is = refl;
      room = omega arith;
    }

-- ---- a core more

module _ (machine : Machine) (image : MemoryImage) (end ran : ℕ) (cores now : List NumberedCore) (r s s_after : RecorderState) (h : HaveRecorded machine image end ran cores now r s)
    (core core_after : NumberedCore) (here : slice_get now ran ≡ Some core) (empty : slice_get s.lists ran ≡ Some []) (q : HasRecorded machine image end core core_after s s_after) where
  abbrev after : List NumberedCore
  after = slice_set now ran core_after

  own_number : core.number ≡ ran
  own_number = h.numbered ran core here

  lists_are : s_after.lists ≡ slice_set s.lists ran q.entries
  lists_are = ap (λ (x : RecorderState). x.lists) q.kept ∙ ap (λ (n : ℕ). slice_set s.lists n q.entries) own_number

  world_is : s_after.world ≡ q.world
  world_is = ap (λ (x : RecorderState). x.world) q.kept

  begin_same : s_after.begin ≡ s.begin
  begin_same = ap (λ (x : RecorderState). x.begin) q.kept

  base_same : s_after.base ≡ s.base
  base_same = ap (λ (x : RecorderState). x.base) q.kept

  all_entries : entries_of s_after ≡ entries_of s ++ q.entries
  all_entries = ap one_after_other lists_are ∙ behind s.lists ran q.entries (slice_get_within s.lists ran [] empty) (λ i es from at. h.none i es from at)

  turns_are : map (λ e. e.core) (entries_of s_after) ≡ map (λ e. e.core) (entries_of s) ++ map (λ e. e.core) q.entries
  turns_are = ap (map (λ (e : Entry). e.core)) all_entries ∙ map-append (λ (e : Entry). e.core) (entries_of s) q.entries

  moved_is : moved (phase_in now s) core.number core_after.timed q.world q.entries ≡ phase_in after s_after
  moved_is =
      ap (λ (n : ℕ). moved (phase_in now s) n core_after.timed q.world q.entries) own_number
      ∙ (ap (λ (cs : List TimedCore). let x : BoundState ShardWorld = record { cores = cs; world = q.world; entries = entries_of s ++ q.entries } in x) (sym (map-set (λ (c : NumberedCore). c.timed) now ran core_after))
      ∙ (ap (λ (w : ShardWorld). let x : BoundState ShardWorld = record { cores = timed_of after; world = w; entries = entries_of s ++ q.entries } in x) (sym world_is)
      ∙ ap (λ (es : List Entry). let x : BoundState ShardWorld = record { cores = timed_of after; world = s_after.world; entries = es } in x) (sym all_entries)))

  core_there : slice_get (timed_of now) core.number ≡ Some core.timed
  core_there = ap (slice_get (timed_of now)) own_number ∙ get_mapped (λ (c : NumberedCore). c.timed) now ran core here

  reached : Reaches shards_serve (access_time_of machine) image end (phase_in cores r) (map (λ e. e.core) (entries_of s_after)) (phase_in after s_after)
  reached =
      let led = q.run.leads (phase_in cores r) (phase_in now s) (map (λ (e : Entry). e.core) (entries_of s)) h.reaches core_there refl in
      let to = subst (λ (x : BoundState ShardWorld). Reaches shards_serve (access_time_of machine) image end (phase_in cores r) (map (λ (e : Entry). e.core) (entries_of s) ++ map (λ (e : Entry). e.core) q.entries) x) moved_is led in
      subst (λ (ns : List ℕ). Reaches shards_serve (access_time_of machine) image end (phase_in cores r) ns (phase_in after s_after)) (sym turns_are) to

  own_entries : All (λ e. e.core ≡ ran) q.entries
  own_entries = subst (λ (n : ℕ). All (λ (e : Entry). e.core ≡ n) q.entries) own_number q.run.own

  reach_all : All (IsInReach s_after.begin s_after.base) (entries_of s_after)
  reach_all =
      let before : All (IsInReach s.begin s.base) (entries_of s ++ q.entries) = All-append (IsInReach s.begin s.base) (entries_of s) q.entries h.reach q.run.reach in
      let listed : All (IsInReach s.begin s.base) (entries_of s_after) = subst (All (IsInReach s.begin s.base)) (sym all_entries) before in
      subst (λ (b : ℕ). All (IsInReach s_after.begin b) (entries_of s_after)) (sym base_same) (subst (λ (b : ℕ). All (IsInReach b s.base) (entries_of s_after)) (sym begin_same) listed)

  listed_at : (i : ℕ) (es : List Entry) → slice_get s_after.lists i ≡ Some es → slice_get (slice_set s.lists ran q.entries) i ≡ Some es
  listed_at i es found = ap (λ (ls : List (List Entry)). slice_get ls i) (sym lists_are) ∙ found

  pub one_more : HaveRecorded machine image end (ran + 1) cores after r s_after
  one_more = record {
    reaches = reached;
    own = λ i es found. set_cases s.lists ran i [] q.entries es empty (listed_at i es found) (λ xs. All (λ (e : Entry). e.core ≡ i) xs)
        (λ same. subst (λ (n : ℕ). All (λ (e : Entry). e.core ≡ n) q.entries) (sym same) own_entries) (λ apart was. h.own i es was);
    none = λ i es from found. set_cases s.lists ran i [] q.entries es empty (listed_at i es found) (λ xs. xs ≡ []) (λ same. absurd (omega (arith, from, same))) (λ apart was. h.none i es (omega (arith, from)) was);
    starts = subst (All (λ (e : Entry). e.start ≤ 2 ^ 34)) (sym all_entries) (All-append (λ (e : Entry). e.start ≤ 2 ^ 34) (entries_of s) q.entries h.starts q.run.starts);
    reach = reach_all;
    few = (let a : length (entries_of s_after) ≡ length (entries_of s ++ q.entries) = ap length all_entries in let b = length-append (entries_of s) q.entries in let m = h.few in let n = q.run.few in omega (arith, a, b, m, n, more_room ran (core_room machine)));
    count = length-set now ran core_after ∙ h.count;
    numbered = λ i c found. set_cases now ran i core core_after c here found (λ x. x.number ≡ i) (λ same. q.run.number ∙ own_number ∙ sym same) (λ apart was. h.numbered i c was);
    over = λ i c below found. set_cases now ran i core core_after c here found (λ x. IsOver end x.timed) (λ same. q.run.over) (λ apart was. h.over i c (omega (arith, below, apart)) was);
    clocks = λ i c below found. set_cases now ran i core core_after c here found (λ x. x.timed.clock ≤ 2 ^ 57) (λ same. q.run.clock) (λ apart was. h.clocks i c (omega (arith, below, apart)) was);
    rest = λ i from. get_other now ran i core_after (λ (same : i ≡ ran). absurd (omega (arith, from, same))) ∙ h.rest i (omega (arith, from));
    base_stays = ap base_of world_is ∙ (q.run.base_stays ∙ h.base_stays);
    size_stays = ap size_of world_is ∙ (q.run.size_stays ∙ h.size_stays);
    l1i_stays = ap l1i_of world_is ∙ (q.run.l1i_stays ∙ h.l1i_stays);
    stamps = ap (λ (w : ShardWorld). length w.stamps) world_is ∙ (q.run.stamps ∙ h.stamps);
    banks = ap (λ (w : ShardWorld). length w.shards) world_is ∙ (q.run.banks ∙ h.banks);
    lists = ap length lists_are ∙ (length-set s.lists ran q.entries ∙ h.lists);
    begin_is = begin_same ∙ h.begin_is;
    base_is = base_same ∙ h.base_is;
    room_is = ap (λ (x : RecorderState). x.room) q.kept ∙ h.room_is;
    room = (let m = h.room in let n = q.run.room in let same : room_of s_after.world ≡ room_of q.world = ap room_of world_is in omega (arith, m, n, same, more_room ran (core_room machine)));
  }

-- a core is as ready as it was: other cores' accesses change neither the place nor the size of memory, nor whether there are
-- instruction caches
pub at_start : (machine : Machine) (end : ℕ) (core : NumberedCore) (w now : ShardWorld) → base_of now ≡ base_of w → size_of now ≡ size_of w → l1i_of now ≡ l1i_of w
    → CanRunInterval machine end (base_of w) (size_of w) (l1i_of w) core.timed → CanRunInterval machine end (base_of now) (size_of now) (l1i_of now) core.timed
at_start machine end core w now base size l1i ready = record {
  idle = ready.idle;
  unfetched = ready.unfetched;
  clock = ready.clock;
  left = ready.left;
  base_is = ready.base_is ∙ sym base;
  size_is = ready.size_is ∙ sym size;
  fetches = λ fetching. l1i ∙ ready.fetches fetching;
}

-- ---- what the next core finds

next_fits : (ran cores room : ℕ) → ran < cores → (ran + 1) * room ≤ cores * room
next_fits ran cores room below =
    let more : (ran + 1) + (cores - (ran + 1)) ≡ cores = omega (arith, below) in
    let grows : (ran + 1) * room ≤ ((ran + 1) + (cores - (ran + 1))) * room = grown (ran + 1) (cores - (ran + 1)) room in
    subst (λ (n : ℕ). (ran + 1) * room ≤ n * room) more grows
  where
    grown : (n more room : ℕ) → n * room ≤ (n + more) * room
    grown n more room = omega arith

module _ (machine : Machine) (image : MemoryImage) (end ran : ℕ) (cores now : List NumberedCore) (r s : RecorderState) (h : HaveRecorded machine image end ran cores now r s) where
  pub still_for : IsRecorderFor machine r → IsRecorderFor machine s
  still_for recorder = record {
    stamps = h.stamps ∙ recorder.stamps;
    lists = h.lists ∙ recorder.lists;
    room = subst (λ (n : ℕ). core_room machine ≤ n) (sym h.room_is) recorder.room;
    base = h.base_is ∙ recorder.base;
  }

  -- it has no access yet
  pub list_there : ran < length r.lists → slice_get s.lists ran ≡ Some []
  list_there below =
      let there = has_at s.lists ran (omega (arith, below, h.lists)) in
      there.1 ∙ ap (λ (es : List Entry). Some es) (h.none ran there.0 (omega arith) there.1)

  pub room_left : ran < machine.cores → machine.cores * core_room machine ≤ room_of r.world → core_room machine ≤ room_of s.world
  room_left below all =
      let used = h.room in
      let fits = next_fits ran machine.cores (core_room machine) below in
      omega (arith, all, used, fits, more_room ran (core_room machine))
