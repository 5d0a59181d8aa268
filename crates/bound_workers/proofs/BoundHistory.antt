-- What several workers do in an interval is its history.
use Rattle.std.proofs.Common.{◌≡◌, ℕ, zero, suc, ◌+◌, ◌*◌, ◌-◌, ◌^◌, ◌<◌, ◌≤◌, max, List, [], ◌∷◌, Option, All, Some, None, Ok, get_or, length, map, refl, sym, ◌∙◌, ap, subst, inl, inr, arith}
use Rattle.std.specs.Prelude.{◌⊎◌, IsSome, slice_get}
use Rattle.std.specs.List.{fold, enumerate_from, range_with_len}
use Rattle.std.specs.Option.{option_map}
use Rattle.std.proofs.lemmas.Bool.{cases_lt}
use Rattle.std.proofs.lemmas.List.{get_or_past, length-map}
use Rattle.std.proofs.lemmas.List.Elements.{All-map, All-nil}
use Rattle.std.proofs.lemmas.List.FromFn.{length-enumerate_from, length-map-range_with_len}
use Rattle.std.proofs.lemmas.Option.{get_or_from_slice_get, same_Some, slice_get_within, slice_get_past}
use Rattle.zs_num.specs.declared.entry.Entry.{Entry}
use Rattle.elf_load.specs.MemoryImage.{MemoryImage}
use Rattle.machine_desc.specs.declared.machine.Machine.{Machine}
use Rattle.event_graph.specs.AccessPaths.{path_of}
use Rattle.rv_core.specs.declared.why.Why.{Why}
use Rattle.shard.specs.Served.{AreServedBy, ShardState, resumed, shard_after}
use Rattle.shard.specs.StandsFor.{AreAnswered}
use Rattle.access_log.specs.History.{AreStamped, bank_of_entry, core_of_entry, each_after, of_core, of_number}
use Rattle.access_log.specs.RecordedOrder.{no_stamps}
use Rattle.access_log.proofs.EachAfter.{own_at}
use Rattle.access_record.specs.Records.{IsInReach}
use Rattle.access_record.specs.Restamped.{AreSameButStamps, stamped_in_turns, stamped_lists, unstamped}
use Rattle.access_record.specs.Turns as listed
use Rattle.access_record.proofs.Restamps.{only_stamps, same_holds, same_length, same_made, same_of_core, stamps_follow}
use Rattle.bound_core.specs.History.{AreTurnsOf, IsHistory, after_history, after_turn, begun_over_shards}
use Rattle.bound_core.specs.HistoryLaws.{HistoriesArePhases}
use Rattle.bound_core.specs.NumberedCores.{NumberedCore, timed_of}
use Rattle.bound_core.specs.ReferenceMachine.{BoundState, bound_phase}
use Rattle.bound_core.specs.ShardPort.{AreShardsOf, base_in, l1i_in, size_in}
use Rattle.bound_core.specs.ShardWorld.{ShardWorld, restarted, shards_serve}
use Rattle.bound_core.specs.TimedCore.{TimedCore, asks, ran_to}
use Rattle.bound_core.specs.Turn.{IsOver}
use Rattle.reference.proofs.Numbered.{EachHolds}
use Rattle.bound_core.proofs.ShardPorts.{shards_restarted}
use Rattle.bound_core.proofs.ShardsStay.{shards_after}
use Rattle.bound_records.specs.Apart.{AreNewPartsOf, AreRecorderParts, AreTurnsOfLists, IsKeptIn, lists_in, new_record, recorder_of}
use Rattle.bound_records.specs.CoreRuns.{AreNumbered, CanRunInterval, IsNear, access_time_of}
use Rattle.bound_records.specs.Recorders.{IsRecorderFor, RecorderState, core_room}
use Rattle.bound_records.specs.declared.apart.RecorderParts.{RecorderParts}
use Rattle.bound_records.specs.declared.record_port.CoreRecord.{CoreRecord}
use Rattle.bound_records.proofs.ByCore.{range_at}
use Rattle.bound_records.proofs.ByHistory.{HasHistory}
use Rattle.bound_records.proofs.Lists.{get_mapped, has_at, mapped_at, map_twice}
use Rattle.bound_records.proofs.SameCores.{all_timed}
use Rattle.bound_records.proofs.Turns.{reached}
use Rattle.parts_table.specs.Access.{AreAllSeats, AreNewSeats, AreTheirs, AreWhole, IsSeatOf, SeatState, TableState, opening_shards}
use Rattle.parts_table.specs.KeptKeys.{BlocksState}
use Rattle.parts_table.specs.TurnOrder as parts
use Rattle.parts_table.specs.TurnOrder.{PutInOrder, TurnsPutInOrder, by_core, in_turns, key_of}
use Rattle.parts_table.specs.declared.view.Made.{Made}
use Rattle.bound_workers.specs.Intervals.{HaveSeats}
use Rattle.bound_workers.specs.Team.{HaveRun}
use Rattle.bound_workers.specs.Kept.{blank_of, entries_of_seat}
use Rattle.bound_workers.specs.Member.{HasRun}
use Rattle.bound_workers.specs.Shares.{HaveReturned, mates}
use Rattle.bound_workers.specs.declared.member.Member.{Member}
use Rattle.bound_workers.proofs.BoundLists.{all_by_core, core_same, entry_lists, entry_of, few_in_turns, none_stamped, same_maps, turns_same}
use Rattle.bound_workers.proofs.BoundSeats.{HasBegun, as_many, can_run, machine_shards, opening_is, records_many, stamps_many}
use Rattle.bound_workers.proofs.BoundServed.{answered_each, by_own_memory, restarted_twice}
use Rattle.bound_workers.proofs.BoundTurns.{same_fold, same_turns, time_of_unstamped}
use Rattle.bound_workers.proofs.Ending.{all_at, all_here, all_seats, same_lists, size, was}
use Rattle.bound_workers.proofs.Running.{asks_nothing}

none_or_some : (halted : Option Why) → (halted ≡ None) ⊎ IsSome halted
none_or_some None = inl refl
none_or_some (Some why) = inr refl

-- a core that has halted has no access
no_turns : (time : Entry → ℕ) (image : MemoryImage) (end : ℕ) (c : TimedCore) (entries : List Entry) → IsSome c.core.halted → c.core.instruction ≡ None → AreTurnsOf time image end c entries → entries ≡ []
no_turns time image end c [] halted idle turns = refl
no_turns time image end c (e ∷ entries) halted idle turns = absurd (let none : None ≡ Some e.request = sym (asks_nothing image end c halted idle) ∙ turns.0 in cc)

-- what holds of no entry, and of entries of the same accesses
all_none : (P : Entry → Type 0) (entries : List Entry) → entries ≡ [] → All P entries
all_none P entries none = subst (All P) (sym none) (All-nil P)

-- a list with a place for each core, by a place that may be past its end
past : {X : Type 0} (xs : List X) (i : ℕ) → slice_get xs i ≡ None → length xs ≤ i
past [] i none = omega arith
past (x ∷ xs) zero none = absurd (cc)
past (x ∷ xs) (suc i) none = let rest = past xs i none in omega (arith, rest)

by_place : {X : Type 0} (P : ℕ → List X → Type 0) (lists : List (List X)) (i : ℕ) (o : Option (List X)) → slice_get lists i ≡ o → ((list : List X) → slice_get lists i ≡ Some list → P i list) → P i [] → P i (get_or lists i [])
by_place P lists i (Some list) here each none = subst (P i) (sym (get_or_from_slice_get lists i list [] here)) (each list here)
by_place P lists i None here each none = subst (P i) (sym (get_or_past lists i [] (past lists i here))) none

at_place : {X : Type 0} (P : ℕ → List X → Type 0) (lists : List (List X)) → ((i : ℕ) (list : List X) → slice_get lists i ≡ Some list → P i list) → ((i : ℕ) → P i []) → (i : ℕ) → P i (get_or lists i [])
at_place P lists each none i = by_place P lists i (slice_get lists i) refl (each i) (none i)

module _ (m : Machine) (image : MemoryImage) (end begin : ℕ) (before : RecorderState) (p : RecorderParts) (shards : List ShardState) (stamps : List ℕ) (t : TableState) (cores reserved : List NumberedCore) (seats : List SeatState)
    (h : HasBegun m end begin before p shards stamps t cores reserved seats) where
  abbrev time : Entry → ℕ
  time = access_time_of m

  abbrev first : List ShardState
  first = map restarted before.world.shards

  banks_are : p.banks ≡ length first
  banks_are = h.new.banks_are ∙ sym (length-map before.world.shards restarted)

  reserved_many : length reserved ≡ t.cores
  reserved_many = as_many m end begin before p shards stamps t cores reserved seats h ∙ (h.count ∙ sym h.t_cores)

  kept_many : length p.records.items ≡ length reserved
  kept_many = records_many m end begin before p shards stamps t cores reserved seats h ∙ sym (reserved_many ∙ h.t_cores)

  -- the cores have returned
  module _ (now : List Member) (ran : HaveRun time image end t (mates reserved seats p.records.items) now) where
    abbrev seats_now : List SeatState
    seats_now = map (λ n. n.seat) now

    abbrev records_now : List CoreRecord
    records_now = map (λ n. n.record) now

    abbrev after : List NumberedCore
    after = map (λ n. n.core) now

    now_many : length now ≡ t.cores
    now_many = size time image end t reserved seats p.records.items now ran reserved_many h.new_seats kept_many

    pub all_there : AreAllSeats t seats_now
    all_there = all_seats time image end t reserved seats p.records.items now ran reserved_many h.new_seats kept_many

    -- a core that ran, and what it was
    abbrev Was : ℕ → Member → Type 0
    Was i n = (b : Member) × (slice_get reserved i ≡ Some b.core) × (slice_get p.records.items i ≡ Some b.record) × IsSeatOf t b.seat × (b.seat.core ≡ i) × HasRun time image end t b n

    it_was : (i : ℕ) (n : Member) → slice_get now i ≡ Some n → Was i n
    it_was i n here = was time image end t reserved seats p.records.items now ran reserved_many h.new_seats kept_many i n here

    seat_number : (i : ℕ) (n : Member) → slice_get now i ≡ Some n → n.seat.core ≡ i
    seat_number i n here = let b = it_was i n here in b.5.same_seat.core ∙ b.4

    kept_is : (i : ℕ) (n : Member) → slice_get now i ≡ Some n → n.record.log.entries ≡ entries_of_seat n.seat
    kept_is i n here = let b = it_was i n here in b.5.kept.entries_are

    ready : (i : ℕ) (n : Member) (here : slice_get now i ≡ Some n) → CanRunInterval m end m.memory.base m.memory.size (l1i_in first) (it_was i n here).0.core.timed
    ready i n here = let b = it_was i n here in can_run m end begin before p shards stamps t cores reserved seats h i b.0.core b.1

    -- ---- the accesses in the order of the turns

    abbrev pub mades : List (List Made)
    mades = map (λ s. s.made) seats_now

    abbrev pub lists : List (List Entry)
    lists = lists_in records_now

    lists_are : lists ≡ entry_lists mades
    lists_are =
        map_twice (λ (k : CoreRecord). k.log.entries) (λ (n : Member). n.record) now
        ∙ (same_maps (λ (n : Member). n.record.log.entries) (λ (n : Member). map entry_of n.seat.made) now kept_is
        ∙ (sym (map_twice (λ (s : SeatState). map entry_of s.made) (λ (n : Member). n.seat) now) ∙ sym (map_twice (map entry_of) (λ (s : SeatState). s.made) seats_now)))

    mades_many : length mades ≡ t.cores
    mades_many = length-map seats_now (λ (s : SeatState). s.made) ∙ (length-map now (λ (n : Member). n.seat) ∙ now_many)

    pub lists_many : length lists ≡ m.cores
    lists_many = length-map records_now (λ (k : CoreRecord). k.log.entries) ∙ (length-map now (λ (n : Member). n.record) ∙ (now_many ∙ h.t_cores))

    -- what a core made, by its number
    made_at : (i : ℕ) (list : List Made) → slice_get mades i ≡ Some list → (n : Member) × (slice_get now i ≡ Some n) × (list ≡ n.seat.made)
    made_at i list here =
        let s = mapped_at (λ (s : SeatState). s.made) seats_now i list here in
        let n = mapped_at (λ (n : Member). n.seat) now i s.0 s.1.0 in
        (n.0, n.1.0, s.1.1 ∙ ap (λ (x : SeatState). x.made) n.1.1)

    list_of : (i : ℕ) (n : Member) → slice_get now i ≡ Some n → slice_get mades i ≡ Some n.seat.made
    list_of i n here = get_mapped (λ (s : SeatState). s.made) seats_now i n.seat (get_mapped (λ (n : Member). n.seat) now i n here)

    module _ (left : List ShardState) (whole : AreWhole t seats_now left) where
      own_each : (core : ℕ) → All (λ a. a.entry.core ≡ core) (get_or mades core [])
      own_each = at_place (λ (core : ℕ) (list : List Made). All (λ (a : Made). a.entry.core ≡ core) list) mades
          (λ i list here.
          let n = made_at i list here in
          let own : All (λ (a : Made). a.entry.core ≡ n.0.seat.core) n.0.seat.made = all_here (λ (s : SeatState). All (λ (a : Made). a.entry.core ≡ s.core) s.made) seats_now i n.0.seat whole.own (get_mapped (λ (n : Member). n.seat) now i n.0 n.1) in
          subst (All (λ (a : Made). a.entry.core ≡ i)) (sym n.2) (subst (λ (k : ℕ). All (λ (a : Made). a.entry.core ≡ k) n.0.seat.made) (seat_number i n.0 n.1) own))
          (λ i. All-nil (λ (a : Made). a.entry.core ≡ i))

      module _ (turns : List ℕ) (put : PutInOrder turns mades) where
        abbrev order : List Made
        order = in_turns turns mades

        abbrev taken : List Entry
        taken = stamped_in_turns p.banks turns lists

        raw_is : listed.in_turns turns lists ≡ map entry_of order
        raw_is = ap (listed.in_turns turns) lists_are ∙ turns_same turns mades

        same_taken : AreSameButStamps (map entry_of order) taken
        same_taken = subst (λ (es : List Entry). AreSameButStamps es taken) raw_is (only_stamps p.banks (no_stamps p.banks (length lists)) (listed.in_turns turns lists))

        -- the accesses of a core
        own_order : (i : ℕ) (n : Member) → slice_get now i ≡ Some n → by_core i order ≡ n.seat.made
        own_order i n here = put.own i ∙ get_or_from_slice_get mades i n.seat.made [] (list_of i n here)

        own_raw : (i : ℕ) (n : Member) → slice_get now i ≡ Some n → of_core i (map entry_of order) ≡ entries_of_seat n.seat
        own_raw i n here = core_same i order ∙ ap (map entry_of) (own_order i n here)

        pub turns_of_lists : AreTurnsOfLists turns lists
        turns_of_lists core entries here =
            let k = mapped_at (λ (k : CoreRecord). k.log.entries) records_now core entries here in
            let n = mapped_at (λ (n : Member). n.record) now core k.0 k.1.0 in
            ap (of_core core) raw_is ∙ (own_raw core n.0 n.1.0 ∙ (sym (kept_is core n.0 n.1.0) ∙ (ap (λ (x : CoreRecord). x.log.entries) (sym n.1.1) ∙ sym k.1.1)))

        same_own : (i : ℕ) (n : Member) → slice_get now i ≡ Some n → AreSameButStamps (entries_of_seat n.seat) (of_core i taken)
        same_own i n here = subst (λ (es : List Entry). AreSameButStamps es (of_core i taken)) (own_raw i n here) (same_of_core i (map entry_of order) taken same_taken)

        -- ---- what holds of all accesses

        -- what holds of the accesses of each core holds of all
        of_all : (P : Entry → Type 0) → ((i : ℕ) (n : Member) → slice_get now i ≡ Some n → All P (entries_of_seat n.seat)) → All P (map entry_of order)
        of_all P each =
            all_by_core P (map entry_of order)
            (λ core. subst (All P) (sym (core_same core order)) (subst (λ (list : List Made). All P (map entry_of list)) (sym (put.own core))
            (at_place (λ (k : ℕ) (list : List Made). All P (map entry_of list)) mades
            (λ i list here. let n = made_at i list here in subst (λ (xs : List Made). All P (map entry_of xs)) (sym n.2) (each i n.0 n.1))
            (λ i. All-nil P) core)))

        -- and whatever their stamps
        of_taken : (P : Entry → Type 0) → ((e : Entry) → P (unstamped e) → P e) → ((e : Entry) → P e → P (unstamped e)) → ((i : ℕ) (n : Member) → slice_get now i ≡ Some n → All P (entries_of_seat n.seat))
            → All P taken
        of_taken P back forth each = same_holds P back forth (map entry_of order) taken same_taken (of_all P each)

        known_taken : All (λ e. e.core < m.cores) taken
        known_taken =
            same_holds (λ e. e.core < m.cores) (λ e below. below) (λ e below. below) (map entry_of order) taken same_taken
            (All-map (λ (e : Entry). e.core < m.cores) entry_of order (subst (λ (k : ℕ). All (λ (a : Made). a.entry.core < k) order) (mades_many ∙ h.t_cores) put.known))

        few_taken : length taken ≤ m.cores * core_room m
        few_taken =
            let same = same_length (map entry_of order) taken same_taken in
            let long = length-map order entry_of in
            let few : length order ≤ length mades * t.room = few_in_turns t.room turns mades (all_at (λ (l : List Made). length l ≤ t.room) mades (λ i list here.
            let n = made_at i list here in
            let b = it_was i n.0 n.1 in
            subst (λ (xs : List Made). length xs ≤ t.room) (sym n.2) b.5.few))
            in
            let all : length mades * t.room ≡ m.cores * core_room m = ap (λ (k : ℕ). k * t.room) (mades_many ∙ h.t_cores) ∙ ap (λ (k : ℕ). m.cores * k) h.t_room in
            omega (arith, same, long, few, all)

        turns_are : turns ≡ map (λ e. e.core) taken
        turns_are =
            put.named
            ∙ (sym (map_twice (λ (e : Entry). e.core) entry_of order) ∙ sym (same_made (λ (e : Entry). e.core) (λ e. refl) (map entry_of order) taken same_taken))

        -- ---- the shards

        theirs : AreTheirs t seats_now taken
        theirs = record {
          made = order;
          entries_are = same_taken ∙ none_stamped (map entry_of order) (of_all (λ (e : Entry). e.stamp ≡ 0) (λ i n here. let b = it_was i n here in b.5.stampless));
          known = subst (λ (k : ℕ). All (λ (a : Made). a.entry.core < k) order) mades_many put.known;
          own = all_at (λ (s : SeatState). by_core s.core order ≡ s.made) seats_now (λ i s here.
              let n = mapped_at (λ (n : Member). n.seat) now i s here in
              subst (λ (x : SeatState). by_core x.core order ≡ x.made) (sym n.1.1) (ap (λ (k : ℕ). by_core k order) (seat_number i n.0 n.1.0) ∙ own_order i n.0 n.1.0));
          order = put.order;
        }

        answered : (ended : List ShardState) × AreAnswered (opening_shards t) taken ended × (map (λ shard. resumed shard 0) ended ≡ left)
        answered = whole.run taken theirs

        abbrev ended : List ShardState
        ended = answered.0

        first_shards : AreShardsOf m.cores first m.memory.base m.memory.size
        first_shards = machine_shards m end begin before p shards stamps t cores reserved seats h

        served : EachHolds AreServedBy (bank_of_entry (length first)) first taken × (ended ≡ each_after shard_after (bank_of_entry (length first)) taken first)
        served =
            answered_each m.cores m.memory.base m.memory.size (length first) taken first ended first_shards refl
            (subst (λ (ss : List ShardState). AreAnswered ss taken ended) (opening_is m end begin before p shards stamps t cores reserved seats h) answered.1)

        left_are : AreShardsOf m.cores left m.memory.base m.memory.size
        left_are =
            subst (λ (ss : List ShardState). AreShardsOf m.cores ss m.memory.base m.memory.size) answered.2
            (shards_restarted m.cores m.memory.base m.memory.size ended
            (subst (λ (ss : List ShardState). AreShardsOf m.cores ss m.memory.base m.memory.size) (sym served.1) (shards_after m.cores m.memory.base m.memory.size first first_shards taken)))

        stamps_are : length stamps ≡ m.cores
        stamps_are = stamps_many m before begin p shards stamps h.recorder h.are h.new h.apart

        pub left_port : AreShardsOf (length stamps) left (base_in left) (size_in left)
        left_port = by_own_memory m.cores (length stamps) m.memory.base m.memory.size left stamps_are left_are

        left_many : length left ≡ length first
        left_many =
            ap length (sym answered.2)
            ∙ (length-map ended restarted ∙ (ap length served.1 ∙ (length-map (enumerate_from 0 first) (λ at. fold shard_after at.1 (of_number (bank_of_entry (length first)) at.0 taken)) ∙ length-enumerate_from 0 first)))

        -- ---- the cores

        stampless : (e : Entry) → time (unstamped e) ≡ time e
        stampless e = time_of_unstamped (path_of m) e

        -- what a core was at the first, and where it ran to
        core_at : (i : ℕ) (n : Member) → slice_get now i ≡ Some n → (c : TimedCore) × (slice_get (timed_of cores) i ≡ Some c) × AreTurnsOf time image end c (of_core i taken)
            × (n.core.timed ≡ ran_to image end (fold (after_turn time image end) c (of_core i taken)))
        core_at i n here =
            let b = it_was i n here in
            let c : TimedCore = b.0.core.timed in
            let same = same_own i n here in (
              c,
              ap (λ (cs : List TimedCore). slice_get cs i) (sym h.timed) ∙ get_mapped (λ (x : NumberedCore). x.timed) reserved i b.0.core b.1,
              same_turns time stampless image end (entries_of_seat n.seat) (of_core i taken) c same b.5.turns,
              b.5.left ∙ ap (ran_to image end) (sym (same_fold time stampless image end (entries_of_seat n.seat) (of_core i taken) c same)),
            )

        cores_long : length (timed_of cores) ≡ m.cores
        cores_long = length-map cores (λ (c : NumberedCore). c.timed) ∙ h.count

        after_many : length after ≡ m.cores
        after_many = length-map now (λ (n : Member). n.core) ∙ (now_many ∙ h.t_cores)

        history : IsHistory time image end (timed_of cores) first taken
        history = record {
          some = first_shards.some;
          begins = All-map (λ (shard : ShardState). shard.last ≡ 0) restarted before.world.shards (λ k d below. refl);
          known = subst (λ (k : ℕ). All (λ (e : Entry). e.core < k) taken) (sym cores_long) known_taken;
          turns = λ number c here.
              let below = slice_get_within (timed_of cores) number c here in
              let same = h.t_cores in
              let n = has_at now number (omega (arith, below, cores_long, now_many, same)) in
              let it = core_at number n.0 n.1 in
              subst (λ (x : TimedCore). AreTurnsOf time image end x (of_core number taken)) (same_Some it.0 c (sym it.1 ∙ here)) it.2;
          served = served.0;
          stamped =
              subst (λ (k : ℕ). AreStamped k (no_stamps k (length (timed_of cores))) taken) banks_are
              (subst (λ (k : ℕ). AreStamped p.banks (no_stamps p.banks k) taken) (lists_many ∙ sym cores_long) (stamps_follow p.banks (no_stamps p.banks (length lists)) (listed.in_turns turns lists)));
        }

        left_cores : timed_of after ≡ map (ran_to image end) (each_after (after_turn time image end) core_of_entry taken (timed_of cores))
        left_cores =
            same_lists (timed_of after) (map (ran_to image end) (each_after (after_turn time image end) core_of_entry taken (timed_of cores))) sizes (λ i x here.
            let c = mapped_at (λ (y : NumberedCore). y.timed) after i x here in
            let n = mapped_at (λ (n : Member). n.core) now i c.0 c.1.0 in
            let it = core_at i n.0 n.1.0 in
            let there : slice_get (each_after (after_turn time image end) core_of_entry taken (timed_of cores)) i ≡ Some (fold (after_turn time image end) it.0 (of_core i taken)) =
            own_at (after_turn time image end) core_of_entry taken (timed_of cores) i ∙ ap (option_map (λ y. fold (after_turn time image end) y (of_core i taken))) it.1 in
            get_mapped (ran_to image end) (each_after (after_turn time image end) core_of_entry taken (timed_of cores)) i (fold (after_turn time image end) it.0 (of_core i taken)) there
            ∙ ap (λ (y : TimedCore). Some y) (sym it.3 ∙ sym (c.1.1 ∙ ap (λ (y : NumberedCore). y.timed) n.1.1)))
          where
            sizes : length (timed_of after) ≡ length (map (ran_to image end) (each_after (after_turn time image end) core_of_entry taken (timed_of cores)))
            sizes =
                length-map after (λ (c : NumberedCore). c.timed) ∙ (after_many ∙ (sym cores_long
                ∙ sym (length-map (each_after (after_turn time image end) core_of_entry taken (timed_of cores)) (ran_to image end)
                ∙ (length-map (enumerate_from 0 (timed_of cores)) (λ at. fold (after_turn time image end) at.1 (of_number core_of_entry at.0 taken)) ∙ length-enumerate_from 0 (timed_of cores)))))

        -- ---- all accesses are in reach

        near_all : (i : ℕ) (n : Member) (here : slice_get now i ≡ Some n) → (it_was i n here).0.core.timed.core.halted ≡ None → All (IsInReach begin before.base) (entries_of_seat n.seat)
        near_all i n here running = λ k d below.
            let b = it_was i n here in
            let can = ready i n here in
            let e : Entry = get_or (entries_of_seat n.seat) k d in
            let near = b.5.near k d below in
            let soon = b.5.starts k d below in
            let close = can.left running in
            let short = h.is.interval.1 in
            let begins = h.begins in
            let begun : begin ≤ b.0.core.timed.clock = omega (arith, close, begins) in
            let from : begin ≤ e.start = let late = near.from in omega (arith, late, begun) in
            let base : b.0.core.timed.core.memory.base ≡ before.base = can.base_is ∙ sym h.recorder.base in
            let fits : IsNear begin before.base m.memory.size e =
            subst (λ (x : ℕ). IsNear begin x m.memory.size e) base (subst (λ (z : ℕ). IsNear begin b.0.core.timed.core.memory.base z e) can.size_is (record { from = from; first = near.first; near = near.near }))
            in
            reached begin before.base m.memory.size end e fits soon (omega (arith, begins, short)) h.is.memory.size.1

        reach_each : (i : ℕ) (n : Member) → slice_get now i ≡ Some n → All (IsInReach begin before.base) (entries_of_seat n.seat)
        reach_each i n here =
            let b = it_was i n here in
            let can = ready i n here in
            elim (none_or_some b.0.core.timed.core.halted) as (λ _. All (IsInReach begin before.base) (entries_of_seat n.seat)) [
              | inl running ↦ near_all i n here running
              | inr halted ↦ all_none (IsInReach begin before.base) (entries_of_seat n.seat) (no_turns time image end b.0.core.timed (entries_of_seat n.seat) halted can.idle b.5.turns)
            ]

        -- ---- the recorder

        kept_in : (q : RecorderParts) → q.banks ≡ p.banks → q.begin ≡ p.begin → q.base ≡ p.base → q.room ≡ p.room → (core : ℕ) (n : Member) → slice_get now core ≡ Some n → IsKeptIn q core n.record
        kept_in q banks_is begin_is base_is room_is core n here =
            let b = it_was core n here in
            let kept = b.5.kept in
            let blank : blank_of n.record ≡ blank_of (new_record p.banks begin before.base before.room core) = b.5.same_record ∙ ap blank_of (h.new.each core b.0.record b.2) in
            record {
              log_core = kept.core_is ∙ seat_number core n here;
              log_banks = ap (λ (r : CoreRecord). r.log.banks) blank ∙ sym banks_is;
              log_room = ap (λ (r : CoreRecord). r.log.room) blank ∙ sym (room_is ∙ h.new.room_is);
              records_core = kept.records_core ∙ (kept.core_is ∙ seat_number core n here);
              records_begin = ap (λ (r : CoreRecord). r.records.begin) blank ∙ sym (begin_is ∙ h.new.begin_is);
              records_base = ap (λ (r : CoreRecord). r.records.base) blank ∙ sym (base_is ∙ h.new.base_is);
              records_room = ap (λ (r : CoreRecord). r.records.room) blank ∙ sym (room_is ∙ h.new.room_is);
              records_are = kept.records_are;
              count_is = kept.count_is;
            }

        pub parts_again : (q : RecorderParts) → q.port.world ≡ record { shards = left; stamps = stamps } → q.records.items ≡ records_now → q.banks ≡ p.banks → q.begin ≡ p.begin → q.base ≡ p.base → q.room ≡ p.room
            → AreRecorderParts q
        parts_again q world records_is banks_is begin_is base_is room_is =
            let many : length q.records.items ≡ m.cores = ap length records_is ∙ (length-map now (λ (n : Member). n.record) ∙ (now_many ∙ h.t_cores)) in
            let few = h.is.cores.1 in
            record {
              stamps = ap (λ (w : ShardWorld). length w.stamps) world ∙ (stamps_are ∙ sym many);
              banks_are = banks_is ∙ (banks_are ∙ (sym left_many ∙ sym (ap (λ (w : ShardWorld). length w.shards) world)));
              some_banks = subst (λ (k : ℕ). 0 < k) (sym banks_is) h.new.some_banks;
              few = omega (arith, many, few);
              low = subst (λ (k : ℕ). k < 2 ^ 63) (sym base_is) h.new.low;
              each = λ core kept here.
                  let n = mapped_at (λ (n : Member). n.record) now core kept (ap (λ (ks : List CoreRecord). slice_get ks core) (sym records_is) ∙ here) in
                  subst (IsKeptIn q core) (sym n.1.1) (kept_in q banks_is begin_is base_is room_is core n.0 n.1.0);
            }

        pub has_history : HistoriesArePhases time image end → (s : RecorderState) → s.world ≡ record { shards = left; stamps = stamps } → s.lists ≡ stamped_lists p.banks turns lists → s.begin ≡ p.begin → s.base ≡ p.base → s.room ≡ p.room
            → HasHistory m image end turns taken cores after before s
        has_history law s world lists_is begin_is base_is room_is =
            let W : ShardWorld = (after_history time image end (timed_of cores) first taken).world in
            let s_begin : s.begin ≡ begin = begin_is ∙ h.new.begin_is in
            let s_base : s.base ≡ before.base = base_is ∙ h.new.base_is in
            let small = h.small in
            record {
              history = history;
              left = W;
              phase =
                  ap (λ (ns : List ℕ). bound_phase shards_serve time image end ns (begun_over_shards (timed_of cores) first)) turns_are
                  ∙ (law (timed_of cores) first taken history ∙ ap (λ (cs : List TimedCore). let x : BoundState ShardWorld = record { cores = cs; world = W; entries = taken } in Ok x) (sym left_cores));
              same = ap (map restarted) (sym served.1) ∙ (sym (restarted_twice ended) ∙ (ap (map restarted) answered.2 ∙ ap (λ (w : ShardWorld). map restarted w.shards) (sym world)));
              turns_are = turns_are;
              own = λ core es here. sym (range_at (λ (k : ℕ). of_core k taken) (length lists) core es (ap (λ (ls : List (List Entry)). slice_get ls core) (sym lists_is) ∙ here));
              starts = of_taken (λ (e : Entry). e.start ≤ 2 ^ 34) (λ e below. below) (λ e below. below) (λ i n here k d below. let b = it_was i n here in omega (arith, b.5.starts k d below, small));
              reach =
                  subst (λ (x : ℕ). All (IsInReach x s.base) taken) (sym s_begin) (subst (λ (x : ℕ). All (IsInReach begin x) taken) (sym s_base)
                  (of_taken (IsInReach begin before.base) (λ e r. record { from = r.from; soon = r.soon; first = r.first; near = r.near }) (λ e r. record { from = r.from; soon = r.soon; first = r.first; near = r.near }) reach_each));
              few = few_taken;
              many = h.count;
              count = after_many;
              numbered = λ i c here.
                  let n = mapped_at (λ (n : Member). n.core) now i c here in
                  let b = it_was i n.0 n.1.0 in
                  ap (λ (x : NumberedCore). x.number) n.1.1 ∙ (b.5.number ∙ h.numbered i b.0.core b.1);
              over = all_timed (IsOver end) after (λ i c here.
                  let n = mapped_at (λ (n : Member). n.core) now i c here in
                  let b = it_was i n.0 n.1.0 in
                  subst (λ (x : NumberedCore). IsOver end x.timed) (sym n.1.1) b.5.over);
              clocks = all_timed (λ x. x.clock ≤ 2 ^ 57) after (λ i c here.
                  let n = mapped_at (λ (n : Member). n.core) now i c here in
                  let b = it_was i n.0 n.1.0 in
                  let can = ready i n.0 n.1.0 in
                  let early = can.clock in
                  let late = b.5.clock in
                  subst (λ (x : NumberedCore). x.timed.clock ≤ 2 ^ 57) (sym n.1.1) (omega (arith, early, late, small)));
              recorder = record {
                stamps = ap (λ (w : ShardWorld). length w.stamps) world ∙ stamps_are;
                lists = ap length lists_is ∙ (length-map-range_with_len (λ (k : ℕ). of_core k taken) 0 (length lists) ∙ lists_many);
                room = subst (λ (k : ℕ). core_room m ≤ k) (sym (room_is ∙ h.new.room_is)) h.recorder.room;
                base = s_base ∙ h.recorder.base;
              };
              begins = s_begin ∙ h.begins;
              banks = ap (λ (w : ShardWorld). length w.shards) world ∙ (left_many ∙ length-map before.world.shards restarted);
            }

      -- the keys by which the accesses were merged are theirs
      pub put_in_order : TurnsPutInOrder → (blocks : List BlocksState) (turns : List ℕ) → map (λ b. b.keys) blocks ≡ map (λ s. map key_of s.made) seats_now → parts.AreTurnsOf (map (λ b. b.keys) blocks) turns → PutInOrder turns mades
      put_in_order law blocks turns keys merged =
          law turns mades own_each (subst (λ (ks : List (List ℕ)). parts.AreTurnsOf ks turns) (keys ∙ sym (map_twice (map key_of) (λ (s : SeatState). s.made) seats_now)) merged)

    pub sizes_are : (blocks : List BlocksState) → map (λ b. b.keys) blocks ≡ map (λ s. map key_of s.made) seats_now → map (λ k. length k.log.entries) records_now ≡ map (λ b. length b.keys) blocks
    sizes_are blocks keys =
        map_twice (λ (k : CoreRecord). length k.log.entries) (λ (n : Member). n.record) now
        ∙ (same_maps (λ (n : Member). length n.record.log.entries) (λ (n : Member). length (map key_of n.seat.made)) now
        (λ i n here. ap length (kept_is i n here) ∙ (length-map n.seat.made entry_of ∙ sym (length-map n.seat.made key_of)))
        ∙ (sym (map_twice (λ (s : SeatState). length (map key_of s.made)) (λ (n : Member). n.seat) now)
        ∙ (sym (map_twice length (λ (s : SeatState). map key_of s.made) seats_now) ∙ (ap (map length) (sym keys) ∙ map_twice length (λ (b : BlocksState). b.keys) blocks))))

    pub as_many_blocks : (blocks : List BlocksState) → map (λ b. b.keys) blocks ≡ map (λ s. map key_of s.made) seats_now → length blocks ≡ m.cores
    as_many_blocks blocks keys =
        sym (length-map blocks (λ (b : BlocksState). b.keys))
        ∙ (ap length keys ∙ (length-map seats_now (λ (s : SeatState). map key_of s.made) ∙ (length-map now (λ (n : Member). n.seat) ∙ (now_many ∙ h.t_cores))))
