-- A recorder's parts, and what it is of them again.
use Rattle.std.proofs.Common.{◌≡◌, ℕ, ◌<◌, ◌^◌, List, [], ◌∷◌, ◌++◌, length, map, reverse, All, Some, get_or, refl, sym, ◌∙◌, ap, subst, arith, append_assoc}
use Rattle.std.specs.Prelude.{slice_get}
use Rattle.std.proofs.lemmas.List.{length-map, length-replicate, map-append, nil_from_length, reverse-append}
use Rattle.std.proofs.lemmas.List.Elements.{All-head}
use Rattle.std.proofs.lemmas.List.FromFn.{length-map-range_with_len}
use Rattle.std.proofs.lemmas.Option.{get_or_from_slice_get, same_Some, slice_get_within}
use Rattle.zs_num.specs.declared.entry.Entry.{Entry}
use Rattle.access_log.specs.History.{of_core}
use Rattle.access_log.specs.RecordedOrder.{no_stamps}
use Rattle.access_record.specs.BankLogs.{BankLogState}
use Rattle.access_record.specs.Laws.{beyond_hits}
use Rattle.access_record.specs.RecordLogs.{RecordLogState}
use Rattle.access_record.specs.Restamped.{AreSameButStamps, list_like, lists_of_stamped, stamped_in_turns, stamped_lists}
use Rattle.access_record.specs.declared.stamped.Stamped.{Stamped}
use Rattle.access_record.specs.Turns.{in_turns}
use Rattle.access_record.proofs.Restamps.{only_stamps, same_beyond_hits, same_length, same_made, same_of_core}
use Rattle.stats.specs.declared.counts.CoreCount.{CoreCount}
use Rattle.stats.specs.Counted.{core_sum, entry_count, no_core_count}
use Rattle.bound_core.specs.ShardWorld.{ShardWorld, begun_world, restarted}
use Rattle.bound_records.specs.declared.apart.RecorderParts.{RecorderParts}
use Rattle.bound_records.specs.declared.record_port.CoreRecord.{CoreRecord}
use Rattle.bound_records.specs.Apart.{AreNewPartsOf, AreRecorderParts, AreTurnsOfLists, lists_in, new_record, recorder_of}
use Rattle.bound_records.specs.Counted.{count_of}
use Rattle.bound_records.specs.Recorders.{AreKeptOf, IsKeptOf, RecorderState, no_log, no_records}
use Rattle.bound_records.proofs.ByCore.{entries_by_log, kept_eq, log_eq, range_at}
use Rattle.bound_records.proofs.InOrder.{of_core_own}
use Rattle.bound_records.proofs.Lists.{get_mapped, has_at, mapped_all, mapped_at}
use Rattle.bound_records.proofs.Whole.{none_there, restarted_at}

-- ---- lists from their ends

-- the last of what is left goes before what was joined
pub one_joined : {X Y : Type 0} (f : X → Y) (ys left all : List Y) (xs : List X) (y : Y) (x : X) → ys ++ map f (reverse xs) ≡ all → ys ≡ left ++ y ∷ [] → f x ≡ y
    → left ++ map f (reverse (xs ++ x ∷ [])) ≡ all
one_joined {X} {Y} f ys left all xs y x so_far is made =
    ap (λ (zs : List X). left ++ map f zs) (reverse-append xs (x ∷ []))
    ∙ (ap (λ (z : Y). left ++ z ∷ map f (reverse xs)) made
    ∙ (sym (append_assoc left (y ∷ []) (map f (reverse xs)))
    ∙ (ap (λ (zs : List Y). zs ++ map f (reverse xs)) (sym is) ∙ so_far)))

-- what is made of the last of what is left goes before what was made
pub one_split : {X Y : Type 0} (f : X → Y) (xs left : List X) (all ys : List Y) (x : X) → map f xs ++ reverse ys ≡ all → xs ≡ left ++ x ∷ [] → map f left ++ reverse (ys ++ f x ∷ []) ≡ all
one_split {X} {Y} f xs left all ys x so_far is =
    ap (λ (zs : List Y). map f left ++ zs) (reverse-append ys (f x ∷ []))
    ∙ (sym (append_assoc (map f left) (f x ∷ []) (reverse ys))
    ∙ (ap (λ (zs : List Y). zs ++ reverse ys) (sym (map-append f left (x ∷ [])))
    ∙ (ap (λ (zs : List X). map f zs ++ reverse ys) (sym is) ∙ so_far)))

-- an element of a list is one of those that it was made of
pub made_of : {X Y : Type 0} (f : X → Y) (xs : List X) (ys : List Y) (i : ℕ) (x : X) → map f xs ≡ ys → slice_get xs i ≡ Some x → slice_get ys i ≡ Some (f x)
made_of {X} {Y} f xs ys i x same here = ap (λ (zs : List Y). slice_get zs i) (sym same) ∙ get_mapped f xs i x here

-- ---- before the first access

module _ (r q : RecorderState) (begin : ℕ) (banks : ℕ) (logs : List BankLogState) (records : List RecordLogState) (counts : List CoreCount) (k : AreKeptOf q banks logs records counts)
    (is : q ≡ restarted_at begin r) (lists : q.lists ≡ entries_by_log logs) where
  world_is : q.world ≡ begun_world (length r.world.stamps) (map restarted r.world.shards)
  world_is = ap (λ (x : RecorderState). x.world) is

  stamps_many : length q.world.stamps ≡ length r.world.stamps
  stamps_many = ap (λ (w : ShardWorld). length w.stamps) world_is ∙ length-replicate (length r.world.stamps) 0

  banks_many : length q.world.shards ≡ length r.world.shards
  banks_many = ap (λ (w : ShardWorld). length w.shards) world_is ∙ length-map r.world.shards restarted

  lists_many : length logs ≡ length r.lists
  lists_many = sym (length-map logs (λ (log : BankLogState). log.entries)) ∙ (ap length (sym lists) ∙ (ap (λ (x : RecorderState). length x.lists) is ∙ length-replicate (length r.lists) []))

  none_yet : (core : ℕ) (log : BankLogState) → slice_get logs core ≡ Some log → log.entries ≡ []
  none_yet core log here =
      none_there (length r.lists) core log.entries
      (ap (λ (x : RecorderState). slice_get x.lists core) (sym is) ∙ (ap (λ (ls : List (List Entry)). slice_get ls core) lists ∙ get_mapped (λ (log : BankLogState). log.entries) logs core log here))

  is_new : (core : ℕ) (kept : CoreRecord) → slice_get logs core ≡ Some kept.log → slice_get records core ≡ Some kept.records → kept.count ≡ no_core_count → kept ≡ new_record banks begin r.base r.room core
  is_new core kept log_there kept_there none =
      let as_many = k.counts_many in
      let count = has_at counts core (let within = slice_get_within logs core kept.log log_there in omega (arith, within, as_many)) in
      let at : IsKeptOf q core kept.log kept.records count.0 = k.each core kept.log kept.records count.0 log_there kept_there count.1 in
      let room : q.room ≡ r.room = ap (λ (x : RecorderState). x.room) is in
      let empty : kept.log.entries ≡ [] = none_yet core kept.log log_there in
      let log_is : kept.log ≡ no_log banks r.room core = log_eq kept.log core banks r.room [] at.log_core (at.log_banks ∙ sym k.banks_are) empty (at.log_room ∙ room) in
      let kept_is : kept.records ≡ record (no_records r.base r.room core) { begin = begin } =
      kept_eq kept.records core begin r.base r.room [] at.kept_core (at.kept_begin ∙ ap (λ (x : RecorderState). x.begin) is) (at.kept_base ∙ ap (λ (x : RecorderState). x.base) is) (at.kept_entries ∙ ap beyond_hits empty) (at.kept_room ∙ room)
      in
      ap (λ (l : BankLogState). let x : CoreRecord = record { log = l; records = kept.records; count = kept.count } in x) log_is
      ∙ (ap (λ (l : RecordLogState). let x : CoreRecord = record { log = no_log banks r.room core; records = l; count = kept.count } in x) kept_is
      ∙ ap (λ (n : CoreCount). let x : CoreRecord = record { log = no_log banks r.room core; records = record (no_records r.base r.room core) { begin = begin }; count = n } in x) none)

  pub new_parts : (p : RecorderParts) → p.port.world ≡ q.world → p.banks ≡ banks → p.begin ≡ q.begin → p.base ≡ q.base → p.room ≡ q.room
      → map (λ k. k.log) p.records.items ≡ logs → map (λ k. k.records) p.records.items ≡ records → ((i : ℕ) (k : CoreRecord) → slice_get p.records.items i ≡ Some k → k.count ≡ no_core_count)
      → AreNewPartsOf r begin p
  new_parts p world banks_is begin_is base_is room_is logs_are records_are none =
      let few = k.few in
      let lists_long = lists_many in
      let low = k.base in
      record {
        world = world ∙ world_is;
        banks_are = banks_is ∙ (k.banks_are ∙ banks_many);
        some_banks = subst (λ (n : ℕ). 0 < n) (sym banks_is) k.some_banks;
        count = sym (length-map p.records.items (λ (k : CoreRecord). k.log)) ∙ (ap length logs_are ∙ lists_long);
        few = omega (arith, few, lists_long);
        stamps = sym stamps_many ∙ (k.stamps ∙ lists_long);
        each = λ core kept here.
            is_new core kept (made_of (λ (k : CoreRecord). k.log) p.records.items logs core kept logs_are here) (made_of (λ (k : CoreRecord). k.records) p.records.items records core kept records_are here) (none core kept here)
            ∙ ap (λ (n : ℕ). new_record n begin r.base r.room core) (sym banks_is);
        begin_is = begin_is ∙ ap (λ (x : RecorderState). x.begin) is;
        base_is = base_is ∙ ap (λ (x : RecorderState). x.base) is;
        low = subst (λ (n : ℕ). n < 2 ^ 63) (sym base_is) low;
        room_is = room_is ∙ ap (λ (x : RecorderState). x.room) is;
      }

-- ---- with stamps

-- what accesses count does not tell their stamps
same_count : (entries others : List Entry) → AreSameButStamps entries others → count_of others ≡ count_of entries
unfolding entry_count
same_count entries others same = ap core_sum (same_made entry_count (λ e. refl) entries others same)

module _ (banks : ℕ) (turns : List ℕ) (lists : List (List Entry)) (own : AreTurnsOfLists turns lists) where
  abbrev stamped : List Entry
  stamped = stamped_in_turns banks turns lists

  -- of each core the same accesses
  same_at : (core : ℕ) (es : List Entry) → slice_get lists core ≡ Some es → AreSameButStamps es (of_core core stamped)
  same_at core es here =
      subst (λ (xs : List Entry). AreSameButStamps xs (of_core core stamped)) (own core es here)
      (same_of_core core (in_turns turns lists) stamped (only_stamps banks (no_stamps banks (length lists)) (in_turns turns lists)))

  stamped_at : (core : ℕ) → core < length lists → slice_get (stamped_lists banks turns lists) core ≡ Some (of_core core stamped)
  stamped_at core below =
      let long : length (stamped_lists banks turns lists) ≡ length lists = length-map-range_with_len (λ (n : ℕ). of_core n stamped) 0 (length lists) in
      let there = has_at (stamped_lists banks turns lists) core (omega (arith, below, long)) in
      there.1 ∙ ap (λ (es : List Entry). Some es) (range_at (λ (n : ℕ). of_core n stamped) (length lists) core there.0 there.1)

  own_core : (core : ℕ) (e : Entry) (es : List Entry) → slice_get lists core ≡ Some (e ∷ es) → e.core ≡ core
  own_core core e es here = All-head (λ (x : Entry). x.core ≡ core) e es (subst (All (λ (x : Entry). x.core ≡ core)) (own core (e ∷ es) here) (of_core_own core (in_turns turns lists)))

  like_is : (core : ℕ) (es : List Entry) → slice_get lists core ≡ Some es → list_like (stamped_lists banks turns lists) es ≡ of_core core stamped
  like_is core [] here = sym (nil_from_length (of_core core stamped) (same_length [] (of_core core stamped) (same_at core [] here)))
  like_is core (e ∷ es) here =
      ap (λ (n : ℕ). get_or (stamped_lists banks turns lists) n []) (own_core core e es here)
      ∙ get_or_from_slice_get (stamped_lists banks turns lists) core (of_core core stamped) [] (stamped_at core (slice_get_within lists core (e ∷ es) here))

  pub same_like : (core : ℕ) (es : List Entry) → slice_get lists core ≡ Some es → AreSameButStamps es (list_like (stamped_lists banks turns lists) es)
  same_like core es here = subst (AreSameButStamps es) (sym (like_is core es here)) (same_at core es here)

  pub likes_are : map (list_like (stamped_lists banks turns lists)) lists ≡ stamped_lists banks turns lists
  likes_are =
      sym (mapped_all (list_like (stamped_lists banks turns lists)) lists (stamped_lists banks turns lists) (length-map-range_with_len (λ (n : ℕ). of_core n stamped) 0 (length lists))
      (λ i es xs here there. same_Some xs (of_core i stamped) (sym there ∙ stamped_at i (slice_get_within lists i es here)) ∙ sym (like_is i es here)))

-- ---- a recorder of parts

-- a log with the stamps that these lists have
abbrev pub stamped_by_lists : List (List Entry) → BankLogState → BankLogState
stamped_by_lists news log = record log { entries = list_like news log.entries }

lists_by_logs : (kept : List CoreRecord) → entries_by_log (map (λ k. k.log) kept) ≡ lists_in kept
lists_by_logs [] = refl
lists_by_logs (k ∷ kept) = ap (λ (ls : List (List Entry)). k.log.entries ∷ ls) (lists_by_logs kept)

-- the lists of these logs in the order of these turns
pub stamped_are : (s : Stamped) (p : RecorderParts) (turns : List ℕ) (logs : List BankLogState) → s.banks ≡ p.banks → s.turns.value.items ≡ turns → s.logs.value.items ≡ logs → logs ≡ map (λ k. k.log) p.records.items
    → lists_of_stamped s ≡ stamped_lists p.banks turns (lists_in p.records.items)
stamped_are s p turns logs banks_are turns_are logs_are kept_are =
    ap (λ (n : ℕ). stamped_lists n s.turns.value.items (entries_by_log s.logs.value.items)) banks_are
    ∙ (ap (λ (ns : List ℕ). stamped_lists p.banks ns (entries_by_log s.logs.value.items)) turns_are
    ∙ ap (stamped_lists p.banks turns) (ap entries_by_log (logs_are ∙ kept_are) ∙ lists_by_logs p.records.items))

module _ (p : RecorderParts) (turns : List ℕ) (are : AreRecorderParts p) (own : AreTurnsOfLists turns (lists_in p.records.items)) where
  abbrev kept : List CoreRecord
  kept = p.records.items

  abbrev news : List (List Entry)
  news = stamped_lists p.banks turns (lists_in kept)

  abbrev logs : List BankLogState
  logs = map (λ k. k.log) kept

  abbrev stamped_logs : List BankLogState
  stamped_logs = map (stamped_by_lists news) logs

  list_at : (i : ℕ) (k : CoreRecord) → slice_get kept i ≡ Some k → slice_get (lists_in kept) i ≡ Some k.log.entries
  list_at i k here = get_mapped (λ (k : CoreRecord). k.log.entries) kept i k here

  pub can_stamp : (i : ℕ) (log : BankLogState) → slice_get logs i ≡ Some log → AreSameButStamps log.entries (list_like news log.entries)
  can_stamp i log here =
      let k = mapped_at (λ (k : CoreRecord). k.log) kept i log here in
      let same : k.0.log.entries ≡ log.entries = ap (λ (l : BankLogState). l.entries) (sym k.1.1) in
      subst (λ (es : List Entry). AreSameButStamps es (list_like news es)) same (same_like p.banks turns (lists_in kept) own i k.0.log.entries (list_at i k.0 k.1.0))

  pub can_stamp_records : (i : ℕ) (log : BankLogState) (rec : RecordLogState) → slice_get stamped_logs i ≡ Some log → slice_get (map (λ k. k.records) kept) i ≡ Some rec
      → AreSameButStamps rec.entries (beyond_hits log.entries)
  can_stamp_records i log rec here there =
      let k = mapped_at (λ (k : CoreRecord). k.records) kept i rec there in
      let is : slice_get stamped_logs i ≡ Some (stamped_by_lists news k.0.log) = get_mapped (stamped_by_lists news) logs i k.0.log (get_mapped (λ (k : CoreRecord). k.log) kept i k.0 k.1.0) in
      let log_is : stamped_by_lists news k.0.log ≡ log = same_Some (stamped_by_lists news k.0.log) log (sym is ∙ here) in
      let rec_is : beyond_hits k.0.log.entries ≡ rec.entries = sym (are.each i k.0 k.1.0).records_are ∙ ap (λ (l : RecordLogState). l.entries) (sym k.1.1) in
      let same = same_like p.banks turns (lists_in kept) own i k.0.log.entries (list_at i k.0 k.1.0) in
      subst (λ (es : List Entry). AreSameButStamps es (beyond_hits log.entries)) rec_is
      (subst (λ (l : BankLogState). AreSameButStamps (beyond_hits k.0.log.entries) (beyond_hits l.entries)) log_is (same_beyond_hits k.0.log.entries (list_like news k.0.log.entries) same))

  lists_are : entries_by_log stamped_logs ≡ news
  lists_are = twice logs ∙ (ap (map (list_like news)) (lists_by_logs kept) ∙ likes_are p.banks turns (lists_in kept) own)
    where
      twice : (ls : List BankLogState) → entries_by_log (map (stamped_by_lists news) ls) ≡ map (list_like news) (entries_by_log ls)
      twice [] = refl
      twice (l ∷ ls) = ap (λ (xs : List (List Entry)). list_like news l.entries ∷ xs) (twice ls)

  -- the recorder's state by its logs
  abbrev pub by_logs : List BankLogState → RecorderState
  by_logs ls = record { world = p.port.world; lists = entries_by_log ls; begin = p.begin; base = p.base; room = p.room }

  pub recorder_is : by_logs stamped_logs ≡ recorder_of p turns
  recorder_is = ap (λ (ls : List (List Entry)). let x : RecorderState = record { world = p.port.world; lists = ls; begin = p.begin; base = p.base; room = p.room } in x) lists_are

  module _ (records : List RecordLogState) (many : length records ≡ length (map (λ k. k.records) kept))
      (each : (i : ℕ) (log : BankLogState) (rec : RecordLogState) → slice_get stamped_logs i ≡ Some log → slice_get (map (λ k. k.records) kept) i ≡ Some rec
      → slice_get records i ≡ Some (record rec { entries = beyond_hits log.entries })) where
    pub recorder_kept : AreKeptOf (by_logs stamped_logs) p.banks stamped_logs records (map (λ k. k.count) kept)
    recorder_kept =
        let logs_long : length stamped_logs ≡ length kept = length-map logs (stamped_by_lists news) ∙ length-map kept (λ (k : CoreRecord). k.log) in
        let few = are.few in
        record {
          stamps = are.stamps ∙ sym logs_long;
          banks_are = are.banks_are;
          some_banks = are.some_banks;
          few = omega (arith, few, logs_long);
          records_many = many ∙ (length-map kept (λ (k : CoreRecord). k.records) ∙ sym logs_long);
          counts_many = length-map kept (λ (k : CoreRecord). k.count) ∙ sym logs_long;
          base = are.low;
          each = λ i log rec count here there counted.
              let k = mapped_at (λ (k : CoreRecord). k.count) kept i count counted in
              let own_at = are.each i k.0 k.1.0 in
              let log_at : slice_get stamped_logs i ≡ Some (stamped_by_lists news k.0.log) = get_mapped (stamped_by_lists news) logs i k.0.log (get_mapped (λ (k : CoreRecord). k.log) kept i k.0 k.1.0) in
              let log_is : log ≡ stamped_by_lists news k.0.log = same_Some log (stamped_by_lists news k.0.log) (sym here ∙ log_at) in
              let rec_at = each i log k.0.records here (get_mapped (λ (k : CoreRecord). k.records) kept i k.0 k.1.0) in
              let rec_is : rec ≡ record k.0.records { entries = beyond_hits log.entries } = same_Some rec (record k.0.records { entries = beyond_hits log.entries }) (sym there ∙ rec_at) in
              let same = same_like p.banks turns (lists_in kept) own i k.0.log.entries (list_at i k.0 k.1.0) in
              record {
                log_core = ap (λ (l : BankLogState). l.core) log_is ∙ own_at.log_core;
                log_banks = ap (λ (l : BankLogState). l.banks) log_is ∙ (own_at.log_banks ∙ are.banks_are);
                log_room = ap (λ (l : BankLogState). l.room) log_is ∙ own_at.log_room;
                kept_core = ap (λ (l : RecordLogState). l.core) rec_is ∙ own_at.records_core;
                kept_begin = ap (λ (l : RecordLogState). l.begin) rec_is ∙ own_at.records_begin;
                kept_base = ap (λ (l : RecordLogState). l.base) rec_is ∙ own_at.records_base;
                kept_room = ap (λ (l : RecordLogState). l.room) rec_is ∙ own_at.records_room;
                kept_entries = ap (λ (l : RecordLogState). l.entries) rec_is;
                count_is = k.1.1 ∙ (own_at.count_is ∙ (sym (same_count k.0.log.entries (list_like news k.0.log.entries) same) ∙ sym (ap (λ (l : BankLogState). count_of l.entries) log_is)));
              };
        }
