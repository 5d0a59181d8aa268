-- What a recorder keeps of each core.
use Rattle.std.proofs.Common.{◌≡◌, ℕ, zero, suc, ◌+◌, ◌<◌, ◌≤◌, ◌^◌, List, [], ◌∷◌, ◌++◌, length, map, All, Some, drop, get_or, refl, sym, ◌∙◌, ap, subst, arith}
use Rattle.std.specs.Prelude.{replicate, slice_get, slice_set}
use Rattle.std.specs.List.{range_with_len}
use Rattle.std.specs.Option.{option_map_or}
use Rattle.std.proofs.lemmas.List.{at_drop_more, length-map, length-replicate, length-set, map-set}
use Rattle.std.proofs.lemmas.List.FromFn.{get_or-map-range_with_len, length-map-range_with_len}
use Rattle.std.proofs.lemmas.Option.{get_or_from_slice_get, same_Some, slice_get_within}
use Rattle.zs_num.specs.declared.entry.Entry.{Entry}
use Rattle.access_log.specs.History.{AreStamped, of_core}
use Rattle.access_log.specs.RecordedOrder.{no_stamps}
use Rattle.access_record.specs.BankLogs.{BankLogState, entries_in}
use Rattle.access_record.specs.Laws.{beyond_hits, kept_of}
use Rattle.access_record.specs.RecordLogs.{RecordLogState}
use Rattle.access_record.specs.RecordedAccesses.{AreInOrder, AreRecordsOf}
use Rattle.access_record.specs.Turns.{AreTurnsOf, IfListed, in_turns, taken_of}
use Rattle.access_record.specs.Unordered.{CanBeOrdered, taken_by_turns}
use Rattle.access_record.specs.declared.turns.Turns.{Turns}
use Rattle.access_record.specs.declared.turns.Turns.TheVariants.{CoreByCore, Listed}
use Rattle.stats.specs.declared.counts.CoreCount.{CoreCount}
use Rattle.stats.specs.Counted.{no_core_count}
use Rattle.bound_core.specs.ShardWorld.{ShardWorld, begun_world, restarted}
use Rattle.reference.proofs.Lists.{get_set}
use Rattle.weave_chains.specs.Listed.{list_of, one_after_other}
use Rattle.bound_records.specs.Counted.{count_of}
use Rattle.bound_records.specs.CoreRuns.{first_port}
use Rattle.bound_records.specs.Recorders.{AreKeptOf, AreStampedInTurn, AreTakenBy, AreTakenIn, IsKeptOf, RecordPortState, RecorderState, counts_in, emptied, emptied_at, entries_of, kept_lists, no_log, no_records, taken_in}
use Rattle.bound_records.proofs.Lists.{all_each, get_mapped, has_at, map_twice, mapped_all, mapped_at, set_cases}

abbrev pub entries_by_log : List BankLogState → List (List Entry)
entries_by_log logs = map (λ log. log.entries) logs

flat_mapped : (logs : List BankLogState) → one_after_other (entries_by_log logs) ≡ entries_in logs
flat_mapped [] = refl
flat_mapped (log ∷ logs) = ap (λ (es : List Entry). log.entries ++ es) (flat_mapped logs)

-- the accesses of a log come before those of the logs behind it
pub next_log : (logs : List BankLogState) (i : ℕ) (log : BankLogState) → i < length logs → log ≡ get_or logs i log → entries_in (drop i logs) ≡ log.entries ++ entries_in (drop (i + 1) logs)
next_log logs i log within is = at_drop_more entries_in logs i log within ∙ ap (λ (l : BankLogState). l.entries ++ entries_in (drop (i + 1) logs)) (sym is)

-- a core that has an access is there
pub listed : (lists : List (List Entry)) (core place : ℕ) → place < length (list_of lists core) → core < length lists
listed [] core place within = absurd (omega (arith, within))
listed (l ∷ ls) zero place within = omega arith
listed (l ∷ ls) (suc core) place within = let rest = listed ls core place within in omega (arith, rest)

-- what was taken out for a core that has no access
pub record IsTaken (r : RecorderState) (core : ℕ) (log : BankLogState) (kept : RecordLogState) : Type 0 where
  pub log_is : log ≡ record { core = core; banks = length r.world.shards; entries = []; room = r.room }
  pub kept_is : kept ≡ record { core = core; begin = r.begin; base = r.base; entries = []; room = r.room }

pub log_eq : (log : BankLogState) (core banks room : ℕ) (entries : List Entry) → log.core ≡ core → log.banks ≡ banks → log.entries ≡ entries → log.room ≡ room → log ≡ record { core = core; banks = banks; entries = entries; room = room }
log_eq log core banks room entries a b c d =
    ap (λ (n : ℕ). let x : BankLogState = record { core = n; banks = log.banks; entries = log.entries; room = log.room } in x) a
    ∙ (ap (λ (n : ℕ). let x : BankLogState = record { core = core; banks = n; entries = log.entries; room = log.room } in x) b
    ∙ (ap (λ (es : List Entry). let x : BankLogState = record { core = core; banks = banks; entries = es; room = log.room } in x) c
    ∙ ap (λ (n : ℕ). let x : BankLogState = record { core = core; banks = banks; entries = entries; room = n } in x) d))

pub kept_eq : (kept : RecordLogState) (core begin base room : ℕ) (entries : List Entry) → kept.core ≡ core → kept.begin ≡ begin → kept.base ≡ base → kept.entries ≡ entries → kept.room ≡ room → kept ≡ record { core = core; begin = begin; base = base; entries = entries; room = room }
kept_eq kept core begin base room entries a b c d e =
    ap (λ (n : ℕ). let x : RecordLogState = record { core = n; begin = kept.begin; base = kept.base; entries = kept.entries; room = kept.room } in x) a
    ∙ (ap (λ (n : ℕ). let x : RecordLogState = record { core = core; begin = n; base = kept.base; entries = kept.entries; room = kept.room } in x) b
    ∙ (ap (λ (n : ℕ). let x : RecordLogState = record { core = core; begin = begin; base = n; entries = kept.entries; room = kept.room } in x) c
    ∙ (ap (λ (es : List Entry). let x : RecordLogState = record { core = core; begin = begin; base = base; entries = es; room = kept.room } in x) d
    ∙ ap (λ (n : ℕ). let x : RecordLogState = record { core = core; begin = begin; base = base; entries = entries; room = n } in x) e)))

-- one of the numbers from 0 on
pub range_at : {X : Type 0} (f : ℕ → X) (n i : ℕ) (x : X) → slice_get (map f (range_with_len 0 n)) i ≡ Some x → x ≡ f i
range_at f n i x here =
    let within = slice_get_within (map f (range_with_len 0 n)) i x here in
    let long = length-map-range_with_len f 0 n in
    sym (get_or_from_slice_get (map f (range_with_len 0 n)) i x x here) ∙ get_or-map-range_with_len f 0 n i i x (omega (arith, within, long)) (omega arith)

-- ---- what there is of a core

module _ (r : RecorderState) (banks : ℕ) (logs : List BankLogState) (records : List RecordLogState) (counts : List CoreCount) (k : AreKeptOf r banks logs records counts) (lists : r.lists ≡ entries_by_log logs) where
  pub record Found (i : ℕ) (log : BankLogState) : Type 0 where
    pub kept : RecordLogState
    pub count : CoreCount
    pub kept_there : slice_get records i ≡ Some kept
    pub count_there : slice_get counts i ≡ Some count
    pub is : IsKeptOf r i log kept count

  pub found : (i : ℕ) (log : BankLogState) → slice_get logs i ≡ Some log → Found i log
  found i log here =
      let within = slice_get_within logs i log here in
      let many = k.records_many in
      let as_many = k.counts_many in
      let a = has_at records i (omega (arith, within, many)) in
      let b = has_at counts i (omega (arith, within, as_many)) in
      record { kept = a.0; count = b.0; kept_there = a.1; count_there = b.1; is = k.each i log a.0 b.0 here a.1 b.1 }

  pub in_order : AreInOrder logs
  in_order i log here = let f = found i log here in f.is.log_core

  pub same_banks : All (λ log. log.banks ≡ banks) logs
  same_banks = all_each (λ log. log.banks ≡ banks) logs (λ i log here. let f = found i log here in f.is.log_banks ∙ sym k.banks_are)

  pub are_records : AreRecordsOf r.begin r.base logs records
  are_records = record {
    as_many = k.records_many;
    each = λ i log kept here there.
        let within = slice_get_within logs i log here in
        let as_many = k.counts_many in
        let b = has_at counts i (omega (arith, within, as_many)) in
        let is = k.each i log kept b.0 here there b.1 in
        record { entries_are = is.kept_entries; begin_is = is.kept_begin; base_is = is.kept_base };
  }

  pub entries_are : entries_of r ≡ entries_in logs
  entries_are = ap one_after_other lists ∙ flat_mapped logs

  lists_many : length r.lists ≡ length logs
  lists_many = ap length lists ∙ length-map logs (λ log. log.entries)

  stamped_in : (taken : List Entry) → AreStampedInTurn taken r → AreStamped banks (no_stamps banks (length logs)) taken
  stamped_in taken turn =
      subst (λ (n : ℕ). AreStamped banks (no_stamps banks n) taken) lists_many
      (subst (λ (n : ℕ). AreStamped n (no_stamps n (length r.lists)) taken) (sym k.banks_are) turn.stamped)

  log_there : (i : ℕ) (log : BankLogState) → slice_get logs i ≡ Some log → slice_get r.lists i ≡ Some log.entries
  log_there i log here = ap (λ (ls : List (List Entry)). slice_get ls i) lists ∙ get_mapped (λ log. log.entries) logs i log here

  pub taken_logs : (turns : Turns) → taken_of turns logs ≡ taken_in turns r
  taken_logs CoreByCore = sym entries_are
  taken_logs (Listed turns) = ap (in_turns turns.now) (sym lists)

  pub few_logs : (turns : Turns) → AreTakenIn turns r → length (taken_of turns logs) < 2 ^ 32
  few_logs turns t = subst (λ (es : List Entry). length es < 2 ^ 32) (sym (taken_logs turns)) t.stamped.few

  pub stamped_logs : (turns : Turns) → AreTakenIn turns r → AreStamped banks (no_stamps banks (length logs)) (taken_of turns logs)
  stamped_logs turns t = subst (AreStamped banks (no_stamps banks (length logs))) (sym (taken_logs turns)) (stamped_in (taken_in turns r) t.stamped)

  pub are_turns : (turns : Turns) → AreTakenIn turns r → AreTurnsOf turns logs
  are_turns turns t =
      let same : taken_of turns logs ≡ taken_in turns r = taken_logs turns in
      record {
        known = subst (All (λ (e : Entry). e.core < length logs)) (sym same) (subst (λ (n : ℕ). All (λ (e : Entry). e.core < n) (taken_in turns r)) lists_many t.stamped.known);
        own = λ i log here. ap (of_core i) same ∙ t.stamped.own i log.entries (log_there i log here);
        named = subst (λ (es : List Entry). IfListed turns (λ cores. cores ≡ map (λ e. e.core) es)) (sym same) t.named;
      }

  -- the order of its accesses can be told later
  pub same_turns : (turns : List ℕ) → taken_by_turns turns logs ≡ in_turns turns r.lists
  same_turns turns = ap (in_turns turns) (sym lists)

  pub can_be_ordered : (turns : List ℕ) → AreTakenBy turns r → CanBeOrdered banks logs turns
  can_be_ordered turns t =
      let same : taken_by_turns turns logs ≡ in_turns turns r.lists = same_turns turns in
      record {
        some = k.some_banks;
        banks_are = same_banks;
        cores = k.few;
        order = in_order;
        known = subst (All (λ (e : Entry). e.core < length logs)) (sym same) (subst (λ (n : ℕ). All (λ (e : Entry). e.core < n) (in_turns turns r.lists)) lists_many t.stamped.known);
        own = λ i log here. ap (of_core i) same ∙ t.stamped.own i log.entries (log_there i log here);
        named = t.named ∙ ap (map (λ (e : Entry). e.core)) (sym same);
        few = subst (λ (es : List Entry). length es < 2 ^ 32) (sym same) t.stamped.few;
        stamped = subst (AreStamped banks (no_stamps banks (length logs))) (sym same) (stamped_in (in_turns turns r.lists) t.stamped);
      }

  pub counts_are : counts ≡ counts_in r
  counts_are =
      mapped_all (λ log. count_of log.entries) logs counts k.counts_many
      (λ i log count here there.
      let within = slice_get_within logs i log here in
      let many = k.records_many in
      let a = has_at records i (omega (arith, within, many)) in
      let is = k.each i log a.0 count here a.1 there in
      is.count_is)
      ∙ (sym (map_twice count_of (λ log. log.entries) logs) ∙ ap (map count_of) (sym lists))

  -- what the weave takes of a core
  list_there : (i : ℕ) (log : BankLogState) → slice_get logs i ≡ Some log → list_of (kept_lists r) i ≡ map (kept_of r.begin r.base) (beyond_hits log.entries)
  list_there i log here =
      let at : slice_get r.lists i ≡ Some log.entries = ap (λ (ls : List (List Entry)). slice_get ls i) lists ∙ get_mapped (λ log. log.entries) logs i log here in
      ap (λ o. option_map_or (λ (list : List Entry). list) o []) (get_mapped (λ es. map (kept_of r.begin r.base) (beyond_hits es)) r.lists i log.entries at)

  pub cores_are : length (kept_lists r) ≡ length records
  cores_are = length-map r.lists (λ es. map (kept_of r.begin r.base) (beyond_hits es)) ∙ (lists_many ∙ sym k.records_many)

  pub list_at : (i : ℕ) (kept : RecordLogState) → slice_get records i ≡ Some kept → list_of (kept_lists r) i ≡ map (kept_of kept.begin kept.base) kept.entries
  list_at i kept there =
      let within = slice_get_within records i kept there in
      let many = k.records_many in
      let as_many = k.counts_many in
      let a = has_at logs i (omega (arith, within, many)) in
      let b = has_at counts i (omega (arith, within, many, as_many)) in
      let is = k.each i a.0 kept b.0 a.1 there b.1 in
      list_there i a.0 a.1
      ∙ (ap (λ (n : ℕ). map (kept_of n r.base) (beyond_hits a.0.entries)) (sym is.kept_begin)
      ∙ (ap (λ (n : ℕ). map (kept_of kept.begin n) (beyond_hits a.0.entries)) (sym is.kept_base) ∙ ap (map (kept_of kept.begin kept.base)) (sym is.kept_entries)))

  -- nothing is kept any more
  pub emptied_all : (begin : ℕ) (counts_after : List CoreCount) → length counts_after ≡ length counts → ((i : ℕ) (c : CoreCount) → slice_get counts_after i ≡ Some c → c ≡ no_core_count)
      → (world : ShardWorld) → length world.stamps ≡ length r.world.stamps → length world.shards ≡ length r.world.shards
      → AreKeptOf (record { world = world; lists = entries_by_log (map emptied logs); begin = begin; base = r.base; room = r.room }) banks (map emptied logs) (map (emptied_at begin) records) counts_after
  emptied_all begin counts_after as_many none world stamps shards =
      let logs_many : length (map emptied logs) ≡ length logs = length-map logs emptied in
      let few = k.few in
      record {
        stamps = stamps ∙ (k.stamps ∙ sym logs_many);
        banks_are = k.banks_are ∙ sym shards;
        some_banks = k.some_banks;
        few = omega (arith, logs_many, few);
        records_many = length-map records (emptied_at begin) ∙ (k.records_many ∙ sym logs_many);
        counts_many = as_many ∙ (k.counts_many ∙ sym logs_many);
        base = k.base;
        each = λ i log kept count here there counted.
            let a = mapped_at emptied logs i log here in
            let b = mapped_at (emptied_at begin) records i kept there in
            let f = found i a.0 a.1.0 in
            let is = f.is in
            let own : IsKeptOf r i a.0 b.0 f.count = k.each i a.0 b.0 f.count a.1.0 b.1.0 f.count_there in
            record {
              log_core = ap (λ (l : BankLogState). l.core) a.1.1 ∙ own.log_core;
              log_banks = ap (λ (l : BankLogState). l.banks) a.1.1 ∙ (own.log_banks ∙ sym shards);
              log_room = ap (λ (l : BankLogState). l.room) a.1.1 ∙ own.log_room;
              kept_core = ap (λ (l : RecordLogState). l.core) b.1.1 ∙ own.kept_core;
              kept_begin = ap (λ (l : RecordLogState). l.begin) b.1.1;
              kept_base = ap (λ (l : RecordLogState). l.base) b.1.1 ∙ own.kept_base;
              kept_room = ap (λ (l : RecordLogState). l.room) b.1.1 ∙ own.kept_room;
              kept_entries = ap (λ (l : RecordLogState). l.entries) b.1.1 ∙ sym (ap (λ (l : BankLogState). beyond_hits l.entries) a.1.1);
              count_is = none i count counted ∙ sym (ap (λ (l : BankLogState). count_of l.entries) a.1.1);
            };
      }

  -- an interval begins
  pub begun_again : (begin : ℕ) (counts_after : List CoreCount) → length counts_after ≡ length counts → ((i : ℕ) (c : CoreCount) → slice_get counts_after i ≡ Some c → c ≡ no_core_count)
      → (world : ShardWorld) → world ≡ begun_world (length r.world.stamps) (map restarted r.world.shards)
      → AreKeptOf (record { world = world; lists = entries_by_log (map emptied logs); begin = begin; base = r.base; room = r.room }) banks (map emptied logs) (map (emptied_at begin) records) counts_after
  begun_again begin counts_after as_many none world world_is =
      emptied_all begin counts_after as_many none world
      (ap (λ (w : ShardWorld). length w.stamps) world_is ∙ length-replicate (length r.world.stamps) 0)
      (ap (λ (w : ShardWorld). length w.shards) world_is ∙ length-map r.world.shards restarted)

  -- the logs of the same cores before their first access
  pub empty_again : map (no_log banks r.room) (range_with_len 0 (length logs)) ≡ map emptied logs
  empty_again =
      mapped_all emptied logs (map (no_log banks r.room) (range_with_len 0 (length logs))) (length-map-range_with_len (no_log banks r.room) 0 (length logs))
      (λ i log empty here there.
      let f = found i log here in
      range_at (no_log banks r.room) (length logs) i empty there
      ∙ sym (log_eq (emptied log) i banks r.room [] f.is.log_core (f.is.log_banks ∙ sym k.banks_are) refl f.is.log_room))

  pub none_again : entries_by_log (map emptied logs) ≡ replicate (length r.lists) []
  none_again = none_of logs ∙ ap (λ (n : ℕ). replicate n []) (sym lists_many)
    where
      none_of : (ls : List BankLogState) → entries_by_log (map emptied ls) ≡ replicate (length ls) []
      none_of [] = refl
      none_of (l ∷ ls) = ap (λ (es : List (List Entry)). [] ∷ es) (none_of ls)

  -- the core of this number has run: its log, its records and its count are put back, in this world
  pub put_back : (core : ℕ) (log : BankLogState) (kept : RecordLogState) (count : CoreCount) (entries : List Entry) (world : ShardWorld) → core < length logs
      → length world.stamps ≡ length r.world.stamps → length world.shards ≡ length r.world.shards
      → log ≡ record { core = core; banks = length world.shards; entries = entries; room = r.room } → kept ≡ record { core = core; begin = r.begin; base = r.base; entries = beyond_hits entries; room = r.room } → count ≡ count_of entries
      → AreKeptOf (record { world = world; lists = entries_by_log (slice_set logs core log); begin = r.begin; base = r.base; room = r.room }) banks (slice_set logs core log) (slice_set records core kept) (slice_set counts core count)
  put_back core log kept count entries world below stamps shards log_is kept_is count_is =
      let long : length (slice_set logs core log) ≡ length logs = length-set logs core log in
      let few = k.few in
      let a = has_at logs core below in
      let f = found core a.0 a.1 in
      record {
        stamps = stamps ∙ (k.stamps ∙ sym long);
        banks_are = k.banks_are ∙ sym shards;
        some_banks = k.some_banks;
        few = omega (arith, long, few);
        records_many = length-set records core kept ∙ (k.records_many ∙ sym long);
        counts_many = length-set counts core count ∙ (k.counts_many ∙ sym long);
        base = k.base;
        each = λ i l x n here there counted.
            let R : RecorderState = record { world = world; lists = entries_by_log (slice_set logs core log); begin = r.begin; base = r.base; room = r.room } in
            set_cases logs core i a.0 log l a.1 here (λ y. IsKeptOf R i y x n)
            (λ same.
            set_cases records core i f.kept kept x f.kept_there there (λ y. IsKeptOf R i log y n)
            (λ again.
            set_cases counts core i f.count count n f.count_there counted (λ y. IsKeptOf R i log kept y)
            (λ once.
            record {
              log_core = ap (λ (y : BankLogState). y.core) log_is ∙ sym same;
              log_banks = ap (λ (y : BankLogState). y.banks) log_is;
              log_room = ap (λ (y : BankLogState). y.room) log_is;
              kept_core = ap (λ (y : RecordLogState). y.core) kept_is ∙ sym same;
              kept_begin = ap (λ (y : RecordLogState). y.begin) kept_is;
              kept_base = ap (λ (y : RecordLogState). y.base) kept_is;
              kept_room = ap (λ (y : RecordLogState). y.room) kept_is;
              kept_entries = ap (λ (y : RecordLogState). y.entries) kept_is ∙ sym (ap (λ (y : BankLogState). beyond_hits y.entries) log_is);
              count_is = count_is ∙ sym (ap (λ (y : BankLogState). count_of y.entries) log_is);
            })
            (λ apart was. absurd (apart same)))
            (λ apart was. absurd (apart same)))
            (λ apart was.
            set_cases records core i f.kept kept x f.kept_there there (λ y. IsKeptOf R i l y n)
            (λ same. absurd (apart same))
            (λ other kept_was.
            set_cases counts core i f.count count n f.count_there counted (λ y. IsKeptOf R i l x y)
            (λ same. absurd (apart same))
            (λ more count_was.
            let is : IsKeptOf r i l x n = k.each i l x n was kept_was count_was in
            record {
              log_core = is.log_core;
              log_banks = is.log_banks ∙ sym shards;
              log_room = is.log_room;
              kept_core = is.kept_core;
              kept_begin = is.kept_begin;
              kept_base = is.kept_base;
              kept_room = is.kept_room;
              kept_entries = is.kept_entries;
              count_is = is.count_is;
            })));
      }

  -- it has no access yet
  pub taken : (core : ℕ) (log : BankLogState) (kept : RecordLogState) → slice_get logs core ≡ Some log → slice_get records core ≡ Some kept → slice_get r.lists core ≡ Some [] → IsTaken r core log kept
  taken core log kept here there none =
      let f = found core log here in
      let is : IsKeptOf r core log kept f.count = k.each core log kept f.count here there f.count_there in
      let own : slice_get r.lists core ≡ Some log.entries = ap (λ (ls : List (List Entry)). slice_get ls core) lists ∙ get_mapped (λ l. l.entries) logs core log here in
      let empty : log.entries ≡ [] = same_Some log.entries [] (sym own ∙ none) in
      record {
        log_is = log_eq log core (length r.world.shards) r.room [] is.log_core is.log_banks empty is.log_room;
        kept_is = kept_eq kept core r.begin r.base r.room [] is.kept_core is.kept_begin is.kept_base (is.kept_entries ∙ ap beyond_hits empty) is.kept_room;
      }

  -- the core of this number makes an access
  module _ (core : ℕ) (log : BankLogState) (kept : RecordLogState) (count : CoreCount) (here : slice_get logs core ≡ Some log) (there : slice_get records core ≡ Some kept) (counted : slice_get counts core ≡ Some count) where
    pub its : IsKeptOf r core log kept count
    its = k.each core log kept count here there counted

    pub its_list : list_of r.lists core ≡ log.entries
    its_list = ap (λ o. option_map_or (λ (list : List Entry). list) o []) (log_there core log here)

    pub one_kept : (e : Entry) (world : ShardWorld) (log_after : BankLogState) (kept_after : RecordLogState) (count_after : CoreCount)
        → log_after ≡ record log { entries = log.entries ++ e ∷ [] } → kept_after ≡ record kept { entries = beyond_hits (log.entries ++ e ∷ []) } → count_after ≡ count_of (log.entries ++ e ∷ [])
        → length world.stamps ≡ length r.world.stamps → length world.shards ≡ length r.world.shards
        → AreKeptOf (record { world = world; lists = entries_by_log (slice_set logs core log_after); begin = r.begin; base = r.base; room = r.room }) banks (slice_set logs core log_after) (slice_set records core kept_after) (slice_set counts core count_after)
    one_kept e world log_after kept_after count_after log_is kept_is count_is stamps shards =
        let entries : List Entry = log.entries ++ e ∷ [] in
        let own : IsKeptOf r core log kept count = its in
        put_back core log_after kept_after count_after entries world (slice_get_within logs core log here) stamps shards
        (log_eq log_after core (length world.shards) r.room entries (ap (λ (l : BankLogState). l.core) log_is ∙ own.log_core) (ap (λ (l : BankLogState). l.banks) log_is ∙ (own.log_banks ∙ sym shards)) (ap (λ (l : BankLogState). l.entries) log_is)
        (ap (λ (l : BankLogState). l.room) log_is ∙ own.log_room))
        (kept_eq kept_after core r.begin r.base r.room (beyond_hits entries) (ap (λ (l : RecordLogState). l.core) kept_is ∙ own.kept_core) (ap (λ (l : RecordLogState). l.begin) kept_is ∙ own.kept_begin)
        (ap (λ (l : RecordLogState). l.base) kept_is ∙ own.kept_base) (ap (λ (l : RecordLogState). l.entries) kept_is) (ap (λ (l : RecordLogState). l.room) kept_is ∙ own.kept_room))
        count_is

    pub lists_after : (e : Entry) (log_after : BankLogState) → log_after ≡ record log { entries = log.entries ++ e ∷ [] } → entries_by_log (slice_set logs core log_after) ≡ slice_set r.lists core (list_of r.lists core ++ e ∷ [])
    lists_after e log_after is =
        map-set (λ log. log.entries) logs core log_after
        ∙ (ap (λ (ls : List (List Entry)). slice_set ls core log_after.entries) (sym lists)
        ∙ ap (slice_set r.lists core) (ap (λ (l : BankLogState). l.entries) is ∙ ap (λ (es : List Entry). es ++ e ∷ []) (sym its_list)))

    -- its list is longer by it
    pub list_after : (list : List Entry) → list_of (slice_set r.lists core list) core ≡ list
    list_after list = ap (λ o. option_map_or (λ (es : List Entry). es) o []) (get_set r.lists core log.entries list (log_there core log here))

-- the port of the core that begins
pub first_is : (r : RecorderState) (core : ℕ) (log : BankLogState) (kept : RecordLogState) → IsTaken r core log kept
    → (let p : RecordPortState = record { world = r.world; core = log.core; begin = kept.begin; base = kept.base; entries = []; room = log.room } in p) ≡ first_port r core
first_is r core log kept t =
    ap (λ (l : BankLogState). let p : RecordPortState = record { world = r.world; core = l.core; begin = kept.begin; base = kept.base; entries = []; room = l.room } in p) t.log_is
    ∙ ap (λ (x : RecordLogState). let p : RecordPortState = record { world = r.world; core = core; begin = x.begin; base = x.base; entries = []; room = r.room } in p) t.kept_is

-- a recorder into which a core's accesses were put back
pub put_in : (r : RecorderState) (core : ℕ) (logs : List BankLogState) (log : BankLogState) (entries : List Entry) (world now : ShardWorld) → r.lists ≡ entries_by_log logs → log.entries ≡ entries → now ≡ world
    → (let q : RecorderState = record r { world = now; lists = entries_by_log (slice_set logs core log) } in q) ≡ record r { world = world; lists = slice_set r.lists core entries }
put_in r core logs log entries world now lists own same =
    ap (λ (ls : List (List Entry)). let q : RecorderState = record r { world = now; lists = ls } in q) (map-set (λ l. l.entries) logs core log)
    ∙ (ap (λ (ls : List (List Entry)). let q : RecorderState = record r { world = now; lists = slice_set ls core log.entries } in q) (sym lists)
    ∙ (ap (λ (es : List Entry). let q : RecorderState = record r { world = now; lists = slice_set r.lists core es } in q) own
    ∙ ap (λ (w : ShardWorld). let q : RecorderState = record r { world = w; lists = slice_set r.lists core entries } in q) same))

-- ---- before the first interval

none_in_range : (banks room from n : ℕ) → entries_by_log (map (no_log banks room) (range_with_len from n)) ≡ replicate n []
none_in_range banks room from zero = refl
none_in_range banks room from (suc n) = ap (λ (es : List (List Entry)). [] ∷ es) (none_in_range banks room (from + 1) n)

pub none_first : (banks room n : ℕ) (logs : List BankLogState) → logs ≡ map (no_log banks room) (range_with_len 0 n) → entries_by_log logs ≡ replicate n []
none_first banks room n logs are = ap entries_by_log are ∙ none_in_range banks room 0 n

pub first_kept : (cores banks base room : ℕ) (world : ShardWorld) (logs : List BankLogState) (records : List RecordLogState) (counts : List CoreCount)
    → cores ≤ 256 → 0 < banks → base < 2 ^ 63 → length world.stamps ≡ cores → length world.shards ≡ banks → logs ≡ map (no_log banks room) (range_with_len 0 cores) → records ≡ map (no_records base room) (range_with_len 0 cores)
    → length counts ≡ cores → ((i : ℕ) (c : CoreCount) → slice_get counts i ≡ Some c → c ≡ no_core_count)
    → AreKeptOf (record { world = world; lists = entries_by_log logs; begin = 0; base = base; room = room }) banks logs records counts
first_kept cores banks base room world logs records counts few some low stamps shards logs_are records_are as_many none =
    let many : length logs ≡ cores = ap length logs_are ∙ length-map-range_with_len (no_log banks room) 0 cores in
    let records_long : length records ≡ cores = ap length records_are ∙ length-map-range_with_len (no_records base room) 0 cores in
    record {
      stamps = stamps ∙ sym many;
      banks_are = sym shards;
      some_banks = some;
      few = omega (arith, many, few);
      records_many = records_long ∙ sym many;
      counts_many = as_many ∙ sym many;
      base = low;
      each = λ i log kept count here there counted.
          let a : log ≡ no_log banks room i = range_at (no_log banks room) cores i log (ap (λ (ls : List BankLogState). slice_get ls i) (sym logs_are) ∙ here) in
          let b : kept ≡ no_records base room i = range_at (no_records base room) cores i kept (ap (λ (ls : List RecordLogState). slice_get ls i) (sym records_are) ∙ there) in
          record {
            log_core = ap (λ (l : BankLogState). l.core) a;
            log_banks = ap (λ (l : BankLogState). l.banks) a ∙ sym shards;
            log_room = ap (λ (l : BankLogState). l.room) a;
            kept_core = ap (λ (l : RecordLogState). l.core) b;
            kept_begin = ap (λ (l : RecordLogState). l.begin) b;
            kept_base = ap (λ (l : RecordLogState). l.base) b;
            kept_room = ap (λ (l : RecordLogState). l.room) b;
            kept_entries = ap (λ (l : RecordLogState). l.entries) b ∙ sym (ap (λ (l : BankLogState). beyond_hits l.entries) a);
            count_is = none i count counted ∙ sym (ap (λ (l : BankLogState). count_of l.entries) a);
          };
    }

-- of one count over and over
pub none_counted : (n i : ℕ) (c : CoreCount) → slice_get (replicate n no_core_count) i ≡ Some c → c ≡ no_core_count
none_counted zero i c here = absurd (cc)
none_counted (suc n) zero c here = cc
none_counted (suc n) (suc i) c here = none_counted n i c here
