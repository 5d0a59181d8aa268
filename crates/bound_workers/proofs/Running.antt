-- What the turns of a core come to, by the port's own list of them; and a core that has halted takes none.
use Rattle.std.proofs.Common.{◌≡◌, ◌<◌, ◌≤◌, ◌+◌, ◌^◌, ℕ, max, nat_lt, false, Bool, List, [], ◌∷◌, ◌++◌, length, map, All, refl, sym, ◌∙◌, ap, subst, inl, inr, arith, rules}
use Rattle.std.specs.Prelude.{None, Option, Some, IsSome, is_none}
use Rattle.std.specs.List.{fold}
use Rattle.std.proofs.lemmas.Bool.{cases_lt}
use Rattle.std.proofs.lemmas.List.Elements.{All-cons}
use Rattle.std.proofs.lemmas.Option.{same_Some}
use Rattle.zs_num.specs.declared.entry.Entry.{Entry}
use Rattle.zs_num.specs.declared.request.Request.{Request}
use Rattle.zs_num.specs.Servable.{IsServable}
use Rattle.elf_load.specs.MemoryImage.{MemoryImage}
use Rattle.rv_core.specs.declared.why.Why.{Why}
use Rattle.parts_table.specs.Access.{IsSameSeat, IsSeatOf, SeatState, TableState, opening_shards}
use Rattle.parts_table.specs.declared.view.Made.{Made}
use Rattle.bound_core.specs.History.{AreTurnsOf, after_turn}
use Rattle.bound_core.specs.HistoryLaws.{TurnsAreTheCoresOwn}
use Rattle.bound_core.specs.ShardPort.{AreShardsOf, l1i_in}
use Rattle.bound_core.specs.TimedCore.{TimedCore, asks, core_after_access, next_request, ran_to}
use Rattle.bound_core.specs.NumberedCores.{NumberedCore}
use Rattle.bound_core.specs.IntervalBounds.{latest_clock, most_accesses, most_left}
use Rattle.rv_core.specs.Port.{Gains}
use Rattle.bound_core.specs.Turn.{IsOver, RunsToEnd, TurnsToEnd}
use Rattle.reference.proofs.Accesses.{latest_small}
use Rattle.reference.proofs.Instructions.{ran_later}
use Rattle.bound_records.specs.CoreRuns.{IsNear}
use Rattle.bound_records.specs.declared.record_port.CoreRecord.{CoreRecord}
use Rattle.bound_records.proofs.Turns.{in_memory}
use Rattle.bound_workers.specs.Kept.{IsKeptAtWork, blank_of, entries_of_seat}
use Rattle.bound_workers.specs.Member.{HasRun}
use Rattle.bound_workers.specs.Port.{IsAtTable, TablePortState}
use Rattle.bound_workers.specs.declared.member.Member.{Member}

-- ---- a halted core

not_none : (halted : Option Why) → IsSome halted → is_none halted ≡ false
not_none None some = sym some
not_none (Some why) some = refl

pub stays : (image : MemoryImage) (end : ℕ) (c : TimedCore) → IsSome c.core.halted → ran_to image end c ≡ c
stays image end c halted = rw (not_none c.core.halted halted) refl

pub asks_nothing : (image : MemoryImage) (end : ℕ) (c : TimedCore) → IsSome c.core.halted → c.core.instruction ≡ None → asks (ran_to image end c) ≡ None
asks_nothing image end c halted idle = ap asks (stays image end c halted) ∙ ap next_request idle

pub rests : (time : Entry → ℕ) (image : MemoryImage) (end : ℕ) (t : TableState) (m : Member) → IsSome m.core.timed.core.halted → m.core.timed.core.instruction ≡ None → m.seat.made ≡ []
    → IsKeptAtWork t m.seat m.record.log m.record.records m.record.count → HasRun time image end t m m
rests time image end t m halted idle made kept =
    let new : entries_of_seat m.seat ≡ [] = ap (λ (ms : List Made). map (λ a. a.entry) ms) made in record {
      number = refl;
      same_seat = record { table = refl; core = refl; opening = refl; cores = refl; banks = refl; room = refl };
      kept = kept;
      same_record = refl;
      stampless = subst (All (λ (e : Entry). e.stamp ≡ 0)) (sym new) (λ k d below. absurd (omega (arith, below)));
      turns = subst (AreTurnsOf time image end m.core.timed) (sym new) (asks_nothing image end m.core.timed halted idle);
      left =
          sym (stays image end m.core.timed halted) ∙ ap (λ (es : List Entry). ran_to image end (fold (after_turn time image end) m.core.timed es)) (sym new);
      few = subst (λ (ms : List Made). length ms ≤ t.room) (sym made) (omega arith);
      over = record { idle = idle; over = inl halted };
      starts = subst (All (λ (e : Entry). e.start ≤ end + 2 ^ 30)) (sym new) (λ k d below. absurd (omega (arith, below)));
      near = subst (All (IsNear m.core.timed.clock m.core.timed.core.memory.base m.core.timed.core.memory.size)) (sym new) (λ k d below. absurd (omega (arith, below)));
      clock = omega arith;
    }

-- ---- none of its accesses is late

none_past : (end : ℕ) (c : TimedCore) → end ≤ c.clock → c.core.instruction ≡ None → c.core.is_fetched ≡ false → most_accesses end c ≡ 0
unfolding most_accesses
none_past end c late idle unfetched = let past : nat_lt c.clock end ≡ false = search rules in rw (past, idle, unfetched) refl

-- a core that has come past the end has none
starts_soon : (end : ℕ) (c : TimedCore) (entries : List Entry) → c.core.instruction ≡ None → c.core.is_fetched ≡ false → All (λ e. e.start ≤ latest_clock end c) entries → length entries ≤ most_accesses end c
    → All (λ e. e.start ≤ end + 2 ^ 30) entries
starts_soon end c entries idle unfetched starts few = λ k d below.
    let none : most_left c.core ≡ 0 = rw (idle, unfetched) refl in
    let small : latest_clock end c ≤ max c.clock end + 2 ^ 30 = latest_small end c (omega (arith, none)) in
    elim (cases_lt c.clock end) [
      | inl early ↦ omega (arith, starts k d below, small, early)
      | inr late ↦ absurd (omega (arith, below, few, none_past end c late idle unfetched))
    ]

-- ---- a core that ran

clock_after : (time : Entry → ℕ) (e : Entry) (c : TimedCore) → (core_after_access time e c).clock ≡ c.clock + time e
unfolding core_after_access
clock_after time e c = refl

-- `table`, `record_of`, `base` and `size` are of a port that works at a table and keeps records, in a memory.
module _ {Port : Type 0} (table : Port → TableState) (record_of : Port → CoreRecord) (base size : Port → ℕ) where
  -- what a port says of an access, and what stays
  pub record Gave (p : Port) (start : ℕ) (request : Request) (e : Entry) (q : Port) : Type 0 where
    pub request_is : e.request ≡ request
    pub start_is : e.start ≡ start
    pub stamp_is : e.stamp ≡ 0
    pub table_stays : table q ≡ table p
    pub record_stays : blank_of (record_of q) ≡ blank_of (record_of p)
    pub base_stays : base q ≡ base p
    pub size_stays : size q ≡ size p
    pub servable : IsServable (base p) (size p) (l1i_in (opening_shards (table p))) request

  module _ (gives : Port → (start : ℕ) → Request → Entry → Port → Type 0) (logged : Port → Option (List Entry))
      (gave : (p q : Port) (start : ℕ) (request : Request) (e : Entry) → gives p start request e q → Gave p start request e q)
      (time : Entry → ℕ) (image : MemoryImage) (end : ℕ) where
    same_table : (entries : List Entry) (p q : Port) (c d : TimedCore) → TurnsToEnd time image end gives entries p q c d → table q ≡ table p
    same_table [] p q c d turns = ap table turns.same
    same_table (e ∷ entries) p q c d turns =
        same_table entries turns.0 q turns.1.0 d turns.1.1.1 ∙ (gave p turns.0 _ turns.1.1.0.request e turns.1.1.0.given).table_stays

    -- a port that ran is at the table at which it was
    pub stays_at : (t : TableState) (number : ℕ) (p q : Port) (c d : TimedCore) → t ≡ table p → RunsToEnd time image end gives logged number p q c d → table q ≡ t
    stays_at t number p q c d is run = same_table run.entries p q c d run.turns ∙ sym is

    same_blank : (entries : List Entry) (p q : Port) (c d : TimedCore) → TurnsToEnd time image end gives entries p q c d → blank_of (record_of q) ≡ blank_of (record_of p)
    same_blank [] p q c d turns = ap (λ (x : Port). blank_of (record_of x)) turns.same
    same_blank (e ∷ entries) p q c d turns =
        same_blank entries turns.0 q turns.1.0 d turns.1.1.1 ∙ (gave p turns.0 _ turns.1.1.0.request e turns.1.1.0.given).record_stays

    stampless_turns : (entries : List Entry) (p q : Port) (c d : TimedCore) → TurnsToEnd time image end gives entries p q c d → All (λ e. e.stamp ≡ 0) entries
    stampless_turns [] p q c d turns = λ k x below. absurd (omega (arith, below))
    stampless_turns (e ∷ entries) p q c d turns =
        All-cons (λ (x : Entry). x.stamp ≡ 0) e entries (gave p turns.0 _ turns.1.1.0.request e turns.1.1.0.given).stamp_is (stampless_turns entries turns.0 q turns.1.0 d turns.1.1.1)

    near_turns : (low b s : ℕ) (entries : List Entry) (p q : Port) (before after : TimedCore) → TurnsToEnd time image end gives entries p q before after
        → low ≤ before.clock → base p ≡ b → size p ≡ s → All (IsNear low b s) entries
    near_turns low b s [] p q before after turns begun base_is size_is = λ k d below. absurd (omega (arith, below))
    near_turns low b s (e ∷ entries) p q before after turns begun base_is size_is =
        let next : Port = turns.0 in
        let core : TimedCore = turns.1.0 in
        let one = turns.1.1.0 in
        let ran : TimedCore = ran_to image end before in
        let l1i : Bool = l1i_in (opening_shards (table p)) in
        let g : Gave p ran.clock one.request e next = gave p next ran.clock one.request e one.given in
        let later : before.clock ≤ ran.clock = ran_later image end before in
        let start : e.start ≡ ran.clock = g.start_is in
        let from : low ≤ e.start = omega (arith, later, start, begun) in
        let on : core.clock ≡ ran.clock + time e = ap (λ (c : TimedCore). c.clock) one.left ∙ clock_after time e ran in
        let there : low ≤ core.clock = omega (arith, later, begun, on) in
        let can : IsServable b s l1i one.request =
        subst (λ (k : ℕ). IsServable b k l1i one.request) size_is (subst (λ (k : ℕ). IsServable k (size p) l1i one.request) base_is g.servable)
        in
        All-cons (IsNear low b s) e entries (in_memory low b s l1i one.request e can g.request_is from)
        (near_turns low b s entries next q core after turns.1.1.1 there (g.base_stays ∙ base_is) (g.size_stays ∙ size_is))

    logged_more : (before after : Option (List Entry)) (xs es : List Entry) → before ≡ Some xs → Gains before es after → after ≡ Some (xs ++ es)
    logged_more None after xs es is gains = absurd (let none : None ≡ Some xs = is in cc)
    logged_more (Some ys) after xs es is gains = gains ∙ ap (λ (zs : List Entry). Some (zs ++ es)) (same_Some ys xs is)

    asked_it : (p q : Port) (start : ℕ) (request : Request) (e : Entry) → gives p start request e q → (e.request ≡ request) × (e.start ≡ start)
    asked_it p q start request e given = let g = gave p q start request e given in (g.request_is, g.start_is)

    -- the seat's list is what the turns took, and these are the core's
    pub ran : TurnsAreTheCoresOwn gives → (t : TableState) (p q : Port) (before after : Member) → logged p ≡ Some (entries_of_seat before.seat) → logged q ≡ Some (entries_of_seat after.seat)
        → record_of p ≡ before.record → record_of q ≡ after.record → base p ≡ before.core.timed.core.memory.base → size p ≡ before.core.timed.core.memory.size
        → IsSeatOf t before.seat → IsSeatOf (table q) after.seat → IsKeptAtWork (table q) after.seat after.record.log after.record.records after.record.count → t ≡ table p
        → after.seat.core ≡ before.seat.core → after.core.number ≡ before.core.number → before.seat.made ≡ [] → length after.seat.made ≤ (table q).room
        → before.core.timed.core.instruction ≡ None → before.core.timed.core.is_fetched ≡ false → IsOver end after.core.timed → after.core.timed.clock ≤ max before.core.timed.clock end + 2 ^ 30
        → RunsToEnd time image end gives logged before.core.number p q before.core.timed after.core.timed → HasRun time image end t before after
    ran own t p q before after logged_p logged_q record_p record_q base_p size_p of_t of_q kept table_p core_is number new few idle unfetched over clock run =
        let c : TimedCore = before.core.timed in
        let d : TimedCore = after.core.timed in
        let stays : table q ≡ t = same_table run.entries p q c d run.turns ∙ sym table_p in
        let seat : IsSeatOf t after.seat = subst (λ (x : TableState). IsSeatOf x after.seat) stays of_q in
        let gained : logged q ≡ Some (entries_of_seat before.seat ++ run.entries) = logged_more (logged p) (logged q) (entries_of_seat before.seat) run.entries logged_p run.logged in
        let none : entries_of_seat before.seat ≡ [] = ap (λ (ms : List Made). map (λ a. a.entry) ms) new in
        let list : entries_of_seat after.seat ≡ run.entries =
        same_Some (entries_of_seat after.seat) (entries_of_seat before.seat ++ run.entries) (sym logged_q ∙ gained) ∙ ap (λ (es : List Entry). es ++ run.entries) none in
        let mine = own asked_it time image end p q c d run.entries run.turns in
        record {
          number = number;
          same_seat = record { table = seat.table ∙ sym of_t.table; core = core_is; opening = seat.opening ∙ sym of_t.opening; cores = seat.cores ∙ sym of_t.cores; banks = seat.banks ∙ sym of_t.banks; room = seat.room ∙ sym of_t.room };
          kept = subst (λ (x : TableState). IsKeptAtWork x after.seat after.record.log after.record.records after.record.count) stays kept;
          same_record = ap blank_of (sym record_q) ∙ (same_blank run.entries p q c d run.turns ∙ ap blank_of record_p);
          stampless = subst (All (λ (e : Entry). e.stamp ≡ 0)) (sym list) (stampless_turns run.entries p q c d run.turns);
          turns = subst (AreTurnsOf time image end c) (sym list) mine.0;
          left = mine.1 ∙ ap (λ (es : List Entry). ran_to image end (fold (after_turn time image end) c es)) (sym list);
          few = subst (λ (x : TableState). length after.seat.made ≤ x.room) stays few;
          over = over;
          starts = subst (All (λ (e : Entry). e.start ≤ end + 2 ^ 30)) (sym list) (starts_soon end c run.entries idle unfetched run.starts run.few);
          near = subst (All (IsNear c.clock c.core.memory.base c.core.memory.size)) (sym list) (near_turns c.clock c.core.memory.base c.core.memory.size run.entries p q c d run.turns (omega arith) base_p size_p);
          clock = clock;
        }

-- ---- a seat at rest and at work

pub seat_still : (t : TableState) (before later : SeatState) → IsSeatOf t before → IsSameSeat before later → IsSeatOf t later
seat_still t before later of_table same = record {
  table = same.table ∙ of_table.table;
  opening = same.opening ∙ of_table.opening;
  cores = same.cores ∙ of_table.cores;
  banks = same.banks ∙ of_table.banks;
  room = same.room ∙ of_table.room;
}

pub kept_still : (t : TableState) (before later : SeatState) (r : CoreRecord) → IsSameSeat before later → later.made ≡ before.made → IsKeptAtWork t before r.log r.records r.count → IsKeptAtWork t later r.log r.records r.count
kept_still t before later r same made k = record {
  core_is = k.core_is ∙ sym same.core;
  some = k.some;
  entries_are = k.entries_are ∙ ap (λ (ms : List Made). map (λ a. a.entry) ms) (sym made);
  room = k.room;
  records_core = k.records_core;
  records_are = k.records_are;
  records_room = k.records_room;
  count_is = k.count_is;
}

-- a core that begins to work, at a table with its record
pub begins_at : (t : TableState) (base size : ℕ) (m : Member) (turn : SeatState) → IsSeatOf t m.seat → m.seat.core ≡ m.core.number → m.seat.made ≡ [] → IsKeptAtWork t m.seat m.record.log m.record.records m.record.count
    → AreShardsOf t.cores (opening_shards t) base size → m.core.number < t.cores → IsSameSeat m.seat turn → turn.made ≡ m.seat.made → IsAtTable (record { table = t; base = base; size = size; turn = turn; kept = m.record })
begins_at t base size m turn of_table core new kept shards known same made =
    let none = ap length (made ∙ new) in record {
      of_table = seat_still t m.seat turn of_table same;
      room = omega (arith, none);
      shards = shards;
      core = subst (λ (n : ℕ). n < t.cores) (sym (same.core ∙ core)) known;
      is_kept = kept_still t m.seat turn m.record same made kept;
    }

-- and what it gives back when it ends
pub ends_at : (p : TablePortState) (turn : SeatState) (kept : CoreRecord) → turn ≡ p.turn → kept ≡ p.kept → IsAtTable p → IsAtTable (record { table = p.table; base = p.base; size = p.size; turn = turn; kept = kept })
ends_at p turn kept turns all at =
    subst (λ (k : CoreRecord). IsAtTable (record { table = p.table; base = p.base; size = p.size; turn = turn; kept = k })) (sym all)
    (subst (λ (s : SeatState). IsAtTable (record { table = p.table; base = p.base; size = p.size; turn = s; kept = p.kept })) (sym turns) at)

-- what ran by a seat at work ran by the seat at rest before and after
pub at_rest : (time : Entry → ℕ) (image : MemoryImage) (end : ℕ) (t : TableState) (before after : Member) (first last : SeatState) → IsSameSeat first before.seat → IsSameSeat after.seat last → last.made ≡ after.seat.made
    → HasRun time image end t before after → HasRun time image end t (record { core = before.core; seat = first; «record» = before.record }) (record { core = after.core; seat = last; «record» = after.record })
at_rest time image end t before after first last begun ended made ran =
    let same : entries_of_seat after.seat ≡ entries_of_seat last = ap (λ (ms : List Made). map (λ a. a.entry) ms) (sym made) in
    let c : TimedCore = before.core.timed in
    record {
      number = ran.number;
      same_seat = record {
        table = ended.table ∙ (ran.same_seat.table ∙ begun.table);
        core = ended.core ∙ (ran.same_seat.core ∙ begun.core);
        opening = ended.opening ∙ (ran.same_seat.opening ∙ begun.opening);
        cores = ended.cores ∙ (ran.same_seat.cores ∙ begun.cores);
        banks = ended.banks ∙ (ran.same_seat.banks ∙ begun.banks);
        room = ended.room ∙ (ran.same_seat.room ∙ begun.room);
      };
      kept = kept_still t after.seat last after.record ended made ran.kept;
      same_record = ran.same_record;
      stampless = subst (All (λ (e : Entry). e.stamp ≡ 0)) same ran.stampless;
      turns = subst (AreTurnsOf time image end c) same ran.turns;
      left = ran.left ∙ ap (λ (es : List Entry). ran_to image end (fold (after_turn time image end) c es)) same;
      few = subst (λ (ms : List Made). length ms ≤ t.room) (sym made) ran.few;
      over = ran.over;
      starts = subst (All (λ (e : Entry). e.start ≤ end + 2 ^ 30)) same ran.starts;
      near = subst (All (IsNear c.clock c.core.memory.base c.core.memory.size)) same ran.near;
      clock = ran.clock;
    }
