-- The accesses of all cores in recorded order are a history of the interval.
use Rattle.std.proofs.Common.{◌≡◌, ℕ, zero, suc, ◌+◌, ◌*◌, ◌^◌, ◌<◌, ◌≤◌, List, [], ◌∷◌, ◌++◌, All, length, map, refl, sym, ◌∙◌, ap, subst, arith}
use Rattle.std.specs.Prelude.{slice_get, Some, None}
use Rattle.std.specs.List.{enumerate_from, flat_map, fold}
use Rattle.std.specs.Option.{option_map}
use Rattle.std.proofs.lemmas.List.{length-append, length-map}
use Rattle.std.proofs.lemmas.List.FromFn.{length-enumerate_from}
use Rattle.std.proofs.lemmas.List.Elements.{All-append, All-cons, All-head, All-nil, All-tail}
use Rattle.std.proofs.lemmas.Option.{same_Some}
use Rattle.zs_num.specs.declared.entry.Entry.{Entry}
use Rattle.elf_load.specs.MemoryImage.{MemoryImage}
use Rattle.machine_desc.specs.declared.machine.Machine.{Machine}
use Rattle.shard.specs.Served.{ShardState}
use Rattle.access_log.specs.History.{AreStamped, core_of_entry, each_after, of_core, of_number}
use Rattle.access_log.specs.Laws.{CoresDecideTheOrder, RisingListsStay}
use Rattle.access_log.specs.Logs.{LogState, entries_of_logs}
use Rattle.access_log.specs.RecordedOrder.{no_stamps}
use Rattle.shard_table.specs.Access.{AreAllSeats, AreNewSeats, AreWhole, IsSeatOf, SeatState, TableState, entries_of_seats, recorded_entries}
use Rattle.bound_core.specs.History.{AreTurnsOf, IsHistory, after_history, after_turn}
use Rattle.bound_core.specs.ShardWorld.{restarted}
use Rattle.bound_core.specs.TimedCore.{TimedCore, beside_cycles, ran_to}
use Rattle.bound_core.specs.NumberedCores.{NumberedCore, timed_of}
use Rattle.bound_phase.specs.declared.member.Member.{Member}
use Rattle.bound_core.specs.Turn.{IsOver}
use Rattle.bound_phase.specs.Bounds.{HaveEndedInterval, IsBound}
use Rattle.bound_phase.specs.Crew.{HaveRun}
use Rattle.bound_phase.specs.Member.{HasRun}
use Rattle.bound_phase.specs.Shares.{mates}
use Rattle.bound_phase.proofs.Asking.{some_at}
use Rattle.bound_phase.proofs.RecordedOrder.{all_recorded, length_recorded}
use Rattle.bound_phase.proofs.Shares.{mates_length}
use Rattle.bound_phase.proofs.Whole.{as_many, ran_at}

-- ---- lists

pub all_at : {X : Type 0} (P : X → Type 0) (xs : List X) → ((i : ℕ) (x : X) → slice_get xs i ≡ Some x → P x) → All P xs
all_at P [] each = All-nil P
all_at P (x ∷ xs) each = All-cons P x xs (each 0 x refl) (all_at P xs (λ i y at. each (suc i) y at))

pub all_here : {X : Type 0} (P : X → Type 0) (xs : List X) (i : ℕ) (x : X) → All P xs → slice_get xs i ≡ Some x → P x
all_here P [] i x all at = absurd (let none : None ≡ Some x = at in cc)
all_here P (y ∷ xs) zero x all at = subst P (same_Some y x at) (All-head P y xs all)
all_here P (y ∷ xs) (suc i) x all at = all_here P xs i x (All-tail P y xs all) at

mapped_at : {X Y : Type 0} (f : X → Y) (xs : List X) (i : ℕ) (x : X) → slice_get xs i ≡ Some x → slice_get (map f xs) i ≡ Some (f x)
mapped_at f [] i x at = absurd (let none : None ≡ Some x = at in cc)
mapped_at f (y ∷ xs) zero x at = ap (λ z. Some (f z)) (same_Some y x at)
mapped_at f (y ∷ xs) (suc i) x at = mapped_at f xs i x at

pub made_at : {X Y : Type 0} (f : X → Y) (xs : List X) (i : ℕ) (y : Y) → slice_get (map f xs) i ≡ Some y → (x : X) × (slice_get xs i ≡ Some x) × (f x ≡ y)
made_at f [] i y at = absurd (let none : None ≡ Some y = at in cc)
made_at f (x ∷ xs) zero y at = (x, refl, same_Some (f x) y at)
made_at f (x ∷ xs) (suc i) y at = made_at f xs i y at

same_lists : {X : Type 0} (xs ys : List X) → length xs ≡ length ys → ((i : ℕ) (x : X) → slice_get xs i ≡ Some x → slice_get ys i ≡ Some x) → xs ≡ ys
same_lists [] [] size each = refl
same_lists [] (y ∷ ys) size each = absurd (omega (arith, size))
same_lists (x ∷ xs) [] size each = absurd (omega (arith, size))
same_lists (x ∷ xs) (y ∷ ys) size each =
    let first : y ≡ x = same_Some y x (each 0 x refl) in
    let later : xs ≡ ys = same_lists xs ys (omega (arith, size)) (λ i z at. each (suc i) z at) in
    λ i. sym first i ∷ later i

mates_at : (cores : List NumberedCore) (seats : List SeatState) (i : ℕ) (m : Member) → slice_get (mates cores seats) i ≡ Some m
    → (slice_get cores i ≡ Some m.core) × (slice_get seats i ≡ Some m.seat)
mates_at [] seats i m at = absurd (let none : None ≡ Some m = at in cc)
mates_at (c ∷ cores) [] i m at = absurd (let none : None ≡ Some m = at in cc)
mates_at (c ∷ cores) (s ∷ seats) zero m at =
    let same : record { core = c; seat = s } ≡ m = same_Some (record { core = c; seat = s }) m at in
    (ap (λ (x : Member). Some x.core) same, ap (λ (x : Member). Some x.seat) same)
mates_at (c ∷ cores) (s ∷ seats) (suc i) m at = mates_at cores seats i m at

-- what each of a list comes to by its own entries
own_by : {X : Type 0} (step : X → Entry → X) (number_of : Entry → ℕ) (entries : List Entry) (base : ℕ) (xs : List X) (i k : ℕ) → k ≡ base + i
    → slice_get (map (λ at. fold step at.1 (of_number number_of at.0 entries)) (enumerate_from base xs)) i ≡ option_map (λ x. fold step x (of_number number_of k entries)) (slice_get xs i)
own_by step number_of entries base [] i k is = refl
own_by step number_of entries base (x ∷ xs) zero k is = let same : base ≡ k = omega (arith, is) in ap (λ (n : ℕ). Some (fold step x (of_number number_of n entries))) same
own_by step number_of entries base (x ∷ xs) (suc i) k is = own_by step number_of entries (base + 1) xs i k (omega (arith, is))

-- ---- the entries of logs

flat_made : {X Y Z : Type 0} (f : X → List Z) (g : Y → List Z) (xs : List X) (ys : List Y) → map f xs ≡ map g ys → flat_map f xs ≡ flat_map g ys
flat_made f g [] [] same = refl
flat_made f g [] (y ∷ ys) same = absurd (let size = ap length same in omega (arith, size))
flat_made f g (x ∷ xs) [] same = absurd (let size = ap length same in omega (arith, size))
flat_made f g (x ∷ xs) (y ∷ ys) same =
    let both : f x ∷ map f xs ≡ g y ∷ map g ys = same in
    let one : f x ≡ g y = cc in
    let two : map f xs ≡ map g ys = cc in
    let rest = flat_made f g xs ys two in
    λ i. one i ++ rest i

all_flat : {X Z : Type 0} (P : Z → Type 0) (f : X → List Z) (xs : List X) → All (λ x. All P (f x)) xs → All P (flat_map f xs)
all_flat P f [] all = All-nil P
all_flat P f (x ∷ xs) all =
    All-append P (f x) (flat_map f xs) (All-head (λ x. All P (f x)) x xs all) (all_flat P f xs (All-tail (λ x. All P (f x)) x xs all))

few_flat : {X Z : Type 0} (f : X → List Z) (room : ℕ) (xs : List X) → All (λ x. length (f x) ≤ room) xs → length (flat_map f xs) ≤ length xs * room
few_flat f room [] all = omega arith
few_flat f room (x ∷ xs) all =
    let here = All-head (λ x. length (f x) ≤ room) x xs all in
    let later = few_flat f room xs (All-tail (λ x. length (f x) ≤ room) x xs all) in
    let size = length-append (f x) (flat_map f xs) in
    omega (arith, here, later, size)

-- ---- the cores after the interval

module _ (time : Entry → ℕ) (image : MemoryImage) (end : ℕ) (t : TableState) (cores : List NumberedCore) (seats : List SeatState) (now : List Member)
    (ran : HaveRun time image end t (mates cores seats) now) (count : length cores ≡ t.cores) (new : AreNewSeats t seats) where
  same_count : length seats ≡ length cores
  same_count = new.0 ∙ sym count

  size : length now ≡ t.cores
  size = as_many time image end t (mates cores seats) now ran ∙ (mates_length cores seats same_count ∙ count)

  -- a core that ran, and what it was
  was : (i : ℕ) (n : Member) → slice_get now i ≡ Some n
      → (m : Member) × (slice_get cores i ≡ Some m.core) × IsSeatOf t m.seat × (m.seat.core ≡ i) × HasRun time image end t m n
  was i n at =
      let before = ran_at time image end t (mates cores seats) now ran i n at in
      let both = mates_at cores seats i before.0 before.1 in
      let seat = new.1 i before.0.seat both.1 in
      (before.0, both.0, seat.0, seat.1, before.2)

  seat_of : (i : ℕ) (n : Member) → slice_get now i ≡ Some n → IsSeatOf t n.seat × (n.seat.core ≡ i)
  seat_of i n at =
      let m = was i n at in
      let same = m.4.same_seat in
      (record { table = same.table ∙ m.2.table; shards = same.shards ∙ m.2.shards; cores = same.cores ∙ m.2.cores; room = same.room ∙ m.2.room }, same.core ∙ m.3)

  pub all_seats : AreAllSeats t (map (λ m. m.seat) now)
  all_seats = record {
    count = length-map now (λ (m : Member). m.seat) ∙ size;
    of_table = all_at (IsSeatOf t) (map (λ m. m.seat) now) (λ i s at.
        let n = made_at (λ (m : Member). m.seat) now i s at in subst (IsSeatOf t) n.2 (seat_of i n.0 n.1).0);
    each = λ core below.
        let n = some_at now core (omega (arith, below, size)) in
        (core, n.0.seat, mapped_at (λ (m : Member). m.seat) now core n.0 n.1, (seat_of core n.0 n.1).1);
  }

  pub few_all : (logs : List LogState) → map (λ log. log.entries) logs ≡ map (λ seat. seat.entries) (map (λ m. m.seat) now) → length (entries_of_logs logs) ≤ t.cores * t.room
  few_all logs same =
      let seats_now : List SeatState = map (λ m. m.seat) now in
      let flat : entries_of_logs logs ≡ entries_of_seats seats_now = flat_made (λ (log : LogState). log.entries) (λ (seat : SeatState). seat.entries) logs seats_now same in
      let few = few_flat (λ (seat : SeatState). seat.entries) t.room seats_now (all_at (λ (s : SeatState). length s.entries ≤ t.room) seats_now (λ i s at.
      let n = made_at (λ (m : Member). m.seat) now i s at in subst (λ (x : SeatState). length x.entries ≤ t.room) n.2 (was i n.0 n.1).4.few)) in
      let many = length-map now (λ (m : Member). m.seat) ∙ size in
      subst (λ (k : ℕ). length (entries_of_logs logs) ≤ k * t.room) many (subst (λ (es : List Entry). length es ≤ length seats_now * t.room) (sym flat) few)

  pub flat_logs : (logs : List LogState) → map (λ log. log.entries) logs ≡ map (λ seat. seat.entries) (map (λ m. m.seat) now) → entries_of_logs logs ≡ entries_of_seats (map (λ m. m.seat) now)
  flat_logs logs same = flat_made (λ (log : LogState). log.entries) (λ (seat : SeatState). seat.entries) logs (map (λ m. m.seat) now) same

  -- ---- the history

  module _ (first : List NumberedCore) (shards : List ShardState) (shards_after : List ShardState) (timed : timed_of cores ≡ timed_of first) (numbers : map (λ c. c.number) cores ≡ map (λ c. c.number) first)
      (some : 0 < length shards) (begun : t.shards ≡ map restarted shards) (whole : AreWhole t (recorded_entries (map (λ m. m.seat) now)) (map (λ m. m.seat) now) shards_after)
      (stay : RisingListsStay) (decide : CoresDecideTheOrder) where
    abbrev seats_now : List SeatState
    seats_now = map (λ m. m.seat) now

    abbrev entries : List Entry
    entries = recorded_entries seats_now

    abbrev cores_first : List TimedCore
    cores_first = timed_of first

    own : (i : ℕ) (n : Member) → slice_get now i ≡ Some n → of_core i entries ≡ n.seat.entries
    own i n at =
        ap (λ (k : ℕ). of_core k entries) (sym (seat_of i n at).1)
        ∙ all_here (λ (s : SeatState). of_core s.core entries ≡ s.entries) seats_now i n.seat whole.own (mapped_at (λ (m : Member). m.seat) now i n at)

    -- what a core was at the first, and after it ran
    core_at : (i : ℕ) (n : Member) → slice_get now i ≡ Some n → (c : TimedCore) × (slice_get cores_first i ≡ Some c) × AreTurnsOf time image end c (of_core i entries)
        × (n.core.timed ≡ ran_to image end (fold (after_turn time image end) c (of_core i entries)))
    core_at i n at =
        let m = was i n at in
        let c : TimedCore = m.0.core.timed in
        let there : slice_get cores_first i ≡ Some c = ap (λ xs. slice_get xs i) (sym timed) ∙ mapped_at (λ (x : NumberedCore). x.timed) cores i m.0.core m.1 in (
          c,
          there,
          subst (AreTurnsOf time image end c) (sym (own i n at)) m.4.turns,
          m.4.left ∙ ap (λ es. ran_to image end (fold (after_turn time image end) c es)) (sym (own i n at)),
        )

    first_size : length cores_first ≡ t.cores
    first_size = ap length (sym timed) ∙ (length-map cores (λ (x : NumberedCore). x.timed) ∙ count)

    history : IsHistory time image end cores_first t.shards entries
    history = record {
      some = subst (λ xs. 0 < length xs) (sym begun) (omega (arith, length-map shards restarted, some));
      begins = subst (All (λ shard. shard.last ≡ 0)) (sym begun) (all_begun shards);
      known = subst (λ (k : ℕ). All (λ e. e.core < k) entries) (sym first_size) whole.known;
      turns = λ number c at.
          let n = some_at now number (omega (arith, got_below cores_first number c at, first_size, size)) in
          let it = core_at number n.0 n.1 in
          subst (λ (x : TimedCore). AreTurnsOf time image end x (of_core number entries)) (same_Some it.0 c (sym it.1 ∙ at)) it.2;
      served = whole.served;
      stamped = subst (λ (k : ℕ). AreStamped (length t.shards) (no_stamps (length t.shards) k) entries) (sym first_size) whole.stamped;
    } where
      all_begun : (xs : List ShardState) → All (λ shard. shard.last ≡ 0) (map restarted xs)
      all_begun [] = All-nil (λ (shard : ShardState). shard.last ≡ 0)
      all_begun (x ∷ xs) = All-cons (λ (shard : ShardState). shard.last ≡ 0) (restarted x) (map restarted xs) refl (all_begun xs)

      got_below : (xs : List TimedCore) (i : ℕ) (x : TimedCore) → slice_get xs i ≡ Some x → i < length xs
      got_below [] i x at = absurd (let none : None ≡ Some x = at in cc)
      got_below (y ∷ xs) zero x at = omega arith
      got_below (y ∷ xs) (suc i) x at = let later = got_below xs i x at in omega (arith, later)

    left_cores : timed_of (map (λ m. m.core) now) ≡ map (ran_to image end) (each_after (after_turn time image end) core_of_entry entries cores_first)
    left_cores =
        same_lists (timed_of (map (λ m. m.core) now)) (map (ran_to image end) (each_after (after_turn time image end) core_of_entry entries cores_first)) sizes (λ i x at.
        let c = made_at (λ (y : NumberedCore). y.timed) (map (λ m. m.core) now) i x at in
        let n = made_at (λ (m : Member). m.core) now i c.0 c.1 in
        let it = core_at i n.0 n.1 in
        let there : slice_get (each_after (after_turn time image end) core_of_entry entries cores_first) i ≡ Some (fold (after_turn time image end) it.0 (of_core i entries)) =
        own_by (after_turn time image end) core_of_entry entries 0 cores_first i i (omega arith) ∙ ap (option_map (λ y. fold (after_turn time image end) y (of_core i entries))) it.1 in
        mapped_at (ran_to image end) (each_after (after_turn time image end) core_of_entry entries cores_first) i (fold (after_turn time image end) it.0 (of_core i entries)) there
        ∙ ap (λ y. Some y) (sym it.3 ∙ (ap (λ (y : NumberedCore). y.timed) n.2 ∙ c.2)))
      where
        sizes : length (timed_of (map (λ m. m.core) now)) ≡ length (map (ran_to image end) (each_after (after_turn time image end) core_of_entry entries cores_first))
        sizes =
            length-map (map (λ (m : Member). m.core) now) (λ (x : NumberedCore). x.timed) ∙ (length-map now (λ (m : Member). m.core) ∙ (size ∙ (sym first_size
            ∙ sym (length-map (each_after (after_turn time image end) core_of_entry entries cores_first) (ran_to image end)
            ∙ (length-map (enumerate_from 0 cores_first) (λ at. fold (after_turn time image end) at.1 (of_number core_of_entry at.0 entries)) ∙ length-enumerate_from 0 cores_first)))))

    numbers_left : map (λ c. c.number) (map (λ m. m.core) now) ≡ map (λ c. c.number) first
    numbers_left =
        same_lists (map (λ c. c.number) (map (λ m. m.core) now)) (map (λ c. c.number) cores)
        (length-map (map (λ (m : Member). m.core) now) (λ (x : NumberedCore). x.number) ∙ (length-map now (λ (m : Member). m.core) ∙ (size ∙ sym (length-map cores (λ (x : NumberedCore). x.number) ∙ count))))
        (λ i x at.
        let c = made_at (λ (y : NumberedCore). y.number) (map (λ m. m.core) now) i x at in
        let n = made_at (λ (m : Member). m.core) now i c.0 c.1 in
        let m = was i n.0 n.1 in
        mapped_at (λ (y : NumberedCore). y.number) cores i m.0.core m.1 ∙ ap (λ y. Some y) (sym m.4.number ∙ (ap (λ (y : NumberedCore). y.number) n.2 ∙ c.2)))
        ∙ numbers

    pub is_bound : IsBound time image end first shards (map (λ m. m.core) now) shards_after entries
    is_bound = record {
      history = subst (λ xs. IsHistory time image end cores_first xs entries) begun history;
      in_order = decide (entries_of_seats seats_now) entries whole.rise (stay core_of_entry (entries_of_seats seats_now) whole.rise);
      cores_are = left_cores;
      numbers = numbers_left;
      shards_are = subst (λ xs. shards_after ≡ (after_history time image end cores_first xs entries).world.shards) begun whole.left;
    }

    -- ---- the end of the interval

    -- what holds of each core that ran, and what holds of all its entries
    each_left : (P : TimedCore → Type 0) → ((i : ℕ) (n : Member) → slice_get now i ≡ Some n → P n.core.timed) → All P (timed_of (map (λ m. m.core) now))
    each_left P each = all_at P (timed_of (map (λ m. m.core) now)) (λ i x at.
        let c = made_at (λ (y : NumberedCore). y.timed) (map (λ m. m.core) now) i x at in
        let n = made_at (λ (m : Member). m.core) now i c.0 c.1 in
        subst P (ap (λ (y : NumberedCore). y.timed) n.2 ∙ c.2) (each i n.0 n.1))

    each_entry : (P : Entry → Type 0) → ((i : ℕ) (n : Member) → slice_get now i ≡ Some n → All P n.seat.entries) → All P (entries_of_seats seats_now)
    each_entry P each = all_flat P (λ (seat : SeatState). seat.entries) seats_now (all_at (λ (s : SeatState). All P s.entries) seats_now (λ i s at.
        let n = made_at (λ (m : Member). m.seat) now i s at in subst (λ (x : SeatState). All P x.entries) n.2 (each i n.0 n.1)))

    pub have_ended : (m : Machine) → t.cores ≡ m.cores → t.room ≡ m.interval + beside_cycles → HaveEndedInterval m end first (map (λ m. m.core) now) entries
    have_ended m cores_are room_is = record {
      over = each_left (IsOver end) (λ i n at. (was i n at).4.over);
      starts = all_recorded (λ (e : Entry). e.start ≤ end + 2 ^ 30) (entries_of_seats seats_now) (each_entry (λ (e : Entry). e.start ≤ end + 2 ^ 30) (λ i n at. (was i n at).4.starts));
      few =
          subst (λ (k : ℕ). length entries ≤ k * (m.interval + beside_cycles)) cores_are
          (subst (λ (k : ℕ). length entries ≤ t.cores * k) room_is (subst (λ (k : ℕ). k ≤ t.cores * t.room) (sym (length_recorded (entries_of_seats seats_now))) few_entries));
      few_each = λ core below.
          let n = some_at now core (omega (arith, below, size, cores_are)) in
          let few : length (of_core core entries) ≤ t.room = subst (λ (es : List Entry). length es ≤ t.room) (sym (own core n.0 n.1)) (was core n.0 n.1).4.few in
          subst (λ (k : ℕ). length (of_core core entries) ≤ k) room_is few;
      clocks = λ most late clocks. each_left (λ (c : TimedCore). c.clock ≤ most + 2 ^ 30) (λ i n at.
          let b = was i n at in
          let there : slice_get cores_first i ≡ Some b.0.core.timed = ap (λ xs. slice_get xs i) (sym timed) ∙ mapped_at (λ (x : NumberedCore). x.timed) cores i b.0.core b.1 in
          let early = all_here (λ (c : TimedCore). c.clock ≤ most) cores_first i b.0.core.timed clocks there in
          omega (arith, b.4.clock, early, late));
    } where
      few_entries : length (entries_of_seats seats_now) ≤ t.cores * t.room
      few_entries =
          let few = few_flat (λ (seat : SeatState). seat.entries) t.room seats_now (all_at (λ (s : SeatState). length s.entries ≤ t.room) seats_now (λ i s at.
          let n = made_at (λ (m : Member). m.seat) now i s at in subst (λ (x : SeatState). length x.entries ≤ t.room) n.2 (was i n.0 n.1).4.few)) in
          subst (λ (k : ℕ). length (entries_of_seats seats_now) ≤ k * t.room) (length-map now (λ (m : Member). m.seat) ∙ size) few
