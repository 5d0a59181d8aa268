-- Cores that are seated run to the end of the interval.
use Rattle.std.proofs.Common.{◌≡◌, ℕ, suc, ◌+◌, ◌<◌, ◌≤◌, ◌*◌, ◌^◌, List, [], ◌∷◌, All, length, get_or, map, sym, ◌∙◌, ap, refl, subst, arith, rules}
use Rattle.std.specs.Prelude.{slice_get, Some, None, Option, IsNone, is_none}
use Rattle.std.specs.VecDeque.{deque_capacity}
use Rattle.std.proofs.lemmas.List.{get_or-map, length-map}
use Rattle.std.proofs.lemmas.List.Elements.{All-cons, All-map, All-nil}
use Rattle.std.proofs.lemmas.Option.{slice_get-get_or}
use Rattle.machine_desc.specs.declared.machine.Machine.{Machine}
use Rattle.rv_core.specs.declared.why.Why.{Why}
use Rattle.parts_table.specs.Access.{IsSeatOf, SeatState, TableState, opening_shards}
use Rattle.parts_table.specs.Places.{PlacesState}
use Rattle.parts_table.specs.declared.view.Made.{Made}
use Rattle.access_record.specs.Laws.{beyond_hits}
use Rattle.zs_num.specs.declared.entry.Entry.{Entry}
use Rattle.bound_core.specs.NumberedCores.{NumberedCore}
use Rattle.bound_core.specs.ShardPort.{AreShardsOf}
use Rattle.bound_records.specs.Counted.{count_of}
use Rattle.bound_records.specs.Recorders.{core_room}
use Rattle.bound_records.specs.declared.record_port.CoreRecord.{CoreRecord}
use Rattle.bound_workers.specs.Team.{CanWork, HasPlaces, IsFree, Team}
use Rattle.bound_workers.specs.Intervals.{HaveSeats, IsNewRecord, IsReady}
use Rattle.bound_workers.specs.Kept.{IsKeptAtWork, entries_of_seat}
use Rattle.bound_workers.specs.Member.{CanRun}
use Rattle.dealing.specs.Dealing.{AreDealt}
use Rattle.dealing.specs.Laws.{AreAmongThese}
use Rattle.dealing.specs.Workers.{AreFree, queues_of, tools_of}
use Rattle.bound_workers.specs.Shares.{mates}
use Rattle.bound_workers.specs.declared.member.Member.{Member}
use Rattle.bound_workers.proofs.Ending.{all_at, all_here}
use Rattle.bound_workers.proofs.Shares.{mates_length}
use Rattle.bound_workers.proofs.Whole.{at_below}

none_of : (halted : Option Why) → IsNone halted → halted ≡ None
none_of None none = refl
none_of (Some why) none = search rules

-- nothing is kept of a core that made no access
new_kept : (t : TableState) (s : SeatState) (r : CoreRecord) (number : ℕ) → s.core ≡ number → s.made ≡ [] → IsNewRecord t number r → IsKeptAtWork t s r.log r.records r.count
new_kept t s r number core made new =
    let none : entries_of_seat s ≡ [] = ap (λ (ms : List Made). map (λ a. a.entry) ms) made in
    record {
      core_is = new.core_is ∙ sym core;
      some = new.some;
      entries_are = new.none ∙ sym none;
      room = new.room;
      records_core = new.records_core ∙ sym new.core_is;
      records_are = new.records_none ∙ ap beyond_hits (sym new.none);
      records_room = new.records_room;
      count_is = new.count_is ∙ ap count_of (sym new.none);
    }

module _ (m : Machine) (end : ℕ) (t : TableState) (shards : AreShardsOf t.cores (opening_shards t) m.memory.base m.memory.size) (small : end ≤ 10 * 2 ^ 30) (room : t.room ≡ core_room m) where
  abbrev Can : Member → Type 0
  Can = CanRun t m.memory end

  pub can_all : (base : ℕ) (cores : List NumberedCore) (seats : List SeatState) (records : List CoreRecord) → ((i : ℕ) (c : NumberedCore) → slice_get cores i ≡ Some c → IsReady m end t (base + i) c × (base + i < t.cores))
      → ((i : ℕ) (s : SeatState) → slice_get seats i ≡ Some s → IsSeatOf t s × (s.core ≡ base + i) × (s.made ≡ [])) → ((i : ℕ) (r : CoreRecord) → slice_get records i ≡ Some r → IsNewRecord t (base + i) r)
      → All Can (mates cores seats records)
  can_all base [] seats records ready new none = All-nil Can
  can_all base (c ∷ cores) [] records ready new none = All-nil Can
  can_all base (c ∷ cores) (s ∷ seats) [] ready new none = All-nil Can
  can_all base (c ∷ cores) (s ∷ seats) (r ∷ records) ready new none =
      let shift : (k : ℕ) → base + suc k ≡ (base + 1) + k = λ k. omega arith in
      let one = ready 0 c refl in
      let seat = new 0 s refl in
      let can = one.0.can in
      let spare = one.0.spare in
      All-cons Can (record { core = c; seat = s; «record» = r }) (mates cores seats records) (record {
        of_table = seat.0;
        core_is = seat.1 ∙ sym one.0.number_is;
        new = seat.2;
        kept = new_kept t s r (base + 0) seat.1 seat.2 (none 0 r refl);
        idle = can.idle;
        unfetched = can.unfetched;
        fetches = can.fetches;
        base = can.base_is;
        size = can.size_is;
        shards = shards;
        known = subst (λ (n : ℕ). n < t.cores) (sym one.0.number_is) one.1;
        room = λ runs. let near = can.left (none_of c.timed.core.halted runs) in omega (arith, near, room);
        spare = λ runs. let near = can.left (none_of c.timed.core.halted runs) in omega (arith, near, spare);
        clock = (let early = can.clock in omega (arith, early));
        end_is = omega (arith, small);
      })
      (can_all (base + 1) cores seats records (λ k x at. let e = ready (suc k) x at in subst (λ (n : ℕ). IsReady m end t n x × (n < t.cores)) (shift k) e) (λ k x at. let e = new (suc k) x at in (e.0, e.1 ∙ shift k, e.2))
      (λ k x at. subst (λ (n : ℕ). IsNewRecord t n x) (shift k) (none (suc k) x at)))

module _ (m : Machine) (end : ℕ) (t : TableState) (cores : List NumberedCore) (seats : List SeatState) (records : List CoreRecord) (small : end ≤ 10 * 2 ^ 30) (seated : HaveSeats m end t cores seats records) where
  pub as_many_seats : length seats ≡ length cores
  as_many_seats = seated.seats_new.0 ∙ sym seated.count

  pub members_can : All (CanRun t m.memory end) (mates cores seats records)
  members_can =
      can_all m end t seated.shards small seated.room 0 cores seats records (λ i c at.
      let low = at_below cores i c at in
      let n = seated.count in
      let same : i ≡ 0 + i = omega arith in
      (subst (λ (k : ℕ). IsReady m end t k c) same (seated.ready i c at), (let here : 0 + i < t.cores = omega (arith, low, n) in here)))
      (λ i s at. let e = seated.seats_new.1 i s at in let same : i ≡ 0 + i = omega arith in (e.0, e.1 ∙ same, e.2))
      (λ i r at. let same : i ≡ 0 + i = omega arith in subst (λ (k : ℕ). IsNewRecord t k r) same (seated.none_kept i r at))

  pub members_length : length (mates cores seats records) ≡ t.cores
  members_length = mates_length cores seats records as_many_seats seated.many ∙ seated.count

  pub members_count : length (mates cores seats records) ≡ m.cores
  members_count = members_length ∙ seated.cores_are

  pub team_can : AreAmongThese Member (Option PlacesState) → (first teams : List Team) → All (IsFree m.cores) first → tools_of teams ≡ tools_of first → AreDealt 0 (mates cores seats records) (queues_of teams) → (worker : ℕ) (d : Team)
      → worker < length teams → CanWork t m.memory end (get_or teams worker d)
  team_can among first teams free places dealt worker d within =
      let tools : Team → Option PlacesState = λ w. w.tools in
      let many = length-map teams tools in
      let same = ap length places in
      let before = length-map first tools in
      let there : worker < length first = omega (arith, within, many, same, before) in
      let is : (get_or first worker d).tools ≡ (get_or teams worker d).tools =
      sym (get_or-map tools first worker d None there) ∙ (ap (λ (xs : List (Option PlacesState)). get_or xs worker None) (sym places) ∙ get_or-map tools teams worker d None within) in
      record {
        can = all_at (CanRun t m.memory end) (get_or teams worker d).queue.items (λ place x at.
            let inside = among 0 (mates cores seats records) teams dealt worker place (get_or teams worker d) x (slice_get-get_or teams worker d within) at in
            all_here (CanRun t m.memory end) (mates cores seats records) inside.0 x members_can inside.1);
        places = subst (λ (n : ℕ). HasPlaces n (get_or teams worker d).tools) (sym seated.cores_are) (subst (HasPlaces m.cores) is (free worker d there).places);
      }

-- free workers have nothing, and room
pub are_free : (cores : ℕ) (teams : List Team) → All (IsFree cores) teams → AreFree cores teams
are_free cores teams free = record {
  none = λ worker within. All-map (λ (items : List Member). items ≡ []) (λ (w : Team). w.queue.items) teams (λ i d there. (free i d there).none) worker [] within;
  room = All-map (λ (n : ℕ). cores ≤ n) (λ (w : Team). deque_capacity w.queue) teams (λ i d there. (free i d there).room);
}
