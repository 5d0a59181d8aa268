-- What the accesses of all cores come to, once all seats are one.
use Rattle.std.proofs.Common.{◌≡◌, ℕ, zero, suc, ◌+◌, ◌<◌, List, [], ◌∷◌, map, length, replicate, All, sym, ◌∙◌, ap, subst, arith, inl, inr}
use Rattle.std.specs.Prelude.{slice_get, slice_index, Option, Some, None}
use mathlib.Core.Option.{some}
use lib.ListN.{get_elem?}
use Rattle.std.proofs.lemmas.Bool.{cases_lt}
use Rattle.std.proofs.lemmas.List.{nil_from_length}
use Rattle.std.proofs.lemmas.List.Elements.{All-cons, All-filter, All-head, All-nil, All-tail, All-weaker}
use Rattle.std.proofs.lemmas.Option.{same_Some}
use Rattle.atomic_table.specs.Table.{Final, Seen, State}
use Rattle.zs_num.specs.declared.entry.Entry.{Entry}
use Rattle.shard.specs.PartsLaws.{AreAllParts}
use Rattle.shard.specs.Seen.{PartsState, shards_seen}
use Rattle.shard.specs.Served.{ShardState, resumed}
use Rattle.shard.specs.StandsFor.{AreAnswered}
use Rattle.parts_table.specs.declared.part.TimedPart.{TimedPart}
use Rattle.parts_table.specs.declared.view.CoreAccesses.{CoreAccesses}
use Rattle.parts_table.specs.declared.view.Hold.{Hold}
use Rattle.parts_table.specs.declared.view.Made.{Made}
use Rattle.parts_table.specs.declared.view.View.{View}
use Rattle.parts_table.specs.Access.{AreAllSeats, AreTheirs, AreWhole, SeatState, TableState, opening_shards}
use Rattle.parts_table.specs.MachineLaws.{MachineLaws}
use Rattle.parts_table.specs.Rule.{AreHoldsAtTable, Has, Holds, IsTrueOfHistory, word_index}
use Rattle.parts_table.specs.Slots.{homes_of, l1s_of}
use Rattle.parts_table.specs.TurnOrder.{AreInOrder, by_core}
use Rattle.parts_table.specs.World.{MayAsk, World, lived, parts_in, world_of}
use Rattle.parts_table.proofs.Answering.{are_answers, are_asked}
use Rattle.parts_table.proofs.ByCore.{none_own}
use Rattle.parts_table.proofs.Held.{all_known, its_log, then, then_fine}
use Rattle.parts_table.proofs.InOrder.{all_by_cores, own_all, own_in_order}
use Rattle.parts_table.proofs.InTimeOrder.{AreOfRun, GoByParts, in_time_order}
use Rattle.parts_table.proofs.Joining.{Joined, all_joined, keys_of_seat, log_of}
use Rattle.parts_table.proofs.Locality.{IsFine, many_homes, many_l1s, same_access}
use Rattle.parts_table.proofs.Opening.{resumed_seen, with_lasts}
use Rattle.parts_table.proofs.Runs.{MayAll}
use Rattle.parts_table.proofs.Seating.{holder_apart}
use Rattle.parts_table.proofs.Seats.{its_own}
use Rattle.parts_table.proofs.SlotLists.{homes_are, l1s_are}
use Rattle.parts_table.proofs.Stays.{stays_fine}

-- an access goes by the parts that it touches
go_by_parts : (cores banks : ℕ) → MachineLaws → (first : World) → GoByParts cores banks first
go_by_parts cores banks laws first = record {
  touches_same = λ w v a fine too is same k.
      (same_access cores banks laws w v a fine.sound too.sound is.right (fine.asked a.entry.core a.entry.request is.asked) (too.asked a.entry.core a.entry.request is.asked) same).touched k;
  moved_same = λ w v a fine too is same k.
      (same_access cores banks laws w v a fine.sound too.sound is.right (fine.asked a.entry.core a.entry.request is.asked) (too.asked a.entry.core a.entry.request is.asked) same).moved_same k;
  right_same = λ w v a fine too is same.
      (same_access cores banks laws w v a fine.sound too.sound is.right (fine.asked a.entry.core a.entry.request is.asked) (too.asked a.entry.core a.entry.request is.asked) same).right;
  fine = λ w a fine is.
      let later = stays_fine cores banks laws first w a (record { sound = fine.sound; asked = fine.asked }) (record { right = is.right; asked = is.asked }) in
      record { sound = later.sound; asked = later.asked };
}

some_held : (k : ℕ) (holds : List Hold) → Holds k holds → 0 < length holds
some_held k [] has = absurd has
some_held k (h ∷ holds) has = omega arith

pub has_seat : (seats : List SeatState) (place : ℕ) (seat : SeatState) → slice_get seats place ≡ Some seat → Has seat.core (map log_of seats)
has_seat [] place seat at = absurd (let none : None ≡ Some seat = at in cc)
has_seat (x ∷ seats) zero seat at = inl (ap (λ (z : SeatState). z.core) (same_Some x seat at))
has_seat (x ∷ seats) (suc place) seat at = inr (has_seat seats place seat at)

-- what holds of the lists of all seats
of_seats : (P : SeatState → Type 0) (Q : CoreAccesses → Type 0) → ((seat : SeatState) → Q (log_of seat) → P seat) → (seats : List SeatState) → All Q (map log_of seats) → All P seats
of_seats P Q each [] all = All-nil P
of_seats P Q each (seat ∷ seats) all =
    All-cons P seat seats (each seat (All-head Q (log_of seat) (map log_of seats) all)) (of_seats P Q each seats (All-tail Q (log_of seat) (map log_of seats) all))

at_seat : (P : SeatState → Type 0) (seats : List SeatState) (place : ℕ) (seat : SeatState) → slice_get seats place ≡ Some seat → All P seats → P seat
at_seat P [] place seat at all = absurd (let none : None ≡ Some seat = at in cc)
at_seat P (x ∷ seats) zero seat at all = subst P (same_Some x seat at) (All-head P x seats all)
at_seat P (x ∷ seats) (suc place) seat at all = at_seat P seats place seat at (All-tail P x seats all)

module _ (laws : MachineLaws) (t : TableState) (s : State (Option TimedPart) View) (r : AreHoldsAtTable t.opening t.cores t.banks t.room s) (id : ℕ) (v : View)
    (at : get_elem? s.views id ≡ some v) (none_held : v.holds ≡ []) (seats : List SeatState) (logs : v.logs ≡ map log_of seats) (all : AreAllSeats t seats) where
  abbrev cores : ℕ
  cores = t.cores

  abbrev banks : ℕ
  banks = t.banks

  abbrev history : List Made
  history = r.history

  abbrev first : World
  first = world_of t.opening

  abbrev now : World
  now = then t.opening t.cores t.banks t.room r.history

  knows : IsTrueOfHistory t.opening t.cores t.banks t.room r.history s.words v
  knows = r.seats id v at

  each : (core : ℕ) → core < cores → Has core v.logs
  each core within =
      let found = all.each core within in
      subst (Has core) (sym logs) (subst (λ (n : ℕ). Has n (map log_of seats)) found.3 (has_seat seats found.0 found.1 found.2))

  -- nobody holds a part, since all cores' seats are one
  all_free : (k : ℕ) → k < cores + banks → slice_index s.words (word_index k) ≡ 0
  all_free k low =
      elim (cases_lt 0 (slice_index s.words (word_index k))) as (λ _. slice_index s.words (word_index k) ≡ 0) [
        | inl some_word ↦
            let b = r.busy k low some_word in
            let it : IsTrueOfHistory t.opening t.cores t.banks t.room r.history s.words b.1 = r.seats b.0 b.1 b.2 in
            let h = it.holds (some_held k b.1.holds b.3) in
            let known = its_log t.opening t.cores t.banks t.room r.history s.words b.1 h.0 it h.1 in
            absurd (holder_apart s.views id v at none_held b.0 b.1 k b.2 b.3 (r.apart b.0 id h.0.core b.1 v b.2 at (its_own b.1.logs h.0 h.1) (each h.0.core known.0)))
        | inr none_word ↦ omega (arith, none_word)
      ]

  fine : IsFine cores banks first now
  fine = then_fine t.opening t.cores t.banks t.room laws r.history r.opened r.accesses

  -- ---- what comes back

  module _ (slots : List (Option TimedPart)) (size : length s.homes ≡ length slots)
      (there : (k : ℕ) (y : Option TimedPart) → get_elem? s.homes k ≡ some (some y) → get_elem? slots k ≡ some y) where
    many : length slots ≡ cores + banks
    many = sym size ∙ r.homes

    slot_at : (k : ℕ) → k < cores + banks → get_elem? slots k ≡ some (Some (now k))
    slot_at k low = there k (Some (now k)) (r.home k low (all_free k low))

    pub back_homes : homes_of slots ≡ (parts_in cores banks now).homes
    back_homes = homes_are cores banks now fine.sound slots many slot_at

    pub back_l1s : l1s_of slots ≡ (parts_in cores banks now).l1s
    back_l1s = l1s_are cores banks now fine.sound slots many slot_at

    pub back : record { homes = homes_of slots; l1s = l1s_of slots; lasts = replicate t.banks 0 } ≡ parts_in cores banks now
    back = λ i. record { homes = back_homes i; l1s = back_l1s i; lasts = replicate t.banks 0 }

    pub all_parts : AreAllParts (record { homes = homes_of slots; l1s = l1s_of slots; lasts = replicate t.banks 0 })
    all_parts = subst AreAllParts (sym back) fine.sound.parts

  -- ---- all accesses

  abbrev Known : CoreAccesses → Type 0
  Known log = (log.core < cores) × (log.list ≡ by_core log.core r.history)

  known_logs : All Known (map log_of seats)
  known_logs = subst (All Known) logs knows.logs

  abbrev IsOwn : SeatState → Type 0
  IsOwn seat = seat.made ≡ by_core seat.core r.history

  own_lists : All IsOwn seats
  own_lists = of_seats IsOwn Known (λ seat is. is.1) seats known_logs

  abbrev Asks : Made → Type 0
  Asks a = MayAsk cores banks first a.entry.core a.entry.request

  asked_by : (core : ℕ) → All Asks (by_core core r.history)
  asked_by core = All-filter (λ a. Rattle.std.specs.Prelude.◌==◌ a.entry.core core) Asks r.history r.accesses.asked

  module _ (entries : List Entry) (theirs : AreTheirs t seats entries) where
    abbrev made : List Made
    made = theirs.made

    same_cores : (core : ℕ) → by_core core r.history ≡ by_core core made
    same_cores core =
        elim (cases_lt core cores) as (λ _. by_core core r.history ≡ by_core core made) [
          | inl within ↦
              let found = all.each core within in
              let one : by_core found.1.core made ≡ found.1.made = at_seat (λ seat. by_core seat.core made ≡ seat.made) seats found.0 found.1 found.2 theirs.own in
              let two : found.1.made ≡ by_core found.1.core r.history = at_seat IsOwn seats found.0 found.1 found.2 own_lists in
              subst (λ (n : ℕ). by_core n r.history ≡ by_core n made) found.3 (sym (one ∙ two))
          | inr past ↦
              let none : (list : List Made) → All (λ a. a.entry.core < cores) list → by_core core list ≡ [] = λ list known.
              none_own core list (All-weaker (λ a. a.entry.core < cores) (λ a. a.entry.core ≡ core → ⊥) (λ a low is. absurd (omega (arith, low, is, past))) list known) in
              none r.history (all_known t.opening t.cores t.banks t.room r.history r.accesses) ∙ sym (none made theirs.known)
        ]

    made_asked : MayAll cores banks first made
    made_asked = all_by_cores Asks made (λ core. subst (All Asks) (same_cores core) (asked_by core))

    first_fine : IsFine cores banks first first
    first_fine = record { sound = r.opened.sound; asked = λ core request may. may }

    sorted : AreOfRun cores banks first (go_by_parts cores banks laws first) first r.history made
    sorted = in_time_order cores banks first (go_by_parts cores banks laws first) first r.history made
        (record { sound = first_fine.sound; asked = first_fine.asked }) r.accesses.right r.accesses.asked theirs.order same_cores

    pub run : (shards : List ShardState) × AreAnswered (opening_shards t) entries shards × (map (λ shard. resumed shard 0) shards ≡ shards_seen (parts_in cores banks now))
    run =
        let lasts : List ℕ = replicate banks 0 in
        let did = are_answers cores banks laws first first made entries lasts first_fine sorted.right made_asked theirs.entries_are in
        let asked = are_asked cores banks first first made entries lasts first_fine made_asked theirs.entries_are in
        let left : PartsState = with_lasts (parts_in cores banks (lived cores banks first made)) did.last_stamps in (
          shards_seen left,
          (laws.runs (parts_in cores banks first) left entries r.opened.sound.parts asked did.answers).0,
          resumed_seen left banks ∙ ap (λ (w : World). shards_seen (parts_in cores banks w)) sorted.left,
        )

  pub is_whole : (left : List ShardState) → left ≡ shards_seen (parts_in cores banks now) → AreWhole t seats left
  is_whole left is = record {
    rise = of_seats (λ seat. AreInOrder seat.made) Known (λ seat known. subst AreInOrder (sym known.1) (own_in_order cores banks first r.history r.accesses.right seat.core)) seats known_logs;
    own = of_seats (λ seat. All (λ a. a.entry.core ≡ seat.core) seat.made) Known
        (λ seat known. subst (All (λ (a : Made). a.entry.core ≡ seat.core)) (sym known.1) (own_all seat.core r.history)) seats known_logs;
    asked = of_seats (λ seat. All Asks seat.made) Known (λ seat known. subst (All Asks) (sym known.1) (asked_by seat.core)) seats known_logs;
    run = λ entries theirs. let it = run entries theirs in (it.0, it.1, it.2 ∙ sym is);
  }

-- ---- a table that nobody shares any more

pub record IsClosed (t : TableState) (seats : List SeatState) (slots : List (Option TimedPart)) : Type 0 where
  pub homes : length (homes_of slots) ≡ t.banks
  pub l1s : length (l1s_of slots) ≡ t.cores
  pub parts : AreAllParts (record { homes = homes_of slots; l1s = l1s_of slots; lasts = replicate t.banks 0 })
  pub whole : AreWhole t seats (shards_seen (record { homes = homes_of slots; l1s = l1s_of slots; lasts = replicate t.banks 0 }))

pub closed : MachineLaws → (t : TableState) (id : ℕ) (v : View) (words : List ℕ) (slots : List (Option TimedPart)) (seats : List SeatState) → v.holds ≡ [] → v.logs ≡ map log_of seats
    → AreAllSeats t seats → Final (Seen (AreHoldsAtTable t.opening t.cores t.banks t.room) id v) words slots → IsClosed t seats slots
closed laws t id v words slots seats none_held logs all final =
    let s = final.0 in
    let r = final.1.0 in
    let at = final.1.1 in
    let w : World = then t.opening t.cores t.banks t.room r.history in
    record {
      homes = ap length (back_homes laws t s r id v at none_held seats logs all slots final.3 final.4) ∙ many_homes t.cores t.banks w;
      l1s = ap length (back_l1s laws t s r id v at none_held seats logs all slots final.3 final.4) ∙ many_l1s t.cores t.banks w;
      parts = all_parts laws t s r id v at none_held seats logs all slots final.3 final.4;
      whole = is_whole laws t s r id v at none_held seats logs all (shards_seen (record { homes = homes_of slots; l1s = l1s_of slots; lasts = replicate t.banks 0 }))
          (ap shards_seen (back laws t s r id v at none_held seats logs all slots final.3 final.4));
    }

-- where all seats were put together
pub closed_joined : MachineLaws → (t : TableState) (id : ℕ) (v : View) (words : List ℕ) (slots : List (Option TimedPart)) (all rest : List SeatState) (keys : List (List ℕ))
    → Joined all rest v.logs keys → length rest ≡ 0 → v.holds ≡ [] → AreAllSeats t all → Final (Seen (AreHoldsAtTable t.opening t.cores t.banks t.room) id v) words slots → IsClosed t all slots
closed_joined laws t id v words slots all rest keys joined size none_held all_seats final =
    let none_left : rest ≡ [] = nil_from_length rest size in
    closed laws t id v words slots all none_held (all_joined all v.logs keys (subst (λ (xs : List SeatState). Joined all xs v.logs keys) none_left joined)).0 all_seats final

pub keys_joined : (all rest : List SeatState) (logs : List CoreAccesses) (keys : List (List ℕ)) → Joined all rest logs keys → length rest ≡ 0 → keys ≡ map keys_of_seat all
keys_joined all rest logs keys joined size =
    let none_left : rest ≡ [] = nil_from_length rest size in
    (all_joined all logs keys (subst (λ (xs : List SeatState). Joined all xs logs keys) none_left joined)).1
